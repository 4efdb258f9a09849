-- Laws of splits that scripts ask for: what the session's call says is what scripts are answered.
use Rattle.stab_script.proofs.Names.{◌≡◌, ℕ, List, [], sym, ap, ◌∙◌, Result, Ok, Err, inl, inr, Refusal, Fault, IsCallFault, Items, OneItem, entries, Path, refused_by, split_refusal, listed-entries, SessionState, IsSplit, ShotBits, Held, held_split, text_found, GivesText, held_of, BookmarkedBits}
use Rattle.stab_items.specs.Splits.{split}

-- items and a bookmark
abbrev held_with : Items → ShotBits → Held
held_with items m = record { items = items; bookmark = m }

-- what is held after a split has the split items
pub split_held : {C : Type 0} (path : Path) (round : ℕ) (old new : SessionState C) (m : BookmarkedBits) → IsSplit path round old new
    → held_of new m ≡ held_split (held_of old m) (split path round (entries old.items))
split_held path round old new m is =
    let bookmarked : ShotBits = (held_of old m).bookmark in
    ap (λ (x : Items). held_with x bookmarked) (sym (listed-entries new.items)) ∙ sym (ap (held_split (held_of old m)) is.items)

-- and one that was refused says what refused it
pub split_refused : (path : Path) (round : ℕ) (xs : List OneItem) (f : Fault) → IsCallFault (split_refusal path round xs) f → GivesText (Err f.refusal) (text_found (λ (list : List OneItem). []) (split path round xs))
split_refused path round xs f is = by_result (split path round xs) is
  where
    by_result : (r : Result (List OneItem) Refusal) → IsCallFault (refused_by r) f → GivesText (Err f.refusal) (text_found (λ (list : List OneItem). []) r)
    by_result (Ok list) given = inl (ap (λ (g : Fault). g.refusal) given)
    by_result (Err r) given = inr (sym (ap (λ (g : Fault). Err g.refusal) given))
