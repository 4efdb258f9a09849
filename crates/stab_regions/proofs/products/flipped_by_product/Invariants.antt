use Rattle.stab_regions.proofs.Names.{◌≡◌, ℕ, length, take, Signed, anticommute, string_of, odd, ShowsLetters}
use Rattle.stab_regions.proofs.products.flipped_by_product.Given as goal

abbrev pub invariant-loop-factor : goal.invariant-loop-factor
invariant-loop-factor l =
    (i : ℕ) (s : Signed) → length s.letters ≡ length l.by_x → ShowsLetters i l.by_x l.by_z s.letters
    → odd i l.parities ≡ anticommute (string_of (length l.by_x) (take l.factor-index l.factors)) s
