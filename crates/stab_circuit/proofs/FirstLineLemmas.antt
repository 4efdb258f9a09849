-- The first line of a text.
use Rattle.stab_circuit.proofs.Names.{Bor, Ok, ◌<◌, MatchOption, subst, ◌≡◌, sym, ap, ◌∙◌, ℕ, ◌+◌, ◌-◌, List, [], ◌∷◌, ◌++◌, Bool, true, false, length, take, drop, Option, Some, None, arith, append-nil, refl, option_copied, slice_get, slice_split, onto_first, AllByRecursion, join_with_byte, All-from_recursion, take-append_seam, length-append, pointwise, Decides-eqb, starts_is, slice_split_none, slice_split_at, slice_split-cons_yes, slice_split-cons_no, length-slice_split, join_with_byte-slice_split, Kind, is_byte, pieces_after, BeginsWithInstruction, ReadsInstruction, IsOneLine, IsCut, eqb}
use Rattle.std.proofs.Common.{length-append}

none_first : (rest : List ℕ) → slice_get rest 0 ≡ None → rest ≡ []
none_first [] e = refl
none_first (x ∷ xs) e = cc

-- the text is the line alone, if nothing is after it
pub line_alone : (text line rest : List ℕ) (r : Bool) → r ≡ pointwise eqb line (take (length line) text) → r ≡ true → rest ≡ drop (length line) text → slice_get rest 0 ≡ None → text ≡ line
line_alone text line rest r e holds same none =
    (starts_is Decides-eqb text line r e).0 holds
    ∙ ap (λ l. line ++ l) (sym same ∙ none_first rest none)
    ∙ append-nil line

-- the first part of a text that is cut
pub cut_split : (text first : List ℕ) (after : Option (List ℕ)) → IsOneLine first → IsCut text first after → slice_split (is_byte 10) text ≡ first ∷ pieces_after 10 after
cut_split text first None one cut = ap (slice_split (is_byte 10)) cut ∙ slice_split_none (is_byte 10) first one
cut_split text first (Some after) one cut = ap (slice_split (is_byte 10)) cut ∙ slice_split_at (is_byte 10) first 10 after one refl

-- no line ends in the first part
pub one_line_first : (text first : List ℕ) (more : List (List ℕ)) → slice_split (is_byte 10) text ≡ first ∷ more → IsOneLine first
one_line_first text first more e = All-from_recursion (λ b. is_byte 10 b ≡ false) first (parts text first more e)
  where
    pushed : (x : ℕ) (ps : List (List ℕ)) (first : List ℕ) (more : List (List ℕ)) → is_byte 10 x ≡ false → ((f : List ℕ) (m : List (List ℕ)) → ps ≡ f ∷ m → AllByRecursion (λ b. is_byte 10 b ≡ false) f)
        → onto_first x ps ≡ first ∷ more → AllByRecursion (λ b. is_byte 10 b ≡ false) first
    pushed x [] first more other hyp e = let same : x ∷ [] ≡ first = cc in subst (AllByRecursion (λ b. is_byte 10 b ≡ false)) same (other, tt)
    pushed x (p ∷ ps) first more other hyp e = let same : x ∷ p ≡ first = cc in subst (AllByRecursion (λ b. is_byte 10 b ≡ false)) same (other, hyp p ps refl)

    begun : (x : ℕ) (xs first : List ℕ) (more : List (List ℕ)) → ((f : List ℕ) (m : List (List ℕ)) → slice_split (is_byte 10) xs ≡ f ∷ m → AllByRecursion (λ b. is_byte 10 b ≡ false) f)
        → (b : Bool) → is_byte 10 x ≡ b → slice_split (is_byte 10) (x ∷ xs) ≡ first ∷ more → AllByRecursion (λ b. is_byte 10 b ≡ false) first
    begun x xs first more hyp true b e =
        let split : [] ∷ slice_split (is_byte 10) xs ≡ first ∷ more = sym (slice_split-cons_yes (is_byte 10) x xs b) ∙ e in
        let same : [] ≡ first = cc in
        subst (AllByRecursion (λ b. is_byte 10 b ≡ false)) same tt
    begun x xs first more hyp false b e = pushed x (slice_split (is_byte 10) xs) first more b hyp (sym (slice_split-cons_no (is_byte 10) x xs b) ∙ e)

    parts : (text first : List ℕ) (more : List (List ℕ)) → slice_split (is_byte 10) text ≡ first ∷ more → AllByRecursion (λ b. is_byte 10 b ≡ false) first
    parts [] first more e = let same : [] ≡ first = cc in subst (AllByRecursion (λ b. is_byte 10 b ≡ false)) same tt
    parts (x ∷ xs) first more e = begun x xs first more (λ f m. parts xs f m) (is_byte 10 x) refl e

-- a text is the first part and then the others
joined_more : (first after : List ℕ) (parts : List (List ℕ)) → slice_split (is_byte 10) after ≡ parts → join_with_byte 10 (first ∷ parts) ≡ first ++ 10 ∷ join_with_byte 10 parts
joined_more first after [] e = absurd (omega (arith, ap length e, length-slice_split (is_byte 10) after))
joined_more first after (p ∷ ps) e = refl

pub split_cut : (text first : List ℕ) (after : Option (List ℕ)) → slice_split (is_byte 10) text ≡ first ∷ pieces_after 10 after → IsCut text first after
split_cut text first None e = sym (join_with_byte-slice_split 10 text) ∙ ap (join_with_byte 10) e
split_cut text first (Some after) e =
    sym (join_with_byte-slice_split 10 text) ∙ ap (join_with_byte 10) e ∙ joined_more first after (slice_split (is_byte 10) after) refl
    ∙ ap (λ l. first ++ 10 ∷ l) (join_with_byte-slice_split 10 after)

-- what is before lines
pub before_cut : (text first after : List ℕ) → text ≡ first ++ 10 ∷ after → take (length text - (length after + 1)) text ≡ first
before_cut text first after cut =
    let long : length text - (length after + 1) ≡ length first = omega (arith, ap length cut, length-append first (10 ∷ after)) in
    (λ i. take (long i) (cut i)) ∙ take-append_seam first (10 ∷ after)

-- the lines after the first are shorter than the text
pub cut_shorter : (text first : List ℕ) (after : Option (List ℕ)) → IsCut text first after → MatchOption after (Unit {0}) (λ rest. length rest < length text)
cut_shorter text first None cut = tt
cut_shorter text first (Some after) cut = omega (arith, ap length cut, length-append first (10 ∷ after))

-- a text has a first part
pub some_first : (text : List ℕ) → (first : List ℕ) × (more : List (List ℕ)) × (slice_split (is_byte 10) text ≡ first ∷ more)
some_first text = begun (slice_split (is_byte 10) text) refl
  where
    begun : (parts : List (List ℕ)) → slice_split (is_byte 10) text ≡ parts → (first : List ℕ) × (more : List (List ℕ)) × (slice_split (is_byte 10) text ≡ first ∷ more)
    begun [] e = absurd (omega (arith, ap length e, length-slice_split (is_byte 10) text))
    begun (p ∷ ps) e = (p, ps, e)

-- what a look at the first line said
pub some_reported : (text : List ℕ) (given : Option (Kind × Option (Bor (List ℕ)))) (found : Kind × Option (Bor (List ℕ))) → given ≡ Some found → ReadsInstruction text (Ok given)
    → BeginsWithInstruction text found.0 (option_copied found.1)
some_reported text given found e h = subst (λ x. ReadsInstruction text (Ok x)) e h
