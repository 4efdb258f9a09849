-- The lines of a text that is cut at the end of one of them.
use Rattle.stab_circuit.proofs.Names.{◌≡◌, ◌<◌, ◌≤◌, refl, ap, sym, ◌∙◌, ℕ, ◌+◌, List, [], ◌∷◌, ◌++◌, Bool, true, false, length, Option, Some, None, MatchOption, arith, append-nil, append_assoc, slice_split, onto_first, slice_split_none, slice_split-cons_yes, slice_split-cons_no, length-slice_split, is_byte, pieces_after, IsOneLine, IsCut, Ran}
use Rattle.std.proofs.Common.{length-append}

onto_append : (x : ℕ) (ps qs : List (List ℕ)) → 0 < length ps → onto_first x (ps ++ qs) ≡ onto_first x ps ++ qs
onto_append x [] qs some = absurd (omega (arith, some))
onto_append x (p ∷ ps) qs some = refl

onto_count : (x : ℕ) (ps : List (List ℕ)) → 0 < length ps → length (onto_first x ps) ≡ length ps
onto_count x [] some = absurd (omega (arith, some))
onto_count x (p ∷ ps) some = refl

some_pieces : (text : List ℕ) → 0 < length (slice_split (is_byte 10) text)
some_pieces text = omega (arith, length-slice_split (is_byte 10) text)

-- the lines of one text and of another, with the end of a line between
pub pieces_append : (a b : List ℕ) → slice_split (is_byte 10) (a ++ 10 ∷ b) ≡ slice_split (is_byte 10) a ++ slice_split (is_byte 10) b
pieces_append [] b = slice_split-cons_yes (is_byte 10) 10 b refl
pieces_append (x ∷ a) b = by_first (pieces_append a b) (is_byte 10 x) refl
  where
    by_first : slice_split (is_byte 10) (a ++ 10 ∷ b) ≡ slice_split (is_byte 10) a ++ slice_split (is_byte 10) b → (w : Bool) → is_byte 10 x ≡ w
        → slice_split (is_byte 10) (x ∷ (a ++ 10 ∷ b)) ≡ slice_split (is_byte 10) (x ∷ a) ++ slice_split (is_byte 10) b
    by_first more true e =
        slice_split-cons_yes (is_byte 10) x (a ++ 10 ∷ b) e
        ∙ ap (λ l. [] ∷ l) more
        ∙ ap (λ l. l ++ slice_split (is_byte 10) b) (sym (slice_split-cons_yes (is_byte 10) x a e))
    by_first more false e =
        slice_split-cons_no (is_byte 10) x (a ++ 10 ∷ b) e
        ∙ ap (onto_first x) more
        ∙ onto_append x (slice_split (is_byte 10) a) (slice_split (is_byte 10) b) (some_pieces a)
        ∙ ap (λ l. l ++ slice_split (is_byte 10) b) (sym (slice_split-cons_no (is_byte 10) x a e))

pub cut_pieces : (text front : List ℕ) (after : Option (List ℕ)) → IsCut text front after → slice_split (is_byte 10) text ≡ slice_split (is_byte 10) front ++ pieces_after 10 after
cut_pieces text front None cut = ap (slice_split (is_byte 10)) cut ∙ sym (append-nil (slice_split (is_byte 10) front))
cut_pieces text front (Some after) cut = ap (slice_split (is_byte 10)) cut ∙ pieces_append front after

-- there are no more lines than bytes, and one
few_pieces : (text : List ℕ) → length (slice_split (is_byte 10) text) ≤ length text + 1
few_pieces [] = omega arith
few_pieces (x ∷ xs) = by_first (few_pieces xs) (is_byte 10 x) refl
  where
    by_first : length (slice_split (is_byte 10) xs) ≤ length xs + 1 → (w : Bool) → is_byte 10 x ≡ w → length (slice_split (is_byte 10) (x ∷ xs)) ≤ length (x ∷ xs) + 1
    by_first few true e = omega (arith, ap length (slice_split-cons_yes (is_byte 10) x xs e), few)
    by_first few false e = omega (arith, ap length (slice_split-cons_no (is_byte 10) x xs e), onto_count x (slice_split (is_byte 10) xs) (some_pieces xs), few)

-- so a text is longer than what is after lines of it, by as many bytes or more
pub lines_shorter : (text front : List ℕ) (after : Option (List ℕ)) (count : ℕ) → IsCut text front after → length (slice_split (is_byte 10) front) ≡ count
    → MatchOption after (Unit {0}) (λ rest. (length rest < length text) × (length rest + count ≤ length text))
lines_shorter text front None count cut few = tt
lines_shorter text front (Some rest) count cut few =
    let long : length text ≡ length front + (length rest + 1) = omega (arith, ap length cut, length-append front (10 ∷ rest)) in
    (omega (arith, long), omega (arith, long, few, few_pieces front))

-- one line more
pub ran_more : (front : List ℕ) (ls : List (List ℕ)) (text first rest : List ℕ) → Ran front ls text → text ≡ first ++ 10 ∷ rest → IsOneLine first → Ran front (ls ++ first ∷ []) rest
ran_more front [] text first rest ran cut one = (first, ran ∙ cut, slice_split_none (is_byte 10) first one)
ran_more front (l ∷ ls) text first rest ran cut one = (
  ran.0 ++ 10 ∷ first,
  ran.1 ∙ ap (λ w. ran.0 ++ 10 ∷ w) cut ∙ sym (append_assoc ran.0 (10 ∷ first) (10 ∷ rest)),
  pieces_append ran.0 first ∙ (λ i. ran.2 i ++ slice_split_none (is_byte 10) first one i),
)
