-- Rows of numbers: which are named an odd number of times, when lists are joined, cut and merged.
use Rattle.stab_parities.proofs.Names.{◌≡◌, ℕ, zero, suc, ◌+◌, ◌<◌, refl, sym, ◌∙◌, ap, arith, Bool, false, List, [], ◌∷◌, ◌++◌, length, drop, get_or, ◌==◌, ◌⊕◌, parity-assoc, odd, row}

-- two lists one after the other
pub odd-append : (i : ℕ) (xs ys : List ℕ) → odd i (xs ++ ys) ≡ odd i xs ⊕ odd i ys
odd-append i [] ys = refl
odd-append i (x ∷ xs) ys = ap (λ b. (x == i) ⊕ b) (odd-append i xs ys) ∙ sym (parity-assoc (x == i) (odd i xs) (odd i ys))

-- the rest of a list, by its head
odd-rest : (i : ℕ) (xs : List ℕ) (k d : ℕ) → k < length xs → odd i (drop k xs) ≡ (get_or xs k d == i) ⊕ odd i (drop (suc k) xs)
odd-rest i [] k d lt = absurd (omega arith)
odd-rest i (x ∷ xs) zero d lt = refl
odd-rest i (x ∷ xs) (suc k) d lt = odd-rest i xs k d (omega arith)

pub odd-drop : (i : ℕ) (xs : List ℕ) (k d : ℕ) → k < length xs → odd i (drop k xs) ≡ (get_or xs k d == i) ⊕ odd i (drop (k + 1) xs)
odd-drop i xs k d lt = odd-rest i xs k d lt ∙ ap (λ j. (get_or xs k d == i) ⊕ odd i (drop j xs)) next
  where
    next : suc k ≡ k + 1
    next = omega arith

-- what a merge has, and what is left of both lists
abbrev pub merging : ℕ → List ℕ → List ℕ → List ℕ → Bool
merging i merged left right = odd i merged ⊕ (odd i left ⊕ odd i right)

from_left : (m x d r : Bool) → (m ⊕ (x ⊕ false)) ⊕ (d ⊕ r) ≡ m ⊕ ((x ⊕ d) ⊕ r)
from_left m x d r = grind arith

from_right : (m x d r : Bool) → (m ⊕ (x ⊕ false)) ⊕ (d ⊕ r) ≡ m ⊕ (d ⊕ (x ⊕ r))
from_right m x d r = grind arith

from_both : (m x d r : Bool) → m ⊕ (d ⊕ r) ≡ m ⊕ ((x ⊕ d) ⊕ (x ⊕ r))
from_both m x d r = grind arith

pub merging-left : (i : ℕ) (merged left : List ℕ) (a d : ℕ) (right : List ℕ) → a < length left
    → merging i (merged ++ get_or left a d ∷ []) (drop (a + 1) left) right ≡ merging i merged (drop a left) right
merging-left i merged left a d right lt =
    ap (λ b. b ⊕ (odd i (drop (a + 1) left) ⊕ odd i right)) (odd-append i merged (get_or left a d ∷ []))
    ∙ from_left (odd i merged) (get_or left a d == i) (odd i (drop (a + 1) left)) (odd i right)
    ∙ ap (λ b. odd i merged ⊕ (b ⊕ odd i right)) (sym (odd-drop i left a d lt))

pub merging-right : (i : ℕ) (merged left right : List ℕ) (b d : ℕ) → b < length right
    → merging i (merged ++ get_or right b d ∷ []) left (drop (b + 1) right) ≡ merging i merged left (drop b right)
merging-right i merged left right b d lt =
    ap (λ x. x ⊕ (odd i left ⊕ odd i (drop (b + 1) right))) (odd-append i merged (get_or right b d ∷ []))
    ∙ from_right (odd i merged) (get_or right b d == i) (odd i left) (odd i (drop (b + 1) right))
    ∙ ap (λ x. odd i merged ⊕ (odd i left ⊕ x)) (sym (odd-drop i right b d lt))

pub merging-both : (i : ℕ) (merged left right : List ℕ) (a b d e : ℕ) → a < length left → b < length right → get_or left a d ≡ get_or right b e
    → merging i merged (drop (a + 1) left) (drop (b + 1) right) ≡ merging i merged (drop a left) (drop b right)
merging-both i merged left right a b d e la lb same =
    from_both (odd i merged) (get_or left a d == i) (odd i (drop (a + 1) left)) (odd i (drop (b + 1) right))
    ∙ ap (λ x. odd i merged ⊕ (x ⊕ ((get_or left a d == i) ⊕ odd i (drop (b + 1) right)))) (sym (odd-drop i left a d la))
    ∙ ap (λ k. odd i merged ⊕ (odd i (drop a left) ⊕ ((k == i) ⊕ odd i (drop (b + 1) right)))) same
    ∙ ap (λ x. odd i merged ⊕ (odd i (drop a left) ⊕ x)) (sym (odd-drop i right b e lb))

pub merging-end : (i : ℕ) (merged left right : List ℕ) → odd i ((merged ++ left) ++ right) ≡ merging i merged left right
merging-end i merged left right =
    odd-append i (merged ++ left) right ∙ ap (λ b. b ⊕ odd i right) (odd-append i merged left) ∙ parity-assoc (odd i merged) (odd i left) (odd i right)

-- a row that is there is what is looked up, for any other answer
pub row-in : (rows : List (List ℕ)) (r : ℕ) (d : List ℕ) → r < length rows → get_or rows r d ≡ row rows r
row-in [] r d lt = absurd (omega arith)
row-in (x ∷ rows) zero d lt = refl
row-in (x ∷ rows) (suc r) d lt = row-in rows r d (omega arith)
