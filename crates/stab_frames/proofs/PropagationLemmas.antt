-- Walks: what loops over lists have done so far, one element more.
use Rattle.stab_frames.proofs.Names.{◌≡◌, ℕ, zero, suc, ◌+◌, ◌<◌, ◌≤◌, refl, sym, ◌∙◌, ap, Bool, true, false, List, [], ◌∷◌, ◌++◌, append_assoc, length, take, drop, get_or, set, replicate, arith, length-replicate, set-get_or, get_or_default, Letter, I, ◌⊕◌, letter_product, string_product, string_product-blank_right, string_product-set, ones, flipped, PropagationState}

-- a letter that was read
pub read-letter : (letters : List Letter) (q : ℕ) (l : Letter) → q < length letters → l ≡ get_or letters q l → l ≡ get_or letters q I
read-letter letters q l lt e = e ∙ get_or_default letters q l I lt

-- letters put one after another
pub mixed-set : (q : ℕ) (p letters : List Letter) → length p ≡ length letters → q < length letters
    → set (take q p ++ drop q letters) q (get_or p q I) ≡ take (suc q) p ++ drop (suc q) letters
mixed-set q [] letters e lt = absurd (omega (arith, e))
mixed-set q (x ∷ p) [] e lt = absurd (omega (arith, e))
mixed-set zero (x ∷ p) (y ∷ letters) e lt = refl
mixed-set (suc q) (x ∷ p) (y ∷ letters) e lt = ap (λ w. x ∷ w) (mixed-set q p letters (omega (arith, e)) (omega arith))

-- a letter multiplied on
pub product-single : (p : List Letter) (q : ℕ) (l r : Letter) → q < length p → r ≡ letter_product (get_or p q I) l
    → set p q r ≡ string_product p (set (replicate (length p) I) q l)
product-single p q l r lt e =
    ap (set p q) e
    ∙ sym
    (ap (λ w. string_product w (set (replicate (length p) I) q l)) (sym (set-get_or p q I))
    ∙ string_product-set (length p) p (replicate (length p) I) q (get_or p q I) l refl (length-replicate (length p) I) lt
    ∙ ap (λ w. set w q (letter_product (get_or p q I) l)) (string_product-blank_right (length p) p refl))

-- flips one after another
pub flipped-next : (i : ℕ) (bits flips : List Bool) → length flips ≡ length bits → i < length bits
    → flipped (take (suc i) bits) (take (suc i) flips) ≡ flipped (take i bits) (take i flips) ++ (get_or flips i false ⊕ get_or bits i false) ∷ []
flipped-next i [] flips e lt = absurd (omega arith)
flipped-next i (x ∷ bits) [] e lt = absurd (omega (arith, e))
flipped-next zero (x ∷ bits) (y ∷ flips) e lt = refl
flipped-next (suc i) (x ∷ bits) (y ∷ flips) e lt = ap (λ w. (y ⊕ x) ∷ w) (flipped-next i bits flips (omega (arith, e)) (omega arith))

abbrev pub flipped_so : ℕ → List Bool → List Bool → PropagationState → PropagationState
flipped_so i bits flips w = record w { flips = record w.flips { records = w.flips.records ++ flipped (take i bits) (take i flips) } }

pub flipped-further : (i : ℕ) (bits flips : List Bool) (flip : Bool) (w now new : PropagationState) → length flips ≡ length bits → i < length bits
    → flip ≡ get_or flips i false ⊕ get_or bits i false → now ≡ flipped_so i bits flips w
    → new ≡ record now { flips = record now.flips { records = now.flips.records ++ flip ∷ [] } }
    → new ≡ flipped_so (i + 1) bits flips w
flipped-further i bits flips flip w now new e lt ef is then =
    then
    ∙ (λ j. record (is j) { flips = record (is j).flips { records = (is j).flips.records ++ ef j ∷ [] } })
    ∙ ap (λ s. record w { flips = record w.flips { records = s } })
    (append_assoc w.flips.records (flipped (take i bits) (take i flips)) ((get_or flips i false ⊕ get_or bits i false) ∷ [])
    ∙ ap (λ s. w.flips.records ++ s) (sym (flipped-next i bits flips e lt) ∙ ap (λ j. flipped (take j bits) (take j flips)) one_more))
  where
    one_more : suc i ≡ i + 1
    one_more = omega arith

-- ones counted one after another
pub ones-few : (bits : List Bool) → ones bits ≤ length bits
ones-few [] = omega arith
ones-few (true ∷ bits) = let h = ones-few bits in omega (arith, h)
ones-few (false ∷ bits) = let h = ones-few bits in omega (arith, h)
