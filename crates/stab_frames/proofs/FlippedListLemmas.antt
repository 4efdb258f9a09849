-- Flipped lists: bits put after others one after another, flipped as far as there are flips.
use Rattle.stab_frames.proofs.Names.{◌≡◌, ℕ, zero, suc, ◌+◌, ◌-◌, ◌<◌, min, refl, sym, ◌∙◌, ap, subst, Bool, false, not, List, [], ◌∷◌, ◌++◌, append_assoc, length, take, drop, get_or, arith, beq, ◌⊕◌, differ, Addition, flipped, flipped_additions}

flipped-next : (i : ℕ) (bits flips : List Bool) → i < length flips → i < length bits
    → flipped (take (suc i) bits) (take (suc i) flips) ≡ flipped (take i bits) (take i flips) ++ (get_or flips i false ⊕ get_or bits i false) ∷ []
flipped-next i [] flips few lt = absurd (omega arith)
flipped-next i (x ∷ bits) [] few lt = absurd (omega arith)
flipped-next zero (x ∷ bits) (y ∷ flips) few lt = refl
flipped-next (suc i) (x ∷ bits) (y ∷ flips) few lt = ap (λ w. (y ⊕ x) ∷ w) (flipped-next i bits flips (omega arith) (omega arith))

-- one more
pub flipped-more : (i : ℕ) (to now new bits flips : List Bool) (bit : Bool) → i < length flips → i < length bits → bit ≡ get_or flips i false ⊕ get_or bits i false
    → now ≡ to ++ flipped (take i bits) (take i flips) → new ≡ now ++ bit ∷ [] → new ≡ to ++ flipped (take (i + 1) bits) (take (i + 1) flips)
flipped-more i to now new bits flips bit few lt is so then =
    then
    ∙ (λ j. so j ++ is j ∷ [])
    ∙ append_assoc to (flipped (take i bits) (take i flips)) ((get_or flips i false ⊕ get_or bits i false) ∷ [])
    ∙ ap (λ s. to ++ s) (sym (flipped-next i bits flips few lt) ∙ ap (λ j. flipped (take j bits) (take j flips)) {x = suc i} (omega arith))

-- and the others as they are
flipped-rest : (i : ℕ) (bits flips : List Bool) → i ≡ min (length flips) (length bits) → flipped (take i bits) (take i flips) ++ drop i bits ≡ flipped bits flips
flipped-rest i [] flips is = subst (λ k. flipped (take k []) (take k flips) ++ drop k [] ≡ []) {x = 0} (omega (arith, is)) refl
flipped-rest i (x ∷ bits) [] is = subst (λ k. flipped (take k (x ∷ bits)) (take k []) ++ drop k (x ∷ bits) ≡ x ∷ bits) {x = 0} (omega (arith, is)) refl
flipped-rest i (x ∷ bits) (y ∷ flips) is =
    subst (λ k. flipped (take k (x ∷ bits)) (take k (y ∷ flips)) ++ drop k (x ∷ bits) ≡ (y ⊕ x) ∷ flipped bits flips) {x = suc (i - 1)} (omega (arith, is))
    (ap (λ more. (y ⊕ x) ∷ more) (flipped-rest (i - 1) bits flips (omega (arith, is))))

pub flipped-whole : (i count : ℕ) (to now new rest bits flips : List Bool) → i ≡ count → count ≡ min (length flips) (length bits) → now ≡ to ++ flipped (take i bits) (take i flips)
    → rest ≡ drop count bits → new ≡ now ++ rest → new ≡ to ++ flipped bits flips
flipped-whole i count to now new rest bits flips at is so following then =
    then
    ∙ (λ j. so j ++ following j)
    ∙ append_assoc to (flipped (take i bits) (take i flips)) (drop count bits)
    ∙ ap (λ k. to ++ (flipped (take i bits) (take i flips) ++ drop k bits)) (sym at)
    ∙ ap (λ s. to ++ s) (flipped-rest i bits flips (at ∙ is))

-- the same of additions

abbrev pub flipped_addition : Addition → Addition → Addition
flipped_addition a f = record { observable = a.observable; bit = f.bit ⊕ a.bit }

pub added-flipped : (a f : Addition) → record { observable = a.observable; bit = not (beq f.bit a.bit) } ≡ flipped_addition a f
added-flipped a f = ap (λ b. record { observable = a.observable; bit = b }) (differ f.bit a.bit)

additions-next : (i : ℕ) (adds flips : List Addition) (d e : Addition) → i < length flips → i < length adds
    → flipped_additions (take (suc i) adds) (take (suc i) flips) ≡ flipped_additions (take i adds) (take i flips) ++ flipped_addition (get_or adds i d) (get_or flips i e) ∷ []
additions-next i [] flips d e few lt = absurd (omega arith)
additions-next i (x ∷ adds) [] d e few lt = absurd (omega arith)
additions-next zero (x ∷ adds) (y ∷ flips) d e few lt = refl
additions-next (suc i) (x ∷ adds) (y ∷ flips) d e few lt = ap (λ w. flipped_addition x y ∷ w) (additions-next i adds flips d e (omega arith) (omega arith))

pub additions-more : (i : ℕ) (to now new adds flips : List Addition) (d e added : Addition) → i < length flips → i < length adds
    → added ≡ flipped_addition (get_or adds i d) (get_or flips i e)
    → now ≡ to ++ flipped_additions (take i adds) (take i flips) → new ≡ now ++ added ∷ [] → new ≡ to ++ flipped_additions (take (i + 1) adds) (take (i + 1) flips)
additions-more i to now new adds flips d e added few lt is so then =
    then
    ∙ (λ j. so j ++ is j ∷ [])
    ∙ append_assoc to (flipped_additions (take i adds) (take i flips)) (flipped_addition (get_or adds i d) (get_or flips i e) ∷ [])
    ∙ ap (λ s. to ++ s) (sym (additions-next i adds flips d e few lt) ∙ ap (λ j. flipped_additions (take j adds) (take j flips)) {x = suc i} (omega arith))

additions-rest : (i : ℕ) (adds flips : List Addition) → i ≡ min (length flips) (length adds)
    → flipped_additions (take i adds) (take i flips) ++ drop i adds ≡ flipped_additions adds flips
additions-rest i [] flips is = subst (λ k. flipped_additions (take k []) (take k flips) ++ drop k [] ≡ []) {x = 0} (omega (arith, is)) refl
additions-rest i (x ∷ adds) [] is = subst (λ k. flipped_additions (take k (x ∷ adds)) (take k []) ++ drop k (x ∷ adds) ≡ x ∷ adds) {x = 0} (omega (arith, is)) refl
additions-rest i (x ∷ adds) (y ∷ flips) is =
    subst (λ k. flipped_additions (take k (x ∷ adds)) (take k (y ∷ flips)) ++ drop k (x ∷ adds) ≡ flipped_addition x y ∷ flipped_additions adds flips) {x = suc (i - 1)} (omega (arith, is))
    (ap (λ more. flipped_addition x y ∷ more) (additions-rest (i - 1) adds flips (omega (arith, is))))

pub additions-whole : (i count : ℕ) (to now new rest adds flips : List Addition) → i ≡ count → count ≡ min (length flips) (length adds)
    → now ≡ to ++ flipped_additions (take i adds) (take i flips) → rest ≡ drop count adds → new ≡ now ++ rest → new ≡ to ++ flipped_additions adds flips
additions-whole i count to now new rest adds flips at is so following then =
    then
    ∙ (λ j. so j ++ following j)
    ∙ append_assoc to (flipped_additions (take i adds) (take i flips)) (drop count adds)
    ∙ ap (λ k. to ++ (flipped_additions (take i adds) (take i flips) ++ drop k adds)) (sym at)
    ∙ ap (λ s. to ++ s) (additions-rest i adds flips (at ∙ is))
