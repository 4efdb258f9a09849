-- Laws of changes: which positions of two lists differ, position by position.
use Rattle.stab_script.proofs.Names.{◌≡◌, ◌<◌, ℕ, ◌+◌, zero, suc, Bool, false, List, [], ◌∷◌, ◌++◌, length, take, min, get_or, refl, ap, ◌∙◌, arith, ◌⊕◌, changes}

-- one more position
changes-suc : (old new : List Bool) (k : ℕ) → k < length old → k < length new
    → changes (take (suc k) old) (take (suc k) new) ≡ changes (take k old) (take k new) ++ (get_or old k false ⊕ get_or new k false) ∷ []
changes-suc [] new k h i = absurd (omega arith)
changes-suc (a ∷ old) [] k h i = absurd (omega arith)
changes-suc (a ∷ old) (b ∷ new) zero h i = refl
changes-suc (a ∷ old) (b ∷ new) (suc k) h i = ap (λ l. (a ⊕ b) ∷ l) (changes-suc old new k (omega arith) (omega arith))

pub changes_more : (old new : List Bool) (k : ℕ) → k < length old → k < length new
    → changes (take (k + 1) old) (take (k + 1) new) ≡ changes (take k old) (take k new) ++ (get_or old k false ⊕ get_or new k false) ∷ []
changes_more old new k h i = let e : k + 1 ≡ suc k = omega arith in ap (λ j. changes (take j old) (take j new)) e ∙ changes-suc old new k h i

-- all positions that both have
changes-min : (old new : List Bool) (k : ℕ) → k ≡ min (length old) (length new) → changes (take k old) (take k new) ≡ changes old new
changes-min [] new zero e = refl
changes-min [] new (suc k) e = refl
changes-min (a ∷ old) [] zero e = refl
changes-min (a ∷ old) [] (suc k) e = absurd (omega arith)
changes-min (a ∷ old) (b ∷ new) zero e = absurd (omega arith)
changes-min (a ∷ old) (b ∷ new) (suc k) e = ap (λ l. (a ⊕ b) ∷ l) (changes-min old new k (omega arith))

pub changes_all : (old new : List Bool) (k : ℕ) → k ≡ min (length old) (length new) → changes (take k old) (take k new) ≡ changes old new
changes_all old new k e = changes-min old new k e
