-- Steps left: as many of the first ones as are asked for, as they are carried out one after another.
use Rattle.stab_run.proofs.Names.{◌≡◌, ℕ, zero, suc, ◌+◌, ◌-◌, ◌≤◌, refl, ◌∙◌, ap, arith, List, [], ◌∷◌, ◌++◌, length, take, drop, take-append-add, drop-append-add, Step, all_coins_of}

-- the first of the steps that are left, and the others

pub take-steps : (k m : ℕ) (xs ys rest : List Step) → xs ≡ ys ++ rest → m ≡ length ys → length ys ≤ k → take k xs ≡ ys ++ take (k - m) rest
take-steps k m xs ys rest e count l = ap (take k) e ∙ ap (λ t. take t (ys ++ rest)) whole ∙ take-append-add ys rest (k - m)
  where
    whole : k ≡ length ys + (k - m)
    whole = omega arith

pub drop-steps : (k m : ℕ) (xs ys rest : List Step) → xs ≡ ys ++ rest → m ≡ length ys → length ys ≤ k → drop k xs ≡ drop (k - m) rest
drop-steps k m xs ys rest e count l = ap (drop k) e ∙ ap (λ t. drop t (ys ++ rest)) whole ∙ drop-append-add ys rest (k - m)
  where
    whole : k ≡ length ys + (k - m)
    whole = omega arith

-- if none are to be carried out, or none are left

pub take-none : (k : ℕ) (xs : List Step) → k ≤ 0 → take k xs ≡ []
take-none zero xs l = refl
take-none (suc k) xs l = absurd (omega arith)

pub drop-none : (k : ℕ) (xs : List Step) → k ≤ 0 → drop k xs ≡ xs
drop-none zero xs l = refl
drop-none (suc k) xs l = absurd (omega arith)

pub take-empty : (k : ℕ) (xs : List Step) → xs ≡ [] → take k xs ≡ []
take-empty zero xs e = refl
take-empty (suc k) xs e = ap (take (suc k)) e

pub drop-empty : (k : ℕ) (xs : List Step) → xs ≡ [] → drop k xs ≡ []
drop-empty zero xs e = e
drop-empty (suc k) xs e = ap (drop (suc k)) e

-- all steps, if as many are to be carried out as are left
