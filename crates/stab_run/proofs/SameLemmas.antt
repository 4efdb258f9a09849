-- Steps that are compared as the elements that they stand for.
use Rattle.stab_run.proofs.Names.{◌≡◌, ap, ◌∙◌, ℕ, Bool, true, List, length, map, take, drop, OnTrue, pointwise, length-map, take-map, drop-map, Step, Steps, steps_shown, same_mapped}
pub use Rattle.stab_items.proofs.SameLemmas.{both_true, same_bool, same_list, determines_qubits, determines_pairs, determines_targets, same_measurement, determines_factors}

-- steps of the same kind with the same list
pub same_shown : {A K : Type 0} (E : A → A → Bool) (determines : (a b : A) → E a b ≡ true → a ≡ b) (f : K → A → Step) (own k : K) (xs ys : List A) (steps : Steps) (r : Bool)
    → steps_shown steps ≡ map (f k) ys → own ≡ k → r ≡ pointwise E xs ys → OnTrue r (map (f own) xs ≡ steps_shown steps)
same_shown E determines f own k xs ys steps r is same e = same_mapped E determines f own k xs ys (steps_shown steps) r is same e

-- some of what elements stand for
pub mapped_part : {X Y : Type 0} (f : X → Y) (p : ℕ) (own others : List X) → take (length others) (drop p own) ≡ others
    → take (length (map f others)) (drop p (map f own)) ≡ map f others
mapped_part f p own others e =
    ap (λ n. take n (drop p (map f own))) (length-map others f)
    ∙ ap (take (length others)) (drop-map f p own)
    ∙ take-map f (length others) (drop p own)
    ∙ ap (map f) e
