-- Where a propagation ends.
use Rattle.stab_recording.proofs.Names.{◌≡◌, ◌+◌, length-take, ◌≤◌, ℕ, refl, sym, ◌∙◌, ap, Bool, true, false, List, length, take, drop, arith, take-append-drop, take-append_seam, drop-append_seam, ◌≢◌, Letter, Step, ones, PropagationState, Stop, Gone, NoString, IsStop, IsMissing}
use Rattle.stab_recording.specs.declared.propagate.Stop.TheVariants as stop
use Rattle.stab_recording.specs.PassedSteps.{HasPassed}

-- a propagation that may not end before, and whose strings are stored, passes all steps
pub propagation-whole : (n m steps most coin : ℕ) (strings : List (List Letter)) (free : List Bool) (xs : List Step) (new : PropagationState) (end : Stop)
    → IsStop n m steps (length (take most xs)) new end → (end ≡ Gone → false ≡ true) → (end ≡ NoString → IsMissing strings free coin)
    → ones (take coin free) ≤ length strings → take steps xs ≡ take most xs
propagation-whole n m steps most coin strings free xs new stop.After is gone missing preserved =
    ap (λ k. take k xs) is ∙ ap (take (length (take most xs))) (sym (take-append-drop most xs)) ∙ take-append_seam (take most xs) (drop most xs)
propagation-whole n m steps most coin strings free xs new Gone is gone missing preserved = absurd (false-true (gone refl))
  where
    false-true : false ≡ true → ⊥
    false-true e = cc
propagation-whole n m steps most coin strings free xs new NoString is gone missing preserved = absurd (omega (arith, missing refl, preserved))

-- and nothing else of them is left
pub whole-left : (n m steps most coin : ℕ) (strings : List (List Letter)) (free : List Bool) (xs left : List Step) (new : PropagationState) (end : Stop)
    → IsStop n m steps (length (take most xs)) new end → (end ≡ Gone → false ≡ true) → (end ≡ NoString → IsMissing strings free coin)
    → ones (take coin free) ≤ length strings → (end ≢ NoString → left ≡ drop steps xs) → left ≡ drop most xs
whole-left n m steps most coin strings free xs left new stop.After is gone missing preserved rest =
    rest (λ e. cc)
    ∙ ap (λ k. drop k xs) is
    ∙ ap (drop (length (take most xs))) (sym (take-append-drop most xs))
    ∙ drop-append_seam (take most xs) (drop most xs)
whole-left n m steps most coin strings free xs left new Gone is gone missing preserved rest = absurd (false-true (gone refl))
  where
    false-true : false ≡ true → ⊥
    false-true e = cc
whole-left n m steps most coin strings free xs left new NoString is gone missing preserved rest = absurd (omega (arith, missing refl, preserved))

-- how far a propagation came that has its pivots

pub gone-determined : Gone ≢ NoString
gone-determined e = cc

pub after-determined : stop.After ≢ NoString
after-determined e = cc

pub has-passed : (n window most steps : ℕ) (strings : List (List Letter)) (free : List Bool) (coin : ℕ) (old new : List Step) (before after : ℕ) (w : PropagationState) (end : Stop)
    → steps ≤ most → steps ≤ length old → after ≡ before + steps → new ≡ drop steps old → end ≢ NoString → IsStop n window steps (length (take most old)) w end
    → HasPassed n window most strings free coin old new before after w (record { stop = end; steps = steps })
has-passed n window most steps strings free coin old new before after w end few within counted left determined stops = record {
  within = omega (arith, length-take most old, few, within);
  left = λ _. left;
  stop = stops;
  counted = omega (arith, counted);
  missing = λ is. absurd (determined is);
}
