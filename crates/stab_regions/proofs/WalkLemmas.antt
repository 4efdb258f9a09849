-- Walks: what has numbers in one says what it is before the last steps, and a step moves it.
use Rattle.stab_regions.proofs.Names.{◌≡◌, ℕ, ◌+◌, ◌<◌, ◌≤◌, ◌^◌, sym, ◌∙◌, ap, subst, arith, List, [], ◌∷◌, map, reverse, All-head, Items, Step, one, two, controlled, collapse, product, detector, observable, unroll, observables_of, detectors_of, Asked, sites_asked, inserted_from, Counts, numbers_before, FitsCounts, HasDistinctQubits, StepFits, MayPass, GoesBefore, RegionRows, HasOwn, HasNumbers, HasParity, IsRegionsAt, MovesTo, RegionWalk, Sweep, IsWalkAt, parity_row, row_of, IsSwept, Result, Ok, Err, OnOk}
use Rattle.std.specs.Prelude.{IfOk}
use Rattle.stab_regions.proofs.GateLemmas.{on_ok}
use Rattle.stab_regions.specs.declared.walk.Numbered.{Numbered}
use Rattle.stab_regions.specs.declared.walk.Numbered.TheVariants.{Parities, Effects}
use Rattle.stab_regions.specs.inner.EffectsAt.{numbers_in, IsEffectsAt, effect_row, EffectsMoveTo}
use Rattle.stab_regions.specs.inner.Sweeps.{IsWalkOf}

-- by what has numbers

pub at-kind : (k : Numbered) (w : RegionWalk) (c : Counts) (back : List Step) → w.numbered ≡ k → IsWalkAt w c back → IsWalkOf k w c back
at-kind k w c back is at = subst (λ (j : Numbered). IsWalkOf j w c back) is at

pub kind-at : (k : Numbered) (w : RegionWalk) (c : Counts) (back : List Step) → w.numbered ≡ k → IsWalkOf k w c back → IsWalkAt w c back
kind-at k w c back is at = subst (λ (j : Numbered). IsWalkOf j w c back) (sym is) at

-- at the end of all steps

pub numbered-end : {E : Type 0} (result : Result RegionWalk E) (k j : Numbered) → k ≡ j → IfOk result (λ w. w.numbered ≡ j) → IfOk result (λ w. w.numbered ≡ k)
numbered-end (Ok w) k j is kind = kind ∙ sym is
numbered-end (Err e) k j is kind = tt

pub parities-end : {E : Type 0} (result : Result RegionWalk E) (c : Counts) → IfOk result (λ w. w.numbered ≡ Parities) → IfOk result (IsRegionsAt c.qubits c.detectors c.observables [])
    → IfOk result (λ w. IsWalkAt w c [])
parities-end (Ok w) c kind at = kind-at Parities w c [] kind at
parities-end (Err e) c kind at = tt

pub effects-end : {E : Type 0} (result : Result RegionWalk E) (c : Counts) → IfOk result (λ w. w.numbered ≡ Effects) → IfOk result (λ w. IsEffectsAt c [] w.rows) → IfOk result (λ w. IsWalkAt w c [])
effects-end (Ok w) c kind at = kind-at Effects w c [] kind at
effects-end (Err e) c kind at = tt

-- what a step has to be

pub step-fits : (c : Counts) (x : Step) (back : List Step) → MayPass c (x ∷ []) back → StepFits c.qubits x
step-fits c x back passes = All-head (StepFits c.qubits) x back passes.fits.steps

pub step-distinct : (c : Counts) (x : Step) (back : List Step) → MayPass c (x ∷ []) back → HasDistinctQubits x
step-distinct c x back passes = All-head HasDistinctQubits x [] passes.distinct

-- a step's own parity is there
pub parity-there : (c : Counts) (x : Step) (back : List Step) (w : RegionWalk) → IsRegionsAt c.qubits c.detectors c.observables back w → FitsCounts c (x ∷ back) → HasParity w x
parity-there c (one g q) back w at fits = tt
parity-there c (two g a b) back w at fits = tt
parity-there c (controlled l k q) back w at fits = tt
parity-there c (collapse l q recorded inverted resets) back w at fits = tt
parity-there c (product factors inverted) back w at fits = tt
parity-there c (detector ks) back w at fits = omega (arith, at.before, fits.detectors)
parity-there c (observable j ks) back w at fits =
    let below : j < c.observables = fits.observables 0 (observable j ks) (omega arith) in
    omega (arith, at.detectors, at.marks, below)

-- and its own numbers fit

own-there : (c : Counts) (x : Step) (back : List Step) (e : RegionRows) → IsEffectsAt c back e → FitsCounts c (x ∷ back) → HasOwn e.detector_end e.observable x
own-there c (one g q) back e at fits = tt
own-there c (two g a b) back e at fits = tt
own-there c (controlled l k q) back e at fits = tt
own-there c (collapse l q recorded inverted resets) back e at fits = tt
own-there c (product factors inverted) back e at fits = tt
own-there c (detector ks) back e at fits = omega (arith, at.detector_end, fits.detectors)
own-there c (observable j ks) back e at fits =
    let below : j < c.observables = fits.observables 0 (observable j ks) (omega arith) in
    subst (λ k. k + j < 2 ^ 32) (sym at.observable) (small ((c.records + c.detectors) + j) (numbers_in c) (2 ^ 32) (omega (arith, below)) at.few)
  where
    small : (a b top : ℕ) → a ≤ b → b < top → a < top
    small a b top le lt = omega (arith, le, lt)

pub numbers-there : (c : Counts) (x : Step) (back : List Step) (e : RegionRows) → IsEffectsAt c back e → FitsCounts c (x ∷ back) → HasNumbers e x
numbers-there c x back e at fits = record {
  record_few = small e.record_end (numbers_in c) (2 ^ 32) (omega (arith, at.record_end)) at.few;
  detector_few = small e.detector_end (numbers_in c) (2 ^ 32) (omega (arith, at.detector_end)) at.few;
  own = own-there c x back e at fits;
}
  where
    small : (a b top : ℕ) → a ≤ b → b < top → a < top
    small a b top le lt = omega (arith, le, lt)

-- a walk goes on before a step

pub parities-pass : {A E : Type 0} (result : Result A E) (x : Step) (old new : RegionWalk) → old.numbered ≡ Parities → new.numbered ≡ old.numbered → OnOk result (MovesTo x old new)
    → OnOk result (GoesBefore (x ∷ []) (IsWalkAt old) (IsWalkAt new))
parities-pass result x old new kind same =
    on_ok result _ _ (λ moves c back passes at. kind-at Parities new c (x ∷ back) (same ∙ kind) (moves c.qubits c.detectors c.observables back (at-kind Parities old c back kind at)))

pub effects-pass : {A E : Type 0} (result : Result A E) (x : Step) (old new : RegionWalk) → old.numbered ≡ Effects → new.numbered ≡ old.numbered → OnOk result (EffectsMoveTo x old.rows new.rows)
    → OnOk result (GoesBefore (x ∷ []) (IsWalkAt old) (IsWalkAt new))
effects-pass result x old new kind same =
    on_ok result _ _ (λ moves c back passes at. kind-at Effects new c (x ∷ back) (same ∙ kind) (moves c back (at-kind Effects old c back kind at)))

-- what a pass has found, by what has numbers in it

pub swept-regions : (asked : Asked) (s : Sweep) (n : ℕ) (items : Items) → s.walk.numbered ≡ Parities → IsSwept asked s (numbers_before n items) (unroll items)
    → IsRegionsAt n (detectors_of (unroll items)) (observables_of items) (unroll items) s.walk
swept-regions asked s n items kind swept = at-kind Parities s.walk (numbers_before n items) (unroll items) kind swept.walk

pub swept-rows : (asked : Asked) (s : Sweep) (n : ℕ) (items : Items) → s.walk.numbered ≡ Parities → IsSwept asked s (numbers_before n items) (unroll items)
    → reverse s.rows ≡ map (parity_row (numbers_before n items)) (inserted_from (sites_asked asked) (unroll items))
swept-rows asked s n items kind swept = swept.rows ∙ ap (λ (k : Numbered). map (row_of k (numbers_before n items)) (inserted_from (sites_asked asked) (unroll items))) kind

pub swept-effects : (asked : Asked) (s : Sweep) (n : ℕ) (items : Items) → s.walk.numbered ≡ Effects → IsSwept asked s (numbers_before n items) (unroll items)
    → reverse s.rows ≡ map (effect_row (numbers_before n items)) (inserted_from (sites_asked asked) (unroll items))
swept-effects asked s n items kind swept = swept.rows ∙ ap (λ (k : Numbered). map (row_of k (numbers_before n items)) (inserted_from (sites_asked asked) (unroll items))) kind
