-- Step values: which steps the values of the code stand for.
-- Source: this project's own.
use Rattle.std.specs.Prelude.{ℕ, List, [], ◌∷◌, map, Option, None, Some}
use Rattle.stab_items.specs.declared.detectors.Detectors.{Detectors as DetectorsValue}
use Rattle.stab_items.specs.declared.step.Step.{Step as StepValue}
use Rattle.stab_items.specs.declared.step.Step.TheVariants.{One, Two, Controlled, Collapse, Product, Detector, Observable}
use Rattle.stab_items.specs.declared.steps.Steps.{Steps}
use Rattle.stab_items.specs.declared.steps.Steps.TheVariants.{Gates, Pairs, Measurements, Detectors, Single}
use Rattle.stab_items.specs.Steps.{Step, one, two, controlled, collapse, product, detector, observable, controlled_step, measured, HasDistinctQubits}
use Rattle.stab_items.specs.Detectors.{lookbacks_at}

-- the step that a value stands for
abbrev pub step_shown : StepValue → Step
step_shown (One g q) = one g q
step_shown (Two g a b) = two g a b
step_shown (Controlled l k q) = controlled l k q
step_shown (Collapse l q recorded inverted resets) = collapse l q recorded inverted resets
step_shown (Product factors inverted) = product factors.now inverted
step_shown (Detector ks) = detector ks.now
step_shown (Observable j ks) = observable j ks.now

-- the step that a value stands for, if there is one
abbrev pub shown_step : Option StepValue → Option Step
shown_step None = None
shown_step (Some s) = Some (step_shown s)

-- the lookbacks of each of some detectors
abbrev pub lookbacks_of : DetectorsValue → List (List ℕ)
lookbacks_of ds = map lookbacks_at ds.items.now

-- the steps that a value stands for
abbrev pub steps_shown : Steps → List Step
steps_shown (Gates g qubits) = map (one g) qubits.now
steps_shown (Pairs axis pairs) = map (controlled_step axis) pairs.now
steps_shown (Measurements m targets) = map (measured m) targets.now
steps_shown (Detectors ds) = map detector (lookbacks_of ds)
steps_shown (Single step) = step_shown step ∷ []

-- the same for a step that is given by itself
abbrev pub HaveDistinctQubits : Steps → Type 0
HaveDistinctQubits (Gates g qubits) = Unit {0}
HaveDistinctQubits (Pairs axis pairs) = Unit {0}
HaveDistinctQubits (Measurements m targets) = Unit {0}
HaveDistinctQubits (Detectors ds) = Unit {0}
HaveDistinctQubits (Single step) = HasDistinctQubits (step_shown step)
