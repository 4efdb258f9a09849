-- Sites: those for single errors at a step, by its qubits and by the sides on which single errors are asked for.
use Rattle.std.specs.Prelude.{ℕ, Bool, true, false, List, [], ◌∷◌}
use Rattle.stab_gates.specs.declared.gate.Gate.TheVariants as gate
use Rattle.stab_items.specs.Steps.{Step, one, two, controlled, collapse, product, detector, observable, factor_qubits}
use Rattle.stab_regions.specs.declared.sites.Asked.{Asked}
use Rattle.stab_regions.specs.declared.sites.Asked.TheVariants.{Nowhere, Marked, Everywhere}
use Rattle.stab_regions.specs.declared.sites.Sides.{Sides}
use Rattle.stab_regions.specs.SingleErrors.{Site, marked_at, all_at}

-- the sites at a step where single errors are asked for
abbrev pub sites_asked : Asked → Step → List Site
sites_asked Nowhere x = []
sites_asked Marked x = marked_at x
sites_asked Everywhere x = all_at x

-- the qubits that a step is on
abbrev pub step_qubits : Step → List ℕ
step_qubits (one g q) = q ∷ []
step_qubits (two g a b) = a ∷ b ∷ []
step_qubits (controlled l k q) = q ∷ []
step_qubits (collapse l q recorded inverted resets) = q ∷ []
step_qubits (product factors inverted) = factor_qubits factors
step_qubits (detector ks) = []
step_qubits (observable j ks) = []

-- whether a circuit marks a site by a step
abbrev pub marks : Step → Bool
marks (one gate.I q) = true
marks x = false

-- all sides of a step that single errors may be on
abbrev pub all_sides : Step → Sides
all_sides (one g q) = record { front = false; following = true }
all_sides (two g a b) = record { front = false; following = true }
all_sides (controlled l k q) = record { front = false; following = true }
all_sides (collapse l q recorded inverted resets) = record { front = recorded; following = true }
all_sides (product factors inverted) = record { front = true; following = true }
all_sides (detector ks) = record { front = false; following = false }
all_sides (observable j ks) = record { front = false; following = false }

-- those where single errors are asked for
abbrev pub sides_asked : Asked → Step → Sides
sides_asked Nowhere x = record { front = false; following = false }
sides_asked Marked x = record { front = marks x; following = false }
sides_asked Everywhere x = all_sides x

-- a list if the bit is 1
abbrev pub where_asked : {A : Type 0} → Bool → List A → List A
where_asked true xs = xs
where_asked false xs = []
