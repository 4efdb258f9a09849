-- Runs: what the steps of a circuit make of its qubits, records, detectors and observables, for a sequence of coins.
-- Source: Stim's circuit file format, for what each instruction does, and Aaronson and Gottesman 2004, section III, for
-- measurements. It differs in that coins are given by number, and that a detector is the parity of its records, while Stim's
-- `detect` says whether that parity differs from a reference run's.
use Rattle.std.specs.Prelude.{ℕ, ◌+◌, Bool, true, false, ◌&&◌, List, [], ◌∷◌, ◌++◌, replicate, slice_index_or, slice_set, Option, Some, None}
use Rattle.stab_gates.specs.declared.letter.Letter.{Letter}
use Rattle.stab_gates.specs.declared.letter.Letter.TheVariants as letter
use Rattle.stab_gates.specs.Letters.{◌⊕◌}
use Rattle.stab_pauli.specs.Paulis.{Signed, single}
use Rattle.stab_gates.specs.declared.gate.Gate.{Gate}
use Rattle.stab_gates.specs.declared.gate.Gate.TheVariants as on
use Rattle.stab_tableau.specs.Traces.{Event, applied, applied_pair, projected, outcome, is_random}
use Rattle.stab_instructions.specs.declared.product.Factor.{Factor}
use Rattle.stab_instructions.specs.Axes.{letter_of}
use Rattle.stab_items.specs.Items.{Items}
use Rattle.stab_items.specs.Steps.{Step, one, two, controlled, collapse, product, detector, observable, unroll, observables_of}
use Rattle.stab_run.specs.Records.{looked_up, parity}

-- a run so far: what happened to the qubits, newest first; the number of the next coin; the records; for each coin number
-- whether the coin decided; and the bits of detectors and observables
pub record State : Type 0 where
  pub trace : List Event
  pub coin : ℕ
  pub records : List Bool
  pub free : List Bool
  pub detectors : List Bool
  pub observables : List Bool

-- no qubit, coin or record yet, and this many observables, all 0
abbrev pub start : ℕ → State
start observables = record { trace = []; coin = 0; records = []; free = []; detectors = []; observables = replicate observables false }

-- the bit, if there is one
abbrev pub when : Bool → Bool → List Bool
when true bit = bit ∷ []
when false bit = []

-- letters with those of the factors put at their qubits
abbrev pub with_factors : List Factor → List Letter → List Letter
with_factors [] letters = letters
with_factors (f ∷ fs) letters = with_factors fs (slice_set letters f.qubit (letter_of f.letter))

-- the factors' letters at their qubits among n, I elsewhere, with the sign +
abbrev pub string_of : ℕ → List Factor → Signed
string_of n factors = record { negative = false; letters = with_factors factors (replicate n letter.I) }

-- what a step measures, if anything
abbrev pub measured_by : ℕ → Step → Option Signed
measured_by n (one g q) = None
measured_by n (two g a b) = None
measured_by n (controlled l k q) = None
measured_by n (collapse l q recorded inverted resets) = Some (single n q l)
measured_by n (product factors inverted) = Some (string_of n factors)
measured_by n (detector ks) = None
measured_by n (observable j ks) = None

-- the gate that a letter is
abbrev pub gate_of : Letter → Gate
gate_of letter.I = on.I
gate_of letter.X = on.X
gate_of letter.Y = on.Y
gate_of letter.Z = on.Z

-- a letter that exchanges the two outcomes of a letter, with which it anticommutes
abbrev pub flip_of : Letter → Letter
flip_of letter.I = letter.X
flip_of letter.X = letter.Z
flip_of letter.Y = letter.X
flip_of letter.Z = letter.X

-- a letter applied to the qubit, if the bit is 1
abbrev pub applied_where : Bool → Letter → ℕ → List Event → List Event
applied_where true l q trace = applied (gate_of l) q ∷ trace
applied_where false l q trace = trace

-- the outcome of measuring a string, with the coin of this number
abbrev pub outcome_at : (ℕ → Bool) → Signed → List Event → ℕ → Bool
outcome_at coins p trace coin = outcome trace p (coins coin)

-- a projection of a letter on an outcome, and a flip if it resets an outcome 1
abbrev pub collapsed : ℕ → Letter → ℕ → Bool → Bool → List Event → List Event
collapsed n l q resets bit trace = applied_where (resets && bit) (flip_of l) q (projected (single n q l) bit ∷ trace)

-- a bit added to an observable
abbrev pub added : ℕ → Bool → List Bool → List Bool
added j bit observables = slice_set observables j (bit ⊕ slice_index_or observables j false)

-- what a step makes of a run on n qubits
abbrev pub effect : ℕ → (ℕ → Bool) → Step → State → State
effect n coins (one g q) s = record s { trace = applied g q ∷ s.trace }
effect n coins (two g a b) s = record s { trace = applied_pair g a b ∷ s.trace }
effect n coins (controlled l k q) s = record s { trace = applied_where (looked_up s.records k) l q s.trace }
effect n coins (collapse l q recorded inverted resets) s =
    let bit = outcome_at coins (single n q l) s.trace s.coin in
    record s {
      trace = collapsed n l q resets bit s.trace;
      coin = s.coin + 1;
      records = s.records ++ when recorded (inverted ⊕ bit);
      free = s.free ++ is_random s.trace (single n q l) ∷ [];
    }
effect n coins (product factors inverted) s =
    let bit = outcome_at coins (string_of n factors) s.trace s.coin in
    record s {
      trace = projected (string_of n factors) bit ∷ s.trace;
      coin = s.coin + 1;
      records = s.records ++ (inverted ⊕ bit) ∷ [];
      free = s.free ++ is_random s.trace (string_of n factors) ∷ [];
    }
effect n coins (detector ks) s = record s { detectors = s.detectors ++ parity s.records ks ∷ [] }
effect n coins (observable j ks) s = record s { observables = added j (parity s.records ks) s.observables }

-- what steps make of a run, one after another
abbrev pub run : ℕ → (ℕ → Bool) → List Step → State → State
run n coins [] s = s
run n coins (x ∷ xs) s = run n coins xs (effect n coins x s)

-- the run of the items on n qubits from the first step on, all qubits zero
unfoldable pub run_of : ℕ → (ℕ → Bool) → Items → State
run_of n coins items = run n coins (unroll items) (start (observables_of items))
