-- Summaries: what checks need to know of items, in numbers that stop growing.
-- Source: this project's own.
use Rattle.std.specs.Prelude.{◌≡◌, ℕ, ◌+◌, ◌*◌, ◌-◌, ◌≤◌, max, min, nat_lt, List, [], ◌∷◌, length, if◌then◌else◌, Option, Some, None}
use Rattle.stab_io.specs.declared.refusal.Refusal.{Refusal}
use Rattle.stab_io.specs.declared.refusal.Refusal.TheVariants.{LookbackTooFar, TooManySteps}
use Rattle.stab_gates.specs.Limits.{most_qubits}
use Rattle.stab_items.specs.declared.summary.Summary.{Summary}
use Rattle.stab_instructions.specs.declared.control.ControlledPair.{ControlledPair}
use Rattle.stab_instructions.specs.declared.control.ControlledPair.TheVariants as pair
use Rattle.stab_instructions.specs.Limits.{most_lookback}
use Rattle.stab_instructions.specs.declared.operation.Kind.{Kind}
use Rattle.stab_items.specs.Items.{Items, depth, AreGood}
use Rattle.stab_items.specs.Steps.{Step, makes, records_of, detectors_of, lookbacks, steps_of, unroll, past, named_qubits, named_observables, qubits_of, observables_of, most_steps, steps_cap}

-- the greatest number, or 0
abbrev pub greatest : List ℕ → ℕ
greatest [] = 0
greatest (k ∷ ks) = max k (greatest ks)

-- how far back a pair of a controlled gate looks, or 0
abbrev pub looks_back : ControlledPair → ℕ
looks_back (pair.Qubits p) = 0
looks_back (pair.Record q k) = k

-- how far back the furthest of the pairs looks, or 0
abbrev pub furthest : List ControlledPair → ℕ
furthest [] = 0
furthest (p ∷ ps) = max (looks_back p) (furthest ps)

-- how many records have to be before the steps
abbrev pub window : List Step → ℕ
window [] = 0
window (s ∷ ss) = max (greatest (lookbacks s)) (window ss - makes s)

-- the summary of steps that name this many qubits and observables, in this many blocks: up to 1,048,577 steps, 16,777,215 records and as many
-- detectors, and 17 blocks
abbrev pub steps_summary : List Step → ℕ → ℕ → ℕ → Summary
steps_summary steps qubits observables deep = record {
  steps = min (length steps) steps_cap;
  records = min (records_of steps) most_lookback;
  detectors = min (detectors_of steps) most_lookback;
  window = window steps;
  qubits = qubits;
  observables = observables;
  depth = min deep 17;
}

-- the summary of an instruction
abbrev pub kind_summary_of : Kind → Summary
kind_summary_of kind = steps_summary (steps_of kind) (past (named_qubits kind)) (past (named_observables kind)) 0

-- the summary of items
abbrev pub summary_of : Items → Summary
summary_of items = steps_summary (unroll items) (qubits_of items) (observables_of items) (depth items)

-- a summary's numbers are within their bounds
pub record IsSummary (s : Summary) : Type 0 where
  pub steps : s.steps ≤ steps_cap
  pub records : s.records ≤ most_lookback
  pub detectors : s.detectors ≤ most_lookback
  pub window : s.window ≤ most_lookback
  pub qubits : s.qubits ≤ most_qubits
  pub depth : s.depth ≤ 17

-- the summary of these items, which keep the rules of lines
pub record IsSumOf (items : Items) (s : Summary) : Type 0 where
  pub value : s ≡ summary_of items
  pub small : IsSummary s
  pub good : AreGood items

-- the summary of items with others after them
abbrev pub followed_by : Summary → Summary → Summary
followed_by s t = record {
  steps = min (s.steps + t.steps) steps_cap;
  records = min (s.records + t.records) most_lookback;
  detectors = min (s.detectors + t.detectors) most_lookback;
  window = max s.window (t.window - s.records);
  qubits = max s.qubits t.qubits;
  observables = max s.observables t.observables;
  depth = max s.depth t.depth;
}

-- the summary of this many rounds, of which the first reaches furthest
abbrev pub repeated : ℕ → Summary → Summary
repeated count s = record s { steps = min (count * s.steps) steps_cap; records = min (count * s.records) most_lookback; detectors = min (count * s.detectors) most_lookback; depth = min (s.depth + 1) 17 }

-- what refuses a whole circuit of this summary
abbrev pub judged : Summary → Option Refusal
judged s = if nat_lt 0 s.window then Some LookbackTooFar else if nat_lt most_steps s.steps then Some TooManySteps else None
