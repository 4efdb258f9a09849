-- Ready samplers: how the logic stores what contracts see of one, and what it keeps from shot to shot.
-- Source: this project's own.
use Rattle.std.specs.Prelude.{◌≡◌, ℕ, ◌≤◌, min, List, All, None, refl}
use Rattle.std.specs.Coded.{Coded, code_by, coded×, coded_ℕ}
use Rattle.stab_gates.specs.Limits.{most_qubits}
use Rattle.stab_items.specs.Items.{Items}
use Rattle.stab_items.specs.Steps.{unroll, records_of, observables_of, steps_cap, check_within, HasDistinctQubits}
use Rattle.stab_items.specs.declared.circuit.repeats.Repeat.{Repeat}
use Rattle.stab_items.specs.Repeats.{AreRepeats}
use Rattle.stab_recording.specs.Samplers.{SamplerState}
use Rattle.stab_items.specs.inner.StoredItems.{items_code}

-- it is stored as the pair of its fields
abbrev pub sampler_code : Coded SamplerState
sampler_code = code_by (ℕ × Items) (coded× coded_ℕ items_code) (λ s. (s.qubits, s.items)) (λ p. record { qubits = p.0; items = p.1 }) (λ _. refl)

-- there are no more qubits than may be, nothing refuses the items on them, the qubits of each pair differ, the repeats are those of their steps,
-- and the numbers of records and observables are theirs
pub record IsReady (n : ℕ) (items : Items) (repeats : List Repeat) (records observables : ℕ) : Type 0 where
  pub few_qubits : n ≤ most_qubits
  pub checked : check_within n items ≡ None
  pub distinct : All HasDistinctQubits (unroll items)
  pub repeated : AreRepeats 0 (unroll items) repeats
  pub records_are : records ≡ min (records_of (unroll items)) steps_cap
  pub observables_are : observables ≡ observables_of items
