-- Recordings of sessions: how the logic stores what contracts see of a session, and what holds of its recording besides the statement.
-- Source: this project's own.
use Rattle.std.specs.Prelude.{◌≡◌, ℕ, ◌≤◌, Bool, List, All, None, refl}
use Rattle.std.specs.Coded.{Coded, code_by, coded×, coded_ℕ, coded_bool, coded_list}
use Rattle.stab_gates.specs.Limits.{most_qubits}
use Rattle.stab_items.specs.Items.{Items}
use Rattle.stab_items.specs.Steps.{unroll, observables_of, check_within, HasDistinctQubits}
use Rattle.stab_session.specs.declared.recording.Recording.{Recording}
use Rattle.stab_circuit.specs.Limits.{most_stride}
use Rattle.stab_session.specs.Sessions.{SessionState}
use Rattle.stab_session.specs.Headline.{IsRunOfItems}
use Rattle.stab_recording.specs.Checkpoints.{checkpoint_steps}
use Rattle.stab_session.specs.Recordings.{IsRecording}
use Rattle.stab_items.specs.inner.StoredItems.{items_code}

-- the four lists of bits of a session, and the steps of its checkpoints
abbrev pub Lists : Type 0
Lists = List Bool × (List Bool × (List Bool × (List Bool × List ℕ)))

abbrev bits_code : Coded (List Bool)
bits_code = coded_list coded_bool

abbrev lists_code : Coded Lists
lists_code = coded× bits_code (coded× bits_code (coded× bits_code (coded× bits_code (coded_list coded_ℕ))))

-- it is stored as the tuple of its fields
abbrev pub session_code : {C : Type 0} → Coded C → Coded (SessionState C)
session_code {C} coins =
    code_by (Items × (ℕ × (ℕ × (C × Lists))))
    (coded× items_code (coded× coded_ℕ (coded× coded_ℕ (coded× coins lists_code))))
    (λ s. (s.items, (s.qubits, (s.stride, (s.coins, (s.records, (s.free, (s.detectors, (s.observables, s.checkpoints)))))))))
    (λ p. record {
      items = p.0;
      qubits = p.1.0;
      stride = p.1.1.0;
      coins = p.1.1.1.0;
      records = p.1.1.1.1.0;
      free = p.1.1.1.1.1.0;
      detectors = p.1.1.1.1.1.1.0;
      observables = p.1.1.1.1.1.1.1.0;
      checkpoints = p.1.1.1.1.1.1.1.1;
    })
    (λ _. refl)

-- what contracts see of a session with these parts
abbrev pub session_of : {C : Type 0} → Items → ℕ → C → Recording → SessionState C
session_of items stride coins recording = record {
  items = items;
  qubits = recording.tableau.qubits;
  stride = stride;
  coins = coins;
  records = recording.outputs.records.items;
  free = recording.outputs.free.items;
  detectors = recording.outputs.detectors.items;
  observables = recording.observables.items;
  checkpoints = checkpoint_steps recording.checkpoints.items;
}

-- the statement holds for it; the recording is of the run of its items, with checkpoints of the state that are spaced by its stride; nothing
-- refuses its items on its qubits, which are at most 1,024; the qubits of each pair differ; and the stride is from 1 to 65,536
pub record IsRecorded {C : Type 0} (sequence : C → ℕ → Bool) (s : SessionState C) (recording : Recording) : Type 0 where
  pub statement : IsRunOfItems sequence s
  pub run : IsRecording s.qubits (sequence s.coins) s.stride (unroll s.items) (observables_of s.items) recording
  pub checked : check_within s.qubits s.items ≡ None
  pub distinct : All HasDistinctQubits (unroll s.items)
  pub few : s.qubits ≤ most_qubits
  pub stride_above : 1 ≤ s.stride
  pub stride_within : s.stride ≤ most_stride
