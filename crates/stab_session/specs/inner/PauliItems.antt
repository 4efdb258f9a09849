-- Pauli items: items that are Pauli gates alone, and the items that a pending edit took out.
-- Source: this project's own.
use Rattle.std.specs.Prelude.{◌≡◌, ◌⊎◌, ℕ, ◌≤◌, Bool, true, false, ◌+◌, List, [], ◌∷◌, length, map, None, Ok}
use Rattle.std.specs.List.{AllByRecursion}
use Rattle.stab_gates.specs.declared.letter.Letter.{Letter}
use Rattle.stab_gates.specs.declared.gate.Gate.{Gate}
use Rattle.stab_gates.specs.declared.gate.Gate.TheVariants as gate
use Rattle.stab_instructions.specs.declared.operation.Kind.{Kind}
use Rattle.stab_instructions.specs.declared.operation.Kind.TheVariants as kind
use Rattle.stab_items.specs.Items.{OneItem, operation, repeat, listed}
use Rattle.stab_items.specs.Steps.{one, unroll, past, qubits_of, check_within, most_steps}
use Rattle.stab_items.specs.ItemsAt.{item_at}
use Rattle.stab_items.specs.Rounds.{pieces}
use Rattle.stab_run.specs.Runs.{gate_of}
use Rattle.stab_session.specs.declared.pending.Pending.{Pending}
use Rattle.stab_session.specs.declared.pending.Pending.TheVariants.{Inserted, Replaced, Deleted}
use Rattle.stab_session.specs.inner.Pendings.{pending_path, taken_back}

-- the steps of the items are a Pauli gate of this letter on each of these qubits, which the items name
pub record ArePauliItems (letter : Letter) (qubits : List ℕ) (xs : List OneItem) : Type 0 where
  pub steps : unroll (listed xs) ≡ map (one (gate_of letter)) qubits
  pub named : past qubits ≤ qubits_of (listed xs)

-- the items that a pending edit took out of its list: one, or none
abbrev pub taken_items : Pending → List OneItem
taken_items (Inserted path) = []
taken_items (Replaced path old) = old ∷ []
taken_items (Deleted path old) = old ∷ []

-- nothing refuses on n qubits what there was before a pending edit, nor what there is now
pub record AreAccepted (n : ℕ) (p : Pending) (now : List OneItem) : Type 0 where
  pub old : List OneItem
  pub back : taken_back p now ≡ Ok old
  pub old_checked : check_within n (listed old) ≡ None
  pub now_checked : check_within n (listed now) ≡ None

-- whether a gate is a Pauli gate
abbrev pub is_pauli_gate : Gate → Bool
is_pauli_gate gate.I = true
is_pauli_gate gate.X = true
is_pauli_gate gate.Y = true
is_pauli_gate gate.Z = true
is_pauli_gate g = false

-- whether an instruction is of Pauli gates
abbrev pub is_pauli_kind : Kind → Bool
is_pauli_kind (kind.Gate g qubits) = is_pauli_gate g
is_pauli_kind k = false

-- whether an item is an instruction of Pauli gates
abbrev pub is_pauli_item : OneItem → Bool
is_pauli_item (operation op) = is_pauli_kind op.kind
is_pauli_item (repeat count tag body) = false

-- an item makes no step, or is an instruction of Pauli gates
abbrev pub IsPauliItem : OneItem → Type 0
IsPauliItem x = (unroll (listed (x ∷ [])) ≡ []) ⊎ (is_pauli_item x ≡ true)

-- a pending edit is of such items alone, and what it put in, or what stands for nothing instead, is carried out no more often than a
-- circuit may have steps
pub record IsPauliEdit (p : Pending) (now : List OneItem) : Type 0 where
  pub taken : AllByRecursion IsPauliItem (taken_items p)
  pub put : OneItem
  pub found : item_at (pending_path p) now ≡ Ok put
  pub is : IsPauliItem put
  pub few : length (pieces (pending_path p) ((pending_path p).position + 1) now) ≤ most_steps
