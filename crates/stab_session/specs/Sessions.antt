-- Sessions: what contracts see of one.
-- Source: this project's own.
use Rattle.std.specs.Prelude.{◌≡◌, ◌↔◌, ℕ, Bool, true, List, Option, Some, None}
use Rattle.stab_pauli.specs.Paulis.{Signed, with_sign}
use Rattle.stab_tableau.specs.Rules.{is_random_by}
use Rattle.stab_items.specs.Items.{Items}

-- the items, the number of qubits, the stride, the source of coins, the four lists, and the steps before which checkpoints of the state of the
-- qubits are stored
pub record SessionState (C : Type 0) : Type 0 where
  pub items : Items
  pub qubits : ℕ
  pub stride : ℕ
  pub coins : C
  pub records : List Bool
  pub free : List Bool
  pub detectors : List Bool
  pub observables : List Bool
  pub checkpoints : List ℕ

-- the sign of a string in a group: the bit with which it is a member, 1 for -, or none if it is a member with neither
abbrev pub IsSignIn : (Signed → Bool) → Signed → Option Bool → Type 0
IsSignIn group p sign = ((b : Bool) → (sign ≡ Some b) ↔ (group (with_sign b p) ≡ true)) × ((sign ≡ None) ↔ (is_random_by group p ≡ true))
