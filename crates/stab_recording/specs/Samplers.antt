-- Samplers: what contracts see of one.
-- Source: this project's own.
use Rattle.std.specs.Prelude.{ℕ}
use Rattle.stab_items.specs.Items.{Items}

-- the number of qubits, and the items of the circuit
pub record SamplerState : Type 0 where
  pub qubits : ℕ
  pub items : Items
