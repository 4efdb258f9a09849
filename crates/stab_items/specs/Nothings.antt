-- Items that stand for nothing, as TICK does.
-- Source: TICK of Stim's circuit file format, which is for the reader alone.
use Rattle.std.specs.Prelude.{◌≡◌, []}
use Rattle.stab_items.specs.Items.{OneItem, before, done, depth}
use Rattle.stab_items.specs.Steps.{unroll, qubits_of, observables_of}

-- the item has no steps, names no qubit and no observable, and nests no blocks
pub record IsNothing (x : OneItem) : Type 0 where
  pub steps : unroll (before x done) ≡ []
  pub qubits : qubits_of (before x done) ≡ 0
  pub observables : observables_of (before x done) ≡ 0
  pub depth : depth (before x done) ≡ 0
