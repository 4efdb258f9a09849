-- Edits of sessions: what an edit leaves of a session.
-- Source: this project's own.
use Rattle.std.specs.Prelude.{◌≡◌, ℕ, Bool, None, Ok}
use Rattle.stab_items.specs.Items.{entries}
use Rattle.stab_items.specs.Edits.{edited, verdict}
use Rattle.stab_items.specs.declared.edit.Edit.{Edit}
use Rattle.stab_items.specs.Paths.{Path}
use Rattle.stab_items.specs.Splits.{split}
use Rattle.stab_session.specs.Sessions.{SessionState}

-- the session was edited: its items are the edited ones, which nothing refuses, its qubits, stride and sequence of coins the same
pub record IsEditedBy {C : Type 0} (sequence : C → ℕ → Bool) (e : Edit) (old new : SessionState C) : Type 0 where
  pub accepted : verdict old.qubits e (entries old.items) ≡ None
  pub items : edited e (entries old.items) ≡ Ok (entries new.items)
  pub qubits : new.qubits ≡ old.qubits
  pub stride : new.stride ≡ old.stride
  pub coins : sequence new.coins ≡ sequence old.coins

-- the session is as before, except for how often coins were asked for
pub record IsAsBefore {C : Type 0} (sequence : C → ℕ → Bool) (old new : SessionState C) : Type 0 where
  pub items : new.items ≡ old.items
  pub qubits : new.qubits ≡ old.qubits
  pub stride : new.stride ≡ old.stride
  pub coins : sequence new.coins ≡ sequence old.coins
  pub records : new.records ≡ old.records
  pub free : new.free ≡ old.free
  pub detectors : new.detectors ≡ old.detectors
  pub observables : new.observables ≡ old.observables
  pub checkpoints : new.checkpoints ≡ old.checkpoints

-- a round of a block was split off: all except the items is as before
pub record IsSplit {C : Type 0} (path : Path) (round : ℕ) (old new : SessionState C) : Type 0 where
  pub items : split path round (entries old.items) ≡ Ok (entries new.items)
  pub rest : new ≡ record old { items = new.items }
