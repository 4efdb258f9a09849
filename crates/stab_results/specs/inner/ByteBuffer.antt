-- Gathered bytes: what a call leaves that puts bytes after those held for an output.
-- Source: this project's own.
use Rattle.std.specs.Prelude.{◌≡◌, List, ℕ, ◌++◌, Result, OnOk, IfErr}
use Rattle.stab_io.specs.Devices.{OutputView, Took, TookAndFailed}
use Rattle.stab_io.specs.declared.refusal.Refusal.{Refusal}
use Rattle.stab_io.specs.declared.refusal.Refusal.TheVariants.{WriteFault}

-- the bytes are after those held, and all are sent except those held next; or a write failed, and a prefix of all is sent
pub record Puts (old new : OutputView) (held next bytes : List ℕ) (r : Result (Unit {0}) Refusal) : Type 0 where
  pub whole : OnOk r ((sent : List ℕ) × (held ++ bytes ≡ sent ++ next) × Took old new sent)
  pub cut_off : IfErr r (λ e. (e ≡ WriteFault) × TookAndFailed old new (held ++ bytes))
