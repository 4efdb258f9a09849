-- Explanations: what a call leaves of the output that some words are written to.
-- Source: this project's own.
use Rattle.std.specs.Prelude.{◌≡◌, ℕ, List, ◌⊎◌, Result, Ok, Err}
use Rattle.stab_io.specs.Devices.{OutputView, Took, TookAndFailed}
use Rattle.stab_io.specs.declared.refusal.Refusal.{Refusal}
use Rattle.stab_io.specs.declared.refusal.Refusal.TheVariants.{WriteFault, OutOfMemory}

-- the output took some bytes; or it took some and then failed; or the answer is 20, and the output is as it was
abbrev pub AppendsSome : {T : Type 0} → OutputView → OutputView → Result T Refusal → Type 0
AppendsSome old new (Ok x) = (bytes : List ℕ) × Took old new bytes
AppendsSome old new (Err r) = ((r ≡ WriteFault) × (bytes : List ℕ) × TookAndFailed old new bytes) ⊎ ((r ≡ OutOfMemory) × (new ≡ old))
