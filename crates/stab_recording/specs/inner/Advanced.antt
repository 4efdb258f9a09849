-- Rounds: where they end among a circuit's steps.
-- Source: this project's own.
use Rattle.std.specs.Prelude.{ℕ, ◌+◌, ◌*◌}
use Rattle.stab_items.specs.declared.circuit.repeats.Repeat.{Repeat}

-- the step after this many rounds
abbrev pub after_rounds : Repeat → ℕ → ℕ
after_rounds r k = r.first + k * r.length
