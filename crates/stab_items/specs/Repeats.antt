-- Repeats: the stretches of the unrolled steps in which the same steps come again, round by round.
-- Source: this project's own.
use Rattle.std.specs.Prelude.{◌≡◌, ◌<◌, ◌≤◌, ℕ, ◌+◌, ◌*◌, false, ◌&&◌, nat_lt, if◌then◌else◌, List, [], ◌∷◌, length, take, drop}
use Rattle.stab_items.specs.declared.circuit.repeats.Repeat.{Repeat}
use Rattle.stab_items.specs.Items.{Items, done, next, block}
use Rattle.stab_items.specs.Steps.{Step, rounds, unroll, looks_too_far}

-- the steps of one round
abbrev pub round_of : Repeat → List Step → List Step
round_of r steps = take r.length (drop r.first steps)

-- the steps from a repeat's first on are its rounds, and no step of a round looks back to more records before the round than is said
pub record IsRepeat (steps : List Step) (r : Repeat) : Type 0 where
  pub some : 0 < r.length
  pub many : 1 < r.rounds
  pub inside : r.first + r.rounds * r.length ≤ length steps
  pub again : take (r.rounds * r.length) (drop r.first steps) ≡ rounds r.rounds (round_of r steps)
  pub within : looks_too_far r.window (round_of r steps) ≡ false

-- repeats one after the other, the first no earlier than at a step
abbrev pub AreRepeats : ℕ → List Step → List Repeat → Type 0
AreRepeats from steps [] = Unit {0}
AreRepeats from steps (r ∷ rs) = (from ≤ r.first) × IsRepeat steps r × AreRepeats (r.first + r.rounds * r.length) steps rs

-- how many blocks of the outermost list have a step and more than one round
abbrev pub repeated_blocks : Items → ℕ
repeated_blocks done = 0
repeated_blocks (next op rest) = repeated_blocks rest
repeated_blocks (block count tag body rest) = if nat_lt 0 (length (unroll body)) && nat_lt 1 count then 1 + repeated_blocks rest else repeated_blocks rest
