-- Repeats: the repeats of a list, item by item.
-- Source: this project's own.
use Rattle.std.specs.Prelude.{ℕ, ◌+◌, ◌*◌, ◌&&◌, nat_lt, nat_eq, if◌then◌else◌, Option, Some, None, List, [], ◌∷◌, ◌++◌, length}
use Rattle.stab_items.specs.declared.circuit.repeats.Repeat.{Repeat}
use Rattle.stab_items.specs.Items.{Items, OneItem, operation, repeat, done, next, block, before}
use Rattle.stab_items.specs.Steps.{Step, unroll}
use Rattle.stab_items.specs.inner.Summaries.{window}

-- the first block of a list that has a step, if there is one: how many rounds it has, and its items
abbrev pub first_with_steps : Items → Option (ℕ × Items)
first_with_steps done = None
first_with_steps (next op rest) = first_with_steps rest
first_with_steps (block count tag body rest) = if nat_lt 0 (length (unroll body)) then Some (count, body) else first_with_steps rest

-- this many rounds of steps, or of those of a block in them, if they are its rounds and no more
abbrev pub finer_by : ℕ → List Step → Option (ℕ × Items) → ℕ × List Step
finer_by count steps None = (count, steps)
finer_by count steps (Some b) = if nat_eq (b.0 * length (unroll b.1)) (length steps) then (count * b.0, unroll b.1) else (count, steps)

abbrev pub finer : ℕ → Items → ℕ × List Step
finer count body = finer_by count (unroll body) (first_with_steps body)

-- this many rounds of steps, after this many others
abbrev pub repeat_as : ℕ → ℕ × List Step → Repeat
repeat_as first r = record { first = first; length = length r.1; rounds = r.0; window = window r.1 }

-- the repeat that an item is, after this many steps: one or none
abbrev pub repeat_in : ℕ → OneItem → List Repeat
repeat_in first (operation op) = []
repeat_in first (repeat count tag body) = if nat_lt 0 (length (unroll body)) && nat_lt 1 count then repeat_as first (finer count body) ∷ [] else []

-- the repeats of a list, after this many steps
abbrev pub repeats_in : ℕ → List OneItem → List Repeat
repeats_in first [] = []
repeats_in first (x ∷ xs) = repeat_in first x ++ repeats_in (first + length (unroll (before x done))) xs
