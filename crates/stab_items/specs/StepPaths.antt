-- Step paths: the item that each unrolled step is of.
-- Source: this project's own.
use Rattle.std.specs.Prelude.{ℕ, ◌+◌, ◌-◌, ◌*◌, ◌%◌, nat_lt, if◌then◌else◌, zero, suc, List, [], ◌∷◌, ◌++◌, length, map, replicate}
use Rattle.stab_items.specs.Items.{Items, done, next, block}
use Rattle.stab_items.specs.Steps.{steps_of, unroll}
use Rattle.stab_items.specs.Paths.{Path}

-- the path of a position in the outermost list
abbrev pub outside : ℕ → Path
outside position = record { blocks = []; position = position }

-- a path within the block at a position
abbrev pub within : ℕ → Path → Path
within position path = record { blocks = position ∷ path.blocks; position = path.position }

-- this many rounds of paths
abbrev pub path_rounds : ℕ → List Path → List Path
path_rounds zero paths = []
path_rounds (suc n) paths = paths ++ path_rounds n paths

-- the paths of the items of the steps, if the first item has the given position
abbrev pub paths_from : ℕ → Items → List Path
paths_from position done = []
paths_from position (next op rest) = replicate (length (steps_of op.kind)) (outside position) ++ paths_from (position + 1) rest
paths_from position (block count tag body rest) = path_rounds count (map (within position) (paths_from 0 body)) ++ paths_from (position + 1) rest

-- the path of the item of each unrolled step, in order; a block's rounds repeat the same paths
abbrev pub paths_of : Items → List Path
paths_of items = paths_from 0 items

-- how many steps from a step on are its item's, in the same round
abbrev pub item_steps_left : Items → ℕ → ℕ
item_steps_left done step = 0
item_steps_left (next op rest) step =
    if nat_lt step (length (steps_of op.kind)) then length (steps_of op.kind) - step
    else item_steps_left rest (step - length (steps_of op.kind))
item_steps_left (block count tag body rest) step =
    if nat_lt step (count * length (unroll body)) then item_steps_left body (step % length (unroll body))
    else item_steps_left rest (step - count * length (unroll body))
