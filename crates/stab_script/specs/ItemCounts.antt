-- Item counts: where the steps of an item are in the unrolled circuit, and how many records, detectors and coins are theirs.
-- Source: this project's own.
use Rattle.std.specs.Prelude.{ℕ, ◌+◌, List, ◌++◌, length, take, drop, codes, decimal}
use Rattle.stab_items.specs.Items.{Items, entries}
use Rattle.stab_items.specs.Steps.{Step, unroll, records_of, detectors_of}
use Rattle.stab_items.specs.Paths.{Path}
use Rattle.stab_items.specs.Edits.{steps_before}
use Rattle.stab_run.specs.Points.{all_coins_of}
use Rattle.stab_script.specs.declared.reply.StepCounts.{StepCounts}

-- the numbers of steps and of what they make
abbrev pub counts_of : List Step → StepCounts
counts_of xs = record { steps = length xs; records = records_of xs; detectors = detectors_of xs; coins = all_coins_of xs }

-- the path after another in its list
abbrev pub path_after : Path → Path
path_after path = record path { position = path.position + 1 }

-- the unrolled steps before an item, in the first round of each block around it
abbrev pub steps_up_to : Path → Items → List Step
steps_up_to path items = take (length (steps_before path (entries items))) (unroll items)

-- the steps of the item at a path, in that round
abbrev pub steps_at : Path → Items → List Step
steps_at path items = drop (length (steps_before path (entries items))) (steps_up_to (path_after path) items)

-- two numbers with a space between them, and a text after them
abbrev pub two_numbers : (first second : ℕ) → (following : List ℕ) → List ℕ
two_numbers first second following = decimal first ++ (codes " " ++ (decimal second ++ following))

-- the line of the steps before an item and of those at it: of steps, records, detectors and coins the number of the first, and how many
abbrev pub counts_line : (before own : StepCounts) → List ℕ
counts_line before own =
    two_numbers before.steps own.steps (codes " ")
    ++ (two_numbers before.records own.records (codes " ")
    ++ (two_numbers before.detectors own.detectors (codes " ")
    ++ two_numbers before.coins own.coins (codes "\n")))

-- the line of the item at a path
abbrev pub counts_text : Path → Items → List ℕ
counts_text path items = counts_line (counts_of (steps_up_to path items)) (counts_of (steps_at path items))
