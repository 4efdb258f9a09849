-- Stretches: lines, one after the other, whose items come one after the other in a list.
-- Source: this project's own.
use Rattle.std.specs.Prelude.{◌≡◌, ◌<◌, ◌≤◌, ℕ, ◌+◌, Bool, List, [], ◌∷◌, ◌++◌, All, length, take, drop, map, Option, Some, Result, Ok, Err, MatchOption, ◌⊎◌}
use Rattle.std.specs.List.{slice_split}
use Rattle.std.specs.Option.{option_copied}
use Rattle.stab_io.specs.declared.refusal.Refusal.{Refusal}
use Rattle.stab_io.specs.declared.refusal.Refusal.TheVariants.{OutOfMemory}
use Rattle.stab_io.specs.declared.refusal.Fault.{Fault}
use Rattle.stab_instructions.specs.Lines.{is_byte, content_of}
use Rattle.stab_instructions.specs.Words.{pieces_after}
use Rattle.stab_circuit.specs.declared.stretches.Stretch.{Stretch}
use Rattle.stab_circuit.specs.declared.stretches.Run.{Run}
use Rattle.stab_circuit.specs.declared.stretches.Stretches.{Stretches}
use Rattle.stab_circuit.specs.declared.stretches.Taken.{Taken}
use Rattle.stab_items.specs.Items.{Items, OneItem, join, listed, depth}
use Rattle.stab_items.specs.Circuits.{Meaning, line_meanings, at_line}
use Rattle.stab_circuit.specs.inner.Readers.{Progress, read_on, pending}

-- what is read if no block is open
abbrev pub read_outside : Items → Progress
read_outside now = record { open_blocks = []; now = now }

-- read if no block is open, the lines put these items after the others, of which none is a block
pub record ReadsAhead (lines : List (List ℕ)) (items : Items) : Type 0 where
  pub on : (n : ℕ) (now : Items) (ms : List Meaning) → read_on n (read_outside now) (line_meanings lines ++ ms) ≡ read_on (n + length lines) (read_outside (join now items)) ms
  pub flat : depth items ≡ 0

-- the items of a stretch, in the list in which they are
abbrev pub items_of : Stretch → List OneItem → List OneItem
items_of s xs = drop s.first (take s.following xs)

-- what is known of a stretch: it is this many lines, which put its items after the others
pub record IsLineStretch (xs : List OneItem) (s : Stretch) : Type 0 where
  pub order : s.first ≤ s.following
  pub within : s.following ≤ length xs
  pub count : length (slice_split (is_byte 10) s.bytes.now) ≡ s.lines
  pub reads : ReadsAhead (slice_split (is_byte 10) s.bytes.now) (listed (items_of s xs))

-- this is known of each of the stretches
abbrev pub AreLineStretches : List OneItem → Stretches → Type 0
AreLineStretches xs known = All (IsLineStretch xs) known.all.items

-- what is known of a stretch stays true
abbrev pub KeepsStretches : List OneItem → List OneItem → Type 0
KeepsStretches old new = (s : Stretch) → IsLineStretch old s → IsLineStretch new s

-- a text is these lines, each with its end, and then the rest
abbrev pub Ran : List ℕ → List (List ℕ) → List ℕ → Type 0
Ran front [] rest = front ≡ rest
Ran front (l ∷ ls) rest = (bytes : List ℕ) × (front ≡ bytes ++ 10 ∷ rest) × (slice_split (is_byte 10) bytes ≡ l ∷ ls)

-- a run: its lines, which end before line n, with which the rest begins, put the items after these
pub record IsRunOf (xs : List OneItem) (s : Progress) (n : ℕ) (rest : List ℕ) (run : Run) : Type 0 where
  pub lines : List (List ℕ)
  pub items : Items
  pub ran : Ran run.front.now lines rest
  pub count : run.from + length lines ≡ n
  pub reads : ReadsAhead lines items
  pub read : s ≡ read_outside (join (listed xs) items)

-- the same if there is a run
abbrev pub IsLineRun : List OneItem → Progress → ℕ → List ℕ → Option Run → Type 0
IsLineRun xs s n rest run = MatchOption run (Unit {0}) (IsRunOf xs s n rest)

-- a run whose items are now those of the list from a position on
pub record IsEnded (xs : List OneItem) (first n : ℕ) (rest : List ℕ) (run : Run) : Type 0 where
  pub within : first ≤ length xs
  pub lines : List (List ℕ)
  pub ran : Ran run.front.now lines rest
  pub count : run.from + length lines ≡ n
  pub reads : ReadsAhead lines (listed (drop first xs))

-- what is read from line n on, if these lines are still to be read
abbrev pub reading_on : Bool → ℕ → Progress → Option (List ℕ) → Result Items Fault
reading_on single n s rest = read_on n s (pending single s (map content_of (pieces_after 10 rest)))

-- the call took lines of a text, of which the first has number n, and gave those after them
abbrev pub TakesLines : Bool → ℕ → List ℕ → Progress → Progress → Result Taken Refusal → Type 0
TakesLines single n text old new (Ok taken) = reading_on single n old (Some text) ≡ reading_on single (n + taken.lines) new (option_copied taken.after)
TakesLines single n text old new (Err r) = (r ≡ OutOfMemory) ⊎ (reading_on single n old (Some text) ≡ Err (at_line n r))

-- the lines after those that were taken are this many fewer
abbrev pub IsShorter : List ℕ → Taken → Type 0
IsShorter text taken = MatchOption (option_copied taken.after) (Unit {0}) (λ rest. (length rest < length text) × (length rest + taken.lines ≤ length text))

-- the run goes on at the lines after those that were taken, if there are any
abbrev pub RunsOn : List OneItem → Progress → ℕ → Option (List ℕ) → Option Run → Type 0
RunsOn xs s n after run = MatchOption after (Unit {0}) (λ rest. IsLineRun xs s n rest run)
