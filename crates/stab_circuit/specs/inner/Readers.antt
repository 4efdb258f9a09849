-- Readers: the way over the lines of a text, with a stack of open blocks.
-- Source: this project's own.
use Rattle.std.specs.Prelude.{◌≡◌, ◌≤◌, ℕ, ◌+◌, Bool, true, false, List, [], ◌∷◌, ◌++◌, nat_lt, length, map, reverse, if◌then◌else◌, Option, Result, Ok, Err, ◌⊎◌}
use Rattle.std.specs.List.{slice_split}
use Rattle.std.specs.Option.{option_copied}
use Rattle.std.specs.Borrow.{Bor}
use Rattle.std.specs.Global.{Vec}
use Rattle.stab_io.specs.declared.refusal.Refusal.{Refusal}
use Rattle.stab_io.specs.declared.refusal.Refusal.TheVariants.{BadBlock, TooDeep, OutOfMemory}
use Rattle.stab_io.specs.declared.refusal.Fault.{Fault}
use Rattle.stab_io.specs.Refusals.{whole}
use Rattle.stab_instructions.specs.declared.operation.Line.TheVariants.{Blank, Close, Open}
use Rattle.stab_instructions.specs.declared.operation.Line.TheVariants as line
use Rattle.stab_circuit.specs.declared.reader.OpenBlock.{OpenBlock as StoredBlock}
use Rattle.stab_circuit.specs.declared.reader.CircuitReader.{CircuitReader}
use Rattle.stab_items.specs.Items.{Items, OneItem, done, next, block, before, join, listed, depth}
use Rattle.stab_instructions.specs.declared.operation.Operation.{Operation}
use Rattle.stab_instructions.specs.Lines.{is_byte, content_of}
use Rattle.stab_instructions.specs.Words.{pieces_after}
use Rattle.stab_instructions.specs.Meanings.{meaning_of}
use Rattle.stab_items.specs.Circuits.{Meaning, at_line, meaning_after, one_item, contents}

-- an open block, and the items before it
pub record OpenBlock : Type 0 where
  pub line : ℕ
  pub count : ℕ
  pub tag : List ℕ
  pub before : Items

-- what a reader keeps: the open blocks, the innermost first, and the items of that
pub record Progress : Type 0 where
  pub open_blocks : List OpenBlock
  pub now : Items

-- an open block without pointers, if these items are before those that it keeps
abbrev pub open_block_of : List OneItem → StoredBlock → OpenBlock
open_block_of xs f = record { line = f.line; count = f.count; tag = f.tag; before = listed (xs ++ f.before.items) }

-- the same of open blocks, the outermost first: these items are before those that the outermost keeps
abbrev pub open_blocks_of : List OneItem → List StoredBlock → List OpenBlock
open_blocks_of xs [] = []
open_blocks_of xs (f ∷ fs) = open_block_of xs f ∷ map (open_block_of []) fs

-- which of these items are in the innermost open block: all if no block is open
abbrev pub innermost_open : List OneItem → List StoredBlock → List OneItem
innermost_open xs [] = xs
innermost_open xs (f ∷ fs) = []

-- what is stored by items of the outermost list, by open blocks, the outermost first, and by the items after
abbrev pub stored_progress : List OneItem → List StoredBlock → List OneItem → Progress
stored_progress xs fs ys = record { open_blocks = reverse (open_blocks_of xs fs); now = listed (innermost_open xs fs ++ ys) }

-- what a reader keeps, without pointers
abbrev pub progress_of : CircuitReader → Progress
progress_of r = stored_progress r.outer.items r.open_blocks.items r.items.items

-- blocks are nested at most 16 deep in what is before open blocks, the innermost of them first, with those around it
abbrev pub AreShallow : List OpenBlock → Type 0
AreShallow [] = Unit {0}
AreShallow (f ∷ fs) = (depth f.before + length fs ≤ 16) × AreShallow fs

-- blocks are nested at most 16 deep in what a reader keeps, with those that are open
pub record IsShallowProgress (s : Progress) : Type 0 where
  pub now : depth s.now + length s.open_blocks ≤ 16
  pub before : AreShallow s.open_blocks

-- nothing read
abbrev pub before_reading : Progress
before_reading = record { open_blocks = []; now = done }

-- the items with the block that is closed
abbrev pub closed : OpenBlock → Items → Items
closed f body = join f.before (block f.count f.tag body done)

-- a block is closed
abbrev pub closing : Progress → Result Progress Refusal
closing s = elim s.open_blocks [ [] ↦ Err BadBlock | f ∷ fs ↦ Ok (record { open_blocks = fs; now = closed f s.now }) ]

-- a block is opened
abbrev pub opening : ℕ → ℕ → List ℕ → Progress → Result Progress Refusal
opening n count tag s =
    if nat_lt (length s.open_blocks) 16 then Ok (record { open_blocks = record { line = n; count = count; tag = tag; before = s.now } ∷ s.open_blocks; now = done })
    else Err TooDeep

-- an instruction is read
abbrev pub with_instruction : Progress → Operation → Progress
with_instruction s op = record { open_blocks = s.open_blocks; now = join s.now (next op done) }

-- an item is read
abbrev pub with_read_item : Progress → OneItem → Progress
with_read_item s x = record { open_blocks = s.open_blocks; now = join s.now (before x done) }

-- what a line n makes of what was read
abbrev pub stepped : ℕ → Meaning → Progress → Result Progress Refusal
stepped n (Err r) s = Err r
stepped n (Ok Blank) s = Ok s
stepped n (Ok Close) s = closing s
stepped n (Ok (Open count tag)) s = opening n count tag s
stepped n (Ok (line.Operation op)) s = Ok (record { open_blocks = s.open_blocks; now = join s.now (next op done) })

-- the fault of a refusal at a line; lack of memory has no line
abbrev pub line_fault : ℕ → Refusal → Fault
line_fault n OutOfMemory = whole OutOfMemory
line_fault n r = at_line n r

-- what is read if no block is open
abbrev pub finished : Progress → Result Items Fault
finished s = elim s.open_blocks [ [] ↦ Ok s.now | f ∷ fs ↦ Err (at_line f.line BadBlock) ]

-- what lines from number n on make of what was read
abbrev pub read_on : ℕ → Progress → List Meaning → Result Items Fault
read_on n s [] = finished s
read_on n s (m ∷ ms) = elim (stepped n m s) [ Ok t ↦ read_on (n + 1) t ms | Err r ↦ Err (at_line n r) ]

-- whether there are items
abbrev pub is_some_items : Items → Bool
is_some_items done = false
is_some_items items = true

-- whether a whole item was read
abbrev pub is_whole : Progress → Bool
is_whole s = elim s.open_blocks [ [] ↦ is_some_items s.now | f ∷ fs ↦ false ]

-- what a content means if perhaps only one item is read
abbrev pub meaning_at : Bool → Progress → List ℕ → Meaning
meaning_at true s content = if is_whole s then meaning_after content else meaning_of content
meaning_at false s content = meaning_of content

-- what the contents mean that are still to be read
abbrev pub pending : Bool → Progress → List (List ℕ) → List Meaning
pending true s cs = if is_whole s then map meaning_after cs else one_item (length s.open_blocks) cs
pending false s cs = map meaning_of cs

-- what a text is read as, perhaps as one item alone
abbrev pub reading : Bool → List ℕ → Result Items Fault
reading single text = read_on 1 before_reading (pending single before_reading (contents text))

-- the call left what the definition gives, or failed as it does, or for lack of memory
abbrev pub TakesLine : {T : Type 0} → Progress → Result T Refusal → Result Progress Refusal → Type 0
TakesLine new (Ok x) given = given ≡ Ok new
TakesLine new (Err r) given = (r ≡ OutOfMemory) ⊎ (given ≡ Err r)

-- these are the lines after the first, if the call did not fail
abbrev pub AreAfter : List (List ℕ) → Result (Option (Bor (List ℕ))) Refusal → Type 0
AreAfter more (Ok after) = more ≡ pieces_after 10 (option_copied after)
AreAfter more (Err r) = Unit {0}

-- the call took the first line of a text, whose number is n, and gave those after it
abbrev pub TakesFirst : Bool → ℕ → List ℕ → Progress → Progress → Result (Option (Bor (List ℕ))) Refusal → Type 0
TakesFirst single n text old new result =
    (first : List ℕ) × (more : List (List ℕ)) × (slice_split (is_byte 10) text ≡ first ∷ more) × AreAfter more result
    × TakesLine new result (stepped n (meaning_at single old (content_of first)) old)

-- the call read the items, or failed as the definition does, or for lack of memory, which has no line
abbrev pub ReadsItems : Result (Vec OneItem) Fault → Result Items Fault → Type 0
ReadsItems (Ok v) given = given ≡ Ok (listed v.items)
ReadsItems (Err f) given = (f ≡ whole OutOfMemory) ⊎ (given ≡ Err f)
