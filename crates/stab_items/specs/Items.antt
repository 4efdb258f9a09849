-- Items without pointers.
-- Source: Stim's circuit file format: a circuit is a list of instructions and of blocks, which are lists again.
use Rattle.std.specs.Prelude.{ℕ, ◌+◌, max, List, [], ◌∷◌}
use Rattle.stab_instructions.specs.declared.operation.Operation.{Operation}
use Rattle.stab_instructions.specs.declared.operation.Kind.{Kind}
use Rattle.stab_instructions.specs.declared.operation.Line.TheVariants.{Open}
use Rattle.stab_instructions.specs.declared.operation.Line.TheVariants as line
use Rattle.stab_instructions.specs.Rules.{IsGoodLine}

-- a list of items
pub data Items : Type 0 where
  done : Items
  next : Operation → Items → Items
  block : (count : ℕ) → (tag : List ℕ) → (body rest : Items) → Items

-- an instruction without a tag
abbrev pub without_tag : Kind → Operation
without_tag kind = record { kind = kind; tag = [] }

-- one item
pub data OneItem : Type 0 where
  operation : Operation → OneItem
  repeat : (count : ℕ) → (tag : List ℕ) → (body : Items) → OneItem

-- an item before others
abbrev pub before : OneItem → Items → Items
before (operation op) rest = next op rest
before (repeat count tag body) rest = block count tag body rest

-- the items of a list
abbrev pub listed : List OneItem → Items
listed [] = done
listed (x ∷ xs) = before x (listed xs)

-- one list of items after another
abbrev pub join : Items → Items → Items
join done after = after
join (next op rest) after = next op (join rest after)
join (block count tag body rest) after = block count tag body (join rest after)

-- the items one by one
abbrev pub entries : Items → List OneItem
entries done = []
entries (next op rest) = operation op ∷ entries rest
entries (block count tag body rest) = repeat count tag body ∷ entries rest

-- how deep blocks are nested
abbrev pub depth : Items → ℕ
depth done = 0
depth (next op rest) = depth rest
depth (block count tag body rest) = max (depth body + 1) (depth rest)

-- how deep blocks are nested in one item
abbrev pub depth_of : OneItem → ℕ
depth_of (operation op) = 0
depth_of (repeat count tag body) = depth body + 1

-- each instruction, and each opening of a block, keeps the rules of lines
abbrev pub AreGood : Items → Type 0
AreGood done = Unit {0}
AreGood (next op rest) = IsGoodLine (line.Operation op) × AreGood rest
AreGood (block count tag body rest) = IsGoodLine (Open count tag) × AreGood body × AreGood rest
