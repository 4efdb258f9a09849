-- Splits: a round of a block that becomes a block by itself, so that it can be edited alone.
-- Source: this project's own.
use Rattle.std.specs.Prelude.{◌≡◌, ℕ, zero, suc, ◌+◌, ◌-◌, nat_lt, List, [], ◌∷◌, ◌++◌, take, drop, slice_get, if◌then◌else◌, Option, Some, None, Result, Ok, Err}
use Rattle.stab_io.specs.declared.refusal.Refusal.{Refusal}
use Rattle.stab_io.specs.declared.refusal.Refusal.TheVariants.{PlaceOutOfRange, NotABlock}
use Rattle.stab_instructions.specs.declared.operation.Kind.{Kind}
use Rattle.stab_items.specs.Items.{Items, OneItem, operation, repeat, depth}
use Rattle.stab_items.specs.Steps.{unroll, past_named}
use Rattle.stab_items.specs.Paths.{Path}
use Rattle.stab_items.specs.Edits.{with_item, edited_inside}

-- this many rounds as a block, which is left out if there are none
abbrev pub rounds_as_block : (count : ℕ) → (tag : List ℕ) → (body : Items) → List OneItem
rounds_as_block zero tag body = []
rounds_as_block (suc n) tag body = repeat (suc n) tag body ∷ []

-- the rounds before a round, that round by itself, and the rounds after it
abbrev pub parts_of_block : (round count : ℕ) → (tag : List ℕ) → (body : Items) → List OneItem
parts_of_block round count tag body =
    rounds_as_block round tag body ++ (repeat 1 tag body ∷ rounds_as_block (count - (round + 1)) tag body)

-- what an item comes to: 12 if there is none or it has no such round, 17 if it is no block
abbrev pub parts_of_item : (round : ℕ) → Option OneItem → Result (List OneItem) Refusal
parts_of_item round None = Err PlaceOutOfRange
parts_of_item round (Some (operation op)) = Err NotABlock
parts_of_item round (Some (repeat count tag body)) = if nat_lt round count then Ok (parts_of_block round count tag body) else Err PlaceOutOfRange

-- a list with an item that became others, unless that was refused
abbrev pub with_parts : ℕ → List OneItem → Result (List OneItem) Refusal → Result (List OneItem) Refusal
with_parts position xs (Ok parts) = Ok (take position xs ++ (parts ++ drop (position + 1) xs))
with_parts position xs (Err r) = Err r

-- a list in which a round of the block at a position of the last of these blocks, the outermost first, was split off
abbrev pub split_in : (round : ℕ) → List ℕ → ℕ → List OneItem → Result (List OneItem) Refusal
split_in round [] position xs = with_parts position xs (parts_of_item round (slice_get xs position))
split_in round (b ∷ bs) position xs = with_item b xs (edited_inside (split_in round bs position) (slice_get xs b))

-- a list in which round R of the block at a path was split off, counted from 0: 12 if the path goes past a list or the block has no
-- such round, 17 if it goes into or to an item that is no block
abbrev pub split : Path → (round : ℕ) → List OneItem → Result (List OneItem) Refusal
split path round xs = split_in round path.blocks path.position xs

-- what an outcome is refused by, if it is
abbrev pub refused_by : Result (List OneItem) Refusal → Option Refusal
refused_by (Ok xs) = None
refused_by (Err r) = Some r

-- what refuses a split; no block is nested deeper after it
abbrev pub split_refusal : Path → (round : ℕ) → List OneItem → Option Refusal
split_refusal path round xs = refused_by (split path round xs)

-- items have the same steps, nest blocks as deep, and name the same greatest numbers, of qubits as of observables: so what refuses the
-- one on any number of qubits refuses the other
pub record AreAlike (old new : Items) : Type 0 where
  pub steps : unroll new ≡ unroll old
  pub depth : depth new ≡ depth old
  pub named : (f : Kind → List ℕ) → past_named f new ≡ past_named f old
