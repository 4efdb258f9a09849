-- Edits: what an edit leaves of a list of items, and what refuses it.
-- Source: this project's own.
use Rattle.std.specs.Prelude.{◌≡◌, ℕ, ◌+◌, nat_lt, nat_le, List, [], ◌∷◌, ◌++◌, length, take, drop, slice_get, slice_set, if◌then◌else◌, Option, Some, None, Result, Ok, Err}
use Rattle.std.specs.List.{insert, remove}
use Rattle.stab_io.specs.declared.refusal.Refusal.{Refusal}
use Rattle.stab_io.specs.declared.refusal.Refusal.TheVariants.{PlaceOutOfRange, NotABlock, TooDeep}
use Rattle.stab_items.specs.declared.edit.Edit.{Edit}
use Rattle.stab_items.specs.declared.edit.Edit.TheVariants.{Insert, Replace, Delete}
use Rattle.stab_items.specs.Items.{OneItem, operation, repeat, listed, entries, depth}
use Rattle.stab_items.specs.Steps.{Step, unroll, check_within}
use Rattle.stab_items.specs.Paths.{Path}

-- a list with an item that became another, unless that was refused
abbrev pub with_item : ℕ → List OneItem → Result OneItem Refusal → Result (List OneItem) Refusal
with_item b xs (Ok x) = Ok (slice_set xs b x)
with_item b xs (Err r) = Err r

-- a block whose items became these, unless that was refused
abbrev pub rebuilt : ℕ → List ℕ → Result (List OneItem) Refusal → Result OneItem Refusal
rebuilt count tag (Ok body) = Ok (repeat count tag (listed body))
rebuilt count tag (Err r) = Err r

-- the item that a path goes into, with its items edited: 12 if there is none, 17 if it is no block
abbrev pub edited_inside : (List OneItem → Result (List OneItem) Refusal) → Option OneItem → Result OneItem Refusal
edited_inside edit None = Err PlaceOutOfRange
edited_inside edit (Some (operation op)) = Err NotABlock
edited_inside edit (Some (repeat count tag body)) = rebuilt count tag (edit (entries body))

-- where an edit is made
abbrev pub edit_path : Edit → Path
edit_path (Insert place x) = place
edit_path (Replace place x) = place
edit_path (Delete place) = place

-- the innermost list around an edit's place, after the edit: 12 if the place is past the list
abbrev pub changed : Edit → List OneItem → Result (List OneItem) Refusal
changed (Insert place x) xs = if nat_le place.position (length xs) then Ok (insert xs place.position x) else Err PlaceOutOfRange
changed (Replace place x) xs = if nat_lt place.position (length xs) then Ok (slice_set xs place.position x) else Err PlaceOutOfRange
changed (Delete place) xs = if nat_lt place.position (length xs) then Ok (remove xs place.position) else Err PlaceOutOfRange

-- a list after an edit in the last of these blocks, the outermost first
abbrev pub edited_in : Edit → List ℕ → List OneItem → Result (List OneItem) Refusal
edited_in edit [] xs = changed edit xs
edited_in edit (b ∷ bs) xs = with_item b xs (edited_inside (edited_in edit bs) (slice_get xs b))

-- a list after an edit, or why its path goes to no place
abbrev pub edited : Edit → List OneItem → Result (List OneItem) Refusal
edited edit xs = edited_in edit (edit_path edit).blocks xs

-- what refuses an edit that comes to this list: its path, and then the depth of blocks
abbrev pub list_refusal : Result (List OneItem) Refusal → Option Refusal
list_refusal (Err r) = Some r
list_refusal (Ok ys) = if nat_lt 16 (depth (listed ys)) then Some TooDeep else None

-- what refuses it on n qubits: as above, and then what refuses the circuit of the list
abbrev pub list_verdict : ℕ → Result (List OneItem) Refusal → Option Refusal
list_verdict n (Err r) = Some r
list_verdict n (Ok ys) = if nat_lt 16 (depth (listed ys)) then Some TooDeep else check_within n (listed ys)

-- what refuses an edit of a list, for any circuit that it leaves
abbrev pub edit_refusal : Edit → List OneItem → Option Refusal
edit_refusal edit xs = list_refusal (edited edit xs)

-- the verdict on an edit of a circuit on n qubits
abbrev pub verdict : ℕ → Edit → List OneItem → Option Refusal
verdict n edit xs = list_verdict n (edited edit xs)

-- the items of an item, if it is a block
abbrev pub inner : Option OneItem → List OneItem
inner None = []
inner (Some (operation op)) = []
inner (Some (repeat count tag body)) = entries body

-- the item that an edit takes out of the innermost list around its place
abbrev pub taken_at : Edit → List OneItem → Option OneItem
taken_at (Insert place x) xs = None
taken_at (Replace place x) xs = slice_get xs place.position
taken_at (Delete place) xs = slice_get xs place.position

-- the item that an edit in the last of these blocks takes out
abbrev pub taken_in : Edit → List ℕ → List OneItem → Option OneItem
taken_in edit [] xs = taken_at edit xs
taken_in edit (b ∷ bs) xs = taken_in edit bs (inner (slice_get xs b))

-- the item that an edit takes out
abbrev pub taken : Edit → List OneItem → Option OneItem
taken edit xs = taken_in edit (edit_path edit).blocks xs

-- the item that an edit puts in
abbrev pub put_item : Edit → Option OneItem
put_item (Insert place x) = Some x
put_item (Replace place x) = Some x
put_item (Delete place) = None

-- an edit that may take memory
abbrev pub IsInsert : Edit → Type 0
IsInsert (Insert place x) = Unit {0}
IsInsert (Replace place x) = ⊥
IsInsert (Delete place) = ⊥

-- the steps before a place in the last of these blocks, in the first round of each
abbrev pub steps_in : List ℕ → ℕ → List OneItem → List Step
steps_in [] p xs = unroll (listed (take p xs))
steps_in (b ∷ bs) p xs = unroll (listed (take b xs)) ++ steps_in bs p (inner (slice_get xs b))

-- the steps before the place of a path
abbrev pub steps_before : Path → List OneItem → List Step
steps_before path xs = steps_in path.blocks path.position xs

-- the first changed step: how many steps are before the place
abbrev pub first_changed : Edit → List OneItem → ℕ
first_changed edit xs = length (steps_before (edit_path edit) xs)

-- the place after what an edit takes out of the innermost list: that of an insertion at 5 is 5, and that of a deletion at 5 is 6
abbrev pub after_taken : Edit → ℕ
after_taken (Insert place x) = place.position
after_taken (Replace place x) = place.position + 1
after_taken (Delete place) = place.position + 1

-- the place after what an edit puts into the innermost list: that of an insertion at 5 is 6, and that of a deletion at 5 is 5
abbrev pub after_put : Edit → ℕ
after_put (Insert place x) = place.position + 1
after_put (Replace place x) = place.position + 1
after_put (Delete place) = place.position

-- the same place in the outermost list, from which an edit within a block takes the block, and puts it back: after the item at 5 of
-- the outermost list it is 6; after the item at 5 of the block at 2 it is 3, after the block
abbrev pub outermost : ℕ → List ℕ → ℕ
outermost following blocks = elim blocks [ [] ↦ following | b ∷ bs ↦ b + 1 ]

-- how many steps of the old list are before the end of the outermost item that is taken out: if M 0 is deleted from H 0, M 0, X 0,
-- these are 2, with its own; if Z 0 is inserted into the block of REPEAT 3 { H 0 } they are 3, with all rounds
abbrev pub old_end : Edit → List OneItem → ℕ
old_end edit old = length (unroll (listed (take (outermost (after_taken edit) (edit_path edit).blocks) old)))

-- how many steps of the new list are before the end of the outermost item that is put in: the deletion above leaves H 0, X 0, and this
-- is 1; the insertion leaves REPEAT 3 { Z 0, H 0 }, and it is 6
abbrev pub new_end : Edit → List OneItem → ℕ
new_end edit new = length (unroll (listed (take (outermost (after_put edit) (edit_path edit).blocks) new)))

-- an edit leaves the steps before the first changed one, and those after the outermost item around the place
pub record LeavesTheRest (edit : Edit) (old new : List OneItem) : Type 0 where
  pub before : take (first_changed edit old) (unroll (listed old)) ≡ take (first_changed edit old) (unroll (listed new))
  pub following : drop (old_end edit old) (unroll (listed old)) ≡ drop (new_end edit new) (unroll (listed new))
