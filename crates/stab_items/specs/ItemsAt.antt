-- Items at paths: the item that a path goes to, or why it goes to none.
-- Source: this project's own.
use Rattle.std.specs.Prelude.{◌≡◌, ℕ, List, [], ◌∷◌, slice_get, Option, Some, None, Result, Ok, Err}
use Rattle.std.specs.Borrow.{Bor}
use Rattle.stab_io.specs.declared.refusal.Refusal.{Refusal}
use Rattle.stab_io.specs.declared.refusal.Refusal.TheVariants.{PlaceOutOfRange, NotABlock}
use Rattle.stab_items.specs.Items.{OneItem, operation, repeat, entries}
use Rattle.stab_items.specs.Paths.{Path}

-- the item, if there is one: else 12
abbrev pub item_there : Option OneItem → Result OneItem Refusal
item_there None = Err PlaceOutOfRange
item_there (Some x) = Ok x

-- what is found among the items of a block: 12 if there is no item, 17 if it is no block
abbrev pub found_inside : (List OneItem → Result OneItem Refusal) → Option OneItem → Result OneItem Refusal
found_inside find None = Err PlaceOutOfRange
found_inside find (Some (operation op)) = Err NotABlock
found_inside find (Some (repeat count tag body)) = find (entries body)

-- the item at a position in the last of these blocks, the outermost first
abbrev pub item_in : List ℕ → ℕ → List OneItem → Result OneItem Refusal
item_in [] position xs = item_there (slice_get xs position)
item_in (b ∷ bs) position xs = found_inside (item_in bs position) (slice_get xs b)

-- the item at the position of a path, or why the path goes to none
abbrev pub item_at : Path → List OneItem → Result OneItem Refusal
item_at path xs = item_in path.blocks path.position xs

-- the call gave the item that the definition gives, or refused as it does
abbrev pub FindsItem : Result (Bor OneItem) Refusal → Result OneItem Refusal → Type 0
FindsItem (Ok found) given = given ≡ Ok found.now
FindsItem (Err r) given = given ≡ Err r
