-- Changes: what replaces an item, part by part.
-- Source: this project's own.
use Rattle.std.specs.Prelude.{◌≡◌, ℕ, zero, suc, ◌+◌, nat_lt, List, [], ◌∷◌, ◌++◌, length, take, drop, slice_get, if◌then◌else◌, All, Result, Ok, Err}
use Rattle.stab_io.specs.declared.refusal.Refusal.{Refusal}
use Rattle.stab_io.specs.declared.refusal.Refusal.TheVariants.{PlaceOutOfRange}
use Rattle.stab_items.specs.Items.{OneItem, depth_of}
use Rattle.stab_items.specs.inner.Blocks.{with_rounds}
use Rattle.stab_items.specs.Paths.{Path}
use Rattle.stab_items.specs.ItemsAt.{item_at}
use Rattle.stab_items.specs.Edits.{with_item, edited_inside}

-- the same as a list, which is empty if there are no rounds
abbrev pub rounds_of : (count : ℕ) → OneItem → List OneItem
rounds_of zero x = []
rounds_of (suc n) x = with_rounds (suc n) x ∷ []

-- a change of a list
abbrev pub ListChange : Type 0
ListChange = List OneItem → Result (List OneItem) Refusal

-- a change of the innermost list in the last of these blocks
abbrev pub changed_in : ListChange → List ℕ → ListChange
changed_in f [] xs = f xs
changed_in f (b ∷ bs) xs = with_item b xs (edited_inside (changed_in f bs) (slice_get xs b))

-- the parts that replace an item, if there is one
abbrev pub parts_at : ℕ → List OneItem → ListChange
parts_at position parts xs = if nat_lt position (length xs) then Ok (take position xs ++ (parts ++ drop (position + 1) xs)) else Err PlaceOutOfRange

-- the parts that replace the item at a path
abbrev pub with_parts_at : Path → List OneItem → ListChange
with_parts_at path parts xs = changed_in (parts_at path.position parts) path.blocks xs

-- there is an item at the path, and blocks are nested as deep in it as in each of the parts
pub record AreAsDeep (path : Path) (parts xs : List OneItem) : Type 0 where
  pub item : OneItem
  pub there : item_at path xs ≡ Ok item
  pub deep : All (λ x. depth_of x ≡ depth_of item) parts

-- the parts came before those that replace an item, whatever those are
pub record AreBefore (path : Path) (parts old new : List OneItem) : Type 0 where
  pub put : (others xs : List OneItem) → with_parts_at path others xs ≡ Ok old → with_parts_at path (parts ++ others) xs ≡ Ok new
