-- Splices: an edit as one exchange of items in the outermost list.
-- Source: this project's own.
use Rattle.std.specs.Prelude.{◌≤◌, ℕ, ◌+◌, nat_lt, nat_le, List, [], ◌∷◌, ◌++◌, length, take, drop, slice_get, if◌then◌else◌, Result, Ok, Err}
use Rattle.stab_io.specs.declared.refusal.Refusal.{Refusal}
use Rattle.stab_io.specs.declared.refusal.Refusal.TheVariants.{PlaceOutOfRange}
use Rattle.stab_items.specs.declared.edit.Edit.{Edit}
use Rattle.stab_items.specs.declared.edit.Edit.TheVariants.{Insert, Replace, Delete}
use Rattle.stab_items.specs.Items.{OneItem}
use Rattle.stab_items.specs.Edits.{edited_inside, edited_in}

-- some items are put into a list instead of those from one position up to another
pub record Splice : Type 0 where
  pub first : ℕ
  pub following : ℕ
  pub put : List OneItem

-- the splice of an edit in the innermost list around its place, of this many items
abbrev pub splice_at : Edit → ℕ → Result Splice Refusal
splice_at (Insert place x) n = if nat_le place.position n then Ok (record { first = place.position; following = place.position; put = x ∷ [] }) else Err PlaceOutOfRange
splice_at (Replace place x) n = if nat_lt place.position n then Ok (record { first = place.position; following = place.position + 1; put = x ∷ [] }) else Err PlaceOutOfRange
splice_at (Delete place) n = if nat_lt place.position n then Ok (record { first = place.position; following = place.position + 1; put = [] }) else Err PlaceOutOfRange

-- the splice of an item that is rebuilt at a position, unless that was refused
abbrev pub splice_block : ℕ → Result OneItem Refusal → Result Splice Refusal
splice_block b (Ok x) = Ok (record { first = b; following = b + 1; put = x ∷ [] })
splice_block b (Err r) = Err r

-- the splice of an edit in the last of these blocks in the outermost list
abbrev pub splice_of : Edit → List ℕ → List OneItem → Result Splice Refusal
splice_of edit [] xs = splice_at edit (length xs)
splice_of edit (b ∷ bs) xs = splice_block b (edited_inside (edited_in edit bs) (slice_get xs b))

-- a list after a splice, unless that was refused
abbrev pub spliced : List OneItem → Result Splice Refusal → Result (List OneItem) Refusal
spliced xs (Ok s) = Ok (take s.first xs ++ (s.put ++ drop s.following xs))
spliced xs (Err r) = Err r

-- a splice is of a part of the list
pub record IsWithin (s : Splice) (xs : List OneItem) : Type 0 where
  pub order : s.first ≤ s.following
  pub end : s.following ≤ length xs
