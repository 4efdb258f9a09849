-- Rounds: where an item that is in blocks is in the steps: once in each round, with the other steps between.
-- Source: this project's own.
use Rattle.std.specs.Prelude.{◌≡◌, ◌<◌, ℕ, ◌+◌, ◌-◌, zero, suc, List, [], ◌∷◌, ◌++◌, map, length, take, drop, slice_get, Option, Some, None}
use Rattle.stab_items.specs.Items.{OneItem, operation, repeat, listed, before, done}
use Rattle.stab_items.specs.Steps.{Step, unroll}
use Rattle.stab_items.specs.declared.edit.Edit.{Edit}
use Rattle.stab_items.specs.Paths.{Path}
use Rattle.stab_items.specs.Edits.{edit_path, inner, steps_in, taken, put_item, after_taken, after_put, outermost, first_changed, old_end, new_end}

-- the same steps before each of some pieces
abbrev pub interleaved : List Step → List (List Step) → List Step
interleaved xs [] = []
interleaved xs (piece ∷ pieces) = xs ++ (piece ++ interleaved xs pieces)

-- how many rounds an item has, if it is a block
abbrev pub rounds_in : Option OneItem → ℕ
rounds_in None = 0
rounds_in (Some (operation op)) = 0
rounds_in (Some (repeat count tag body)) = count

-- the pieces of this many rounds, by those of one, which depend on what comes after it: the steps before the position in the next round, and
-- after the last round these
abbrev pub round_pieces : ℕ → (List Step → List (List Step)) → (lead : List Step) → (following : List Step) → List (List Step)
round_pieces zero round lead following = []
round_pieces (suc zero) round lead following = round following
round_pieces (suc (suc n)) round lead following = round lead ++ round_pieces (suc n) round lead following

-- the pieces that a list's steps, and these after them, come to after an item in the last of these blocks: where it ends in the
-- innermost list, and where it begins there
abbrev pub pieces_in : (end : ℕ) → List ℕ → (position : ℕ) → List OneItem → (following : List Step) → List (List Step)
pieces_in end [] position xs following = (unroll (listed (drop end xs)) ++ following) ∷ []
pieces_in end (b ∷ bs) position xs following =
    round_pieces (rounds_in (slice_get xs b)) (pieces_in end bs position (inner (slice_get xs b))) (steps_in bs position (inner (slice_get xs b)))
    (unroll (listed (drop (b + 1) xs)) ++ following)

-- the pieces after each occurrence of an item from a path up to an end in the innermost list, the last up to the end of the outermost
-- item: after X 0 in H 0, REPEAT 3 { Y 0, X 0, Z 0 } these are Z Y, Z Y and Z
abbrev pub pieces : Path → (end : ℕ) → List OneItem → List (List Step)
pieces path end xs = pieces_in end path.blocks path.position (take (outermost end path.blocks) xs) []

-- each of these blocks, the outermost first, is one and has a round
abbrev pub HaveRounds : List ℕ → List OneItem → Type 0
HaveRounds [] xs = Unit {0}
HaveRounds (b ∷ bs) xs = (0 < rounds_in (slice_get xs b)) × HaveRounds bs (inner (slice_get xs b))

-- these are the lengths of the pieces after the item at a path, around which each block has a round
pub record AreGaps (path : Path) (xs : List OneItem) (gaps : List ℕ) : Type 0 where
  pub lengths : gaps ≡ map length (pieces path (path.position + 1) xs)
  pub rounds : HaveRounds path.blocks xs

-- the steps of an item, if there is one
abbrev pub item_steps : Option OneItem → List Step
item_steps None = []
item_steps (Some x) = unroll (before x done)

-- the steps from one up to another
abbrev pub steps_between : (first end : ℕ) → List Step → List Step
steps_between first end steps = take (end - first) (drop first steps)

-- from the first changed step up to the end of the outermost item there are what the edit takes out and what it puts in, each before
-- the same pieces
pub record ChangesEachRound (edit : Edit) (old new : List OneItem) : Type 0 where
  pub taken_out : steps_between (first_changed edit old) (old_end edit old) (unroll (listed old))
      ≡ interleaved (item_steps (taken edit old)) (pieces (edit_path edit) (after_taken edit) old)
  pub put_in : steps_between (first_changed edit old) (new_end edit new) (unroll (listed new))
      ≡ interleaved (item_steps (put_item edit)) (pieces (edit_path edit) (after_put edit) new)
  pub same : pieces (edit_path edit) (after_put edit) new ≡ pieces (edit_path edit) (after_taken edit) old
