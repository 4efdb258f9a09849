-- Walks: what is left of the steps at a position within nested blocks.
-- Source: this project's own.
use Rattle.std.specs.Prelude.{◌≡◌, ◌<◌, ◌≤◌, ◌^◌, ℕ, ◌+◌, ◌*◌, Bool, true, false, List, [], ◌∷◌, ◌++◌, length, drop, Option, Some, None, slice_index_or, vec_capacity}
use Rattle.std.specs.Borrow.{Bor}
use Rattle.stab_instructions.specs.declared.operation.Kind.{Kind}
use Rattle.stab_items.specs.declared.walk.Level.{Level}
use Rattle.stab_items.specs.declared.walk.Walk.{Walk}
use Rattle.stab_items.specs.Items.{Items, OneItem, done, next, block, before, listed, depth, depth_of}
use Rattle.stab_items.specs.Steps.{Step, steps_of, rounds, unroll}

-- the steps of an instruction, if there is one
abbrev pub kind_steps : Option (Bor Kind) → List Step
kind_steps None = []
kind_steps (Some kind) = steps_of kind.now

-- the steps of a list of items from a position on, and of this many rounds of the list after them
abbrev pub left_at : List OneItem → ℕ → ℕ → List Step
left_at xs position more = unroll (listed (drop position xs)) ++ rounds more (unroll (listed xs))

-- the steps of a level that are left
abbrev pub level_left : Level → List Step
level_left l = left_at l.items.now l.position l.rounds

-- the steps of levels, of which the last is the innermost, and then others
abbrev pub levels_left : List Step → List Level → List Step
levels_left others [] = others
levels_left others (l ∷ ls) = levels_left (level_left l ++ others) ls

-- the blocks of levels, of which the first lies within this many, are nested at most 16 deep
abbrev pub IsNested : ℕ → List Level → Type 0
IsNested n [] = Unit {0}
IsNested n (l ∷ ls) = (depth (listed l.items.now) + n ≤ 16) × IsNested (n + 1) ls

-- how much there is to walk over, with blocks written out
abbrev pub weight : Items → ℕ
weight done = 0
weight (next op rest) = 1 + weight rest
weight (block count tag body rest) = 1 + count * (1 + weight body) + weight rest

-- how much of a list there is from a position on, with this many rounds of the list after it
abbrev pub weight_at : List OneItem → ℕ → ℕ → ℕ
weight_at xs position more = weight (listed (drop position xs)) + more * (1 + weight (listed xs)) + 1

-- how much of a level there is
abbrev pub level_weight : Level → ℕ
level_weight l = weight_at l.items.now l.position l.rounds

-- how much of levels there is
abbrev pub levels_weight : List Level → ℕ
levels_weight [] = 0
levels_weight (l ∷ ls) = level_weight l + levels_weight ls

-- the steps that come after the instruction under way
abbrev pub ahead : Walk → List Step
ahead w = level_left w.top ++ levels_left [] w.around.items

-- the steps that are left
abbrev pub walk_left : Walk → List Step
walk_left w = drop w.within (kind_steps w.kind) ++ ahead w

-- how much of a walk there is
abbrev pub walk_weight : Walk → ℕ
walk_weight w = level_weight w.top + levels_weight w.around.items

-- blocks are nested at most 16 deep, and there is room for a level for each
pub record IsWalk (w : Walk) : Type 0 where
  pub roomy : 16 ≤ vec_capacity w.around
  pub nested : IsNested 0 w.around.items
  pub shallow : depth (listed w.top.items.now) + length w.around.items ≤ 16

-- the item at a level's position, or that there is none
abbrev pub IsItemOf : Level → Option (Bor OneItem) → Type 0
IsItemOf l None = length l.items.now ≤ l.position
IsItemOf l (Some x) = (l.position < length l.items.now) × (x.now ≡ slice_index_or l.items.now l.position x.now) × (l.position + 1 < 2 ^ 64)

-- the instruction under way stayed
pub record SameKind (old new : Walk) : Type 0 where
  pub kind : new.kind ≡ old.kind
  pub within : new.within ≡ old.within

-- an item of the innermost block was taken
abbrev pub Takes : Walk → Walk → OneItem → Type 0
Takes old new x = (ahead old ≡ unroll (before x done) ++ ahead new) × (walk_weight old ≡ weight (before x done) + walk_weight new) × (depth_of x + length new.around.items ≤ 16)

-- the same steps are ahead, and there is less to walk over; or the walk is at the end
abbrev pub GoesOn : Walk → Walk → Bool → Type 0
GoesOn old new true = (ahead new ≡ ahead old) × (walk_weight new < walk_weight old)
GoesOn old new false = (ahead old ≡ []) × (ahead new ≡ [])

-- the walk is at an item with the same steps ahead, and has no more to walk over; or it is at the end
abbrev pub Reaches : Walk → Walk → Option (Bor OneItem) → Type 0
Reaches old new None = (ahead old ≡ []) × (ahead new ≡ [])
Reaches old new (Some x) = (ahead new ≡ ahead old) × (walk_weight new ≤ walk_weight old) × IsItemOf new.top (Some x)

-- of the steps that were to be left out this many are still to be, and there is less to walk over; or the walk is at the end
abbrev pub Passes : ℕ → Walk → Walk → Option ℕ → Type 0
Passes count old new None = (walk_left old ≡ []) × (walk_left new ≡ [])
Passes count old new (Some rest) = (drop rest (walk_left new) ≡ drop count (walk_left old)) × (rest ≤ count) × (0 < rest → new.kind ≡ None) × (walk_weight new < walk_weight old)
