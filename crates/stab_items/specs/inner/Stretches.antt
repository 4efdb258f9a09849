-- Stretches: the summaries of parts of a list, one after the other.
-- Source: this project's own.
use Rattle.std.specs.Prelude.{◌≡◌, ◌≤◌, ℕ, ◌+◌, List, [], ◌∷◌, length, take, drop, Ok}
use Rattle.stab_items.specs.declared.circuit.stretches.Stretch.{Stretch}
use Rattle.stab_items.specs.Items.{OneItem, listed}
use Rattle.stab_items.specs.inner.Summaries.{IsSumOf}
use Rattle.stab_items.specs.inner.Splices.{Splice, spliced, IsWithin}

-- each stretch has this many items of the list, and their summary; the items after the last are of none
abbrev pub AreStretches : List Stretch → List OneItem → Type 0
AreStretches [] xs = Unit {0}
AreStretches (s ∷ ss) xs = (s.items ≤ length xs) × IsSumOf (listed (take s.items xs)) s.summary × AreStretches ss (drop s.items xs)

-- how many items stretches have
abbrev pub items_in : List Stretch → ℕ
items_in [] = 0
items_in (s ∷ ss) = s.items + items_in ss

-- these are stretches of a list of this many items, of which another is left if items are put in at a place, and at most the one there is taken out
pub record WereStretches (ss : List Stretch) (position len : ℕ) (new : List OneItem) : Type 0 where
  pub old : List OneItem
  pub are : AreStretches ss old
  pub long : length old ≡ len
  pub splice : Splice
  pub within : IsWithin splice old
  pub first : splice.first ≡ position
  pub one : splice.following ≤ position + 1
  pub left : spliced old (Ok splice) ≡ Ok new
