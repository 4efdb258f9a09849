-- Gaps: the lengths of the pieces after an item in blocks, by those of one round.
-- Source: this project's own.
use Rattle.std.specs.Prelude.{◌≡◌, ◌<◌, ℕ, ◌+◌, zero, suc, List, [], ◌∷◌, ◌++◌, map, length, Option}
use Rattle.stab_items.specs.Items.{OneItem}
use Rattle.stab_items.specs.Steps.{Step}
use Rattle.stab_items.specs.Edits.{inner, steps_in}
use Rattle.stab_items.specs.Rounds.{rounds_in, round_pieces, pieces_in, HaveRounds}

-- numbers with this many more on the last
abbrev pub with_more : ℕ → List ℕ → List ℕ
with_more n [] = []
with_more n (x ∷ []) = (x + n) ∷ []
with_more n (x ∷ y ∷ ys) = x ∷ with_more n (y ∷ ys)

-- numbers, repeated this often
abbrev pub copies : ℕ → List ℕ → List ℕ
copies zero xs = []
copies (suc n) xs = xs ++ copies n xs

-- the gaps of this many rounds, by those of one, of which the last goes on with this many steps up to the position in the next round
abbrev pub round_gaps : ℕ → (lead : ℕ) → List ℕ → List ℕ
round_gaps zero lead gaps = []
round_gaps (suc zero) lead gaps = gaps
round_gaps (suc (suc n)) lead gaps = with_more lead gaps ++ round_gaps (suc n) lead gaps

-- the pieces in a block after an item in it and in the blocks in it, with these steps after the last
abbrev pub block_pieces : (end : ℕ) → List ℕ → (position : ℕ) → Option OneItem → List Step → List (List Step)
block_pieces end bs position x following = round_pieces (rounds_in x) (pieces_in end bs position (inner x)) (steps_in bs position (inner x)) following

-- these are the lengths of the pieces in a list, if the blocks have rounds
pub record AreGapsIn (bs : List ℕ) (position : ℕ) (xs : List OneItem) (gaps : List ℕ) : Type 0 where
  pub lengths : gaps ≡ map length (pieces_in (position + 1) bs position xs [])
  pub rounds : HaveRounds bs xs

-- these are the lengths of the pieces in an item, if it is a block that has a round and so do those in it
pub record AreGapsInside (bs : List ℕ) (position : ℕ) (x : Option OneItem) (gaps : List ℕ) : Type 0 where
  pub lengths : gaps ≡ map length (block_pieces (position + 1) bs position x [])
  pub some : 0 < rounds_in x
  pub rounds : HaveRounds bs (inner x)
