-- Spacing: at which steps checkpoints of a run's state are stored.
-- Source: this project's own.
use Rattle.std.specs.Prelude.{◌≡◌, ℕ, ◌+◌, ◌<◌, ◌≤◌, List, [], ◌∷◌, ◌++◌, Some, slice_get}

-- none is less than the one before it, and none more than K greater
abbrev pub Near : ℕ → List ℕ → Type 0
Near K [] = Unit {0}
Near K (a ∷ []) = Unit {0}
Near K (a ∷ b ∷ more) = (a ≤ b) × (b ≤ a + K) × Near K (b ∷ more)

-- of three in a row the outer two are more than K from each other
abbrev pub Sparse : ℕ → List ℕ → Type 0
Sparse K [] = Unit {0}
Sparse K (a ∷ []) = Unit {0}
Sparse K (a ∷ b ∷ []) = Unit {0}
Sparse K (a ∷ b ∷ c ∷ more) = (a + K < c) × Sparse K (b ∷ c ∷ more)

-- the first checkpoint is that before step 0, neighbours are at most K steps from each other, the last is at most K from the end, and of three in a
-- row the outer two are more than K from each other
pub record IsSpaced (K end : ℕ) (steps : List ℕ) : Type 0 where
  pub first : slice_get steps 0 ≡ Some 0
  pub near : Near K (steps ++ end ∷ [])
  pub sparse : Sparse K steps

-- the last of some steps, the first of which is given
abbrev pub last_of : ℕ → List ℕ → ℕ
last_of a [] = a
last_of a (b ∷ more) = last_of b more
