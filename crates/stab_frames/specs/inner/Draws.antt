-- Draws: which coins of another run differ from those of the run that a frame comes from.
-- Source: this project's own.
use Rattle.std.specs.Prelude.{◌≡◌, ℕ, ◌+◌, ◌-◌, ◌<◌, ◌≤◌, Bool, true, false, List, [], ◌∷◌, take, slice_index_or}
use Rattle.stab_gates.specs.Letters.{◌⊕◌}
use Rattle.stab_items.specs.Steps.{Step}
use Rattle.stab_run.specs.Records.{ones}
use Rattle.stab_run.specs.Points.{coins_of}

-- the outcome of a coin number, if they are those of the coins from a number on
abbrev pub outcome_of : List Bool → ℕ → ℕ → Bool
outcome_of outcomes start t = slice_index_or outcomes (t - start) false

-- by coin number: no coin differs
abbrev pub never : ℕ → Bool
never coin = false

-- those differ that are not as the outcomes were
abbrev pub differing : (olds others : ℕ → Bool) → ℕ → Bool
differing olds others coin = olds coin ⊕ others coin

-- if an outcome was random, its coin differs as is drawn
abbrev pub IsDrawn : List Bool → (draw changes : ℕ → Bool) → ℕ → Type 0
IsDrawn free draw changes coin = slice_index_or free coin false ≡ true → changes coin ≡ draw coin

-- the same at steps
abbrev pub AreDrawn : List Bool → (draw changes : ℕ → Bool) → List Step → ℕ → Type 0
AreDrawn free draw changes [] coin = Unit {0}
AreDrawn free draw changes (x ∷ xs) coin =
    (0 < coins_of x → IsDrawn free draw changes coin) × AreDrawn free draw changes xs (coin + coins_of x)

-- between two counts of asks the coins of random outcomes were asked for, from one number to another, each once at most
abbrev pub AsksRandom : List Bool → (from to : ℕ) → (old new : ℕ) → Type 0
AsksRandom free from to old new = new + ones (take from free) ≤ old + ones (take to free)
