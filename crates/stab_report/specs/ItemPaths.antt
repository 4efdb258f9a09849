-- Item paths: the items of steps, of coins and of detectors and observables, by their paths.
-- Source: this project's own.
use Rattle.std.specs.Prelude.{ℕ, ◌-◌, ◌==◌, nat_lt, Bool, false, List, [], ◌∷◌, length, slice_index_or, if◌then◌else◌}
use Rattle.stab_items.specs.Items.{Items}
use Rattle.stab_items.specs.Steps.{Step, observable, unroll}
use Rattle.stab_items.specs.Paths.{Path}
use Rattle.stab_items.specs.StepPaths.{outside, paths_of}
use Rattle.stab_regions.specs.Tables.{steps_before_detector}
use Rattle.stab_run.specs.Points.{coins_of}
use Rattle.stab_report.specs.declared.random.Bit.{Bit}
use Rattle.stab_report.specs.declared.random.Bit.TheVariants.{Detector, Observable}

-- the steps in front of the one that takes the coin of this number
abbrev pub steps_before_coin : ℕ → List Step → List Step
steps_before_coin t [] = []
steps_before_coin t (x ∷ xs) = if nat_lt t (coins_of x) then [] else x ∷ steps_before_coin (t - coins_of x) xs

-- how many these are
abbrev pub step_of_coin : List Step → ℕ → ℕ
step_of_coin xs t = length (steps_before_coin t xs)

-- the path of the item of a step
abbrev pub path_at : Items → ℕ → Path
path_at items t = slice_index_or (paths_of items) t (outside 0)

-- the path of the item that takes the coin of a number
abbrev pub path_of_coin : Items → ℕ → Path
path_of_coin items t = path_at items (step_of_coin (unroll items) t)

-- the bit of a number, if there are this many detectors
abbrev pub bit_of : (detectors number : ℕ) → Bit
bit_of detectors number = if nat_lt number detectors then Detector number else Observable (number - detectors)

-- a step adds to an observable
abbrev pub adds_to : ℕ → Step → Bool
adds_to j (observable i ks) = i == j
adds_to j x = false

-- the steps in front of the first that adds to an observable
abbrev pub steps_before_adding : ℕ → List Step → List Step
steps_before_adding j [] = []
steps_before_adding j (x ∷ xs) = if adds_to j x then [] else x ∷ steps_before_adding j xs

-- the steps in front of the first that makes a bit
abbrev pub steps_before_bit : Bit → List Step → List Step
steps_before_bit (Detector d) xs = steps_before_detector d xs
steps_before_bit (Observable j) xs = steps_before_adding j xs

-- the path of the first item that makes a bit
abbrev pub path_of_bit : Items → Bit → Path
path_of_bit items b = path_at items (length (steps_before_bit b (unroll items)))
