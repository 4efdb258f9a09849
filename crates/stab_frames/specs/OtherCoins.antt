-- Other coins: a run comes to steps that it, or another one, passed before, and has other coins there.
-- Source: this project's own, after the Pauli frames of C. Gidney, Stim: a fast stabilizer circuit simulator (2021), whose coins
-- have no numbers.
use Rattle.std.specs.Prelude.{◌≡◌, ℕ, ◌+◌, Bool, List, Option, take, drop}
use Rattle.stab_gates.specs.declared.letter.Letter.{Letter}
use Rattle.stab_gates.specs.Letters.{◌⊕◌}
use Rattle.stab_items.specs.Steps.{Step}
use Rattle.stab_run.specs.Points.{Point, outputs, all_coins_of}
use Rattle.stab_frames.specs.RunPivots.{RunPivots, pivots_of}
use Rattle.stab_frames.specs.PivotsOfSteps.{AreEnough}
use Rattle.stab_frames.specs.Pivots.{AreTrue}
use Rattle.stab_frames.specs.Propagations.{PropagationState, frame_at, PropagatesWith}

-- the coins of a sequence from a number on
abbrev pub coins_from : ℕ → (ℕ → Bool) → ℕ → Bool
coins_from d coins t = coins (d + t)

-- pivots of the one run for the other
abbrev pub pivots_between : (ℕ → Option (List Letter)) → (ℕ → Bool) → (ℕ → Bool) → RunPivots
pivots_between strings coins others = pivots_of strings (λ t. others t ⊕ coins t)

-- from a point, with these coins, a run passes steps: its randomness there is this from its coin on, pivots of its random
-- outcomes are recorded, and these are its outcomes there
pub record HasGoneOver (n : ℕ) (coins : ℕ → Bool) (strings : ℕ → Option (List Letter)) (free bits : List Bool) (xs : List Step) (k : ℕ) (a : Point) : Type 0 where
  pub coin : a.coin ≡ k
  pub are_true : AreTrue n coins strings xs a
  pub randomness : (outputs n coins xs a).free ≡ take (all_coins_of xs) (drop k free)
  pub outcomes : (outputs n coins xs a).outcomes ≡ bits

-- a frame was propagated over steps from one run to another with these coins, by pivots that are enough, whatever coins the one run had
abbrev pub PropagatesToOthers : ℕ → (ℕ → Option (List Letter)) → (free outcomes : List Bool) → (others : ℕ → Bool) → List Step → PropagationState → PropagationState → Type 0
PropagatesToOthers n strings free outcomes others xs old new =
    (coins : ℕ → Bool) (a : Point) → HasGoneOver n coins strings free outcomes xs old.coin a →
    PropagatesWith n (pivots_between strings coins others) xs old new
    × ((base : ℕ) → AreEnough n coins (pivots_between strings coins others) xs (frame_at base old) a)
