-- Way laws: that `faults` and the way of a string agree.
-- Source: this project's own.
use Rattle.std.specs.Prelude.{◌≡◌, ℕ, ◌<◌, Bool, false, List, ◌++◌, All, replicate, slice_index_or}
use Rattle.stab_pauli.specs.Paulis.{single}
use Rattle.stab_items.specs.Items.{Items}
use Rattle.stab_items.specs.Steps.{unroll, observables_of}
use Rattle.stab_run.specs.Points.{RunOutput, with_additions}
use Rattle.stab_run.specs.ProgramStates.{StepFits}
use Rattle.stab_regions.specs.SingleErrors.{SingleError, IsDeterministic, bits_in, flips}
use Rattle.stab_ways.specs.PutIn.{string_flips}

-- the detectors and observables that are flipped
abbrev pub parities_flipped : Items → RunOutput → List Bool
parities_flipped items flips = flips.detectors ++ with_additions flips.additions (replicate (observables_of items) false)

-- a single error flips a detector or observable that is the same for all random bits exactly if its letter, put in at its site as a string, does
abbrev pub SingleErrorsAreWays : Type 0
SingleErrorsAreWays =
    (n : ℕ) (items : Items) (f : SingleError) (i : ℕ) → All (StepFits n) (unroll items) → f.qubit < n → i < bits_in items → IsDeterministic n items i →
    (coins : ℕ → Bool) → flips n items coins f i ≡ slice_index_or (parities_flipped items (string_flips n f.before (single n f.qubit f.letter).letters (unroll items))) i false
