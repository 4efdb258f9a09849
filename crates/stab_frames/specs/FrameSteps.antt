-- Frame steps: the frame after a step, by the one before it, and which bits of what the step gives are flipped.
-- Source: C. Gidney, Stim (2021), for what gates, measurements and resets make of a frame. If Stim multiplies a string on at
-- random, a pivot says which, and the coins whether.
use Rattle.std.specs.Prelude.{ℕ, ◌+◌, Bool, true, false, ◌&&◌, List, [], ◌∷◌, ◌++◌, Option, Some, None}
use Rattle.stab_gates.specs.declared.letter.Letter.{Letter}
use Rattle.stab_gates.specs.Letters.{◌⊕◌}
use Rattle.stab_pauli.specs.Paulis.{Signed, single, strings_anticommute}
use Rattle.stab_tableau.specs.Gates.{image, image_pair}
use Rattle.stab_items.specs.Steps.{Step, one, two, controlled, collapse, product, detector, observable}
use Rattle.stab_run.specs.Records.{looked_up, parity}
use Rattle.stab_run.specs.Runs.{when, string_of, flip_of}
use Rattle.stab_run.specs.Points.{RunOutput, nothing, joined, coins_of}
use Rattle.stab_frames.specs.Frames.{plus, Frame, times_where}
use Rattle.stab_frames.specs.RunPivots.{RunPivots}

-- whether an outcome is flipped, by its pivot, whether the coins differ, and whether the frame anticommutes with what is measured: a fixed
-- one if it anticommutes, a random one if the coins differ
abbrev pub flip_by : Option (List Letter) → Bool → Bool → Bool
flip_by None change anticommuting = anticommuting
flip_by (Some s) change anticommuting = change

-- and the frame's letters after it: times the pivot, if the outcomes differ otherwise than the letters have it
abbrev pub letters_for : Option (List Letter) → Bool → Bool → List Letter → List Letter
letters_for None change anticommuting f = f
letters_for (Some s) change anticommuting f = times_where (change ⊕ anticommuting) s f

-- the same by what is measured
abbrev pub flipped_by : Option (List Letter) → Bool → Signed → List Letter → Bool
flipped_by pivot change measured f = flip_by pivot change (strings_anticommute f measured.letters)

abbrev pub letters_by : Option (List Letter) → Bool → Signed → List Letter → List Letter
letters_by pivot change measured f = letters_for pivot change (strings_anticommute f measured.letters) f

-- and by pivots and a coin number
abbrev pub flips_outcome : RunPivots → ℕ → Signed → List Letter → Bool
flips_outcome pivots coin measured f = flipped_by (pivots.strings coin) (pivots.changes coin) measured f

abbrev pub letters_measured : RunPivots → ℕ → Signed → List Letter → List Letter
letters_measured pivots coin measured f = letters_by (pivots.strings coin) (pivots.changes coin) measured f

-- the letters after a step: what a gate makes of them, and what one run alone applies multiplied on
abbrev pub letters_after : ℕ → RunPivots → Step → ℕ → Frame → List Letter
letters_after n pivots (one g q) coin f = (image g q (plus f.letters)).letters
letters_after n pivots (two g a b) coin f = (image_pair g a b (plus f.letters)).letters
letters_after n pivots (controlled l k q) coin f = times_where (looked_up f.flips k) (single n q l).letters f.letters
letters_after n pivots (collapse l q recorded inverted resets) coin f =
    times_where (resets && flips_outcome pivots coin (single n q l) f.letters) (single n q (flip_of l)).letters
    (letters_measured pivots coin (single n q l) f.letters)
letters_after n pivots (product factors inverted) coin f = letters_measured pivots coin (string_of n factors) f.letters
letters_after n pivots (detector ks) coin f = f.letters
letters_after n pivots (observable j ks) coin f = f.letters

-- what is flipped by a measurement, with a record or without one
abbrev pub one_flipped : Bool → Bool → RunOutput
one_flipped recorded flip = record nothing { records = when recorded flip; free = false ∷ []; outcomes = flip ∷ [] }

-- which bits of what a step gives are flipped; which outcomes are random is the same
abbrev pub flips_given : ℕ → RunPivots → Step → ℕ → Frame → RunOutput
flips_given n pivots (one g q) coin f = nothing
flips_given n pivots (two g a b) coin f = nothing
flips_given n pivots (controlled l k q) coin f = nothing
flips_given n pivots (collapse l q recorded inverted resets) coin f = one_flipped recorded (flips_outcome pivots coin (single n q l) f.letters)
flips_given n pivots (product factors inverted) coin f = one_flipped true (flips_outcome pivots coin (string_of n factors) f.letters)
flips_given n pivots (detector ks) coin f = record nothing { detectors = parity f.flips ks ∷ [] }
flips_given n pivots (observable j ks) coin f = record nothing { additions = record { observable = j; bit = parity f.flips ks } ∷ [] }

-- the frame after a step with coins from this number on
abbrev pub frame_after : ℕ → RunPivots → Step → ℕ → Frame → Frame
frame_after n pivots x coin f = record { letters = letters_after n pivots x coin f; flips = f.flips ++ (flips_given n pivots x coin f).records }

-- the frame after steps
abbrev pub frame_over : ℕ → RunPivots → List Step → ℕ → Frame → Frame
frame_over n pivots [] coin f = f
frame_over n pivots (x ∷ xs) coin f = frame_over n pivots xs (coin + coins_of x) (frame_after n pivots x coin f)

-- which bits of what steps give are flipped
abbrev pub flips_over : ℕ → RunPivots → List Step → ℕ → Frame → RunOutput
flips_over n pivots [] coin f = nothing
flips_over n pivots (x ∷ xs) coin f = joined (flips_given n pivots x coin f) (flips_over n pivots xs (coin + coins_of x) (frame_after n pivots x coin f))
