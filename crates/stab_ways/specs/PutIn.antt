-- Strings put in: a Pauli string that is put in between two steps of a circuit, what it becomes on its way, and what it flips.
-- Source: Pauli frames, as in C. Gidney, Stim: a fast stabilizer circuit simulator (2021). That no stabiliser is multiplied on at a
-- random outcome, that its coin is exchanged in place of that, and that a reset leaves no letter, is this project's own.
use Rattle.std.specs.Prelude.{ℕ, suc, Bool, false, ◌&&◌, List, [], ◌∷◌, ◌++◌, take, drop, slice_index_or, not}
use Rattle.stab_gates.specs.declared.letter.Letter.{Letter}
use Rattle.stab_gates.specs.Letters.{◌⊕◌, letter_product}
use Rattle.stab_pauli.specs.Paulis.{single}
use Rattle.stab_tableau.specs.Gates.{letter_at}
use Rattle.stab_items.specs.Steps.{Step, one, two, controlled, collapse, product, detector, observable, records_of}
use Rattle.stab_run.specs.Runs.{gate_of}
use Rattle.stab_run.specs.Points.{RunOutput, nothing, joined}
use Rattle.stab_frames.specs.Frames.{Frame, frame_of, identity_frame, times_where}
use Rattle.stab_frames.specs.RunPivots.{RunPivots, no_strings}
use Rattle.stab_frames.specs.FrameSteps.{letters_after, flips_given}
use Rattle.stab_frames.specs.inner.Touches.{acts}

-- the letters of a string as gates, one on each qubit from this one on; the gate of I does nothing
abbrev pub letter_gates : ℕ → List Letter → List Step
letter_gates q [] = []
letter_gates q (l ∷ letters) = one (gate_of l) q ∷ letter_gates (suc q) letters

-- the steps with a string put in after the first k of them
abbrev pub with_string_in : ℕ → List Letter → List Step → List Step
with_string_in k string xs = (take k xs ++ letter_gates 0 string) ++ drop k xs

-- how measurements take a string: each outcome is flipped exactly if it anticommutes with what is measured, whether or not a coin decides
-- it, and nothing is multiplied on
abbrev pub by_letters : RunPivots
by_letters = no_strings (λ t. false)

-- what is left of letters after a reset to the letter l: without it, as it stabilises there; so no letter is left on the qubit
abbrev pub reset_leaves : ℕ → Bool → Letter → ℕ → List Letter → List Letter
reset_leaves n resets l q letters = times_where (resets && not (acts (letter_product (letter_at letters q) l))) (single n q l).letters letters

-- and after a step
abbrev pub step_leaves : ℕ → Step → List Letter → List Letter
step_leaves n (one g q) letters = letters
step_leaves n (two g a b) letters = letters
step_leaves n (controlled l k q) letters = letters
step_leaves n (collapse l q recorded inverted resets) letters = reset_leaves n resets l q letters
step_leaves n (product factors inverted) letters = letters
step_leaves n (detector ks) letters = letters
step_leaves n (observable j ks) letters = letters

-- the frame after a step, and after steps
abbrev pub way_after : ℕ → Step → Frame → Frame
way_after n x f = record { letters = step_leaves n x (letters_after n by_letters x 0 f); flips = f.flips ++ (flips_given n by_letters x 0 f).records }

abbrev pub way_over : ℕ → List Step → Frame → Frame
way_over n [] f = f
way_over n (x ∷ xs) f = way_over n xs (way_after n x f)

-- what it flips of all that steps give
abbrev pub way_flips : ℕ → List Step → Frame → RunOutput
way_flips n [] f = nothing
way_flips n (x ∷ xs) f = joined (flips_given n by_letters x 0 f) (way_flips n xs (way_after n x f))

-- the frame as which it begins: it flips none of the records before it
abbrev pub frame_begun : ℕ → List Letter → List Step → Frame
frame_begun k string xs = frame_of string (records_of (take k xs))

-- the string after m steps, if it is put in after k
abbrev pub string_after : ℕ → ℕ → List Letter → List Step → ℕ → List Letter
string_after n k string xs m = (way_over n (drop k (take m xs)) (frame_begun k string xs)).letters

-- what it flips of all that the steps give: nothing before it
abbrev pub string_flips : ℕ → ℕ → List Letter → List Step → RunOutput
string_flips n k string xs =
    joined (way_flips n (take k xs) (identity_frame n 0)) (way_flips n (drop k xs) (frame_begun k string xs))

-- coins, of which those of the random outcomes that are flipped are exchanged, and no others
abbrev pub coins_exchanged : (free flips : List Bool) → (ℕ → Bool) → ℕ → Bool
coins_exchanged free flips coins t = (slice_index_or free t false && slice_index_or flips t false) ⊕ coins t
