-- Lanes: what a lane of words stands for.
-- Source: the shots of C. Gidney, Stim (2021), which lie side by side in words.
use Rattle.std.specs.Prelude.{ℕ, Bool, true, false, List, [], map}
use Rattle.stab_gates.specs.declared.letter.Letter.{Letter}
use Rattle.stab_gates.specs.Letters.{letter_product}
use Rattle.stab_pauli.specs.inner.Words.{letter_of_bits}
use Rattle.stab_run.specs.declared.records.Addition.{Addition}
use Rattle.stab_run.specs.Points.{RunOutput}
use Rattle.stab_sampler.specs.declared.letters.Letters.{Letters}
use Rattle.stab_sampler.specs.declared.lanes.Sum.{Sum}
use Rattle.stab_sampler.specs.declared.lanes.Lanes.{Lanes}

-- the bits of a lane of words
abbrev pub lane_bits : {W : Type 0} → (W → ℕ → Bool) → ℕ → List W → List Bool
lane_bits at l words = map (λ w. at w l) words

-- the letter of a lane, by its X bit and its Z bit
abbrev pub letter_in : {W : Type 0} → (W → ℕ → Bool) → ℕ → Letters W → Letter
letter_in at l w = letter_of_bits (at w.x l) (at w.z l)

-- the Pauli string of a lane
abbrev pub lane_letters : {W : Type 0} → (W → ℕ → Bool) → ℕ → List (Letters W) → List Letter
lane_letters at l words = map (letter_in at l) words

-- a letter times another, if the bit is 1
abbrev pub letter_times : Bool → Letter → Letter → Letter
letter_times true more letter = letter_product letter more
letter_times false more letter = letter

-- what a lane adds to observables
abbrev pub lane_additions : {W : Type 0} → (W → ℕ → Bool) → ℕ → List (Sum W) → List Addition
lane_additions at l sums = map (λ s. record { observable = s.observable; bit = at s.parity l }) sums

-- what a lane has given so far; it keeps no outcomes
abbrev pub lane_output : {W : Type 0} → (W → ℕ → Bool) → ℕ → Lanes W → RunOutput
lane_output at l lanes = record {
  records = lane_bits at l lanes.records.items;
  free = lanes.free.items;
  outcomes = [];
  detectors = lane_bits at l lanes.detectors.items;
  additions = lane_additions at l lanes.sums.items;
}
