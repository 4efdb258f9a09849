-- Recordings of a part: a run with all coins 0 on its way, and what is recorded of the last steps that it went over.
-- Source: this project's own.
use Rattle.std.specs.Prelude.{◌≡◌, ℕ, ◌≤◌, List, length, take, drop, min}
use Rattle.stab_items.specs.Steps.{Step}
use Rattle.stab_run.specs.Records.{ones}
use Rattle.stab_run.specs.Points.{RunOutput, origin, point_after, outputs, all_coins_of}
use Rattle.stab_run.specs.ProgramStates.{IsAt, program_state, output_of}
use Rattle.stab_frames.specs.Limits.{most_strings}
use Rattle.stab_frames.specs.Pivots.{pivot_at}
use Rattle.stab_frames.specs.PivotsOfSteps.{AreRight}
use Rattle.stab_sampler.specs.declared.part_recording.PartRecording.{PartRecording}
use Rattle.stab_run.specs.Coins.{zero_coins}

-- its strings have n letters, and as many are recorded as there may be
pub record IsSized (n : ℕ) (r : PartRecording) : Type 0 where
  pub qubits : r.tableau.qubits ≡ n
  pub string : length r.string.letters ≡ n
  pub written : length r.pivots.string.letters ≡ n
  pub strings : r.pivots.strings.qubits ≡ n
  pub most : r.pivots.strings.most ≡ most_strings n

-- what it gave, with the randomness of all coin numbers
abbrev pub given_by_part : PartRecording → RunOutput
given_by_part r = record (output_of r.outputs) { free = r.free.items }

-- it went over these steps
pub record IsPartRecording (n : ℕ) (xs : List Step) (r : PartRecording) : Type 0 where
  pub arrived : IsAt n (program_state r.tableau (output_of r.outputs)) (point_after n zero_coins xs origin)
  pub gave : given_by_part r ≡ outputs n zero_coins xs origin

-- of the steps ys, after others, the random outcomes are reported, and no other; their strings are recorded as far as there may be as many,
-- and right if all are
pub record HasPivots (n : ℕ) (xs ys : List Step) (r : PartRecording) : Type 0 where
  pub determined : drop (all_coins_of xs) r.outputs.free.items ≡ (outputs n zero_coins ys (point_after n zero_coins xs origin)).free
  pub others : ones (take (all_coins_of xs) r.outputs.free.items) ≡ 0
  pub number : length r.pivots.strings.strings ≡ min (ones r.outputs.free.items) (most_strings n)
  pub few : ones r.outputs.free.items ≤ length ys
  pub right : length r.pivots.strings.strings ≡ ones r.outputs.free.items →
      AreRight n zero_coins (pivot_at r.pivots.strings.strings r.outputs.free.items) ys (point_after n zero_coins xs origin)
