use Rattle.stab_recording.proofs.Names.{◌≡◌, ◌++◌, false, length, replicate, take, drop, I}
use Rattle.stab_recording.proofs.rest_of_run.string_of.Given as goal

-- the letters up to this qubit were put in
abbrev pub invariant-loop-qubit : goal.invariant-loop-qubit
invariant-loop-qubit l = record {
  positive : l.string.negative ≡ false;
  letters : l.string.letters ≡ take l.qubit l.letters ++ drop l.qubit (replicate (length l.letters) I);
}
