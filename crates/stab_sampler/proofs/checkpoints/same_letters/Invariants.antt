use Rattle.stab_sampler.proofs.Names.{◌≡◌, ℕ, ◌<◌, slice_index_or, I, lane_letters}
use Rattle.stab_sampler.proofs.checkpoints.same_letters.Given as goal

abbrev pub invariant-loop-qubit : goal.invariant-loop-qubit
invariant-loop-qubit g l = (j : ℕ) → j < g.W.Word.lanes → (q : ℕ) → q < l.qubit
    → slice_index_or (lane_letters g.W.Word.at j l.letters) q I ≡ slice_index_or (lane_letters g.W.Word.at j l.others) q I
