use Rattle.stab_sampler.proofs.Names.{◌≡◌, ℕ, ◌-◌, ◌<◌, ◌≤◌, take, length, times_where, lane_letters}
use Rattle.stab_sampler.proofs.frames.Frames.multiply.Given as goal

abbrev pub invariant-loop-qubit : goal.invariant-loop-qubit
invariant-loop-qubit g l = record {
  size : length l.self.letters.items ≡ length l.initial.self.letters.items;
  within : l.qubit ≤ length l.self.letters.items;
  letters : (k : ℕ) → k < g.W.Word.lanes
      → lane_letters g.W.Word.at k l.self.letters.items ≡ times_where (g.W.Word.at l.lanes k) (take l.qubit l.string.letters) (lane_letters g.W.Word.at k l.initial.self.letters.items);
}

abbrev pub decreases-loop-qubit : goal.decreases-loop-qubit
decreases-loop-qubit g l = length l.self.letters.items - l.qubit
