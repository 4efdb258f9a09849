use Rattle.stab_session.proofs.Names.{◌≡◌, ◌+◌, ◌≤◌, length, take, drop, vec_capacity, with_states}
use Rattle.stab_session.proofs.rest.put_states.Given as goal

abbrev pub invariant-loop-state : goal.invariant-loop-state
invariant-loop-state l = record {
  front : take l.from l.checkpoints.items ≡ take l.from l.initial.checkpoints.items;
  states : with_states l.states.items (drop l.from l.checkpoints.items) ≡ with_states l.initial.states.items (drop l.from l.initial.checkpoints.items);
  within : l.from + length l.states.items ≤ length l.checkpoints.items;
  capacity : vec_capacity l.checkpoints ≡ vec_capacity l.initial.checkpoints;
}

abbrev pub decreases-loop-state : goal.decreases-loop-state
decreases-loop-state l = length l.states.items
