-- Walks: what the values of the code show of a walk, after steps and after an instruction.
use Rattle.stab_ways.proofs.Names.{◌≡◌, ℕ, ◌+◌, ◌∙◌, ap, false, List, length, take, arith, coins-few, Step, PropagationState, passed, WalkState, frame_at, way_over, Part, changed_string, listed_string, append-nil, ◌++◌, past_steps, reported, IsWalkOn}
use Rattle.stab_ways.specs.declared.walk.Walk.{Walk}
use Rattle.stab_ways.proofs.PassLemmas.{none-placed}
use Rattle.stab_ways.proofs.WalkedLemmas.{changed_string-same}

-- steps are passed

pub walk-passed : (n j : ℕ) (zs : List Step) (old new : Walk) → IsWalkOn n old → new.propagation ≡ passed n (take j zs) old.propagation
    → length new.propagation.letters ≡ length old.propagation.letters → new.steps ≡ old.steps + j → new.strings ≡ old.strings → IsWalkOn n new
walk-passed n j zs old new walks is size steps strings = record {
  size = size ∙ walks.size;
  placed = none-placed old.propagation new.propagation (ap (λ (p : PropagationState). p.number) is) walks.placed;
  coins = omega (arith, ap (λ (p : PropagationState). p.coin) is, coins-few j zs, walks.coins, steps);
  qubits = ap (λ s. s.qubits) strings ∙ walks.qubits;
  none = ap (λ s. s.strings) strings ∙ walks.none;
}

-- and the string is not listed, if it is as it was

pub reported-preserved : (n : ℕ) (q : Part) (w : WalkState) → w.every ≡ false → length w.frame.letters ≡ n → (way_over n q.steps (frame_at 0 w.frame)).letters ≡ w.frame.letters
    → reported n q w ≡ past_steps n q.steps w
reported-preserved n q w turns size preserved = λ i. record (past_steps n q.steps w) {
  turns = (ap (λ b. w.turns ++ listed_string b q.tick (w.steps + length q.steps) w.frame.letters (passed n q.steps w.frame).letters) turns
      ∙ ap (λ s. w.turns ++ changed_string (w.steps + length q.steps) w.frame.letters s) preserved
      ∙ ap (λ ts. w.turns ++ ts) (changed_string-same (w.steps + length q.steps) n w.frame.letters size)
      ∙ append-nil w.turns) i;
}
