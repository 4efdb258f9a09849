use Rattle.stab_pauli.proofs.Names.{◌≡◌, ℕ, ◌+◌, ◌-◌, ◌*◌, ◌^◌, ◌<◌, ◌≤◌, get_or, chunk, I, has_x, chooses, row_letters}
use Rattle.stab_pauli.proofs.packed.part.mask_of_x.Given as goal

abbrev pub invariant-loop-a : goal.invariant-loop-a
invariant-loop-a l = record {
  in_range : l.a ≤ 8;
  value : (k : ℕ) → l.a + k < 8 → chooses l.mask k ≡ has_x (get_or (row_letters l.blocks (chunk (8 * l.blocks * (l.a + k)) (8 * l.blocks) l.part)) l.qubit I);
  short : l.mask < 2 ^ (8 - l.a);
}

abbrev pub decreases-loop-a : goal.decreases-loop-a
decreases-loop-a l = l.a
