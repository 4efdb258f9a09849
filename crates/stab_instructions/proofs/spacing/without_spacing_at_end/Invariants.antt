use Rattle.stab_instructions.proofs.Names.{◌≡◌, ◌≤◌, ◌+◌, length, take, suffix_len, is_spacing}
use Rattle.stab_instructions.proofs.spacing.without_spacing_at_end.Given as goal

abbrev pub invariant-loop-end : goal.invariant-loop-end
invariant-loop-end l = record {
  within : l.end ≤ length l.bytes;
  same : l.end + suffix_len is_spacing l.bytes ≡ length l.bytes + suffix_len is_spacing (take l.end l.bytes);
}

abbrev pub decreases-loop-end : goal.decreases-loop-end
decreases-loop-end l = l.end
