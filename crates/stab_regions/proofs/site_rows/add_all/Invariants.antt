use Rattle.stab_regions.proofs.Names.{◌≡◌, ℕ, ◌*◌, ◌≤◌, ◌++◌, true, List, length, drop, reverse, flat_map, step_shown, step_qubits, All}
use Rattle.stab_regions.specs.inner.SiteRows.{rows_on, rows_around, Ascend}
use Rattle.stab_regions.proofs.site_rows.add_all.Given as goal

abbrev pub invariant-qubits : goal.invariant-qubits
invariant-qubits l = record {
  within : l.left ≤ length (step_qubits (step_shown l.step));
  end : l.sides.following ≡ true → l.end ≡ 2 * l.left;
  retained : l.sides.following ≡ true → length l.retained ≡ 2 * length (step_qubits (step_shown l.step));
  rows : (after_x after_z : List (List ℕ)) → (l.sides.following ≡ true → l.retained ≡ flat_map (rows_on after_x after_z) (step_qubits (step_shown l.step)))
      → reverse l.rows ≡ flat_map (rows_around l.sides l.by_x l.by_z after_x after_z) (drop l.left (step_qubits (step_shown l.step))) ++ reverse l.initial.rows;
  ascend : l.sides.front ≡ true → All (Ascend l.by_x l.by_z) (drop l.left (step_qubits (step_shown l.step)));
}

abbrev pub decreases-qubits : goal.decreases-qubits
decreases-qubits l = l.left
