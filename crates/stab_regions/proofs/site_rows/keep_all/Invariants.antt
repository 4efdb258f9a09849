use Rattle.stab_regions.proofs.Names.{◌≡◌, take, flat_map, step_shown, step_qubits, All}
use Rattle.stab_regions.specs.inner.SiteRows.{rows_on, Ascend}
use Rattle.stab_regions.proofs.site_rows.keep_all.Given as goal

abbrev pub invariant-qubits : goal.invariant-qubits
invariant-qubits l = record {
  value : l.retained ≡ flat_map (rows_on l.by_x l.by_z) (take l.k (step_qubits (step_shown l.step)));
  ascend : All (Ascend l.by_x l.by_z) (take l.k (step_qubits (step_shown l.step)));
}
