use Rattle.stab_regions.proofs.Names.{arith, ◌<◌, length, step_shown, step_qubits}
use Rattle.stab_regions.proofs.SiteRowLemmas.{preserved-more, all-more}
use Rattle.stab_regions.specs.inner.SiteRows.{Ascend}
use Rattle.stab_regions.proofs.site_rows.keep_all.Goals as goal

pub qubits-preserved : goal.qubits-preserved
qubits-preserved c =
    let qs = step_qubits (step_shown c.args.step) in
    let lt : c.qubits.k < length qs = omega (arith, c.qubits-test.true, c.qubits_in-k-end.ensures.value) in
    record {
      value = preserved-more c.args.by_x.now c.args.by_z.now qs c.qubits.k c.qubit_in.result c.qubits.retained c.keep_on.new.retained lt c.qubit_in.ensures.value c.qubits.invariant.value c.in_ok-keep_on.ensures.value;
      ascend = all-more (Ascend c.args.by_x.now c.args.by_z.now) qs c.qubits.k c.qubit_in.result lt c.qubit_in.ensures.value c.qubits.invariant.ascend c.keep_on.ensures.ascend;
    }
