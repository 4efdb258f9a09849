use Rattle.stab_regions.proofs.Names.{◌≡◌, ℕ, ◌+◌, ◌-◌, ◌*◌, ◌<◌, ◌++◌, ◌∙◌, ap, subst, arith, All, length, drop, reverse, flat_map, step_shown, step_qubits}
use Rattle.stab_regions.proofs.SiteRowLemmas.{around-more, all-before}
use Rattle.stab_regions.specs.inner.SiteRows.{rows_around, Ascend}
use Rattle.stab_regions.proofs.site_rows.add_all.Goals as goal

pub qubits-preserved : goal.qubits-preserved
qubits-preserved c =
    let qs = step_qubits (step_shown c.args.step) in
    let k : ℕ = c.qubits.left - 1 in
    let next : c.qubits.left ≡ k + 1 = omega (arith, c.qubits-test.true) in
    let lt : k < length qs = omega (arith, c.qubits-test.true, c.qubits.invariant.within) in
    record {
      within = omega (arith, c.qubits.invariant.within);
      end = λ following. let was = c.qubits.invariant.end following in omega (arith, was, c.saturating_sub-end.ensures, c.qubits-test.true);
      retained = c.qubits.invariant.retained;
      rows = λ after_x after_z is_retained.
          around-more c.args.sides c.args.by_x.now c.args.by_z.now after_x after_z qs k c.qubit_in.result c.qubits.end c.args.retained.now (reverse c.args.rows.now) (reverse c.qubits.rows)
          (reverse c.add_retained.new.rows) (reverse c.add_front.new.rows) lt c.qubit_in.ensures.value
          (λ following. c.qubits.invariant.end following ∙ ap (λ m. 2 * m) next) is_retained
          (c.qubits.invariant.rows after_x after_z is_retained
          ∙ ap (λ m. flat_map (rows_around c.args.sides c.args.by_x.now c.args.by_z.now after_x after_z) (drop m qs) ++ reverse c.args.rows.now) next)
          c.in_ok-add_retained.ensures.value c.in_ok-add_front.ensures.value;
      ascend = λ front.
          all-before (Ascend c.args.by_x.now c.args.by_z.now) qs k c.qubit_in.result lt c.qubit_in.ensures.value
          (subst (λ m. All (Ascend c.args.by_x.now c.args.by_z.now) (drop m qs)) next (c.qubits.invariant.ascend front)) (c.add_front.ensures.ascend front);
    }
