use Rattle.stab_search.proofs.Names.{◌<◌, ℕ, List, AreRowsOf, sym, ◌∙◌, subst, arith, length, HaveClasses}
use Rattle.stab_search.proofs.enough_errors.of_one_class.Goals as goal

pub rows-preserved : goal.rows-preserved
rows-preserved c =
    let inside : c.rows.r < length c.args.retained.now.errors.table.rows = omega (arith, c.rows-test.true, c.min-r-end.ensures, c.len.ensures.value) in record {
      rows = λ rows are.
          let read : AreRowsOf rows c.args.retained.now.errors.table.rows c.as_slice-numbers.result.now =
          subst (λ (xs : List ℕ). AreRowsOf rows c.args.retained.now.errors.table.rows xs) (sym c.as_slice-numbers.ensures.value) are in
          c.in_ok-add_if_of_one_class.ensures.rows rows (read.same c.rows.r inside).0 (sym (read.same c.rows.r inside).1 ∙ sym c.row.ensures.value) (c.rows.invariant.rows rows are);
      classes = subst (λ (d : ℕ). HaveClasses (record { detectors = d; rows = c.add_if_of_one_class.new.chosen.rows.items }) c.args.classes.now) c.detectors.ensures.value
          (c.in_ok-add_if_of_one_class.ensures.classes
          (subst (λ (d : ℕ). HaveClasses (record { detectors = d; rows = c.rows.chosen.rows.items }) c.args.classes.now) (sym c.detectors.ensures.value) c.rows.invariant.classes));
    }
