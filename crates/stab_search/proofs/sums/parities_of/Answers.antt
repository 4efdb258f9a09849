use Rattle.stab_search.proofs.Names.{◌≡◌, ◌+◌, [], ◌∷◌, ◌++◌, ◌∙◌, sym, subst, ap, arith, length, get_or, take, AreParities, Adds}
use Rattle.std.proofs.Common.{length-take-le}
use Rattle.std.proofs.lemmas.Grind.{take_at_read}
use Rattle.stab_search.proofs.ParityLemmas.{parities-more}
use Rattle.stab_search.proofs.sums.parities_of.Goals as goal

pub errors-preserved : goal.errors-preserved
errors-preserved c =
    let rows = c.args.table.now.rows in
    let k = c.errors.number in
    let before = length-take-le k rows (omega (arith, c.errors-test.true, c.len-number-end.ensures.value)) in record {
      first = c.add_error.ensures.first ∙ c.errors.invariant.first;
      built = c.in_ok-add_error.ensures.built;
      parities = subst (λ l. AreParities l c.add_error.new.built.sums.items c.add_error.new.built.parities.items) (sym (take_at_read rows k [] (omega (arith, c.errors-test.true, c.len-number-end.ensures.value))).1)
          (parities-more (take k rows) (get_or rows k []) (k + 1) c.errors.built.sums.items c.errors.built.parities.items c.add_error.new.built.sums.items c.add_error.new.built.parities.items
          (ap (λ m. m + 1) (sym before)) c.errors.invariant.parities
          (subst (λ r. Adds (k + 1) r c.errors.built.sums.items c.errors.built.parities.items c.add_error.new.built.sums.items c.add_error.new.built.parities.items) c.row.ensures.value c.in_ok-add_error.ensures.adds));
    }
