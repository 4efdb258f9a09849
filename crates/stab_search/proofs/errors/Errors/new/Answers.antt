use Rattle.stab_search.proofs.Names.{◌≡◌, ℕ, List, sym, subst, arith, rules, length, ErrorTable, BeginsBefore}
use Rattle.stab_search.proofs.StepLemmas.{no_pairs, all-begin}
use Rattle.stab_search.specs.inner.Indexes.{ListsKeys}
use Rattle.stab_search.proofs.errors.Errors.new.Goals as goal

pub invariant_of-result : goal.invariant_of-result
invariant_of-result c =
    let t : ErrorTable = record { detectors = c.args.detectors; rows = c.args.rows.items } in
    let all : length c.args.rows.items ≡ c.len-firsts.result = omega (arith, c.len-firsts.ensures, c.args.rows.ok.0) in
    record {
      numbered = search rules;
      indexed = subst (λ (xs : List ℕ). ListsKeys xs c.mask_for-mask.result c.in_ok-by_key.by_key.items) c.as_slice-4.ensures.value
          (record { inside = c.in_ok-by_key.ensures.inside; complete = c.in_ok-by_key.ensures.complete });
      keyed = search rules;
      listed = search rules;
      paired = no_pairs c.args.rows.items c.len-firsts.result c.new.result.items c.new.ensures.items;
      inside = search rules;
      begun = subst (BeginsBefore t) all (all-begin t);
    }
