use Rattle.stab_regions.proofs.Names.{◌∙◌, reverse, circuit_items, IsSingleErrorTable, sites_asked}
use Rattle.stab_regions.proofs.SingleErrorTableLemmas.{are-deterministic, determine-long, determine-found, table-flips, table-backwards}
use Rattle.stab_regions.proofs.SingleErrorSumLemmas.{rows-add}
use Rattle.stab_regions.proofs.WalkLemmas.{swept-regions, swept-rows}
use Rattle.stab_regions.proofs.single_error_table.single_errors_of_checked.Goals as goal

pub returns : goal.returns
returns c =
    let n = c.args.n in
    let items = circuit_items c.args.circuit.now in
    let deterministic = c.deterministic-deterministic.result.items in
    let rows = reverse c.keep.new.self in
    let fits = c.in_ok-walk.ensures.fits in
    let sweep = c.in_ok-walk.field-0 in
    let numbered = c.in_ok-walk.ensures.numbered in
    let swept = c.in_ok-walk.ensures.swept in
    let regions = swept-regions c.asked_for-asked.result sweep n items numbered swept in
    let determines = c.deterministic-deterministic.ensures.value in
    let found = determine-found n items sweep.walk deterministic determines regions in
    let table : IsSingleErrorTable n c.args.everywhere items deterministic rows = record {
      are_deterministic = are-deterministic n items deterministic c.deterministic_parities.ensures.law fits (determine-long n items sweep.walk deterministic determines regions) found;
      are_flipped = λ coins.
          table-backwards deterministic c.as_slice.result.now sweep.rows c.keep.new.self c.as_slice.ensures.value c.keep.ensures.value
          ∙ table-flips n c.args.everywhere items deterministic coins (sites_asked c.asked_for-asked.result) (reverse sweep.rows)
          c.single_errors_flip_parities.ensures.sites fits found c.asked_for-asked.ensures.value (swept-rows c.asked_for-asked.result sweep n items numbered swept);
    } in
    record {
      table = table;
      adds = rows-add n c.args.everywhere items deterministic rows fits table c.single_errors_add.ensures.law;
      err = tt;
    }
