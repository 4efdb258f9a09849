use Rattle.stab_regions.proofs.Names.{circuit_items, Nowhere}
use Rattle.stab_regions.proofs.SingleErrorTableLemmas.{are-deterministic, determine-long, determine-found}
use Rattle.stab_regions.proofs.WalkLemmas.{swept-regions}
use Rattle.stab_regions.proofs.single_error_table.deterministic_of_checked.Goals as goal

pub returns : goal.returns
returns c =
    let n = c.args.n in
    let items = circuit_items c.args.circuit.now in
    let sweep = c.in_ok-walk.field-0 in
    let regions = swept-regions Nowhere sweep n items c.in_ok-walk.ensures.numbered c.in_ok-walk.ensures.swept in
    let determines = c.deterministic.ensures.value in
    record {
      deterministic =
          are-deterministic n items c.deterministic.result.items c.deterministic_parities.ensures.law c.in_ok-walk.ensures.fits
          (determine-long n items sweep.walk c.deterministic.result.items determines regions)
          (determine-found n items sweep.walk c.deterministic.result.items determines regions);
      err = tt;
    }
