use Rattle.stab_search.proofs.Names.{below_more, get_or, length, bit_and}
use Rattle.stab_search.proofs.IndexLemmas.{added-has, preserved-has, preserved-inside}
use Rattle.stab_search.proofs.keys.rows_by_key.Goals as goal

pub keys-preserved : goal.keys-preserved
keys-preserved c =
    let position = bit_and (get_or c.args.keys.now c.keys.r 0) c.args.mask in
    let old = c.keys.index.items in
    let new = c.list.new.index.items in
    record {
      inside = λ e. preserved-inside old new position c.keys.r c.in_ok-list.ensures.here c.in_ok-list.ensures.elsewhere (length c.args.keys.now) e c.keys-test.true (c.keys.invariant.inside e);
      complete = below_more _ _
          (λ q lt. preserved-has old new position c.keys.r c.in_ok-list.ensures.here c.in_ok-list.ensures.elsewhere (bit_and (get_or c.args.keys.now q 0) c.args.mask) q (c.keys.invariant.complete q lt))
          (added-has old new position c.keys.r c.in_ok-list.ensures.here c.in_ok-list.ensures.elsewhere);
    }
