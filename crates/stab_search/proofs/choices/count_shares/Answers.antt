use Rattle.stab_search.proofs.Names.{◌≡◌, ℕ, ◌<◌, arith, Bool, ap, length, take, odd, row, shares, get_or, length-take, if◌then◌else◌}
use Rattle.stab_search.proofs.ListLemmas.{by-bit}
use Rattle.stab_search.proofs.ScanLemmas.{shares-passed, shares-within}
use Rattle.stab_search.proofs.choices.count_shares.Goals as goal

-- a bit as a number
abbrev ℕ-if : Bool → ℕ
ℕ-if b = if b then 1 else 0

pub loop-position-preserved : goal.loop-position-preserved
loop-position-preserved c = record {
  covers = λ e inside some.
      let rows = c.args.errors.now.table.rows in
      let ds = c.args.detectors.now in
      let k = c.loop-position.position in
      let at : k < length ds = c.loop-position-test.true in
      let one = shares-passed rows e ds k at in
      let old = c.loop-position.invariant.covers e inside some in
      let few = shares-within rows e (take k ds) in
      let short = length-take k ds in
      by-bit (odd (get_or ds k 0) (row rows e))
      (λ flips.
      let is : ℕ-if (odd (get_or ds k 0) (row rows e)) ≡ 1 = ap ℕ-if flips in
      let more = c.count_each.ensures.more e (c.flipping.ensures.complete e inside flips) some (omega (arith, inside, c.requires.weights))
      (omega (arith, inside, c.loop-position.invariant.length)) (shares rows e (take k ds)) (omega (arith, few, short, at)) old in
      omega (arith, one, is, more))
      (λ not. let is : ℕ-if (odd (get_or ds k 0) (row rows e)) ≡ 0 = ap ℕ-if not in omega (arith, one, is, old, c.count_each.ensures.others e));
  length = omega (arith, c.loop-position.invariant.length, c.count_each.ensures.length);
}
