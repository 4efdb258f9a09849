use Rattle.stab_search.proofs.Names.{◌≡◌, ◌<◌, ◌∙◌, arith, length, get_or, get_or_read}
use Rattle.stab_search.proofs.ShortestLemmas.{toggle-insert, toggle-remove}
use Rattle.stab_search.proofs.sets.toggle_row.Goals as goal
use Rattle.stab_search.proofs.sets.toggle_row.Goals.{then-pass-test+else-index-r, else-pass-test, else-position-len-via-then-position-len+else-index-r-2, else-position-len-via-else-position-len}

pub returns-then-index-r-2 : goal.returns-then-index-r-2
returns-then-index-r-2 c =
    let lt : c.pass.position < length c.args.set.now.items = omega (arith, c.if-position-len.true) in
    record {
      value = c.remove.ensures.items
          ∙ toggle-remove c.args.r c.args.set.now.items c.pass.position lt c.pass.invariant.passed
          (let read : c.index-then-position-len.result.now ≡ get_or c.args.set.now.items c.pass.position 0 = get_or_read c.args.set.now.items c.pass.position c.index-then-position-len.result.now lt c.index-then-position-len.ensures 0 in
          omega (arith, read, c.if-index-r-2.true));
    }

pub returns-in_ok-insert : goal.returns-in_ok-insert
returns-in_ok-insert c = record {
  value = c.in_ok-insert.ensures.items
      ∙ toggle-insert c.args.r c.args.set.now.items c.pass.position c.pass.invariant.within c.pass.invariant.passed
      (λ lt. elim c.pass-test.branch [
        | then-pass-test+else-index-r w ↦
            let read : w.index.result.now ≡ get_or c.args.set.now.items c.pass.position 0 = get_or_read c.args.set.now.items c.pass.position w.index.result.now lt w.index.ensures 0 in
            elim c.else-position-len.branch [
              | else-position-len-via-then-position-len+else-index-r-2 u ↦
                  let again : u.index-then-position-len.result.now ≡ get_or c.args.set.now.items c.pass.position 0 = get_or_read c.args.set.now.items c.pass.position u.index-then-position-len.result.now lt u.index-then-position-len.ensures 0 in
                  omega (arith, read, again, w.if-index-r.false, u.if-index-r-2.false)
              | else-position-len-via-else-position-len u ↦ absurd (omega (arith, lt, u.if-position-len.false))
            ]
        | else-pass-test w ↦ omega (arith, lt, w.pass-test.false)
      ]);
}
