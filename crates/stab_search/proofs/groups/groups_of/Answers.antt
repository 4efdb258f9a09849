use Rattle.stab_search.proofs.Names.{arith}
use Rattle.stab_search.proofs.GroupLemmas.{so-far_more, so-far_all}
use Rattle.stab_search.proofs.groups.groups_of.Goals as goal

pub rows-preserved : goal.rows-preserved
rows-preserved c =
    so-far_more c.args.table.now c.rows.r c.rows.groups.rows.items c.rows.groups.weights.items (omega (arith, c.rows-test.true, c.len-size.ensures.value)) c.rows.invariant
    c.row.result.now c.add.new.groups.rows.items c.add.new.groups.weights.items c.row.ensures.value c.in_ok-add.ensures.added

pub returns : goal.returns
returns c = record {
  groups = so-far_all c.args.table.now c.rows.r c.rows.groups.rows.items c.rows.groups.weights.items (omega (arith, c.rows-test.false, c.len-size.ensures.value)) c.rows.invariant;
}
