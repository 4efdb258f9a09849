use Rattle.stab_tableau.proofs.Names.{ℕ, ◌*◌, ◌∙◌, inr, length, arith, Z, signed_path}
use Rattle.stab_tableau.proofs.CollapsedGroupLemmas.{groups-rest, groups-done}
use Rattle.stab_tableau.proofs.TableauColumnLemmas.{column-all, column-group}
use Rattle.stab_tableau.proofs.rows.collapse_rows_with_pivot.Goals as goal

pub loop-group-preserved : goal.loop-group-preserved
loop-group-preserved c =
    let inv = c.loop-group.invariant in
    let made = c.collapse_group-mask.ensures in
    let put = c.put_letters.ensures in
    let first : ℕ = 32 * c.loop-group.group in
    record {
      size = made.size ∙ inv.size;
      done = λ q near lt.
          groups-done c.args.position first c.args.multiplier.now c.args.table.now c.loop-group.table c.collapse_group-mask.new.table inv.rest made.others inv.done
          (λ j le lj lt. made.rows j le lj (omega (arith, inv.size))) q (omega arith) lt;
      rest = λ q le. groups-rest c.args.position first c.args.multiplier.now c.args.table.now c.loop-group.table c.collapse_group-mask.new.table inv.rest made.others q (omega arith);
      pivot_size = put.size ∙ inv.pivot_size;
      sign = put.sign ∙ inv.sign;
      written = λ q near lt.
          column-group c.args.position first c.collapse_group-mask.result c.args.table.now c.loop-group.table c.loop-group.pivot.letters c.put_letters.new.out.letters
          inv.rest made.changed put.within put.others inv.written q (omega arith) lt;
      unwritten = λ q le. put.others q (inr (omega arith)) ∙ inv.unwritten q (omega arith);
    }

pub returns-clause-pivot : goal.returns-clause-pivot
returns-clause-pivot c =
    let inv = c.loop-group.invariant in
    signed_path _ _ inv.sign
    (column-all Z c.args.position (length c.args.table.now) c.args.table.now c.loop-group.pivot.letters inv.pivot_size (omega arith)
    (λ j lj. inv.written j (omega (arith, c.loop-group-test.false, c.groups_of-groups.ensures.all, c.len.ensures.value)) lj))
