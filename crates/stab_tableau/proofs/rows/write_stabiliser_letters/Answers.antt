use Rattle.stab_tableau.proofs.Names.{ℕ, ◌*◌, ◌∙◌, ap, inr, length, arith, Z, signed_path, rows_at}
use Rattle.stab_tableau.proofs.TableauColumnLemmas.{column-all, column-group}
use Rattle.stab_tableau.proofs.rows.write_stabiliser_letters.Goals as goal

pub loop-group-preserved : goal.loop-group-preserved
loop-group-preserved c =
    let inv = c.loop-group.invariant in
    let looked = c.rows_with_x-mask.ensures in
    let put = c.put_letters.ensures in
    let first : ℕ = 32 * c.loop-group.group in
    record {
      same = looked.unchanged ∙ inv.same;
      size = put.size ∙ inv.size;
      sign = put.sign ∙ inv.sign;
      written = λ q near lt.
          column-group c.args.k first c.rows_with_x-mask.result c.args.table.now c.loop-group.table c.loop-group.out.letters c.put_letters.new.out.letters
          (λ j le. ap (λ t. rows_at t j) inv.same) looked.value put.within put.others inv.written q (omega arith) lt;
      unwritten = λ q le. put.others q (inr (omega arith)) ∙ inv.unwritten q (omega arith);
    }

pub returns-clause-value : goal.returns-clause-value
returns-clause-value c =
    let inv = c.loop-group.invariant in
    signed_path _ _ inv.sign
    (column-all Z c.args.k (length c.args.table.now) c.args.table.now c.loop-group.out.letters inv.size (omega arith)
    (λ j lj. inv.written j (omega (arith, c.loop-group-test.false, c.groups_of-group-end.ensures.all, c.len.ensures.value)) lj))
