use Rattle.stab_tableau.proofs.Names.{◌∙◌, ◌<◌, ◌≤◌, not, length, arith, beq, length-set, signed_path, rows_at, letter_anticommuting}
use Rattle.stab_tableau.proofs.FrameLemmas.{differ, frame-more, frame-all}
use Rattle.stab_tableau.proofs.group.write_frame.Goals as goal

pub loop-qubit-preserved : goal.loop-qubit-preserved
loop-qubit-preserved c =
    let below : c.loop-qubit.qubit < length c.args.table.now = (let lt = c.loop-qubit-test.true in let e = c.len-qubit-end.ensures.value in omega arith) in
    rw c.set.ensures.value
    (record {
      size = length-set c.loop-qubit.out.letters c.loop-qubit.qubit c.letter_where.result ∙ c.loop-qubit.invariant.size;
      sign = c.loop-qubit.invariant.sign;
      done = frame-more c.loop-qubit.qubit c.args.table.now c.args.others.now c.loop-qubit.out.letters c.letter_where.result c.requires.same_length
          c.loop-qubit.invariant.size below
          (c.letter_where.ensures.value
          ∙ (λ i. letter_anticommuting (not (beq (c.is_negative.ensures.value i) (c.is_negative-in-loop-qubit.ensures.value i)))
          (not (beq (c.is_negative-in-loop-qubit-2.ensures.value i) (c.is_negative-in-loop-qubit-3.ensures.value i))))
          ∙ (λ i. letter_anticommuting (differ (rows_at c.args.table.now c.loop-qubit.qubit).x.negative (rows_at c.args.others.now c.loop-qubit.qubit).x.negative i)
          (differ (rows_at c.args.table.now c.loop-qubit.qubit).z.negative (rows_at c.args.others.now c.loop-qubit.qubit).z.negative i)))
          c.loop-qubit.invariant.done;
    })

pub returns : goal.returns
returns c =
    let past : length c.args.table.now ≤ c.loop-qubit.qubit = (let le = c.loop-qubit-test.false in let e = c.len-qubit-end.ensures.value in omega arith) in
    record {
      value = signed_path _ _ c.loop-qubit.invariant.sign
          (frame-all c.loop-qubit.qubit c.args.table.now c.args.others.now c.loop-qubit.out.letters c.requires.same_length c.loop-qubit.invariant.size
          past c.loop-qubit.invariant.done);
    }
