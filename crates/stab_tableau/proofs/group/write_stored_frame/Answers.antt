use Rattle.stab_tableau.proofs.Names.{◌∙◌, ◌<◌, ◌≤◌, sym, length, arith, length-set, signed_path, letter_anticommuting}
use Rattle.stab_tableau.proofs.FrameLemmas.{length-same, frame-more, frame-all}
use Rattle.stab_tableau.proofs.group.write_stored_frame.Goals as goal

pub loop-qubit-preserved : goal.loop-qubit-preserved
loop-qubit-preserved c =
    let below : c.loop-qubit.qubit < length c.args.table.now = (let lt = c.loop-qubit-test.true in let e = c.len-qubit-end.ensures.value in omega arith) in
    rw c.set.ensures.value
    (record {
      size = length-set c.loop-qubit.out.letters c.loop-qubit.qubit c.letter_where.result ∙ c.loop-qubit.invariant.size;
      sign = c.loop-qubit.invariant.sign;
      done = frame-more c.loop-qubit.qubit c.args.table.now c.args.others.now c.loop-qubit.out.letters c.letter_where.result
          (sym (length-same c.args.table.now c.args.others.now c.requires.same_letters)) c.loop-qubit.invariant.size below
          (c.letter_where.ensures.value ∙ (λ i. letter_anticommuting (c.signs_differ-x.ensures.value i) (c.signs_differ-z.ensures.value i)))
          c.loop-qubit.invariant.done;
    })

pub returns : goal.returns
returns c =
    let past : length c.args.table.now ≤ c.loop-qubit.qubit = (let le = c.loop-qubit-test.false in let e = c.len-qubit-end.ensures.value in omega arith) in
    record {
      value = signed_path _ _ c.loop-qubit.invariant.sign
          (frame-all c.loop-qubit.qubit c.args.table.now c.args.others.now c.loop-qubit.out.letters
          (sym (length-same c.args.table.now c.args.others.now c.requires.same_letters)) c.loop-qubit.invariant.size past c.loop-qubit.invariant.done);
    }
