use Rattle.stab_sampler.proofs.Names.{arith, refl, subst, ◌≡◌, inl, inr, slice_index_or, cases_lt, I, lane_letters}
use Rattle.stab_sampler.proofs.CheckpointLemmas.{letters-same, letter-same}
use Rattle.stab_sampler.proofs.checkpoints.same_letters.Goals as goal

pub loop-qubit-preserved : goal.loop-qubit-preserved
loop-qubit-preserved g c = λ j lt q within.
    let here = c.loop-qubit.qubit in
    elim (cases_lt q here) [
      | inl before ↦ c.loop-qubit.invariant j lt q before
      | inr following ↦
          let last : here ≡ q = omega (arith, within, following) in
          subst (λ k. slice_index_or (lane_letters g.W.Word.at j c.args.letters.now) k I ≡ slice_index_or (lane_letters g.W.Word.at j c.args.others.now) k I) last
          (letter-same g.W.Word.at j c.args.letters.now c.args.others.now here c.index-letters-qubit.result c.index-others-qubit.result c.loop-qubit-test.true
          c.if-letters-others.false c.index-letters-qubit.is c.index-others-qubit.is ((c.if-not-is_same.ensures {u = tt}).same refl j lt))
    ]

pub returns : goal.returns
returns g c = record {
  same = λ is l lt.
      letters-same g.W.Word.at l c.args.letters.now c.args.others.now c.if-letters-others.false
      (λ q within. c.loop-qubit.invariant l lt q (omega (arith, within, c.loop-qubit-test.false)));
}
