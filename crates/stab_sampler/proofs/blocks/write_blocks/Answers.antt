use Rattle.stab_sampler.proofs.Names.{rules, arith, ap, ◌∙◌, ◌≡◌, ◌+◌, length, chunks_rest, length-append, length_push, nil_from_length, word_bit, lane_bits}
use Rattle.stab_sampler.proofs.RowLemmas.{next-block, whole-row}
use Rattle.stab_sampler.proofs.blocks.write_blocks.Goals as goal

pub loop-group-preserved : goal.loop-group-preserved
loop-group-preserved c =
    let step = c.in-Some.ensures.steps.1 in
    let group = c.in-Some.group.now in
    let rest = chunks_rest c.loop-group.group-iterator in
    let following = chunks_rest c.next.new.self in
    let cut : length rest ≡ length group + length following = ap length step.0 ∙ length-append group following in
    let more = ap length c.in_ok-push.ensures.items ∙ length_push _ c.transposed.result in
    record {
      whole = search rules;
      room = omega (arith, c.loop-group.invariant.room, c.loop-group.invariant.whole, cut, more, step.1);
      made = λ j lt.
          next-block j rest group following _ c.transposed.result _ c.push.new.self.items (lane_bits word_bit j c.args.words.now)
          c.loop-group.invariant.whole step.0 step.1 (λ k few. c.transposed.ensures.value j k lt few) (c.loop-group.invariant.made j lt) c.in_ok-push.ensures.items;
    }

pub returns-clause-value : goal.returns-clause-value
returns-clause-value c = λ l lt.
    whole-row l c.args.words.now (chunks_rest c.loop-group.group-iterator) c.loop-group.blocks.items (nil_from_length _ c.in-None.ensures.steps.1.0) (c.loop-group.invariant.made l lt)
