use Rattle.stab_results.proofs.ZeroLemmas.{past_block}
use Rattle.stab_results.proofs.one_positions.begins_zeros.Goals as goal

pub returns-clause-zeros : goal.returns-clause-zeros
returns-clause-zeros c = λ zeros.
    past_block c.args.bits.now c.split_at.result.1.now c.split_at-2.result.0.now c.args.position 64 c.split_at.ensures.back c.split_at-2.ensures.front
    c.if-bits-position-lt-BLOCK.false (c.are_zeros.ensures.zeros zeros)
