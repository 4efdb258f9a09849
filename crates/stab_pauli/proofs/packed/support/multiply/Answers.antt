use Rattle.stab_pauli.proofs.Names.{arith, subst, sym, ◌∙◌, words_odd}
use Rattle.stab_pauli.proofs.Lemmas.{words_odd-xor, IsTimesBut, words_odd-none, times-none, times-more, times-words, times-meet}
use Rattle.stab_pauli.proofs.packed.support.multiply.Goals as goal

pub loop-rest-init : goal.loop-rest-init
loop-rest-init c =
    subst (λ odd. IsTimesBut c.args.blocks c.args.support c.args.row.now c.args.other.now odd c.args.row.now) (sym (words_odd-none 64 4))
    (times-none c.args.blocks c.args.row.now c.args.other.now c.requires.length c.requires.other_length c.args.support c.requires.support)

pub loop-rest-preserved : goal.loop-rest-preserved
loop-rest-preserved c =
    times-more c.args.blocks c.args.row.now c.args.other.now c.requires.length c.requires.other_length c.requires.few c.loop-rest.rest (words_odd 64 c.loop-rest.meets) c.loop-rest.row c.loop-rest.invariant
    c.first-block.result c.first-block.ensures.in_range c.first-block.ensures.chosen c.multiply_block-meets.new.row c.multiply_block-meets.ensures.words
    (words_odd 64 c.multiply_block-meets.result) _ c.multiply_block-meets.ensures.meet
    (words_odd-xor 64 c.loop-rest.meets c.multiply_block-meets.result (omega (arith, c.multiply_block-meets.ensures.size)))
    c.without-rest.result c.without-rest.ensures.gone c.without-rest.ensures.others

pub returns-clause-words : goal.returns-clause-words
returns-clause-words c =
    times-words c.args.blocks c.args.row.now c.args.other.now c.requires.length c.requires.other_length c.loop-rest.rest (omega (arith, c.loop-rest-test.false)) (words_odd 64 c.loop-rest.meets) c.loop-rest.row c.loop-rest.invariant

pub returns-clause-meet : goal.returns-clause-meet
returns-clause-meet c =
    c.are_odd.ensures.value
    ∙ times-meet c.args.blocks c.args.row.now c.args.other.now c.requires.length c.requires.other_length c.loop-rest.rest (omega (arith, c.loop-rest-test.false)) (words_odd 64 c.loop-rest.meets) c.loop-rest.row c.loop-rest.invariant
