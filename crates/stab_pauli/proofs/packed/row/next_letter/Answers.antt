use Rattle.stab_pauli.proofs.Names.{arith, refl, ◌+◌, ◌*◌, ◌/◌, ◌%◌}
use Rattle.stab_pauli.proofs.Lemmas.{blank_word, letter_found}
use Rattle.stab_pauli.proofs.packed.row.next_letter.Goals as goal

pub returns-in-Some-clause-some : goal.returns-in-Some-clause-some
returns-in-Some-clause-some c =
    letter_found c.args.blocks c.args.row.now c.args.from c.loop-word.word (8 * (c.loop-word.word / 4) + c.loop-word.word % 4) c.saturating_sub.result
    c.requires.length (omega arith) refl c.saturating_sub.ensures c.loop-word.invariant c.in-Some.bit c.in-Some.ensures.some

pub loop-word-preserved : goal.loop-word-preserved
loop-word-preserved c =
    blank_word c.args.blocks c.args.row.now c.args.from c.loop-word.word (8 * (c.loop-word.word / 4) + c.loop-word.word % 4) c.saturating_sub.result
    c.requires.length (omega arith) refl c.saturating_sub.ensures c.loop-word.invariant c.in_default.ensures.none
