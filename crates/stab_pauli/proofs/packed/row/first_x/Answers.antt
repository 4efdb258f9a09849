use Rattle.stab_pauli.proofs.Names.{arith, refl, ◌<◌, get_or, ◌+◌, ◌*◌, ◌/◌, ◌%◌}
use Rattle.stab_pauli.proofs.Lemmas.{still-word, lowest_in_word, first-found}
use Rattle.stab_pauli.proofs.packed.row.first_x.Goals as goal

pub overflow_mul-result : goal.overflow_mul-result
overflow_mul-result c = record { fits = omega arith }

pub overflow_add-result : goal.overflow_add-result
overflow_add-result c =
    let pos : 0 < get_or c.args.row.now (8 * (c.loop-word.word / 4) + c.loop-word.word % 4) 0 = omega arith in
    let t = lowest_in_word (get_or c.args.row.now (8 * (c.loop-word.word / 4) + c.loop-word.word % 4) 0) pos (c.type_inv.row (8 * (c.loop-word.word / 4) + c.loop-word.word % 4)).fits in
    record { fits = omega arith }

pub returns-then-x-ne0-clause-some : goal.returns-then-x-ne0-clause-some
returns-then-x-ne0-clause-some c =
    let pos : 0 < get_or c.args.row.now (8 * (c.loop-word.word / 4) + c.loop-word.word % 4) 0 = omega arith in
    first-found c.args.blocks c.args.row.now c.loop-word.word (8 * (c.loop-word.word / 4) + c.loop-word.word % 4) c.requires.length (omega arith) refl
    pos (c.type_inv.row (8 * (c.loop-word.word / 4) + c.loop-word.word % 4)).fits c.loop-word.invariant

pub loop-word-preserved : goal.loop-word-preserved
loop-word-preserved c =
    still-word c.args.blocks c.args.row.now c.loop-word.word (8 * (c.loop-word.word / 4) + c.loop-word.word % 4) c.requires.length (omega arith) refl
    c.if-x-ne0.false c.loop-word.invariant
