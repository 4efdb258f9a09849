use Rattle.stab_tableau.proofs.Names.{arith, ◌*◌, ◌+◌, max, X, Z}
use Rattle.stab_tableau.proofs.TableRowLemmas.{table-row}
use Rattle.stab_tableau.proofs.WalkLemmas.{walk-start, walk-end, walk-in, walk-commutes, walk-step}
use Rattle.stab_tableau.proofs.rows.multiply_by_word.Goals as goal

pub loop-rest-init : goal.loop-rest-init
loop-rest-init c =
    walk-start _ c.args.table.now c.requires.table c.args.pauli.now.letters c.requires.pauli_length (64 * c.args.word) (max (c.args.first + 1) (64 * c.args.word))
    c.letters_after-rest.result c.args.out.now (omega arith) (let from = c.requires.from in omega arith) c.requires.before
    (let within = c.letters_after-rest.ensures.in_range in λ k lk one. omega (arith, within k lk one))
    (let following = c.letters_after-rest.ensures.following in λ k lk one. omega (arith, following k lk one))
    (λ k lk none le. c.letters_after-rest.ensures.unchosen k lk none (omega arith))

pub multiply_by_letter-requires-clause-row : goal.multiply_by_letter-requires-clause-row
multiply_by_letter-requires-clause-row c =
    table-row _ c.args.table.now c.requires.table (64 * c.args.word + c.first-bit.result)
    (walk-in _ c.args.table.now c.requires.table c.args.pauli.now.letters c.requires.pauli_length (64 * c.args.word) c.loop-rest.rest c.first-bit.result c.loop-rest.out
    c.loop-rest.invariant c.first-bit.ensures.in_range c.first-bit.ensures.chosen)

pub multiply_by_letter-requires-clause-commutes_x : goal.multiply_by_letter-requires-clause-commutes_x
multiply_by_letter-requires-clause-commutes_x c =
    walk-commutes _ c.args.table.now c.requires.table c.args.pauli.now.letters c.requires.pauli_length (64 * c.args.word) c.loop-rest.rest c.first-bit.result c.loop-rest.out
    c.loop-rest.invariant c.first-bit.ensures.in_range c.first-bit.ensures.chosen X

pub multiply_by_letter-requires-clause-commutes_z : goal.multiply_by_letter-requires-clause-commutes_z
multiply_by_letter-requires-clause-commutes_z c =
    walk-commutes _ c.args.table.now c.requires.table c.args.pauli.now.letters c.requires.pauli_length (64 * c.args.word) c.loop-rest.rest c.first-bit.result c.loop-rest.out
    c.loop-rest.invariant c.first-bit.ensures.in_range c.first-bit.ensures.chosen Z

pub loop-rest-preserved : goal.loop-rest-preserved
loop-rest-preserved c =
    walk-step _ c.args.table.now c.requires.table c.args.pauli.now.letters c.requires.pauli_length (64 * c.args.word) c.loop-rest.rest c.first-bit.result c.loop-rest.out
    c.loop-rest.invariant c.first-bit.ensures.in_range c.first-bit.ensures.chosen c.multiply_by_letter.new.out c.multiply_by_letter.ensures.value c.without-rest.result
    c.without-rest.ensures.gone c.without-rest.ensures.others

pub returns : goal.returns
returns c = record {
  value = walk-end _ c.args.table.now c.requires.table c.args.pauli.now.letters c.requires.pauli_length (64 * c.args.word) (64 * (c.args.word + 1)) c.loop-rest.rest c.loop-rest.out
      (omega arith) c.loop-rest-test.false c.loop-rest.invariant;
}
