use Rattle.stab_pauli.proofs.Names.{refl, ◌<◌, ◌/◌, ◌^◌, arith, div-le_self}
use Rattle.stab_pauli.proofs.Lemmas.{no_bit, next_bit-found}
use Rattle.stab_pauli.proofs.packed.row.next_bit.Goals as goal

pub returns-then-rest-eq0-clause-none : goal.returns-then-rest-eq0-clause-none
returns-then-rest-eq0-clause-none c = no_bit c.args.word c.args.from (c.args.word / 2 ^ c.args.from) refl c.if-rest-eq0.true

pub returns-clause-some : goal.returns-clause-some
returns-clause-some c =
    let above : 0 < c.args.word / 2 ^ c.args.from = (let ne = c.if-rest-eq0.false in omega arith) in
    let fits : c.args.word / 2 ^ c.args.from < 2 ^ 64 = (let le = div-le_self c.args.word (2 ^ c.args.from) in let small = c.ranges.word.fits in omega arith) in
    next_bit-found c.args.word c.args.from (c.args.word / 2 ^ c.args.from) refl c.ranges.word.fits above fits
