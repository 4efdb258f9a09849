use Rattle.stab_args.proofs.PartWordLaws.{cut, no_part, none_so, uncut}
use Rattle.stab_args.proofs.part_word.part_of.Goals as goal
use Rattle.std.proofs.Common.{◌+◌, arith}

pub returns-in_err-number-clause-none : goal.returns-in_err-number-clause-none
returns-in_err-number-clause-none c = none_so c.from_residual.result (uncut c.args.word.now c.in_err-number.ensures.cases)

pub returns-in_err-number_of-clause-none : goal.returns-in_err-number_of-clause-none
returns-in_err-number_of-clause-none c =
    none_so c.from_residual-in_err-number_of.result (λ p is e.
    c.in_err-number_of.ensures.none (p.index + 1) (omega (arith, is.0, is.1)) (cut c.args.word.now (c.in_ok-number.number, c.in_ok-number.count) c.in_ok-number.ensures.cases p is e).0)

pub returns-in_err-number_of-2-clause-none : goal.returns-in_err-number_of-2-clause-none
returns-in_err-number_of-2-clause-none c =
    none_so c.from_residual-in_err-number_of-2.result (λ p is e.
    c.in_err-number_of-2.ensures.none p.count is.1 (cut c.args.word.now (c.in_ok-number.number, c.in_ok-number.count) c.in_ok-number.ensures.cases p is e).1)

pub returns-clause-none : goal.returns-clause-none
returns-clause-none c =
    no_part c.args.word.now c.in_ok-number.number.now c.in_ok-number.count.now c.in_ok-number_of.field-0 c.in_ok-number_of-2.field-0 c.new.result c.in_ok-number_of.ensures.some c.in_ok-number_of-2.ensures.some
    c.in_ok-number_of.ensures.within c.in_ok-number_of-2.ensures.within (λ p is e. cut c.args.word.now (c.in_ok-number.number, c.in_ok-number.count) c.in_ok-number.ensures.cases p is e) c.new.ensures.none
