use Rattle.stab_circuit.proofs.Names.{◌<◌, arith, subst, IsAfterWord}
use Rattle.stab_circuit.proofs.NumberLemmas.{number_begins, number_ends, digits_front}
use Rattle.stab_circuit.proofs.word.number_in_front.Goals as goal

pub returns-in-Some-clause-value : goal.returns-in-Some-clause-value
returns-in-Some-clause-value c =
    let found = c.few_digits_in_front-length in
    let some : 0 < found.result.0 = omega arith in
    number_begins c.args.bytes.now c.args.bytes.now c.in-Some.rest.now found.result.0 found.result.1
    (digits_front c.args.bytes.now found.result.0 some found.ensures.within found.ensures.digits) some found.ensures.within found.ensures.digits found.ensures.value
    (subst (λ l. IsAfterWord l c.in-Some.rest.now) c.split_at.ensures.back c.in-Some.ensures.value)

pub returns-in-Some-clause-shorter : goal.returns-in-Some-clause-shorter
returns-in-Some-clause-shorter c =
    let found = c.few_digits_in_front-length in
    let some : 0 < found.result.0 = omega arith in
    number_ends c.args.bytes.now c.args.bytes.now c.in-Some.rest.now found.result.0
    (digits_front c.args.bytes.now found.result.0 some found.ensures.within found.ensures.digits) some found.ensures.within found.ensures.digits
    (subst (λ l. IsAfterWord l c.in-Some.rest.now) c.split_at.ensures.back c.in-Some.ensures.value)
