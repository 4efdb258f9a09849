use Rattle.stab_circuit.proofs.Names.{arith, subst, IsAfterWord}
use Rattle.stab_circuit.proofs.NumberLemmas.{number_begins}
use Rattle.stab_circuit.proofs.word.spaced_number.Goals as goal

pub returns-in-Some-clause-value : goal.returns-in-Some-clause-value
returns-in-Some-clause-value c =
    number_begins c.args.bytes.now c.without_spacing_in_front-bytes.result.now c.in-Some.rest.now c.digits_in_front-length.result.0 c.digits_in_front-length.result.1
    c.without_spacing_in_front-bytes.ensures.value (omega arith) c.digits_in_front-length.ensures.within c.digits_in_front-length.ensures.digits c.digits_in_front-length.ensures.value
    (subst (λ l. IsAfterWord l c.in-Some.rest.now) c.split_at.ensures.back c.in-Some.ensures.value)
