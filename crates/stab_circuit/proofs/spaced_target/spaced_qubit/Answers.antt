use Rattle.stab_circuit.proofs.Names.{◌<◌, arith, subst, sym, ◌∙◌, IsSpacedQubit}
use Rattle.stab_circuit.proofs.SpacedTargetLemmas.{qubit_spaced}
use Rattle.stab_circuit.proofs.spaced_target.spaced_qubit.Goals as goal

pub returns-clause-value : goal.returns-clause-value
returns-clause-value c =
    let found = c.few_digits_in_front-length in
    let some : 0 < found.result.0 = omega arith in
    subst (IsSpacedQubit c.args.bytes.now c.new.result) (sym c.split_at-2.ensures.back)
    (qubit_spaced c.args.bytes.now c.split_at.result.1.now found.result.0 found.result.1 c.new.result (sym c.starts_with.ensures.value ∙ c.if-not-starts_with.false) c.split_at.ensures.back
    some found.ensures.within found.ensures.digits found.ensures.value (omega arith) c.new.ensures.value)
