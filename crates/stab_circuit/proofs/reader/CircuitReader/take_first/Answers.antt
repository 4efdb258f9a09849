use Rattle.stab_circuit.proofs.Names.{inl, refl, option_copied}
use Rattle.stab_circuit.proofs.FirstLineLemmas.{some_first}
use Rattle.stab_circuit.proofs.KnownLineLemmas.{begun_shorter}
use Rattle.stab_circuit.proofs.reader.CircuitReader.take_first.Goals as goal

pub returns-in-Err-clause-gives : goal.returns-in-Err-clause-gives
returns-in-Err-clause-gives c =
    let f = some_first c.args.text.now in
    (f.0, f.1, f.2, tt, inl refl)

pub returns-in_ok-put-in-Ok-Some-clause-shorter : goal.returns-in_ok-put-in-Ok-Some-clause-shorter
returns-in_ok-put-in-Ok-Some-clause-shorter c =
    let found = c.in-Ok-Some.found in
    begun_shorter c.args.text.now found.item (option_copied found.after) (rw c.in-Ok-Some.field-0-is at c.in-Ok-Some.ensures.front)
