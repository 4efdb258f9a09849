use Rattle.stab_run.proofs.Names.{◌<◌, ◌∙◌, [], sym, length, drop, arith, take_more_same, get_or-drop, length-drop, lookbacks_of}
use Rattle.stab_run.proofs.SameLemmas.{same_list, determines_qubits}
use Rattle.stab_run.proofs.same.detectors_begin_with.Goals as goal

pub loop-number-preserved : goal.loop-number-preserved
loop-number-preserved c =
    let own = lookbacks_of c.args.detectors in
    let others = lookbacks_of c.args.others in
    let i = c.loop-number.number in
    let position = c.args.position in
    let lt : i < length others = omega (arith, c.loop-number-test.true, c.len-number-end.ensures.value) in
    take_more_same (drop position own) others i [] (omega (arith, lt, length-drop position own, c.requires.within)) lt c.loop-number.invariant
    (get_or-drop position own i [] ∙ sym c.get.ensures.value ∙ same_list _ c.get.result.now c.get-in-loop-number.result.now determines_qubits (sym c.eq-same.ensures ∙ c.if-not-same.false) ∙ c.get-in-loop-number.ensures.value)
