use Rattle.stab_items.proofs.Names.{sym, ◌∙◌, ap, true, false, map, letter_of, collapse, steps_of}
use Rattle.stab_items.proofs.SameLemmas.{same_mapped, same_axis, determines_qubits}
use Rattle.stab_items.proofs.same.is_reset.Goals as goal

pub returns-then-same_axis : goal.returns-then-same_axis
returns-then-same_axis c = record {
  same = same_mapped _ determines_qubits (λ a q. collapse (letter_of a) q false false true) c.args.axis c.in-Reset.other c.args.qubits.now c.as_slice.result.now (steps_of c.args.kind.now) c.eq-same_list.result
      (ap steps_of c.in-Reset.is ∙ ap (map (λ q. collapse (letter_of c.in-Reset.other) q false false true)) (sym c.as_slice.ensures.value))
      (same_axis _ _ (sym c.eq-same_axis.ensures ∙ c.if-same_axis.true)) c.eq-same_list.ensures;
}
