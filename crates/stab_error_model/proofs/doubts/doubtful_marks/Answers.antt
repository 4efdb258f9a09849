use Rattle.stab_error_model.proofs.Names.{◌≡◌, ◌∙◌, ◌++◌, ap, sym, subst, All, circuit_items, unroll, listed, length, arith, few_steps}
use Rattle.stab_error_model.specs.Doubts.{doubts_from}
use Rattle.stab_error_model.proofs.DoubtLemmas.{IsBefore, doubts-before}
use Rattle.stab_error_model.proofs.doubts.doubtful_marks.Goals as goal

pub doubt_items-requires : goal.doubt_items-requires
doubt_items-requires c = record { few = omega (arith, few_steps (circuit_items c.args.circuit.now) c.requires.checked, ap (λ xs. length (unroll (listed xs))) c.items.ensures.value) }

pub returns-clause-value : goal.returns-clause-value
returns-clause-value c =
    c.in_ok-doubt_items.ensures.doubts ∙ ap (λ ds. ds ++ doubts_from 0 (listed c.items.result.now)) c.new-doubts.ensures.items ∙ ap (λ xs. doubts_from 0 (listed xs)) c.items.ensures.value

pub returns-clause-inside : goal.returns-clause-inside
returns-clause-inside c =
    let items = circuit_items c.args.circuit.now in
    let found : c.doubt_items.new.doubts.items ≡ doubts_from 0 items =
    c.in_ok-doubt_items.ensures.doubts ∙ ap (λ ds. ds ++ doubts_from 0 (listed c.items.result.now)) c.new-doubts.ensures.items ∙ ap (λ xs. doubts_from 0 (listed xs)) c.items.ensures.value in
    subst (All (IsBefore (length (unroll items)))) (sym found) (doubts-before 0 (length (unroll items)) items (omega arith))
