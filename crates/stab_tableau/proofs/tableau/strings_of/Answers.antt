use Rattle.std.specs.Prelude.{◌++◌}
use Rattle.std.proofs.Math.Seq.{take-suc}
use Rattle.stab_pauli.specs.Paulis.{identity}
use Rattle.stab_tableau.proofs.Names.{suc, sym, ◌∙◌, ap, ◌∷◌, [], take, ◌+◌, arith}
use Rattle.stab_tableau.proofs.tableau.strings_of.Goals as goal

pub loop-row-preserved : goal.loop-row-preserved
loop-row-preserved c =
    c.in_ok-push.ensures.items
    ∙ ap (λ strings. strings ++ c.in_ok-string_of.field-0 ∷ []) c.loop-row.invariant
    ∙ ap (λ string. take c.loop-row.row c.args.rows.now.rows ++ string ∷ []) c.in_ok-string_of.ensures.ok
    ∙ sym (take-suc c.args.rows.now.rows c.loop-row.row (identity c.args.rows.now.qubits) (omega arith))
    ∙ ap (λ k. take k c.args.rows.now.rows) {x = suc c.loop-row.row} {y = c.loop-row.row + 1} (omega arith)
