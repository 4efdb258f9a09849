use Rattle.stab_error_model.proofs.Names.{◌≡◌, ◌∙◌, ◌+◌, ◌∷◌, [], sym, ap, arith, drop, get_or, drop_more, drop_all}
use Rattle.stab_error_model.specs.Doubts.{doubt_about_pairs}
use Rattle.stab_error_model.proofs.doubts.doubt_about_pairs.Goals as goal

pub returns-then-k-qubits : goal.returns-then-k-qubits
returns-then-k-qubits c =
    let xs = c.args.qubits.now in
    let k = c.pairs.k in
    let first = drop_more xs k 0 c.pairs-test.true in
    let last : drop (k + 1) xs ≡ [] = drop_all (k + 1) xs (omega (arith, c.if-k-qubits.true)) in
    record { value = sym (c.pairs.invariant.rest ∙ ap doubt_about_pairs (first ∙ ap (λ ys. get_or xs k 0 ∷ ys) last)) }
