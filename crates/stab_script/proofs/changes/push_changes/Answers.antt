use Rattle.stab_script.proofs.Names.{◌++◌, ◌∷◌, [], false, take, get_or, sym, ap, ◌∙◌, append_assoc, arith, ◌⊕◌, changes}
use Rattle.stab_script.proofs.ChangeLaws.{changes_more}
use Rattle.stab_script.proofs.changes.push_changes.Goals as goal

pub indices-preserved : goal.indices-preserved
indices-preserved c =
    let i = c.indices.index in
    let olds = c.args.old.now in
    let news = c.args.new.now in
    let before = c.reserve.new.self.items in
    let bit = get_or olds i false ⊕ get_or news i false in
    c.in_ok-push.ensures.items
    ∙ ap (λ b. c.indices.bits.items ++ b ∷ []) c.differ.ensures.value
    ∙ ap (λ l. l ++ bit ∷ []) c.indices.invariant
    ∙ append_assoc before (changes (take i olds) (take i news)) (bit ∷ [])
    ∙ ap (λ l. before ++ l) (sym (changes_more olds news i (omega (arith, c.indices-test.true, c.min-count.ensures)) (omega (arith, c.indices-test.true, c.min-count.ensures))))
