use Rattle.stab_items.proofs.Names.{◌≡◌, ◌∙◌, ap, subst, edit_path, edited_in, IsEditResult}
use Rattle.std.specs.Prelude.{IfOk, IfErr, Err}
use Rattle.stab_items.proofs.judge.judged_edit.Goals as goal

pub returns : goal.returns
returns c =
    let blocks : c.blocks-2.result.now ≡ (edit_path c.args.edit.now).blocks = c.blocks-2.ensures.value ∙ ap (λ q. q.blocks) c.path-path.ensures.value in
    record {
      ok = subst (λ b. IfOk c.edit_result_in.result (IsEditResult c.args.edit.now b c.args.items.now)) blocks c.edit_result_in.ensures.ok;
      refused = subst (λ b. IfErr c.edit_result_in.result (λ r. edited_in c.args.edit.now b c.args.items.now ≡ Err r)) blocks c.edit_result_in.ensures.refused;
    }
