use Rattle.stab_items.proofs.Names.{ℕ, ◌*◌, ◌∙◌, sym, ap, codes, replicate, err_from_is_err_and, margin_depth, writes_failed, writes_then, writes_as}
use Rattle.stab_items.proofs.PrintLemmas.{margin_inside}
use Rattle.stab_items.proofs.print.+write_margin.Goals as goal

pub returns-in_err-write_margin-in-Inside : goal.returns-in_err-write_margin-in-Inside
returns-in_err-write_margin-in-Inside g t c =
    let p = err_from_is_err_and c.from_residual.result c.from_residual.ensures.1 in
    record {
      writes = writes_as _ _ _ (margin_inside (margin_depth c.in-Inside.outer.now) ∙ ap (λ m. replicate {A = ℕ} (4 * margin_depth m) 32) (sym c.in-Inside.is))
          (writes_failed (codes "    ") p.1 p.2 c.in_err-write_margin-in-Inside.ensures.writes);
    }

pub returns-in_ok-write_margin-in-Inside : goal.returns-in_ok-write_margin-in-Inside
returns-in_ok-write_margin-in-Inside g t c = record {
  writes = writes_as _ _ _ (margin_inside (margin_depth c.in-Inside.outer.now) ∙ ap (λ m. replicate {A = ℕ} (4 * margin_depth m) 32) (sym c.in-Inside.is))
      (writes_then _ _ _ c.in_ok-write_margin-in-Inside.ensures.writes c.write_all.ensures.writes);
}
