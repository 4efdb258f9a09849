use Rattle.stab_instructions.proofs.Names.{◌∙◌, map, sym, slice_split, err_from_is_err_and, is_byte, trimmed, arguments_text}
use Rattle.stab_instructions.proofs.ArgumentLemmas.{spaced_arguments}
use Rattle.stab_instructions.proofs.WriteLemmas.{writes_failed, writes_then, writes_as}
use Rattle.stab_instructions.proofs.print.write_after_space.Goals as goal

pub returns-in_err-write_all : goal.returns-in_err-write_all
returns-in_err-write_all g c =
    let p = err_from_is_err_and c.from_residual.result c.from_residual.ensures.1 in
    record {
      writes = writes_as _ _ _ (spaced_arguments c.args.written.now (sym c.is_blank.ensures.value ∙ c.if-is_blank.false))
          (writes_failed (arguments_text (map trimmed (slice_split (is_byte 44) c.args.written.now))) p.1 p.2 c.in_err-write_all.ensures.writes);
    }

pub returns : goal.returns
returns g c = record {
  writes = writes_as _ _ _ (spaced_arguments c.args.written.now (sym c.is_blank.ensures.value ∙ c.if-is_blank.false)) (writes_then _ _ _ c.in_ok-write_all.ensures.writes c.write_bracketed.ensures.writes);
}
