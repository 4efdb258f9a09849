use Rattle.stab_instructions.proofs.Names.{◌++◌, codes, sym, option_copied, pieces_after, err_from_is_err_and}
use Rattle.stab_instructions.proofs.WriteLemmas.{writes_failed, writes_then, writes_as}
use Rattle.stab_instructions.proofs.ArgumentLemmas.{more_text, arguments_are}
use Rattle.stab_instructions.proofs.print.write_bracketed.Goals as goal

pub returns-in_err-write_parts : goal.returns-in_err-write_parts
returns-in_err-write_parts g c =
    let p = err_from_is_err_and c.from_residual.result c.from_residual.ensures.1 in
    record {
      writes = writes_as _ _ _ (sym (arguments_are c.args.arguments.now _ c.without_spacing.result.now (pieces_after 44 (option_copied c.first_piece.result.1)) c.first_piece.ensures.value c.without_spacing.ensures.value))
          (writes_failed (more_text (pieces_after 44 (option_copied c.first_piece.result.1)) ++ codes ")") p.1 p.2 c.in_err-write_parts.ensures.writes);
    }

pub returns-in_err-write_more : goal.returns-in_err-write_more
returns-in_err-write_more g c =
    let p = err_from_is_err_and c.from_residual-in_err-write_more.result c.from_residual-in_err-write_more.ensures.1 in
    record {
      writes = writes_as _ _ _ (sym (arguments_are c.args.arguments.now _ c.without_spacing.result.now (pieces_after 44 (option_copied c.first_piece.result.1)) c.first_piece.ensures.value c.without_spacing.ensures.value))
          (writes_then {front = codes "(" ++ c.without_spacing.result.now} _ _ _ c.in_ok-write_parts.ensures.writes (writes_failed (codes ")") p.1 p.2 c.in_err-write_more.ensures.writes));
    }

pub returns : goal.returns
returns g c = record {
  writes = writes_as _ _ _ (sym (arguments_are c.args.arguments.now _ c.without_spacing.result.now (pieces_after 44 (option_copied c.first_piece.result.1)) c.first_piece.ensures.value c.without_spacing.ensures.value))
      (writes_then {front = codes "(" ++ c.without_spacing.result.now} _ _ _ c.in_ok-write_parts.ensures.writes
      (writes_then {front = more_text (pieces_after 44 (option_copied c.first_piece.result.1))} _ _ _ c.in_ok-write_more.ensures.writes c.write_all.ensures.writes));
}
