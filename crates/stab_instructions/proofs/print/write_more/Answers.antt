use Rattle.stab_instructions.proofs.Names.{◌++◌, codes, ap, option_copied, pieces_after, err_from_is_err_and}
use Rattle.stab_instructions.proofs.WriteLemmas.{written_more, written_failed}
use Rattle.stab_instructions.proofs.ArgumentLemmas.{more_text, more_left}
use Rattle.stab_instructions.proofs.print.write_more.Goals as goal

pub returns-in_err-write_parts : goal.returns-in_err-write_parts
returns-in_err-write_parts g c =
    let p = err_from_is_err_and c.from_residual.result c.from_residual.ensures.1 in
    record {
      writes = written_failed (more_text (pieces_after 44 (option_copied c.args.more))) (more_text (pieces_after 44 (option_copied c.loop-rest.rest))) (codes ", " ++ c.without_spacing.result.now)
          (more_text (pieces_after 44 (option_copied c.first_piece.result.1))) c.loop-rest.invariant
          (more_left (option_copied c.loop-rest.rest) c.in-Some.bytes.now _ c.without_spacing.result.now _ (ap option_copied c.in-Some.is) c.first_piece.ensures.value c.without_spacing.ensures.value) p.1 p.2
          c.in_err-write_parts.ensures.writes;
    }

pub loop-rest-preserved : goal.loop-rest-preserved
loop-rest-preserved g c =
    written_more (more_text (pieces_after 44 (option_copied c.args.more))) (more_text (pieces_after 44 (option_copied c.loop-rest.rest))) (codes ", " ++ c.without_spacing.result.now)
    (more_text (pieces_after 44 (option_copied c.first_piece.result.1))) c.loop-rest.invariant
    (more_left (option_copied c.loop-rest.rest) c.in-Some.bytes.now _ c.without_spacing.result.now _ (ap option_copied c.in-Some.is) c.first_piece.ensures.value c.without_spacing.ensures.value)
    c.in_ok-write_parts.ensures.writes
