use Rattle.stab_instructions.proofs.Names.{◌++◌, arguments_text, kind_arguments, targets_text, err_from_is_err_and}
use Rattle.stab_instructions.proofs.WriteLemmas.{writes_failed, writes_then}
use Rattle.stab_instructions.proofs.print.write_operation.Goals as goal

pub returns-in_err-write_name : goal.returns-in_err-write_name
returns-in_err-write_name g c =
    let p = err_from_is_err_and c.from_residual.result c.from_residual.ensures.1 in
    record { writes = writes_failed (arguments_text (kind_arguments c.args.kind.now) ++ targets_text c.args.kind.now) p.1 p.2 c.in_err-write_name.ensures.writes }

pub returns-in_err-write_arguments : goal.returns-in_err-write_arguments
returns-in_err-write_arguments g c =
    let p = err_from_is_err_and c.from_residual-in_err-write_arguments.result c.from_residual-in_err-write_arguments.ensures.1 in
    record { writes = writes_then _ _ _ c.in_ok-write_name.ensures.writes (writes_failed (targets_text c.args.kind.now) p.1 p.2 c.in_err-write_arguments.ensures.writes) }

pub returns : goal.returns
returns g c = record { writes = writes_then _ _ _ c.in_ok-write_name.ensures.writes (writes_then _ _ _ c.in_ok-write_arguments.ensures.writes c.write_targets.ensures.writes) }
