use Rattle.stab_instructions.proofs.Names.{◌++◌, ap, codes, decimal, err_from_is_err_and}
use Rattle.stab_instructions.specs.Prints.{lookback_text}
use Rattle.stab_instructions.proofs.WriteLemmas.{writes_failed, writes_then, writes_as, took_as}
use Rattle.stab_instructions.proofs.print.write_feedback.Goals as goal

pub returns-in_err-write : goal.returns-in_err-write
returns-in_err-write g c =
    let p = err_from_is_err_and c.from_residual.result c.from_residual.ensures.1 in
    record {
      writes = writes_as _ _ _ (ap (λ k. lookback_text k ++ (codes " " ++ decimal c.args.qubit)) c.number.ensures.value)
          (writes_failed {front = lookback_text c.number.result} (codes " " ++ decimal c.args.qubit) p.1 p.2 c.in_err-write.ensures.writes);
    }

pub returns-in_err-write_all : goal.returns-in_err-write_all
returns-in_err-write_all g c =
    let p = err_from_is_err_and c.from_residual-in_err-write_all.result c.from_residual-in_err-write_all.ensures.1 in
    record {
      writes = writes_then {front = lookback_text c.args.lookback} _ _ _ (took_as (ap lookback_text c.number.ensures.value) c.in_ok-write.ensures.writes)
          (writes_failed (decimal c.args.qubit) p.1 p.2 c.in_err-write_all.ensures.writes);
    }

pub returns : goal.returns
returns g c = record {
  writes = writes_then {front = lookback_text c.args.lookback} _ _ _ (took_as (ap lookback_text c.number.ensures.value) c.in_ok-write.ensures.writes)
      (writes_then _ _ _ c.in_ok-write_all.ensures.writes c.write-2.ensures.writes);
}
