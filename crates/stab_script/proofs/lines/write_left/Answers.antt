use Rattle.stab_script.proofs.Names.{◌++◌, codes, err_from_is_err_and, writes_failed, writes_then, string_text}
use Rattle.stab_script.proofs.lines.write_left.Goals as goal

pub returns-in_err-write_all : goal.returns-in_err-write_all
returns-in_err-write_all g c =
    let p = err_from_is_err_and c.from_residual.result c.from_residual.ensures.1 in
    record { writes = writes_failed (string_text c.args.letters.now ++ codes "\n") p.1 p.2 c.in_err-write_all.ensures.writes }

pub returns-in_err-write_string : goal.returns-in_err-write_string
returns-in_err-write_string g c =
    let p = err_from_is_err_and c.from_residual-in_err-write_string.result c.from_residual-in_err-write_string.ensures.1 in
    record { writes = writes_then _ _ _ c.in_ok-write_all.ensures.writes (writes_failed (codes "\n") p.1 p.2 c.in_err-write_string.ensures.writes) }

pub returns : goal.returns
returns g c = record {
  writes = writes_then {front = codes "left "} _ _ _ c.in_ok-write_all.ensures.writes
      (writes_then {front = string_text c.args.letters.now} _ _ _ c.in_ok-write_string.ensures.writes c.write_all-2.ensures.writes);
}
