use Rattle.stab_report.proofs.Names.{◌++◌, codes, err_from_is_err_and, writes_failed, writes_then, random_bit, placed_coin}
use Rattle.stab_report.proofs.fault_line.write_random.Goals as goal

pub returns-in_err-write_random_bit : goal.returns-in_err-write_random_bit
returns-in_err-write_random_bit g c =
    let p = err_from_is_err_and c.from_residual.result c.from_residual.ensures.1 in
    let d = c.args.random.now.decider in
    record { writes = writes_failed (codes ", is not the same for all coins:" ++ ((codes " " ++ placed_coin d.coin d.path) ++ codes " decides it\n")) p.1 p.2 c.in_err-write_random_bit.ensures.writes }

pub returns-in_err-write_all : goal.returns-in_err-write_all
returns-in_err-write_all g c =
    let p = err_from_is_err_and c.from_residual-in_err-write_all.result c.from_residual-in_err-write_all.ensures.1 in
    let d = c.args.random.now.decider in
    record {
      writes = writes_then _ _ _ c.in_ok-write_random_bit.ensures.writes
          (writes_failed ((codes " " ++ placed_coin d.coin d.path) ++ codes " decides it\n") p.1 p.2 c.in_err-write_all.ensures.writes);
    }

pub returns-in_err-write_decider : goal.returns-in_err-write_decider
returns-in_err-write_decider g c =
    let p = err_from_is_err_and c.from_residual-in_err-write_decider.result c.from_residual-in_err-write_decider.ensures.1 in
    let u = c.args.random.now in
    record {
      writes = writes_then {front = random_bit u} _ _ _ c.in_ok-write_random_bit.ensures.writes
          (writes_then {front = codes ", is not the same for all coins:"} _ _ _ c.in_ok-write_all.ensures.writes
          (writes_failed {front = codes " " ++ placed_coin u.decider.coin u.decider.path} (codes " decides it\n") p.1 p.2 c.in_err-write_decider.ensures.writes));
    }

pub returns : goal.returns
returns g c =
    let u = c.args.random.now in
    record {
      writes = writes_then {front = random_bit u} _ _ _ c.in_ok-write_random_bit.ensures.writes
          (writes_then {front = codes ", is not the same for all coins:"} _ _ _ c.in_ok-write_all.ensures.writes
          (writes_then {front = codes " " ++ placed_coin u.decider.coin u.decider.path} _ _ _ c.in_ok-write_decider.ensures.writes c.write_all-2.ensures.writes));
    }
