use Rattle.std.proofs.Common.{arith, ◌≡◌, ◌%◌}
use Rattle.stab_gates.proofs.PhaseLemmas.{quarters_counted}
use Rattle.stab_gates.proofs.phase.Phase.of_count.Goals as goal

pub returns-in-0 : goal.returns-in-0
returns-in-0 c = record { value = quarters_counted c.args.count 0 c.in-0.is }

pub returns-in-1 : goal.returns-in-1
returns-in-1 c = record { value = quarters_counted c.args.count 1 c.in-1.is }

pub returns-in-2 : goal.returns-in-2
returns-in-2 c = record { value = quarters_counted c.args.count 2 c.in-2.is }

pub returns-in_default : goal.returns-in_default
returns-in_default c =
    let three : c.args.count % 4 ≡ 3 = omega arith in
    record { value = quarters_counted c.args.count 3 three }
