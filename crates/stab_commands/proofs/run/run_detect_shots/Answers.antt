use Rattle.stab_commands.proofs.run.run_detect_shots.Goals as goal

pub returns-then-append : goal.returns-then-append
returns-then-append g c = record { ends = rw c.if-append.true c.run_circuit.ensures.ends }

pub returns-else-append : goal.returns-else-append
returns-else-append g c = record { ends = rw c.if-append.false c.run_circuit-else-append.ensures.ends }
