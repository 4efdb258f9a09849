use Rattle.stab_commands.proofs.Names.{codes, pauli_text, failed_on, failed_within, took_and_failed, line_of}
use Rattle.stab_commands.proofs.stabilisers.write_row.Goals as goal

pub returns-in_err-write_text : goal.returns-in_err-write_text
returns-in_err-write_text g c = record {
  writes = failed_on (g.O.Output.seen c.args.out.now) (g.O.Output.seen c.write_text.new.out) (line_of c.args.row.now) c.in_err-write_text.field-0.0 c.from_residual.result c.from_residual.ensures.1
      c.in_err-write_text.ensures.writes.0
      (failed_within (pauli_text c.args.row.now) (codes "\n") c.in_err-write_text.ensures.writes.1);
}

pub returns-in_err-write_all : goal.returns-in_err-write_all
returns-in_err-write_all g c = record {
  writes = failed_on (g.O.Output.seen c.args.out.now) (g.O.Output.seen c.write_all.new.out) (line_of c.args.row.now) c.in_err-write_all.field-0.0 c.from_residual-in_err-write_all.result c.from_residual-in_err-write_all.ensures.1
      c.in_err-write_all.ensures.writes.0
      (took_and_failed (pauli_text c.args.row.now) (codes "\n") c.in_ok-write_text.ensures.writes c.in_err-write_all.ensures.writes.1);
}
