use Rattle.stab_script.proofs.Names.{writes_as, writes_then, PlacedLetter, I}
use Rattle.stab_script.proofs.LineLemmas.{text_of_some}
use Rattle.stab_script.proofs.lines.write_string.Goals as goal

pub returns : goal.returns
returns g c =
    let none : PlacedLetter = record { qubit = 0; letter = I } in
    let text = text_of_some c.args.letters.now none c.if-is_empty.ensures in record {
      writes = writes_as (g.O.Output.seen c.args.out.now) (g.O.Output.seen c.write_factors.new.out) c.write_factors.result text
          (writes_then _ _ _ c.in_ok-write_placed.ensures.writes c.write_factors.ensures.writes);
    }
