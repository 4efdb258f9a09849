use Rattle.stab_commands.proofs.Names.{sends_none}
use Rattle.stab_commands.proofs.ShotLaws.{is_shown}
use Rattle.stab_commands.proofs.bits.write_shown.Goals as goal

pub returns-in_err-bits : goal.returns-in_err-bits
returns-in_err-bits g c = record { sends = λ first run records detectors observables. sends_none (g.O.Output.seen c.args.out.now) _ c.from_residual.result c.from_residual.ensures.1 }

pub returns : goal.returns
returns g c = record {
  sends = λ first run records detectors observables.
      c.write_copies.ensures.sends first c.args.shown run
      (is_shown c.args.shown run c.in_ok-bits.bits.kinds c.in_ok-bits.bits.items.items c.args.shot.records.items c.args.shot.detectors.items c.args.shot.observables.items
      c.in_ok-bits.ensures.kinds c.in_ok-bits.ensures.items records detectors observables);
}
