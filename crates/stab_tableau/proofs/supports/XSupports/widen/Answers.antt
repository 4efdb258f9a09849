use Rattle.stab_tableau.proofs.SupportLemmas.{multiplied-covered}
use Rattle.stab_tableau.proofs.supports.XSupports.widen.Goals as goal

pub returns : goal.returns
returns c = record {
  covers = λ old new covers chosen.
      multiplied-covered c.args.self.now c.add_string.new.self c.args.group c.args.mask c.args.string.now old new
      c.add_string.ensures.known c.add_string.ensures.preserved c.add_string.ensures.added chosen covers;
}
