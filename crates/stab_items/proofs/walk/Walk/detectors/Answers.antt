use Rattle.stab_items.proofs.DetectorLemmas.{detectors_taken}
use Rattle.stab_items.proofs.walk.Walk.detectors.Goals as goal

pub returns-clause-some : goal.returns-clause-some
returns-clause-some c =
    rw c.len-count.ensures.value (detectors_taken c.args.self.now c.in_ok-ahead.ahead.now c.at_front-detectors.result c.args.most c.requires.given c.in_ok-ahead.ensures.value c.at_front-detectors.ensures.front)
