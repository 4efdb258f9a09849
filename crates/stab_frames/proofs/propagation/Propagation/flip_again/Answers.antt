use Rattle.stab_frames.proofs.StillPropagationLemmas.{again-view}
use Rattle.stab_frames.proofs.propagation.Propagation.flip_again.Goals as goal

pub returns-clause-value : goal.returns-clause-value
returns-clause-value c =
    again-view c.self.inside.letters.items c.self.inside.records.items c.repeat_from.new.items.items c.self.inside.outcomes.items c.repeat_from-2.new.items.items
    c.self.inside.detectors.items c.repeat_from-3.new.items.items c.self.inside.additions.items c.repeat_from-4.new.items.items c.self.inside.coin c.self.inside.number c.args.coins
    c.args.from c.args.self.now c.self.view_is c.in_ok-repeat_from.ensures.value c.in_ok-repeat_from-2.ensures.value c.in_ok-repeat_from-3.ensures.value
    c.in_ok-repeat_from-4.ensures.value
