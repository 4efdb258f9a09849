use Rattle.stab_sampler.proofs.FrameLemmas.{gate-put}
use Rattle.stab_sampler.proofs.frames.Frames.apply.Goals as goal

pub returns-clause-letters : goal.returns-clause-letters
returns-clause-letters g c = λ l lt.
    gate-put g.W.Word.at l c.args.self.now.letters.items c.args.gate c.args.qubit c.index_mut.result.now c.apply.new.self
    c.requires.in_range c.index_mut.ensures.value (c.apply.ensures.value l lt)
