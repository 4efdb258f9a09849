use Rattle.stab_sampler.proofs.Names.{length-map, letter_in}
use Rattle.stab_sampler.proofs.FrameLemmas.{times-put}
use Rattle.stab_sampler.proofs.frames.Frames.multiply_letter.Goals as goal

pub returns-clause-letters : goal.returns-clause-letters
returns-clause-letters g c = λ l lt.
    times-put g.W.Word.at l c.args.self.now.letters.items (g.W.Word.at c.args.lanes l) c.args.letter c.args.qubit _ c.index_mut.result.now c.multiply.new.self
    (length-map c.args.self.now.letters.items (letter_in g.W.Word.at l)) c.requires.in_range c.requires.in_range c.index_mut.ensures.value (c.multiply.ensures.value l lt)
