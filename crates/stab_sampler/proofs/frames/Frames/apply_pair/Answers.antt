use Rattle.stab_sampler.proofs.Names.{refl, sym, ◌∙◌}
use Rattle.stab_sampler.proofs.FrameLemmas.{control-put, exchange-put}
use Rattle.stab_sampler.proofs.frames.Frames.apply_pair.Goals as goal

pub returns-in-Some-clause-letters : goal.returns-in-Some-clause-letters
returns-in-Some-clause-letters g c = λ l lt.
    control-put g.W.Word.at l c.args.self.now.letters.items c.args.gate c.in-Some.letter c.args.first c.args.second
    c.index.result.now c.index-in-Some.result.now c.index_mut.result.now c.index_mut-in-Some.result.now c.multiply.new.self c.multiply-in-Some.new.self (g.W.Word.at c.anticommuting-anticommuting.result l)
    (sym c.controlled_letter.ensures.value ∙ c.in-Some.is) c.requires.distinct c.requires.first_in_range c.requires.second_in_range
    c.index.ensures c.index-in-Some.ensures c.index_mut.ensures.value c.index_mut-in-Some.ensures.value
    (c.anticommuting-anticommuting.ensures.value l lt) (c.multiply.ensures.value l lt) (c.multiply-in-Some.ensures.value l lt)

pub returns-in-None-clause-letters : goal.returns-in-None-clause-letters
returns-in-None-clause-letters g c = λ l lt.
    exchange-put g.W.Word.at l c.args.self.now.letters.items c.args.gate c.args.first c.args.second
    c.index-preserved.result.now c.index-in-None.result.now c.index-preserved.result.now
    (sym c.controlled_letter.ensures.value ∙ c.in-None.is) c.requires.first_in_range c.requires.second_in_range
    c.index-preserved.ensures c.index-in-None.ensures refl
