use Rattle.stab_sampler.proofs.Names.{◌≡◌, ℕ, ◌<◌, drop, ◌⊕◌, factors_anticommute, lane_letters}
use Rattle.stab_sampler.proofs.frames.Frames.anticommuting_factors.Given as goal

abbrev pub invariant-loop-factor : goal.invariant-loop-factor
invariant-loop-factor g l = (k : ℕ) → k < g.W.Word.lanes
    → (g.W.Word.at l.anticommuting k ⊕ factors_anticommute (lane_letters g.W.Word.at k l.self.letters.items) (drop l.factor-index l.factors))
    ≡ factors_anticommute (lane_letters g.W.Word.at k l.self.letters.items) l.factors
