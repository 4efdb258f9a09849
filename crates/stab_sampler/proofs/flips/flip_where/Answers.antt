use Rattle.stab_sampler.proofs.Names.{◌≡◌, true, false, sym, ◌∙◌, ap, set, get_or, ◌⊕◌, lane_bits}
use Rattle.stab_sampler.proofs.LaneLemmas.{flips-at}
use Rattle.stab_sampler.proofs.flips.flip_where.Goals as goal

pub returns-then-bit-clause-value : goal.returns-then-bit-clause-value
returns-then-bit-clause-value g c = λ l lt.
    let at = g.W.Word.at in
    let words = c.args.flips.now.items in
    let bit : true ≡ c.args.bit = sym c.if-bit.true in
    flips-at at l words c.args.position c.index.result.now c.xor.result c.requires.in_range c.index.ensures
    (c.xor.ensures.value l lt ∙ ap (λ b. at c.index.result.now l ⊕ b) (c.all.ensures.value l lt))
    ∙ ap (λ b. set (lane_bits at l words) c.args.position (get_or (lane_bits at l words) c.args.position false ⊕ b)) bit
