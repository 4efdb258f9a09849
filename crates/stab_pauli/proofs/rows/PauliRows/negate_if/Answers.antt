use Rattle.stab_pauli.proofs.Names.{◌∙◌, ap, phase_add}
use Rattle.stab_pauli.proofs.Lemmas.{counted_seen, seen_of, in_seen, negated_seen}
use Rattle.stab_pauli.proofs.rows.PauliRows.negate_if.Goals as goal

pub index-requires : goal.index-requires
index-requires c = counted_seen (seen_of c.self.invariant c.self.view_is) c.args.a c.self.inside.powers.len c.requires.in_range c.self.inside.powers.ok.0

pub index_mut-requires : goal.index_mut-requires
index_mut-requires c = counted_seen (seen_of c.self.invariant c.self.view_is) c.args.a c.self.inside.powers.len c.requires.in_range c.self.inside.powers.ok.0

pub invariant_of-self : goal.invariant_of-self
invariant_of-self c =
    let mine = seen_of c.self.invariant c.self.view_is in
    let la = in_seen mine c.args.a c.requires.in_range in
    let seen = negated_seen mine c.args.a c.args.bit c.index.result.now c.times.result la c.index.ensures (c.times.ensures.value ∙ ap (phase_add c.index.result.now) c.of_sign.ensures.value) in
    seen.lies

pub returns : goal.returns
returns c =
    let mine = seen_of c.self.invariant c.self.view_is in
    let la = in_seen mine c.args.a c.requires.in_range in
    let seen = negated_seen mine c.args.a c.args.bit c.index.result.now c.times.result la c.index.ensures (c.times.ensures.value ∙ ap (phase_add c.index.result.now) c.of_sign.ensures.value) in
    record { value = seen.is }
