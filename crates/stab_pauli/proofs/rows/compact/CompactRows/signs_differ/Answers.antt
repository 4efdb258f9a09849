use Rattle.stab_pauli.proofs.Names.{◌∙◌, ap, phase_add, sign_of_phase, phase_inverse, row_at}
use Rattle.stab_pauli.proofs.Lemmas.{powers_differ, counted_seen, seen_of, in_seen, row_seen, read_power}
use Rattle.stab_pauli.proofs.rows.compact.CompactRows.signs_differ.Goals as goal

pub index-requires : goal.index-requires
index-requires c = counted_seen (seen_of c.self.invariant.lies c.self.view_is) c.args.a c.self.inside.powers.len c.requires.in_range c.self.inside.powers.ok.0

pub index-requires-2 : goal.index-requires-2
index-requires-2 c = counted_seen (seen_of c.rows.invariant c.rows.view_is) c.args.a c.rows.inside.powers.len c.requires.other_in_range c.rows.inside.powers.ok.0

pub returns : goal.returns
returns c =
    let mine = seen_of c.self.invariant.lies c.self.view_is in
    let theirs = seen_of c.rows.invariant c.rows.view_is in
    let la = in_seen mine c.args.a c.requires.in_range in
    let lb = in_seen theirs c.args.a c.requires.other_in_range in
    let power = read_power c.self.inside.powers.items c.args.a c.index.result.now la c.index.ensures ∙ (row_seen mine c.args.a la).power in
    let other = read_power c.rows.inside.powers.items c.args.a c.index-2.result.now lb c.index-2.ensures ∙ (row_seen theirs c.args.a lb).power in
    record {
      value =
          c.sign.ensures.value
          ∙ ap sign_of_phase (c.times.ensures.value ∙ (λ i. phase_add ((c.inverse.ensures.value ∙ ap phase_inverse power) i) (other i)))
          ∙ powers_differ (row_at c.args.self.now c.args.a) (row_at c.args.rows.now c.args.a) c.requires.same_letters;
    }
