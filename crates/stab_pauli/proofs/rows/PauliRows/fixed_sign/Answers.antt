use Rattle.stab_pauli.proofs.Names.{◌∙◌, ap, sign_of_phase, row_at}
use Rattle.stab_pauli.proofs.Lemmas.{fixed_sign, seen_of, counted_seen, in_seen, row_seen, read_power}
use Rattle.stab_pauli.proofs.rows.PauliRows.fixed_sign.Goals as goal

pub index-requires : goal.index-requires
index-requires c = counted_seen (seen_of c.self.invariant c.self.view_is) c.args.a c.self.inside.powers.len c.requires.in_range c.self.inside.powers.ok.0

pub returns : goal.returns
returns c =
    let mine = seen_of c.self.invariant c.self.view_is in
    let la = in_seen mine c.args.a c.requires.in_range in
    let row = row_seen mine c.args.a la in
    let power = read_power c.self.inside.powers.items c.args.a c.index.result.now la c.index.ensures in
    record { value = c.sign.ensures.value ∙ ap sign_of_phase (power ∙ row.power) ∙ fixed_sign (row_at c.args.self.now c.args.a) c.requires.fixed }
