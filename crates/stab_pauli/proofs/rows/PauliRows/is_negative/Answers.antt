use Rattle.stab_pauli.proofs.Names.{arith, ◌*◌, ◌∙◌, chunk, sign_of_phase, sign_power, row_letters}
use Rattle.stab_pauli.proofs.Lemmas.{sign_read, seen_of, counted_seen, in_seen, row_seen, read_power}
use Rattle.stab_pauli.proofs.rows.PauliRows.is_negative.Goals as goal

pub row_of-words-requires-clause-in_range : goal.row_of-words-requires-clause-in_range
row_of-words-requires-clause-in_range c = counted_seen (seen_of c.self.invariant c.self.view_is) c.args.a c.len.result c.requires.in_range (omega (arith, c.self.inside.powers.ok.0))

pub index-requires : goal.index-requires
index-requires c = counted_seen (seen_of c.self.invariant c.self.view_is) c.args.a c.self.inside.powers.len c.requires.in_range c.self.inside.powers.ok.0

pub returns : goal.returns
returns c =
    let mine = seen_of c.self.invariant c.self.view_is in
    let la = in_seen mine c.args.a c.requires.in_range in
    let power = read_power c.self.inside.powers.items c.args.a c.index.result.now la c.index.ensures in
    record {
      value =
          c.is_negative.ensures.value
          ∙ (λ i. sign_of_phase (sign_power (power i) (row_letters c.self.inside.blocks ((c.row_of-words.ensures.value ∙ (λ j. chunk (8 * c.self.inside.blocks * c.args.a) (8 * c.self.inside.blocks) (c.as_slice.ensures.value j))) i))))
          ∙ sign_read (row_seen mine c.args.a la);
    }
