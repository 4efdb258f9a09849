use Rattle.stab_pauli.proofs.Names.{arith, ◌∙◌, ap, refl, length, ◌++◌, set, take, drop, phased, row_at, product_times_i, with_row}
use Rattle.stab_pauli.proofs.Lemmas.{view_of, counted_seen, seen_of, in_seen, fitting, phased_product-times_phase, row_at-with_row, IsSeen, times_i_seen}
use Rattle.stab_pauli.proofs.rows.PauliRows.multiply_by_times_i.Goals as goal
use Rattle.stab_pauli.proofs.rows.PauliRows.multiply_by_times_i.Goals.{After-times_i}

pub multiply_by-meet-requires-clause-in_range : goal.multiply_by-meet-requires-clause-in_range
multiply_by-meet-requires-clause-in_range c = counted_seen (seen_of c.self.invariant c.self.view_is) c.args.a c.len-count.result c.requires.in_range (omega (arith, c.self.inside.powers.ok.0))

pub multiply_by-meet-requires-clause-other_length : goal.multiply_by-meet-requires-clause-other_length
multiply_by-meet-requires-clause-other_length c =
    let fit = fitting (seen_of c.self.invariant c.self.view_is) (view_of c.other.invariant c.other.view_is) c.requires.same_length in
    ap length c.as_slice.ensures.value ∙ fit.view.row.size

pub index-requires : goal.index-requires
index-requires c = counted_seen (seen_of c.self.invariant c.self.view_is) c.args.a c.self.inside.powers.len c.requires.in_range c.self.inside.powers.ok.0

pub index_mut-requires : goal.index_mut-requires
index_mut-requires c = counted_seen (seen_of c.self.invariant c.self.view_is) c.args.a c.self.inside.powers.len c.requires.in_range c.self.inside.powers.ok.0

-- the rows after the call
seen_after : (c : After-times_i) → IsSeen c.self.inside.qubits c.self.inside.blocks
    (take c.self.inside.words.len (c.multiply_by-meet.new.words ++ drop (length c.multiply_by-meet.new.words) c.self.inside.words.items))
    (set c.self.inside.powers.items c.args.a c.times_i.result)
    (with_row c.args.self.now c.args.a (product_times_i (row_at c.args.self.now c.args.a) c.args.other.now))
seen_after c =
    let mine = seen_of c.self.invariant c.self.view_is in
    let la = in_seen mine c.args.a c.requires.in_range in
    let fit = fitting mine (view_of c.other.invariant c.other.view_is) c.requires.same_length in
    times_i_seen mine fit.view c.args.a la c.requires.anticommuting c.multiply_by-meet.new.words c.self.inside.words.len c.index.result.now c.other.inside.power c.product_power.result c.times_i.result c.multiply_by-meet.result c.as_mut_slice-words.ensures.value c.as_slice.ensures.value
    (record { words_are = c.multiply_by-meet.ensures.words; meet_is = c.multiply_by-meet.ensures.meet }) c.index.ensures refl c.product_power.ensures.value c.times_i.ensures.value c.self.inside.words.ok.0

pub invariant_of-self : goal.invariant_of-self
invariant_of-self c = (seen_after (goal.at.invariant_of-self c).After-times_i).lies

pub returns : goal.returns
returns c =
    let after = seen_after (goal.at.returns c).After-times_i in
    record {
      value = after.is;
      phased =
          ap (λ r. phased (row_at r c.args.a)) after.is
          ∙ ap phased (row_at-with_row c.args.self.now c.args.a (product_times_i (row_at c.args.self.now c.args.a) c.args.other.now) c.requires.in_range)
          ∙ phased_product-times_phase (row_at c.args.self.now c.args.a) c.args.other.now c.requires.anticommuting;
    }
