use Rattle.stab_pauli.proofs.Names.{arith, refl, length, ◌++◌, set, take, drop, row_at, product_times_i, with_row, blocks_of, row_letters, signed_row}
use Rattle.stab_pauli.proofs.Lemmas.{view_of, length-view, counted_seen, seen_of, in_seen, fitting, IsSeen, times_i_seen}
use Rattle.stab_pauli.proofs.rows.PauliRows.multiply_in_support.Goals as goal
use Rattle.stab_pauli.proofs.rows.PauliRows.multiply_in_support.Goals.{After-times_i}

pub multiply_by-meet-requires-clause-in_range : goal.multiply_by-meet-requires-clause-in_range
multiply_by-meet-requires-clause-in_range c = counted_seen (seen_of c.self.invariant c.self.view_is) c.args.a c.len-count.result c.requires.in_range (omega (arith, c.self.inside.powers.ok.0))

pub index-requires : goal.index-requires
index-requires c = counted_seen (seen_of c.self.invariant c.self.view_is) c.args.a c.self.inside.powers.len c.requires.in_range c.self.inside.powers.ok.0

pub index_mut-requires : goal.index_mut-requires
index_mut-requires c = counted_seen (seen_of c.self.invariant c.self.view_is) c.args.a c.self.inside.powers.len c.requires.in_range c.self.inside.powers.ok.0

-- the rows after the call
seen_after : (c : After-times_i) → IsSeen c.self.inside.qubits c.self.inside.blocks
    (take c.self.inside.words.len (c.multiply_by-meet.new.words ++ drop (length c.multiply_by-meet.new.words) c.self.inside.words.items))
    (set c.self.inside.powers.items c.args.a c.times_i.result)
    (with_row c.args.self.now c.args.a
    (product_times_i (row_at c.args.self.now c.args.a) (signed_row c.args.self.now.qubits c.args.power (row_letters (blocks_of c.args.self.now.qubits) c.args.words.now))))
seen_after c =
    let mine = seen_of c.self.invariant c.self.view_is in
    let la = in_seen mine c.args.a c.requires.in_range in
    let view = view_of c.requires.string refl in
    let fit = fitting mine view (length-view view) in
    times_i_seen mine fit.view c.args.a la c.requires.anticommuting c.multiply_by-meet.new.words c.self.inside.words.len c.index.result.now c.args.power c.product_power.result c.times_i.result c.multiply_by-meet.result c.as_mut_slice-rows.ensures.value refl
    (record { words_are = c.multiply_by-meet.ensures.words; meet_is = c.multiply_by-meet.ensures.meet }) c.index.ensures refl c.product_power.ensures.value c.times_i.ensures.value c.self.inside.words.ok.0

pub invariant_of-self : goal.invariant_of-self
invariant_of-self c = (seen_after (goal.at.invariant_of-self c).After-times_i).lies

pub returns : goal.returns
returns c = record { value = (seen_after (goal.at.returns c).After-times_i).is }
