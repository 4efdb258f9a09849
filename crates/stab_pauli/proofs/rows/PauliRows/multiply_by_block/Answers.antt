use Rattle.stab_pauli.proofs.Names.{arith, ◌≡◌, ◌*◌, refl, sym, ◌∙◌, ap, ◌++◌, length, set, take, drop, chunk, put_chunk, row_at, product_times_i, with_row, row_letters, signed_row, strings_meet, xor_words}
use Rattle.stab_pauli.proofs.Lemmas.{view_of, length-view, counted_seen, seen_of, in_seen, fitting, IsSeen, times_i_seen}
use Rattle.stab_pauli.proofs.rows.PauliRows.multiply_by_block.Goals as goal
use Rattle.stab_pauli.proofs.rows.PauliRows.multiply_by_block.Goals.{After-times_i}

pub offset_of-at-requires-clause-in_range : goal.offset_of-at-requires-clause-in_range
offset_of-at-requires-clause-in_range c = counted_seen (seen_of c.self.invariant c.self.view_is) c.args.a c.len-2.result c.requires.in_range (omega (arith, c.self.inside.powers.ok.0))

-- the rows after the call
seen_after : (c : After-times_i) → IsSeen c.self.inside.qubits c.self.inside.blocks
    (take c.self.inside.words.len (c.multiply_block_by-meet.new.words ++ drop (length c.multiply_block_by-meet.new.words) c.self.inside.words.items))
    (set c.self.inside.powers.items c.args.a c.times_i.result)
    (with_row c.args.self.now c.args.a (product_times_i (row_at c.args.self.now c.args.a) (signed_row c.args.self.now.qubits c.args.power (row_letters 1 (c.args.x ++ c.args.z)))))
seen_after c =
    let mine = seen_of c.self.invariant c.self.view_is in
    let la = in_seen mine c.args.a c.requires.in_range in
    let view = view_of c.requires.string refl in
    let fit = fitting mine view (length-view view) in
    let one : 1 ≡ c.self.inside.blocks = sym fit.blocks in
    let at : c.offset_of-at.result ≡ 8 * c.self.inside.blocks * c.args.a = c.offset_of-at.ensures.value ∙ ap (λ m. 8 * m * c.args.a) one in
    times_i_seen mine fit.view c.args.a la c.requires.anticommuting c.multiply_block_by-meet.new.words c.self.inside.words.len c.index.result.now c.args.power c.product_power.result c.times_i.result c.multiply_block_by-meet.result
    c.as_mut_slice.ensures.value refl
    (record {
      words_are = c.multiply_block_by-meet.ensures.words
          ∙ (λ i. put_chunk (at i) c.as_mut_slice.result.now (xor_words (chunk (at i) (8 * one i) c.as_mut_slice.result.now) (c.args.x ++ c.args.z)));
      meet_is = c.multiply_block_by-meet.ensures.meet
          ∙ (λ i. strings_meet (row_letters (one i) (chunk (at i) (8 * one i) c.as_mut_slice.result.now)) (row_letters (one i) (c.args.x ++ c.args.z)));
    })
    c.index.ensures refl c.product_power.ensures.value c.times_i.ensures.value c.self.inside.words.ok.0

pub index-requires : goal.index-requires
index-requires c = counted_seen (seen_of c.self.invariant c.self.view_is) c.args.a c.self.inside.powers.len c.requires.in_range c.self.inside.powers.ok.0

pub index_mut-requires : goal.index_mut-requires
index_mut-requires c = counted_seen (seen_of c.self.invariant c.self.view_is) c.args.a c.self.inside.powers.len c.requires.in_range c.self.inside.powers.ok.0

pub invariant_of-self : goal.invariant_of-self
invariant_of-self c = (seen_after (goal.at.invariant_of-self c).After-times_i).lies

pub returns : goal.returns
returns c = record { value = (seen_after (goal.at.returns c).After-times_i).is }
