use Rattle.stab_pauli.proofs.Names.{arith, ◌*◌, ◌∙◌, ap, length, ℕ, List, ◌++◌, take, drop, chunk, phased, row_at, product_times_i}
use Rattle.stab_pauli.proofs.Lemmas.{is_of, lies_of, view_of, IsView, counted_seen, seen_of, in_seen, fitting, phased_product-times_phase, times_i_viewed}
use Rattle.stab_pauli.proofs.rows.PauliRows.multiply_into_times_i.Goals as goal
use Rattle.stab_pauli.proofs.rows.PauliRows.multiply_into_times_i.Goals.{After-times_i-out-inside}

pub row_of-words-requires-clause-in_range : goal.row_of-words-requires-clause-in_range
row_of-words-requires-clause-in_range c = counted_seen (seen_of c.self.invariant c.self.view_is) c.args.a c.len.result c.requires.in_range (omega (arith, c.self.inside.powers.ok.0))

pub multiply-meet-requires-clause-length : goal.multiply-meet-requires-clause-length
multiply-meet-requires-clause-length c =
    let fit = fitting (seen_of c.self.invariant c.self.view_is) (view_of c.out.invariant c.out.view_is) c.requires.same_length in
    ap length c.as_mut_slice.ensures.value ∙ fit.view.row.size

pub index-requires : goal.index-requires
index-requires c = counted_seen (seen_of c.self.invariant c.self.view_is) c.args.a c.self.inside.powers.len c.requires.in_range c.self.inside.powers.ok.0

-- the string after the call
view_after : (c : After-times_i-out-inside) → IsView c.out.inside.qubits c.out.inside.blocks
    (take c.out.inside.words.len (c.multiply-meet.new.row ++ drop (length c.multiply-meet.new.row) c.out.inside.words.items)) c.times_i-out-inside.result
    (product_times_i c.args.out.now (row_at c.args.self.now c.args.a))
view_after c =
    let mine = seen_of c.self.invariant c.self.view_is in
    let la = in_seen mine c.args.a c.requires.in_range in
    let read = c.row_of-words.ensures.value ∙ ap (λ (w : List ℕ). chunk (8 * c.self.inside.blocks * c.args.a) (8 * c.self.inside.blocks) w) c.as_slice.ensures.value in
    times_i_viewed mine (view_of c.out.invariant c.out.view_is) c.requires.same_length c.args.a la c.requires.anticommuting c.multiply-meet.new.row c.out.inside.words.len c.index.result.now c.product_power.result c.times_i-out-inside.result c.multiply-meet.result
    c.as_mut_slice.ensures.value read (record { words_are = c.multiply-meet.ensures.words; meet_is = c.multiply-meet.ensures.meet }) c.index.ensures c.product_power.ensures.value c.times_i-out-inside.ensures.value c.out.inside.words.ok.0

pub invariant_of-out : goal.invariant_of-out
invariant_of-out c = lies_of (view_after (goal.at.invariant_of-out c).After-times_i-out-inside)

pub returns : goal.returns
returns c =
    let after = view_after (goal.at.returns c).After-times_i-out-inside in
    record { value = is_of after; phased = ap phased (is_of after) ∙ phased_product-times_phase c.args.out.now (row_at c.args.self.now c.args.a) c.requires.anticommuting }
