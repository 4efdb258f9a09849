use Rattle.stab_pauli.proofs.Names.{arith, ◌∙◌, ◌*◌, ap, sym, ◌++◌, length, take, drop, swap_is, Zero, swapped_words, swapped_rows}
use Rattle.stab_pauli.proofs.Lemmas.{counted_seen, seen_of, in_seen, swapped_written, IsSeen}
use Rattle.stab_pauli.proofs.rows.PauliRows.swap.Goals as goal
use Rattle.stab_pauli.proofs.rows.PauliRows.swap.Goals.{After-swap-2}

pub swap-requires-clause-a_in_range : goal.swap-requires-clause-a_in_range
swap-requires-clause-a_in_range c = counted_seen (seen_of c.self.invariant c.self.view_is) c.args.a c.len-count.result c.requires.a_in_range (omega (arith, c.self.inside.powers.ok.0))

pub swap-requires-clause-b_in_range : goal.swap-requires-clause-b_in_range
swap-requires-clause-b_in_range c = counted_seen (seen_of c.self.invariant c.self.view_is) c.args.b c.len-count.result c.requires.b_in_range (omega (arith, c.self.inside.powers.ok.0))

pub swap-requires-2-clause-i_in_bounds : goal.swap-requires-2-clause-i_in_bounds
swap-requires-2-clause-i_in_bounds c = counted_seen (seen_of c.self.invariant c.self.view_is) c.args.a c.self.inside.powers.len c.requires.a_in_range c.self.inside.powers.ok.0

pub swap-requires-2-clause-j_in_bounds : goal.swap-requires-2-clause-j_in_bounds
swap-requires-2-clause-j_in_bounds c = counted_seen (seen_of c.self.invariant c.self.view_is) c.args.b c.self.inside.powers.len c.requires.b_in_range c.self.inside.powers.ok.0

-- the rows after the call
seen_after : (c : After-swap-2) → IsSeen c.self.inside.qubits c.self.inside.blocks
    (take c.self.inside.words.len (c.swap.new.words ++ drop (length c.swap.new.words) c.self.inside.words.items))
    c.swap-2.new.self.items
    (swapped_rows c.args.self.now c.args.a c.args.b)
seen_after c =
    let mine = seen_of c.self.invariant c.self.view_is in
    let la = in_seen mine c.args.a c.requires.a_in_range in
    let lb = in_seen mine c.args.b c.requires.b_in_range in
    let words = c.swap.ensures.words ∙ ap (swapped_words (8 * c.self.inside.blocks * c.args.a) (8 * c.self.inside.blocks * c.args.b) (8 * c.self.inside.blocks)) c.as_mut_slice.ensures.value in
    swapped_written mine c.args.a c.args.b la lb c.swap.new.words c.swap-2.new.self.items c.self.inside.words.len words (c.swap-2.ensures.items ∙ sym (swap_is c.self.inside.powers.items c.args.a c.args.b Zero la lb)) c.self.inside.words.ok.0

pub invariant_of-self : goal.invariant_of-self
invariant_of-self c = (seen_after (goal.at.invariant_of-self c).After-swap-2).lies

pub returns : goal.returns
returns c = record { value = (seen_after (goal.at.returns c).After-swap-2).is }
