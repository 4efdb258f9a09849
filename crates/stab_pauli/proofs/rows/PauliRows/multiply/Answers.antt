use Rattle.stab_pauli.proofs.Names.{arith, ◌*◌, ap, ℕ, List, ◌++◌, length, set, take, drop, chunk, product, row_at, with_row}
use Rattle.stab_pauli.proofs.Lemmas.{IsSeen, read_power, counted_seen, seen_of, in_seen, row_seen, product_seen}
use Rattle.stab_pauli.proofs.rows.PauliRows.multiply.Goals as goal
use Rattle.stab_pauli.proofs.rows.PauliRows.multiply.Goals.{After-product_power}

pub multiply-meet-requires-clause-a_in_range : goal.multiply-meet-requires-clause-a_in_range
multiply-meet-requires-clause-a_in_range c = counted_seen (seen_of c.self.invariant c.self.view_is) c.args.a c.len-count.result c.requires.a_in_range (omega (arith, c.self.inside.powers.ok.0))

pub multiply-meet-requires-clause-b_in_range : goal.multiply-meet-requires-clause-b_in_range
multiply-meet-requires-clause-b_in_range c = counted_seen (seen_of c.self.invariant c.self.view_is) c.args.b c.len-count.result c.requires.b_in_range (omega (arith, c.self.inside.powers.ok.0))

pub index-requires : goal.index-requires
index-requires c = counted_seen (seen_of c.self.invariant c.self.view_is) c.args.a c.self.inside.powers.len c.requires.a_in_range c.self.inside.powers.ok.0

pub index-requires-2 : goal.index-requires-2
index-requires-2 c = counted_seen (seen_of c.self.invariant c.self.view_is) c.args.b c.self.inside.powers.len c.requires.b_in_range c.self.inside.powers.ok.0

pub index_mut-requires : goal.index_mut-requires
index_mut-requires c = counted_seen (seen_of c.self.invariant c.self.view_is) c.args.a c.self.inside.powers.len c.requires.a_in_range c.self.inside.powers.ok.0

-- the rows after the call
seen_after : (c : After-product_power) → IsSeen c.self.inside.qubits c.self.inside.blocks
    (take c.self.inside.words.len (c.multiply-meet.new.words ++ drop (length c.multiply-meet.new.words) c.self.inside.words.items))
    (set c.self.inside.powers.items c.args.a c.product_power.result)
    (with_row c.args.self.now c.args.a (product (row_at c.args.self.now c.args.a) (row_at c.args.self.now c.args.b)))
seen_after c =
    let mine = seen_of c.self.invariant c.self.view_is in
    let la = in_seen mine c.args.a c.requires.a_in_range in
    let lb = in_seen mine c.args.b c.requires.b_in_range in
    let power = read_power c.self.inside.powers.items c.args.b c.index-2.result.now lb c.index-2.ensures in
    let row = ap (λ (w : List ℕ). chunk (8 * c.self.inside.blocks * c.args.b) (8 * c.self.inside.blocks) w) c.as_mut_slice.ensures.value in
    product_seen mine (row_seen mine c.args.b lb) c.args.a la c.requires.commuting c.multiply-meet.new.words c.self.inside.words.len c.index.result.now c.index-2.result.now c.product_power.result c.multiply-meet.result c.as_mut_slice.ensures.value row
    (record { words_are = c.multiply-meet.ensures.words; meet_is = c.multiply-meet.ensures.meet }) c.index.ensures power c.product_power.ensures.value c.self.inside.words.ok.0

pub invariant_of-self : goal.invariant_of-self
invariant_of-self c = (seen_after (goal.at.invariant_of-self c).After-product_power).lies

pub returns : goal.returns
returns c = record { value = (seen_after (goal.at.returns c).After-product_power).is }
