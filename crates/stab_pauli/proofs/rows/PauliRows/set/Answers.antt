use Rattle.stab_pauli.proofs.Names.{arith, ◌≡◌, ◌<◌, ◌*◌, ◌∙◌, subst, set, ℕ, List, ◌++◌, length, take, drop, chunk, phase_add, phase_inverse, letter_power, row_letters, IsRewritten, row_at, with_row, with_letter}
use Rattle.stab_pauli.proofs.Lemmas.{read_power, counted_seen, seen_of, qubits_seen, in_seen, position_seen, row_seen, put_seen, written_seen, letter_view, IsSeen}
use Rattle.stab_pauli.proofs.rows.PauliRows.set.Goals as goal
use Rattle.stab_pauli.proofs.rows.PauliRows.set.Goals.{After-power_with}

pub index-requires : goal.index-requires
index-requires c = counted_seen (seen_of c.self.invariant c.self.view_is) c.args.a c.self.inside.powers.len c.requires.in_range c.self.inside.powers.ok.0

pub index_mut-requires : goal.index_mut-requires
index_mut-requires c = counted_seen (seen_of c.self.invariant c.self.view_is) c.args.a c.self.inside.powers.len c.requires.in_range c.self.inside.powers.ok.0

pub set-requires-clause-in_range : goal.set-requires-clause-in_range
set-requires-clause-in_range c = counted_seen (seen_of c.self.invariant c.self.view_is) c.args.a c.len-count.result c.requires.in_range (omega (arith, c.self.inside.powers.ok.0))

pub set-requires-clause-qubit_in_range : goal.set-requires-clause-qubit_in_range
set-requires-clause-qubit_in_range c =
    let mine = seen_of c.self.invariant c.self.view_is in
    position_seen mine c.args.qubit c.requires.qubit_in_range

-- the rows after the call
seen_after : (c : After-power_with) → IsSeen c.self.inside.qubits c.self.inside.blocks
    (take c.self.inside.words.len (c.set.new.words ++ drop (length c.set.new.words) c.self.inside.words.items))
    (set c.self.inside.powers.items c.args.a c.power_with.result)
    (with_row c.args.self.now c.args.a (with_letter c.args.qubit c.args.letter (row_at c.args.self.now c.args.a)))
seen_after c =
    let mine = seen_of c.self.invariant c.self.view_is in
    let la = in_seen mine c.args.a c.requires.in_range in
    let n = qubits_seen mine in
    let lt : c.args.qubit < c.self.inside.qubits = omega arith in
    let is = subst (λ (w : List ℕ). IsRewritten (8 * c.self.inside.blocks * c.args.a) (8 * c.self.inside.blocks) w c.set.new.words (λ l. row_letters c.self.inside.blocks l ≡ set (row_letters c.self.inside.blocks (chunk (8 * c.self.inside.blocks * c.args.a) (8 * c.self.inside.blocks) w)) c.args.qubit c.args.letter)) c.as_mut_slice.ensures.value c.set.ensures.words in
    let power = c.power_with.ensures.value ∙ (λ i. phase_add (phase_inverse (letter_power c.letter-old.result)) (phase_add (letter_power c.args.letter) (read_power c.self.inside.powers.items c.args.a c.index.result.now la c.index.ensures i))) in
    written_seen c.self.inside.words.items c.set.new.words (chunk (8 * c.self.inside.blocks * c.args.a) (8 * c.self.inside.blocks) c.set.new.words) (8 * c.self.inside.blocks * c.args.a) c.self.inside.words.len is.words c.self.inside.words.ok.0
    (put_seen mine c.args.a la (letter_view (chunk (8 * c.self.inside.blocks * c.args.a) (8 * c.self.inside.blocks) c.set.new.words) c.args.qubit c.letter-old.result c.args.letter c.power_with.result (row_seen mine c.args.a la) lt is.size_is is.holds c.letter-old.ensures.value power))

pub invariant_of-self : goal.invariant_of-self
invariant_of-self c = (seen_after (goal.at.invariant_of-self c).After-power_with).lies

pub returns : goal.returns
returns c = record { value = (seen_after (goal.at.returns c).After-power_with).is }
