use Rattle.stab_pauli.proofs.Names.{arith, ◌≡◌, ◌*◌, subst, refl, replicate, ℕ, List, ◌++◌, length, set, take, drop, put_chunk, Zero, identity, with_row}
use Rattle.stab_pauli.proofs.Lemmas.{IsView, counted_seen, seen_of, qubits_seen, in_seen, put_seen, written_seen, blank_view, IsSeen}
use Rattle.stab_pauli.proofs.rows.PauliRows.clear.Goals as goal
use Rattle.stab_pauli.proofs.rows.PauliRows.clear.Goals.{After-clear}

pub clear-requires-clause-in_range : goal.clear-requires-clause-in_range
clear-requires-clause-in_range c = counted_seen (seen_of c.self.invariant c.self.view_is) c.args.a c.len-count.result c.requires.in_range (omega (arith, c.self.inside.powers.ok.0))

pub index_mut-requires : goal.index_mut-requires
index_mut-requires c = counted_seen (seen_of c.self.invariant c.self.view_is) c.args.a c.self.inside.powers.len c.requires.in_range c.self.inside.powers.ok.0

-- the rows after the call
seen_after : (c : After-clear) → IsSeen c.self.inside.qubits c.self.inside.blocks
    (take c.self.inside.words.len (c.clear.new.words ++ drop (length c.clear.new.words) c.self.inside.words.items))
    (set c.self.inside.powers.items c.args.a Zero)
    (with_row c.args.self.now c.args.a (identity c.args.self.now.qubits))
seen_after c =
    let mine = seen_of c.self.invariant c.self.view_is in
    let la = in_seen mine c.args.a c.requires.in_range in
    let words = subst (λ (w : List ℕ). c.clear.new.words ≡ put_chunk (8 * c.self.inside.blocks * c.args.a) w (replicate (8 * c.self.inside.blocks) 0)) c.as_mut_slice.ensures.value c.clear.ensures.words in
    let blank : IsView c.self.inside.qubits c.self.inside.blocks (replicate (8 * c.self.inside.blocks) 0) Zero (identity c.args.self.now.qubits) =
    subst (λ n. IsView c.self.inside.qubits c.self.inside.blocks (replicate (8 * c.self.inside.blocks) 0) Zero (identity n)) (qubits_seen mine) (blank_view c.self.inside.qubits c.self.inside.blocks (replicate (8 * c.self.inside.blocks) 0) c.self.invariant.blocks refl) in
    written_seen c.self.inside.words.items c.clear.new.words (replicate (8 * c.self.inside.blocks) 0) (8 * c.self.inside.blocks * c.args.a) c.self.inside.words.len words c.self.inside.words.ok.0 (put_seen mine c.args.a la blank)

pub invariant_of-self : goal.invariant_of-self
invariant_of-self c = (seen_after (goal.at.invariant_of-self c).After-clear).lies

pub returns : goal.returns
returns c = record { value = (seen_after (goal.at.returns c).After-clear).is }
