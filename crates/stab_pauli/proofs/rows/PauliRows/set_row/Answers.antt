use Rattle.stab_pauli.proofs.Names.{arith, ◌≡◌, ◌∙◌, ◌*◌, ap, subst, length, ℕ, List, ◌++◌, set, take, drop, put_chunk, with_row}
use Rattle.stab_pauli.proofs.Lemmas.{view_of, counted_seen, seen_of, in_seen, put_seen, written_seen, fitting, IsSeen}
use Rattle.stab_pauli.proofs.rows.PauliRows.set_row.Goals as goal
use Rattle.stab_pauli.proofs.rows.PauliRows.set_row.Goals.{After-copy_from}

pub copy_from-requires-clause-in_range : goal.copy_from-requires-clause-in_range
copy_from-requires-clause-in_range c = counted_seen (seen_of c.self.invariant c.self.view_is) c.args.a c.len-count.result c.requires.in_range (omega (arith, c.self.inside.powers.ok.0))

pub copy_from-requires-clause-other_length : goal.copy_from-requires-clause-other_length
copy_from-requires-clause-other_length c =
    let mine = seen_of c.self.invariant c.self.view_is in
    let theirs = view_of c.other.invariant c.other.view_is in
    let fit = fitting mine theirs c.requires.same_length in
    ap length c.as_slice.ensures.value ∙ fit.view.row.size

pub index_mut-requires : goal.index_mut-requires
index_mut-requires c = counted_seen (seen_of c.self.invariant c.self.view_is) c.args.a c.self.inside.powers.len c.requires.in_range c.self.inside.powers.ok.0

-- the rows after the call
seen_after : (c : After-copy_from) → IsSeen c.self.inside.qubits c.self.inside.blocks
    (take c.self.inside.words.len (c.copy_from.new.words ++ drop (length c.copy_from.new.words) c.self.inside.words.items))
    (set c.self.inside.powers.items c.args.a c.other.inside.power)
    (with_row c.args.self.now c.args.a c.args.other.now)
seen_after c =
    let mine = seen_of c.self.invariant c.self.view_is in
    let theirs = view_of c.other.invariant c.other.view_is in
    let fit = fitting mine theirs c.requires.same_length in
    let la = in_seen mine c.args.a c.requires.in_range in
    let words = subst (λ (w : List ℕ). c.copy_from.new.words ≡ put_chunk (8 * c.self.inside.blocks * c.args.a) w c.other.inside.words.items) c.as_mut_slice-words.ensures.value
    (subst (λ (o : List ℕ). c.copy_from.new.words ≡ put_chunk (8 * c.self.inside.blocks * c.args.a) c.as_mut_slice-words.result.now o) c.as_slice.ensures.value c.copy_from.ensures.words) in
    written_seen c.self.inside.words.items c.copy_from.new.words c.other.inside.words.items (8 * c.self.inside.blocks * c.args.a) c.self.inside.words.len words c.self.inside.words.ok.0 (put_seen mine c.args.a la fit.view)

pub invariant_of-self : goal.invariant_of-self
invariant_of-self c = (seen_after (goal.at.invariant_of-self c).After-copy_from).lies

pub returns : goal.returns
returns c = record { value = (seen_after (goal.at.returns c).After-copy_from).is }
