use Rattle.stab_pauli.proofs.Names.{arith, ◌≡◌, ◌∙◌, ◌*◌, ap, sym, length, ◌++◌, take, drop, chunk, common_steps, row_at}
use Rattle.stab_pauli.proofs.Lemmas.{is_of, lies_of, view_of, same_numbers, written_view, IsView, counted_seen, seen_of, in_seen, row_seen, read_power, same_view, fitting}
use Rattle.stab_pauli.proofs.rows.PauliRows.copy_row.Goals as goal
use Rattle.stab_pauli.proofs.rows.PauliRows.copy_row.Goals.{After-index}

pub row_of-words-requires-clause-in_range : goal.row_of-words-requires-clause-in_range
row_of-words-requires-clause-in_range c = counted_seen (seen_of c.self.invariant c.self.view_is) c.args.a c.len.result c.requires.in_range (omega (arith, c.self.inside.powers.ok.0))

pub copy_from_slice-requires : goal.copy_from_slice-requires
copy_from_slice-requires c =
    let mine = seen_of c.self.invariant c.self.view_is in
    let theirs = view_of c.out.invariant c.out.view_is in
    let fit = fitting mine theirs c.requires.same_length in
    ap length c.as_mut_slice.ensures.value ∙ fit.view.row.size ∙ sym c.row_of-words.ensures.size

pub index-requires : goal.index-requires
index-requires c = counted_seen (seen_of c.self.invariant c.self.view_is) c.args.a c.self.inside.powers.len c.requires.in_range c.self.inside.powers.ok.0

-- the string after the call
view_after : (c : After-index) → IsView c.out.inside.qubits c.out.inside.blocks
    (take c.out.inside.words.len (c.copy_from_slice.new.self ++ drop (length c.copy_from_slice.new.self) c.out.inside.words.items)) c.index.result.now
    (row_at c.args.self.now c.args.a)
view_after c =
    let mine = seen_of c.self.invariant c.self.view_is in
    let theirs = view_of c.out.invariant c.out.view_is in
    let fit = fitting mine theirs c.requires.same_length in
    let la = in_seen mine c.args.a c.requires.in_range in
    let read : c.row_of-words.result.now ≡ (chunk (8 * c.self.inside.blocks * c.args.a) (8 * c.self.inside.blocks) c.self.inside.words.items) = c.row_of-words.ensures.value ∙ ap (λ w. (chunk (8 * c.self.inside.blocks * c.args.a) (8 * c.self.inside.blocks) w)) c.as_slice.ensures.value in
    let words : c.copy_from_slice.new.self ≡ c.row_of-words.result.now = grind (arith, common_steps) in
    let row = same_view c.copy_from_slice.new.self c.index.result.now (row_seen mine c.args.a la) (words ∙ read) (read_power c.self.inside.powers.items c.args.a c.index.result.now la c.index.ensures) in
    written_view c.copy_from_slice.new.self c.out.inside.words.len theirs c.out.inside.words.ok.0 (same_numbers c.out.inside.qubits c.out.inside.blocks fit.qubits fit.blocks row)

pub invariant_of-out : goal.invariant_of-out
invariant_of-out c = lies_of (view_after (goal.at.invariant_of-out c).After-index)

pub returns : goal.returns
returns c = record { value = is_of (view_after (goal.at.returns c).After-index) }
