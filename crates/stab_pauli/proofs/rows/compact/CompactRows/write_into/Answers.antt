use Rattle.stab_pauli.proofs.Names.{◌∙◌, ap, sym, length}
use Rattle.stab_pauli.proofs.Lemmas.{determined_by, seen_of, both_seen}
use Rattle.stab_pauli.proofs.rows.compact.CompactRows.write_into.Goals as goal

pub write_into-requires-clause-size : goal.write_into-requires-clause-size
write_into-requires-clause-size c =
    let mine = seen_of c.self.invariant.lies c.self.view_is in
    let theirs = seen_of c.rows.invariant c.rows.view_is in
    let both = both_seen theirs mine c.requires.same_qubits c.requires.same_number in
    c.fill.ensures.len ∙ ap length c.as_mut_slice-words.ensures.value ∙ both.words ∙ sym (ap (λ w. length (determined_by w)) c.as_ref.ensures)

pub copy_from_slice-requires : goal.copy_from_slice-requires
copy_from_slice-requires c =
    let mine = seen_of c.self.invariant.lies c.self.view_is in
    let theirs = seen_of c.rows.invariant c.rows.view_is in
    let both = both_seen theirs mine c.requires.same_qubits c.requires.same_number in
    ap length c.as_mut_slice.ensures.value ∙ both.powers ∙ ap length (sym c.as_slice.ensures.value)
