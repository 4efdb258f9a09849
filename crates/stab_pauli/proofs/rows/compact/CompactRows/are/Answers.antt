use Rattle.stab_pauli.proofs.Names.{◌∙◌, sym, refl, ap, subst, length, true, false, slice_eq-Decides, Rows, unsigned_rows, AreShort, determines_phases, SparseWords}
use Rattle.stab_pauli.proofs.Lemmas.{short-spread, determined_by, powers_distinct, words_determined, letters_determined, all_determined, seen_of, qubits_seen}
use Rattle.stab_pauli.proofs.rows.compact.CompactRows.are.Goals as goal

pub returns-then-not-same : goal.returns-then-not-same
returns-then-not-same c =
    let mine = seen_of c.self.invariant.lies c.self.view_is in
    let theirs = seen_of c.rows.invariant c.rows.view_is in
    let determined = slice_eq-Decides (determines_phases _ refl refl refl refl refl refl refl refl refl refl refl refl refl refl refl refl) c.as_slice.result.now c.as_slice-2.result.now false c.if-not-same.ensures in
    record { value = powers_distinct mine theirs c.as_slice.ensures.value c.as_slice-2.ensures.value determined.1 }

pub returns : goal.returns
returns c =
    let mine = seen_of c.self.invariant.lies c.self.view_is in
    let theirs = seen_of c.rows.invariant c.rows.view_is in
    let determined = slice_eq-Decides (determines_phases _ refl refl refl refl refl refl refl refl refl refl refl refl refl refl refl refl) c.as_slice.result.now c.as_slice-2.result.now true c.if-not-same.ensures in
    let powers = sym c.as_slice.ensures.value ∙ determined.0 refl ∙ c.as_slice-2.ensures.value in
    let same = ap determined_by c.as_ref-sparse.ensures in
    let stored = subst (AreShort 64) (c.as_slice-3.ensures.value ∙ ap (λ (w : SparseWords). w.stored.items) c.as_ref-sparse.ensures) c.are_short-2.ensures.law in
    let short = short-spread c.self.inside.words.value.gaps.items c.self.inside.words.value.stored.items c.self.inside.words.value.following stored in
    let words = subst (AreShort 64) c.as_slice-words.ensures.value c.are_short.ensures.law in
    let same_qubits = sym (qubits_seen mine) ∙ c.if-self-rows.false ∙ qubits_seen theirs in
    record {
      value = (
        (λ h. all_determined mine theirs powers same_qubits (letters_determined mine theirs c.if-self-rows.false (ap length powers) (sym same ∙ c.are.ensures.value.0 h ∙ c.as_slice-words.ensures.value))),
        (λ e. c.are.ensures.value.1 (same ∙ words_determined mine theirs short words (ap (λ (r : Rows). r.qubits) e) (ap unsigned_rows e) ∙ sym c.as_slice-words.ensures.value)),
      );
    }
