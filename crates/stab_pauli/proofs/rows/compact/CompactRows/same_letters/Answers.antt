use Rattle.stab_pauli.proofs.Names.{arith, ◌≡◌, ◌∙◌, ◌*◌, sym, subst, ap, length, AreShort, blocks_of, SparseWords}
use Rattle.stab_pauli.proofs.Lemmas.{short-spread, determined_by, words_determined, letters_determined, same_number, no_false, seen_of, qubits_seen}
use Rattle.stab_pauli.proofs.rows.compact.CompactRows.same_letters.Goals as goal

pub returns-then-self-rows : goal.returns-then-self-rows
returns-then-self-rows c =
    let mine = seen_of c.self.invariant.lies c.self.view_is in
    let theirs = seen_of c.rows.invariant c.rows.view_is in
    record { value = ((λ h. absurd (no_false h)), (λ both. absurd (c.if-self-rows.true (qubits_seen mine ∙ both.0 ∙ sym (qubits_seen theirs))))) }

pub returns-then-len : goal.returns-then-len
returns-then-len c =
    let mine = seen_of c.self.invariant.lies c.self.view_is in
    let theirs = seen_of c.rows.invariant c.rows.view_is in
    let k = c.self.inside.powers.ok.0 in
    let k' = c.rows.inside.powers.ok.0 in
    record { value = ((λ h. absurd (no_false h)), (λ both. let l = same_number mine theirs both.1 in absurd (c.if-len.true (omega arith)))) }

pub are-requires-clause-size : goal.are-requires-clause-size
are-requires-clause-size c =
    let k = c.self.inside.powers.ok.0 in
    let k' = c.rows.inside.powers.ok.0 in
    let number : length c.self.inside.powers.items ≡ length c.rows.inside.powers.items = omega arith in
    let blocks : c.self.inside.blocks ≡ c.rows.inside.blocks =
    c.self.invariant.lies.blocks.count ∙ ap blocks_of c.if-self-rows.false ∙ sym c.rows.invariant.blocks.count in
    ap length c.as_slice-words.ensures.value ∙ c.rows.invariant.size ∙ sym (ap (λ w. length (determined_by w)) c.as_ref-sparse.ensures ∙ c.self.invariant.lies.size ∙ (λ i. 8 * blocks i * number i))

pub returns : goal.returns
returns c =
    let mine = seen_of c.self.invariant.lies c.self.view_is in
    let theirs = seen_of c.rows.invariant c.rows.view_is in
    let k = c.self.inside.powers.ok.0 in
    let k' = c.rows.inside.powers.ok.0 in
    let number : length c.self.inside.powers.items ≡ length c.rows.inside.powers.items = omega arith in
    let same = ap determined_by c.as_ref-sparse.ensures in
    let stored = subst (AreShort 64) (c.as_slice.ensures.value ∙ ap (λ (w : SparseWords). w.stored.items) c.as_ref-sparse.ensures) c.are_short-2.ensures.law in
    let short = short-spread c.self.inside.words.value.gaps.items c.self.inside.words.value.stored.items c.self.inside.words.value.following stored in
    let shorts = subst (AreShort 64) c.as_slice-words.ensures.value c.are_short.ensures.law in
    record {
      value = (
        (λ h. (
          sym (qubits_seen mine) ∙ c.if-self-rows.false ∙ qubits_seen theirs,
          letters_determined mine theirs c.if-self-rows.false number (sym same ∙ c.are.ensures.value.0 h ∙ c.as_slice-words.ensures.value),
        )),
        (λ both. c.are.ensures.value.1 (same ∙ words_determined mine theirs short shorts both.0 both.1 ∙ sym c.as_slice-words.ensures.value)),
      );
    }
