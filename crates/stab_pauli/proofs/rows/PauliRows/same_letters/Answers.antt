use Rattle.stab_pauli.proofs.Names.{arith, ◌≡◌, ◌∙◌, sym, length}
use Rattle.stab_pauli.proofs.Lemmas.{AreShort-same, words_determined, letters_determined, same_number, no_false, seen_of, qubits_seen}
use Rattle.stab_pauli.proofs.rows.PauliRows.same_letters.Goals as goal

pub same-requires-clause-are_short : goal.same-requires-clause-are_short
same-requires-clause-are_short c = record { below = λ i. (c.type_inv.words i).fits }

pub same-requires-clause-others_are_short : goal.same-requires-clause-others_are_short
same-requires-clause-others_are_short c = record { below = λ i. (c.type_inv.others i).fits }

pub returns-then-self-other : goal.returns-then-self-other
returns-then-self-other c =
    let mine = seen_of c.self.invariant c.self.view_is in
    let theirs = seen_of c.other.invariant c.other.view_is in
    record { value = ((λ h. absurd (no_false h)), (λ both. absurd (c.if-self-other.true (qubits_seen mine ∙ both.0 ∙ sym (qubits_seen theirs))))) }

pub returns-then-len : goal.returns-then-len
returns-then-len c =
    let mine = seen_of c.self.invariant c.self.view_is in
    let theirs = seen_of c.other.invariant c.other.view_is in
    let k = c.self.inside.powers.ok.0 in
    let k' = c.other.inside.powers.ok.0 in
    record { value = ((λ h. absurd (no_false h)), (λ both. let l = same_number mine theirs both.1 in absurd (c.if-len.true (omega arith)))) }

pub returns : goal.returns
returns c =
    let mine = seen_of c.self.invariant c.self.view_is in
    let theirs = seen_of c.other.invariant c.other.view_is in
    let k = c.self.inside.powers.ok.0 in
    let k' = c.other.inside.powers.ok.0 in
    let number : length c.self.inside.powers.items ≡ length c.other.inside.powers.items = omega arith in
    let short = AreShort-same 64 c.self.inside.words.items c.as_slice-words.result.now c.as_slice-words.ensures.value c.same.ensures.short in
    let shorts = AreShort-same 64 c.other.inside.words.items c.as_slice-others.result.now c.as_slice-others.ensures.value c.same.ensures.others_short in
    record {
      value = (
        (λ h. (
          sym (qubits_seen mine) ∙ c.if-self-other.false ∙ qubits_seen theirs,
          letters_determined mine theirs c.if-self-other.false number (sym c.as_slice-words.ensures.value ∙ c.same.ensures.value.0 h ∙ c.as_slice-others.ensures.value),
        )),
        (λ both. c.same.ensures.value.1 (c.as_slice-words.ensures.value ∙ words_determined mine theirs short shorts both.0 both.1 ∙ sym c.as_slice-others.ensures.value)),
      );
    }
