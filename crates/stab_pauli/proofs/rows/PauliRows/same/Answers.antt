use Rattle.stab_pauli.proofs.Names.{◌∙◌, sym, refl, ap, true, false, slice_eq-Decides, determines_phases, Rows, unsigned_rows}
use Rattle.stab_pauli.proofs.Lemmas.{powers_distinct, all_determined, seen_of}
use Rattle.stab_pauli.proofs.rows.PauliRows.same.Goals as goal

pub returns-then-not-same : goal.returns-then-not-same
returns-then-not-same c =
    let mine = seen_of c.self.invariant c.self.view_is in
    let theirs = seen_of c.other.invariant c.other.view_is in
    let determined = slice_eq-Decides (determines_phases _ refl refl refl refl refl refl refl refl refl refl refl refl refl refl refl refl) c.as_slice.result.now c.as_slice-2.result.now false c.if-not-same.ensures in
    record { value = powers_distinct mine theirs c.as_slice.ensures.value c.as_slice-2.ensures.value determined.1 }

pub returns : goal.returns
returns c =
    let mine = seen_of c.self.invariant c.self.view_is in
    let theirs = seen_of c.other.invariant c.other.view_is in
    let determined = slice_eq-Decides (determines_phases _ refl refl refl refl refl refl refl refl refl refl refl refl refl refl refl refl) c.as_slice.result.now c.as_slice-2.result.now true c.if-not-same.ensures in
    let powers = sym c.as_slice.ensures.value ∙ determined.0 refl ∙ c.as_slice-2.ensures.value in
    record {
      value = (
        (λ h. all_determined mine theirs powers (c.same_letters.ensures.value.0 h).0 (c.same_letters.ensures.value.0 h).1),
        (λ e. c.same_letters.ensures.value.1 (ap (λ (r : Rows). r.qubits) e, ap unsigned_rows e)),
      );
    }
