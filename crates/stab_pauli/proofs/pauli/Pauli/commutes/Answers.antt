use Rattle.stab_pauli.proofs.Names.{not, length, ◌∙◌, ap, strings_anticommute, row_letters}
use Rattle.stab_pauli.proofs.Lemmas.{view_of, alike}
use Rattle.stab_pauli.proofs.PaddedLemmas.{anticommute-product}
use Rattle.stab_pauli.proofs.pauli.Pauli.commutes.Goals as goal

pub anticommute-requires-clause-other_length : goal.anticommute-requires-clause-other_length
anticommute-requires-clause-other_length c =
    let mine = view_of c.self.invariant c.self.view_is in
    let theirs = view_of c.other.invariant c.other.view_is in
    ap length c.as_slice-2.ensures.value ∙ (alike mine theirs c.requires.same_length).view.row.size

pub returns : goal.returns
returns c =
    let mine = view_of c.self.invariant c.self.view_is in
    let theirs = view_of c.other.invariant c.other.view_is in
    let both = alike mine theirs c.requires.same_length in
    record {
      value = ap not (c.anticommute.ensures.value
          ∙ (λ i. strings_anticommute (row_letters c.self.inside.blocks (c.as_slice.ensures.value i)) (row_letters c.self.inside.blocks (c.as_slice-2.ensures.value i)))
          ∙ anticommute-product c.self.inside.qubits c.self.inside.blocks c.self.inside.words.items c.other.inside.words.items c.self.invariant.row both.view.row
          ∙ (λ i. strings_anticommute (mine.letters i) (both.view.letters i)));
    }
