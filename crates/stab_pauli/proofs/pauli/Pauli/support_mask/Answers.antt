use Rattle.stab_pauli.proofs.Names.{arith, subst, CoversSupport, CoversLetters}
use Rattle.stab_pauli.proofs.Lemmas.{view_of, length-view, letters-covered}
use Rattle.stab_pauli.proofs.pauli.Pauli.support_mask.Goals as goal

pub of-requires-clause-few : goal.of-requires-clause-few
of-requires-clause-few c =
    let mine = view_of c.self.invariant c.self.view_is in
    let size = length-view mine in
    let count = mine.row.blocks.count in
    omega (arith, size, count, c.requires.few)

pub returns : goal.returns
returns c =
    let mine = view_of c.self.invariant c.self.view_is in
    record {
      value = subst (CoversSupport c.of.result) mine.letters
          (letters-covered c.self.inside.qubits c.self.inside.blocks c.of.result c.self.inside.words.items mine.row
          (subst (CoversLetters c.self.inside.blocks c.of.result) c.as_slice.ensures.value c.of.ensures.value));
    }
