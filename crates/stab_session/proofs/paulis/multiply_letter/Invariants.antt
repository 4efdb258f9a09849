use Rattle.stab_session.proofs.Names.{◌≡◌, length, drop, string_product, letters_on}
use Rattle.stab_session.proofs.paulis.multiply_letter.Given as goal

abbrev pub invariant-loop-qubit : goal.invariant-loop-qubit
invariant-loop-qubit l = record {
  size : length l.string.letters ≡ length l.initial.string.letters;
  left : string_product (letters_on (length l.initial.string.letters) l.letter (drop l.qubit-index l.qubits)) l.string.letters
      ≡ string_product (letters_on (length l.initial.string.letters) l.letter l.qubits) l.initial.string.letters;
}
