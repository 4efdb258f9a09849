-- Starts: what a circuit has instead of something else, for a frame to begin after it.
-- Source: this project's own.
use Rattle.std.specs.Prelude.{ℕ, List, [], ◌∷◌, replicate}
use Rattle.stab_gates.specs.declared.letter.Letter.{Letter}
use Rattle.stab_gates.specs.declared.letter.Letter.TheVariants.{I}
use Rattle.stab_pauli.specs.Paulis.{single, string_product}

-- one letter on each of some qubits; on one that is named twice it cancels
abbrev pub letters_on : ℕ → Letter → List ℕ → List Letter
letters_on n l [] = replicate n I
letters_on n l (q ∷ qs) = string_product (single n q l).letters (letters_on n l qs)
