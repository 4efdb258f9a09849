-- Conjugation: groups that differ in the signs of their members, by the letters of a Pauli string.
-- Source: the Pauli frames of C. Gidney, Stim: a fast stabilizer circuit simulator (2021).
use Rattle.std.specs.Prelude.{◌≡◌, ℕ, Bool, List, length}
use Rattle.stab_gates.specs.declared.letter.Letter.{Letter}
use Rattle.stab_pauli.specs.Paulis.{Signed, with_sign, strings_anticommute}

-- a string of n letters passes the test b if it passes the test a, with its sign flipped if it anticommutes with f
abbrev pub IsConjugated : ℕ → List Letter → (Signed → Bool) → (Signed → Bool) → Type 0
IsConjugated n f a b = (p : Signed) → length p.letters ≡ n → b p ≡ a (with_sign (strings_anticommute f p.letters) p)
