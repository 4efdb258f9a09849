-- Groups: a set of signed strings on n qubits is a test, and the strings that stabilise a state pass one with four properties.
-- Source: Gottesman 1997, the stabiliser: a commuting group without -I. It is said by a test and not by generators.
use Rattle.std.specs.Prelude.{◌≡◌, ℕ, Bool, true, false, length}
use Rattle.stab_pauli.specs.Paulis.{Signed, identity, minus, anticommute, product}

-- the strings of n letters that pass a test are a group, whose members commute, and of no string both signs
pub record IsStabiliserGroup (n : ℕ) (member : Signed → Bool) : Type 0 where
  pub has_identity : member (identity n) ≡ true
  pub closed : (p q : Signed) → length p.letters ≡ n → length q.letters ≡ n → member p ≡ true → member q ≡ true → member (product p q) ≡ true
  pub commuting : (p q : Signed) → length p.letters ≡ n → length q.letters ≡ n → member p ≡ true → member q ≡ true → anticommute p q ≡ false
  pub one_sign : (p : Signed) → length p.letters ≡ n → member p ≡ true → member (minus p) ≡ false

-- two tests agree on all strings of n letters
abbrev pub SameGroup : ℕ → (Signed → Bool) → (Signed → Bool) → Type 0
SameGroup n a b = (p : Signed) → length p.letters ≡ n → a p ≡ b p
