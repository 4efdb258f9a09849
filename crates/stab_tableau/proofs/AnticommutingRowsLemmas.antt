-- Rows that anticommute in a group of 32 qubits: a walk over the letters that are not I, which makes the mask of the rows whose letters
-- anticommute with them.
use Rattle.stab_tableau.proofs.Names.{◌≡◌, ◌≢◌, ℕ, ◌+◌, ◌<◌, true, false, inl, inr, sym, ◌∙◌, ap, subst, List, length, arith, ◌⊎◌, cases_order, Letter, I, letters_anticommute, letters_anticommute-I, chooses, clash, InverseRow, letter_at, row_position, row_letter}

-- what the mask says of qubit k of a group: the rows that anticommute with its letter
abbrev pub FindsAnticommuting : ℕ → ℕ → ℕ → List Letter → Type 0
FindsAnticommuting mask first k letters = (w : InverseRow) → chooses mask (row_position w k) ≡ letters_anticommute (row_letter w) (letter_at letters (first + k))

-- no row anticommutes with the letter I
pub commutes-I : (w : InverseRow) (letters : List Letter) (q : ℕ) → letter_at letters q ≡ I → letters_anticommute (row_letter w) (letter_at letters q) ≡ false
commutes-I w letters q e = ap (letters_anticommute (row_letter w)) e ∙ letters_anticommute-I (row_letter w)

-- the mask says it for the letters of a group, except those that are left in the rest of another mask
pub record AreDistinct (first rest mask : ℕ) (letters : List Letter) : Type 0 where
  pub few : (k : ℕ) → k < 64 → chooses rest k ≡ true → k < 32
  pub inside : (k : ℕ) → k < 64 → chooses rest k ≡ true → first + k < length letters
  pub left : (k : ℕ) → k < 32 → chooses rest k ≡ true → (w : InverseRow) → chooses mask (row_position w k) ≡ false
  pub done : (k : ℕ) → k < 32 → chooses rest k ≡ false → FindsAnticommuting mask first k letters

-- one letter further
module _ (first rest mask : ℕ) (letters : List Letter) (distinct : AreDistinct first rest mask letters) (b new next : ℕ)
    (here : (w : InverseRow) → chooses new (row_position w b) ≡ letters_anticommute (row_letter w) (letter_at letters (first + b)))
    (others : (w : InverseRow) (j : ℕ) → j ≢ b → chooses new (row_position w j) ≡ chooses mask (row_position w j))
    (gone : chooses next b ≡ false) (preserved : (j : ℕ) → j ≢ b → j < 64 → chooses next j ≡ chooses rest j) where
  other : (j : ℕ) → chooses next j ≡ true → j ≢ b
  other j chosen e = clash (chooses next b) (ap (chooses next) (sym e) ∙ chosen) gone

  before : (j : ℕ) → j < 64 → chooses next j ≡ true → chooses rest j ≡ true
  before j lj chosen = sym (preserved j (other j chosen) lj) ∙ chosen

  done-next : (k : ℕ) → k < 32 → chooses next k ≡ false → FindsAnticommuting new first k letters
  done-next k lk none w = by_position (cases_order k b)
    where
      away : k ≢ b → chooses new (row_position w k) ≡ letters_anticommute (row_letter w) (letter_at letters (first + k))
      away ne = others w k ne ∙ distinct.done k lk (sym (preserved k ne (omega arith)) ∙ none) w

      by_position : (k ≡ b) ⊎ ((k < b) ⊎ (b < k)) → chooses new (row_position w k) ≡ letters_anticommute (row_letter w) (letter_at letters (first + k))
      by_position (inl e) =
          subst (λ j. chooses new (row_position w j) ≡ letters_anticommute (row_letter w) (letter_at letters (first + j))) (sym e) (here w)
      by_position (inr (inl lt)) = away (omega arith)
      by_position (inr (inr gt)) = away (omega arith)

  pub distinct-next : AreDistinct first next new letters
  distinct-next = record {
    few = λ j lj chosen. distinct.few j lj (before j lj chosen);
    inside = λ j lj chosen. distinct.inside j lj (before j lj chosen);
    left = λ j lj chosen w. others w j (other j chosen) ∙ distinct.left j lj (before j (omega arith) chosen) w;
    done = done-next;
  }
