-- Supports: at which positions rows may have X or Y, stored for 64 rows together, by words of 64 positions.
-- Source: this project's own.
use Rattle.std.specs.Prelude.{◌≡◌, ◌≢◌, ℕ, ◌+◌, ◌*◌, ◌<◌, ◌≤◌, Bool, true, List, length, slice_index_or}
use Rattle.stab_gates.specs.declared.letter.Letter.TheVariants.{I}
use Rattle.stab_gates.specs.XParts.{has_x}
use Rattle.stab_pauli.specs.Masks.{chooses}
use Rattle.stab_pauli.specs.Rows.{Rows, row_at}

-- for each group of 64 rows a mask that says which of its words are known, and 16 words
pub record Supports : Type 0 where
  pub known : List ℕ
  pub words : List ℕ

-- 16 words for each of a few groups
pub record AreSupports (known words : List ℕ) : Type 0 where
  pub few : length known ≤ 64
  pub size : length words ≡ 16 * length known

-- whether a word of a group is known
abbrev pub is_known : Supports → ℕ → ℕ → Bool
is_known s group word = chooses (slice_index_or s.known group 0) word

-- whether a word of a group has the bit of a position
abbrev pub has_position : Supports → ℕ → ℕ → ℕ → Bool
has_position s group word position = chooses (slice_index_or s.words (16 * group + word) 0) position

-- each position where a row has X or Y is in its word, if that is known
pub record Covers (s : Supports) (r : Rows) : Type 0 where
  pub groups : length r.rows ≤ 64 * length s.known
  pub holds : (group k word position : ℕ) → k < 64 → word < 16 → position < 64
      → has_x (slice_index_or (row_at r (64 * group + k)).letters (64 * word + position) I) ≡ true
      → is_known s group word ≡ true → has_position s group word position ≡ true

-- rows of which one may have changed
pub record OthersStay (row : ℕ) (old new : Rows) : Type 0 where
  pub size : length new.rows ≡ length old.rows
  pub others : (a : ℕ) → a ≢ row → row_at new a ≡ row_at old a
