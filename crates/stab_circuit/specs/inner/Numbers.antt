-- Numbers: numbers that are the first of several words.
-- Source: this project's own.
use Rattle.std.specs.Prelude.{◌≡◌, ◌≤◌, ℕ, Bool, true, List, [], ◌∷◌, length}
use Rattle.stab_instructions.specs.Lines.{is_spacing}
use Rattle.stab_instructions.specs.Words.{words, is_number, value}

-- whether a word ends where these bytes begin
abbrev pub is_word_end : List ℕ → Bool
is_word_end [] = true
is_word_end (b ∷ bs) = is_spacing b

-- the first word is this number, and these bytes follow it
abbrev pub BeginsWithNumber : List ℕ → ℕ → List ℕ → Type 0
BeginsWithNumber bs n rest = (word : List ℕ) × (words bs ≡ word ∷ words rest) × (is_number word ≡ true) × (value word ≡ n)

-- a word ends where the bytes begin, and the rest is what follows it, perhaps without spacing in front
abbrev pub IsAfterWord : List ℕ → List ℕ → Type 0
IsAfterWord bs rest = (is_word_end bs ≡ true) × (words rest ≡ words bs) × (length rest ≤ length bs)
