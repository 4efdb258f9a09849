-- Rows of blocks: 256 letters to 8 words, four words with their X bits and then four with their Z bits.
-- Source: this project's own.
use Rattle.std.specs.Int.{bit_at}
use Rattle.std.specs.List.{All}
use Rattle.std.specs.Simd.Lanes.{zip2, chunk, put_chunk}
use Rattle.std.specs.Prelude.{◌≡◌, ◌≢◌, ℕ, zero, suc, ◌+◌, ◌*◌, ◌-◌, ◌/◌, ◌^◌, ◌≤◌, length, List, [], ◌∷◌, ◌++◌, take, drop, replicate, slice_index_or, ◌<◌, true, false}
use Rattle.stab_gates.specs.declared.letter.Letter.{Letter}
use Rattle.stab_gates.specs.declared.letter.Letter.TheVariants.{I}
use Rattle.stab_gates.specs.declared.phase.Phase.{Phase}
use Rattle.stab_gates.specs.Phases.{sign_of_phase}
use Rattle.stab_gates.specs.XParts.{has_x}
use Rattle.stab_pauli.specs.Paulis.{Signed}
use Rattle.stab_pauli.specs.Rows.{Rows}
use Rattle.stab_pauli.specs.Masks.{chooses}
use Rattle.stab_pauli.specs.inner.Words.{packed_letters}
use Rattle.stab_pauli.specs.inner.Powers.{sign_power, IsSign}

-- how many blocks n letters take
abbrev pub blocks_of : ℕ → ℕ
blocks_of n = (n + 255) / 256

-- m blocks for n letters, n being a number of the machine
pub record AreBlocks (n m : ℕ) : Type 0 where
  pub count : m ≡ blocks_of n
  pub few : m ≤ 2 ^ 56

-- the letters of m blocks
abbrev pub row_letters : ℕ → List ℕ → List Letter
row_letters zero row = []
row_letters (suc m) row = packed_letters 64 (take 4 row) (take 4 (drop 4 row)) ++ row_letters m (drop 8 row)

-- the letters after the first n are I
abbrev pub IsPadded : ℕ → ℕ → List Letter → Type 0
IsPadded n m letters = drop n letters ≡ replicate (256 * m - n) I

-- a mask chooses some of m blocks, and all other blocks of the row are letters I
pub record CoversLetters (m mask : ℕ) (row : List ℕ) : Type 0 where
  pub within : (b : ℕ) → b < 64 → chooses mask b ≡ true → b < m
  pub blank : (b : ℕ) → b < m → chooses mask b ≡ false → chunk (8 * b) 8 row ≡ replicate 8 0

-- no letter before the position is X or Y
abbrev pub HasNoXBefore : ℕ → List Letter → Type 0
HasNoXBefore k letters = (j : ℕ) → j < k → has_x (slice_index_or letters j I) ≡ false

-- the first of this many letters that is X or Y
pub record IsFirstX (size : ℕ) (letters : List Letter) (k : ℕ) : Type 0 where
  pub in_range : k < size
  pub has_x_here : has_x (slice_index_or letters k I) ≡ true
  pub first : HasNoXBefore k letters

-- the letters from one position on to another are I
abbrev pub IsBlankFrom : ℕ → ℕ → List Letter → Type 0
IsBlankFrom from k letters = (j : ℕ) → from ≤ j → j < k → slice_index_or letters j I ≡ I

-- the first of this many letters, from one on, that is not I
pub record IsNextLetter (from size : ℕ) (letters : List Letter) (k : ℕ) : Type 0 where
  pub from_there : from ≤ k
  pub in_range : k < size
  pub blank : IsBlankFrom from k letters
  pub here : slice_index_or letters k I ≢ I

-- the first bit of a word that is 1, from one on
pub record IsNextBit (from word k : ℕ) : Type 0 where
  pub from_there : from ≤ k
  pub in_range : k < 64
  pub blank : (j : ℕ) → from ≤ j → j < k → bit_at word j ≡ 0
  pub is_one : bit_at word k ≡ 1

-- words that lie as one row of m blocks, for n letters
pub record IsRow (n m : ℕ) (row : List ℕ) : Type 0 where
  pub blocks : AreBlocks n m
  pub size : length row ≡ 8 * m
  pub padded : IsPadded n m (row_letters m row)

-- the power of i of the sign of the first n letters, by the one before their bits
abbrev pub row_sign : ℕ → Phase → List Letter → Phase
row_sign n power letters = sign_power power (take n letters)

-- words that lie as one row of m blocks, for n letters, with the power of i before their bits, of which a sign is left
pub record IsSignedRow (n m : ℕ) (power : Phase) (words : List ℕ) : Type 0 where
  pub row : IsRow n m words
  pub sign : IsSign (row_sign n power (row_letters m words))

-- the first n letters, with their sign
abbrev pub signed_row : ℕ → Phase → List Letter → Signed
signed_row n power letters = record { negative = sign_of_phase (row_sign n power letters); letters = take n letters }

-- the letters of the rows that lie in the words, one after another, each of m blocks
abbrev pub full_rows : ℕ → List ℕ → ℕ → List (List Letter)
full_rows m words zero = []
full_rows m words (suc count) = row_letters m (take (8 * m) words) ∷ full_rows m (drop (8 * m) words) count

-- words and powers of i that lie as rows of m blocks, for n letters each
pub record IsTable (n m : ℕ) (words : List ℕ) (powers : List Phase) : Type 0 where
  pub blocks : AreBlocks n m
  pub size : length words ≡ 8 * m * length powers
  pub padded : All (IsPadded n m) (full_rows m words (length powers))
  pub signs : All IsSign (zip2 (row_sign n) powers (full_rows m words (length powers)))

-- what they stand for
abbrev pub table : ℕ → ℕ → List ℕ → List Phase → Rows
table n m words powers = record { qubits = n; rows = zip2 (signed_row n) powers (full_rows m words (length powers)) }

-- the size words from k on are others, of which P holds, and all else is as it was
pub record IsRewritten (k size : ℕ) (old new : List ℕ) (P : List ℕ → Type 0) : Type 0 where
  pub words : new ≡ put_chunk k old (chunk k size new)
  pub size_is : length (chunk k size new) ≡ size
  pub holds : P (chunk k size new)
