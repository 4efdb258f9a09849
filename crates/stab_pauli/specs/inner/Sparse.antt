-- Words of which most are 0.
-- Source: this project's own.
use Rattle.std.specs.Prelude.{ℕ, ◌≡◌, ◌+◌, List, [], ◌∷◌, ◌++◌, length, drop, replicate}
use Rattle.stab_gates.specs.declared.phase.Phase.{Phase}
use Rattle.stab_pauli.specs.inner.Blocks.{IsTable}

-- words, each after this many that are 0, and after the last this many more
abbrev pub spread : List ℕ → List ℕ → ℕ → List ℕ
spread [] stored following = replicate following 0
spread (gap ∷ gaps) [] following = replicate following 0
spread (gap ∷ gaps) (word ∷ stored) following = replicate gap 0 ++ word ∷ spread gaps stored following

-- words from the first of those that are stored on, without the gap before it: none, if none is stored
abbrev pub spread_next : List ℕ → List ℕ → ℕ → List ℕ
spread_next gaps [] following = []
spread_next gaps (word ∷ stored) following = word ∷ spread gaps stored following

-- the words from a position on: this many that are 0, and then those from the next on that is stored, if any is
abbrev pub words_from : (gaps stored : List ℕ) (following next gap : ℕ) → List ℕ
words_from gaps stored following next gap = replicate gap 0 ++ spread_next (drop (next + 1) gaps) (drop next stored) following

-- what is stored of words: as many gaps as words, from which they can be found again
pub record IsSparse (gaps stored : List ℕ) (following : ℕ) (words : List ℕ) : Type 0 where
  pub even : length gaps ≡ length stored
  pub words_are : spread gaps stored following ≡ words

-- what is stored of this many words, with powers of i, that lie as rows of m blocks, for n letters each
pub record IsCompact (n m : ℕ) (gaps stored : List ℕ) (following size : ℕ) (powers : List Phase) : Type 0 where
  pub even : length gaps ≡ length stored
  pub size_is : size ≡ length (spread gaps stored following)
  pub lies : IsTable n m (spread gaps stored following) powers
