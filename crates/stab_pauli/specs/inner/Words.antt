-- Packed strings: k letters to a pair of words, one word for the X bits and one for the Z bits.
-- Source: the bits x and z of Aaronson and Gottesman 2004, section III; there, too, Y has both.
use Rattle.std.specs.Prelude.{ℕ, zero, suc, ◌+◌, ◌/◌, ◌%◌, ◌^◌, ◌<◌, slice_index, Bool, true, false, eqb, bit_xor, List, [], ◌∷◌, ◌++◌}
use Rattle.std.specs.Simd.Lanes.{zip2, chunk, put_chunk}
use Rattle.stab_gates.specs.declared.letter.Letter.{Letter}
use Rattle.stab_gates.specs.declared.letter.Letter.TheVariants.{I, X, Y, Z}
use Rattle.stab_gates.specs.Letters.{◌⊕◌}

-- the lowest bit
abbrev pub lowest : ℕ → Bool
lowest n = eqb (n % 2) 1

-- the letter of an X bit and a Z bit
abbrev pub letter_of_bits : Bool → Bool → Letter
letter_of_bits false false = I
letter_of_bits true false = X
letter_of_bits true true = Y
letter_of_bits false true = Z

-- the lowest k letters of a pair of words
unfoldable pub word_letters : ℕ → ℕ → ℕ → List Letter
word_letters zero x z = []
word_letters (suc k) x z = letter_of_bits (lowest x) (lowest z) ∷ word_letters k (x / 2) (z / 2)

-- the letters of a packed string, k for each pair of words
abbrev pub packed_letters : ℕ → List ℕ → List ℕ → List Letter
packed_letters k [] zs = []
packed_letters k (x ∷ xs) [] = []
packed_letters k (x ∷ xs) (z ∷ zs) = word_letters k x z ++ packed_letters k xs zs

-- whether an odd number of the lowest k bits is set
unfoldable pub word_odd : ℕ → ℕ → Bool
word_odd zero word = false
word_odd (suc k) word = lowest word ⊕ word_odd k (word / 2)

-- the same of several words
abbrev pub words_odd : ℕ → List ℕ → Bool
words_odd k [] = false
words_odd k (word ∷ words) = word_odd k word ⊕ words_odd k words

-- how many of the lowest k bits are set
unfoldable pub word_ones : ℕ → ℕ → ℕ
word_ones zero word = 0
word_ones (suc k) word = word % 2 + word_ones k (word / 2)

-- the same of several words
abbrev pub words_ones : ℕ → List ℕ → ℕ
words_ones k [] = 0
words_ones k (word ∷ words) = word_ones k word + words_ones k words

-- the words of a product
abbrev pub xor_words : List ℕ → List ℕ → List ℕ
xor_words = zip2 bit_xor

-- the size words from a on and those from b on were exchanged
abbrev pub swapped_words : ℕ → ℕ → ℕ → List ℕ → List ℕ
swapped_words a b size words = put_chunk b (put_chunk a words (chunk b size words)) (chunk a size words)

-- each word has this many bits
pub record AreShort (k : ℕ) (words : List ℕ) : Type 0 where
  pub below : (i : ℕ) → slice_index words i < 2 ^ k
