-- Wide words: the bits of words that lie one after another.
use Rattle.stab_sampler.proofs.Names.{◌≡◌, ℕ, ◌*◌, ◌<◌, ◌/◌, ◌%◌, ap, ◌∙◌, Bool, List, arith, get_or, replicate, bit_xor, get_or-replicate, ◌⊕◌, word_bit, wide_bit}
use Rattle.stab_sampler.proofs.WordLemmas.{word_bit-xor}

-- each word has the same bit
pub wide_bit-all : (n word l : ℕ) (bit : Bool) → l < 64 * n → ((r : ℕ) → r < 64 → word_bit word r ≡ bit) → wide_bit (replicate n word) l ≡ bit
wide_bit-all n word l bit lt are =
    ap (λ w. word_bit w (l % 64)) (get_or-replicate n (l / 64) word 0 (omega (arith, lt))) ∙ are (l % 64) (omega arith)

-- words each of which says where those of two others differ
pub wide_bit-xor : (n : ℕ) (zs xs ys : List ℕ) → ((p : ℕ) → p < n → get_or zs p 0 ≡ bit_xor (get_or xs p 0) (get_or ys p 0))
    → (l : ℕ) → l < 64 * n → wide_bit zs l ≡ wide_bit xs l ⊕ wide_bit ys l
wide_bit-xor n zs xs ys are l lt =
    ap (λ w. word_bit w (l % 64)) (are (l / 64) (omega (arith, lt)))
    ∙ word_bit-xor (get_or xs (l / 64) 0) (get_or ys (l / 64) 0) (l % 64)
