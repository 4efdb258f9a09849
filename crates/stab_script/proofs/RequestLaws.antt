-- Laws of requests: what the words after `show` ask for, if they are none of the requests of one word.
use Rattle.stab_script.proofs.Names.{◌≡◌, refl, ℕ, false, List, codes, bytes_eq, show_by, show_of, first_word, after_word}

pub show_more : (word : List ℕ) → bytes_eq word (codes "measurements") ≡ false → bytes_eq word (codes "free") ≡ false → bytes_eq word (codes "detectors") ≡ false
    → bytes_eq word (codes "observables") ≡ false → bytes_eq word (codes "stabilisers") ≡ false → bytes_eq word (codes "circuit") ≡ false → bytes_eq word (codes "deterministic") ≡ false
    → show_of word ≡ show_by (first_word word) (after_word word)
show_more word a b c d e f g = rw (a, b, c, d, e, f, g) refl
