-- Words of which those that are 0 are left out: what a word more leaves, a gap that is cut, and a block.
use Rattle.stab_pauli.proofs.Names.{◌≡◌, ℕ, suc, ◌+◌, ◌*◌, ◌<◌, ◌≤◌, refl, sym, ◌∙◌, ap, arith, append_assoc, length-append, zero-add, List, [], ◌∷◌, ◌++◌, length, get_or, take, drop, replicate, take-add, length-replicate, take_more, take_all, replicate_next, le_or_l, le_or_r, bit_or, spread, IsSparse}
use Rattle.stab_pauli.proofs.SparseLemmas.{spread-zeros, spread-stored, length-from}

-- a block of words 0

none_left : (a b : ℕ) → bit_or a b ≡ 0 → a ≡ 0
none_left a b none = let le = le_or_l a b in omega arith

none_right : (a b : ℕ) → bit_or a b ≡ 0 → b ≡ 0
none_right a b none = let le = le_or_r a b in omega arith

blank_next : (xs : List ℕ) (k n : ℕ) → k < length xs → n ≡ k + 1 → get_or xs k 0 ≡ 0 → take k xs ≡ replicate k 0 → take n xs ≡ replicate n 0
blank_next xs k n lt e here front =
    ap (λ m. take m xs) e ∙ take_more xs k 0 lt ∙ (λ i. front i ++ here i ∷ []) ∙ sym (replicate_next k 0) ∙ ap (λ m. replicate m 0) (sym e)

-- four words 0 more
blank_four : (xs : List ℕ) (k n : ℕ) → k + 3 < length xs → n ≡ k + 4
    → bit_or (bit_or (get_or xs k 0) (get_or xs (k + 1) 0)) (bit_or (get_or xs (k + 2) 0) (get_or xs (k + 3) 0)) ≡ 0 → take k xs ≡ replicate k 0 → take n xs ≡ replicate n 0
blank_four xs k n lt e none front =
    let l = none_left (bit_or (get_or xs k 0) (get_or xs (k + 1) 0)) (bit_or (get_or xs (k + 2) 0) (get_or xs (k + 3) 0)) none in
    let r = none_right (bit_or (get_or xs k 0) (get_or xs (k + 1) 0)) (bit_or (get_or xs (k + 2) 0) (get_or xs (k + 3) 0)) none in
    blank_next xs (k + 3) n lt (omega (arith, e)) (none_right (get_or xs (k + 2) 0) (get_or xs (k + 3) 0) r)
    (blank_next xs (k + 2) (k + 3) (omega (arith, lt)) (omega arith) (none_left (get_or xs (k + 2) 0) (get_or xs (k + 3) 0) r)
    (blank_next xs (k + 1) (k + 2) (omega (arith, lt)) (omega arith) (none_right (get_or xs k 0) (get_or xs (k + 1) 0) l)
    (blank_next xs k (k + 1) (omega (arith, lt)) refl (none_left (get_or xs k 0) (get_or xs (k + 1) 0) l) front)))

pub blank_block : (xs : List ℕ) → length xs ≡ 8
    → bit_or (bit_or (bit_or (get_or xs 0 0) (get_or xs 1 0)) (bit_or (get_or xs 2 0) (get_or xs 3 0))) (bit_or (bit_or (get_or xs 4 0) (get_or xs 5 0)) (bit_or (get_or xs 6 0) (get_or xs 7 0))) ≡ 0
    → xs ≡ replicate 8 0
blank_block xs size none =
    let x = bit_or (bit_or (get_or xs 0 0) (get_or xs 1 0)) (bit_or (get_or xs 2 0) (get_or xs 3 0)) in
    let z = bit_or (bit_or (get_or xs 4 0) (get_or xs 5 0)) (bit_or (get_or xs 6 0) (get_or xs 7 0)) in
    sym (take_all 8 xs (omega (arith, size))) ∙ blank_four xs 4 8 (omega (arith, size)) refl (none_right x z none) (blank_four xs 0 4 (omega (arith, size)) refl (none_left x z none) refl)

-- after words

even_more : (gs ks new_gs new_ks : List ℕ) (g w : ℕ) → length gs ≡ length ks → new_gs ≡ gs ++ g ∷ [] → new_ks ≡ ks ++ w ∷ [] → length new_gs ≡ length new_ks
even_more gs ks new_gs new_ks g w e eg ek = ap length eg ∙ length-append gs (g ∷ []) ∙ ap (λ n. n + 1) e ∙ sym (length-append ks (w ∷ [])) ∙ ap length (sym ek)

-- a word that is stored
pub sparse-stored : (gs ks new_gs new_ks : List ℕ) (b w : ℕ) → length gs ≡ length ks → new_gs ≡ gs ++ b ∷ [] → new_ks ≡ ks ++ w ∷ []
    → IsSparse new_gs new_ks 0 (spread gs ks b ++ w ∷ [])
sparse-stored gs ks new_gs new_ks b w e eg ek = record {
  even = even_more gs ks new_gs new_ks b w e eg ek;
  words_are = (λ i. spread (eg i) (ek i) 0) ∙ spread-stored gs ks b w e;
}

-- a word 0 that is stored, of those that come after
pub sparse-cut : (gs ks new_gs new_ks : List ℕ) (b g m : ℕ) → length gs ≡ length ks → new_gs ≡ gs ++ g ∷ [] → new_ks ≡ ks ++ 0 ∷ [] → b ≡ g + suc m
    → IsSparse new_gs new_ks m (spread gs ks b)
sparse-cut gs ks new_gs new_ks b g m e eg ek split = record {
  even = even_more gs ks new_gs new_ks g 0 e eg ek;
  words_are =
      (λ i. spread (eg i) (ek i) (sym (zero-add m) i))
      ∙ sym (spread-zeros (gs ++ g ∷ []) (ks ++ 0 ∷ []) 0 m)
      ∙ ap (λ t. t ++ replicate m 0) (spread-stored gs ks g 0 e)
      ∙ append_assoc (spread gs ks g) (0 ∷ []) (replicate m 0)
      ∙ spread-zeros gs ks g (suc m)
      ∙ ap (spread gs ks) (sym split);
}

-- words 0, that are not stored
pub sparse-blank : (gs ks : List ℕ) (b m : ℕ) (block : List ℕ) → length gs ≡ length ks → block ≡ replicate m 0
    → IsSparse gs ks (b + m) (spread gs ks b ++ block)
sparse-blank gs ks b m block e none = record {
  even = e;
  words_are = sym (spread-zeros gs ks b m) ∙ ap (λ t. spread gs ks b ++ t) (sym none);
}

-- more words after some
pub sparse-following : (gs ks new_gs new_ks : List ℕ) (b d : ℕ) (words more all : List ℕ) → words ++ more ≡ all → IsSparse gs ks b words
    → IsSparse new_gs new_ks d (spread gs ks b ++ more) → IsSparse new_gs new_ks d all
sparse-following gs ks new_gs new_ks b d words more all whole is new = record {
  even = new.even;
  words_are = new.words_are ∙ ap (λ t. t ++ more) is.words_are ∙ whole;
}

-- a block more of some words
pub blocks-next : (words : List ℕ) (k n : ℕ) → n ≡ 8 → take (8 * k) words ++ take n (drop (8 * k) words) ≡ take (8 * (k + 1)) words
blocks-next words k n e = sym (take-add (8 * k) n words) ∙ ap (λ m. take m words) (omega (arith, e))

-- no more come after than there are
spread-following : (gs ks : List ℕ) (b : ℕ) → b ≤ length (spread gs ks b)
spread-following [] ks b = omega (arith, length-replicate {A = ℕ} b 0)
spread-following (g ∷ gs) [] b = omega (arith, length-replicate {A = ℕ} b 0)
spread-following (g ∷ gs) (w ∷ ks) b = omega (arith, length-from g w (spread gs ks b), spread-following gs ks b)

pub sparse-few : (gs ks : List ℕ) (b : ℕ) (words : List ℕ) → IsSparse gs ks b words → b ≤ length words
sparse-few gs ks b words is = omega (arith, spread-following gs ks b, ap length is.words_are)
