-- The words of a product: what a loop over them knows, some words later.
use Rattle.stab_pauli.proofs.Names.{◌≡◌, ℕ, ◌+◌, ◌<◌, ◌≤◌, sym, ◌∙◌, ap, List, length, get_or, ◌-◌, inl, inr, arith, bit_xor, ◌⊎◌, zip2, chunk, put_chunk, ext_get_or, cases_order, get_or-zip2, length-zip2, length-chunk, get_or-chunk, length-put_chunk, get_or-put_chunk_below, get_or-put_chunk_at, get_or-put_chunk_above, xor_words}

-- products of words

-- the words before k are those of the product of p and q, and those from k on are still p's
pub record IsXorBefore (p q : List ℕ) (k : ℕ) (now : List ℕ) : Type 0 where
  pub size : length now ≡ length p
  pub done : (j : ℕ) → j < k → get_or now j 0 ≡ bit_xor (get_or p j 0) (get_or q j 0)
  pub rest : (j : ℕ) → k ≤ j → get_or now j 0 ≡ get_or p j 0

-- the same if m more words were written
pub IsXorBefore-block : (p q : List ℕ) (k m : ℕ) (now : List ℕ) → length p ≡ length q → k + m ≤ length q
    → IsXorBefore p q k now → IsXorBefore p q (k + m) (put_chunk k now (zip2 bit_xor (chunk k m now) (chunk k m q)))
IsXorBefore-block p q k m now same le is = record {
  size = length-put_chunk k now v ∙ is.size;
  done = λ j h. by_position j h (position j);
  rest = λ j h. get_or-put_chunk_above k now v j 0 (rw lv h) ∙ is.rest j (omega arith);
}
  where
    ln : length now ≡ length q
    ln = is.size ∙ same

    v : List ℕ
    v = zip2 bit_xor (chunk k m now) (chunk k m q)

    lv : length v ≡ m
    lv =
        length-zip2 bit_xor (chunk k m now) (chunk k m q) (length-chunk k m now (omega (arith, ln)) ∙ sym (length-chunk k m q le))
        ∙ length-chunk k m now (omega (arith, ln))

    at : (i : ℕ) → i < m → get_or v i 0 ≡ bit_xor (get_or p (k + i) 0) (get_or q (k + i) 0)
    at i h =
        get_or-zip2 bit_xor (chunk k m now) (chunk k m q) i 0 0 0 (rw (length-chunk k m now (omega (arith, ln))) h) (rw (length-chunk k m q le) h)
        ∙ (λ i'. bit_xor (get_or-chunk k m now i 0 h i') (get_or-chunk k m q i 0 h i'))
        ∙ ap (λ t. bit_xor t (get_or q (k + i) 0)) (is.rest (k + i) (omega arith))

    from_order : (j : ℕ) → (j ≡ k) ⊎ ((j < k) ⊎ (k < j)) → (j < k) ⊎ ((i : ℕ) × (j ≡ k + i))
    from_order j (inl e) = inr (0, omega arith)
    from_order j (inr (inl h)) = inl h
    from_order j (inr (inr h)) = inr (j - k, omega arith)

    position : (j : ℕ) → (j < k) ⊎ ((i : ℕ) × (j ≡ k + i))
    position j = from_order j (cases_order j k)

    by_position : (j : ℕ) → j < k + m → (j < k) ⊎ ((i : ℕ) × (j ≡ k + i)) → get_or (put_chunk k now v) j 0 ≡ bit_xor (get_or p j 0) (get_or q j 0)
    by_position j h (inl lt) = get_or-put_chunk_below k now v j 0 lt ∙ is.done j lt
    by_position j h (inr (i, e)) = rw e (get_or-put_chunk_at k now v i 0 (rw lv (omega arith)) (rw lv (omega (arith, ln))) ∙ at i (omega arith))

pub IsXorBefore-all : (p q : List ℕ) (k : ℕ) (now : List ℕ) → length p ≡ length q → length q ≤ k → IsXorBefore p q k now → now ≡ xor_words p q
IsXorBefore-all p q k now same le is =
    ext_get_or 0 now (xor_words p q)
    (is.size ∙ sym (length-zip2 bit_xor p q same))
    (λ j lt. is.done j (let s = is.size in omega arith) ∙ sym (get_or-zip2 bit_xor p q j 0 0 0 (let s = is.size in omega arith) (let s = is.size in omega arith)))

-- the words that are not yet reached
pub IsXorBefore-ahead_of : (p q : List ℕ) (k from m : ℕ) (now : List ℕ) → k ≤ from → from + m ≤ length p → IsXorBefore p q k now → chunk from m now ≡ chunk from m p
IsXorBefore-ahead_of p q k from m now after le is =
    ext_get_or 0 (chunk from m now) (chunk from m p) (ln ∙ sym (length-chunk from m p le))
    (λ j lt. get_or-chunk from m now j 0 (omega (arith, ln)) ∙ is.rest (from + j) (omega arith) ∙ sym (get_or-chunk from m p j 0 (omega (arith, ln))))
  where
    ln : length (chunk from m now) ≡ m
    ln = length-chunk from m now (let s = is.size in omega arith)

pub IsXorBefore-ahead : (p q : List ℕ) (k m : ℕ) (now : List ℕ) → k + m ≤ length p → IsXorBefore p q k now → chunk k m now ≡ chunk k m p
IsXorBefore-ahead p q k m now le is = IsXorBefore-ahead_of p q k k m now (omega arith) le is
