-- The support of a string, by blocks: a mask covers its words if and only if it covers its letters.
use Rattle.stab_pauli.proofs.Names.{◌≡◌, ℕ, ◌+◌, ◌*◌, ◌/◌, ◌%◌, ◌^◌, ◌<◌, ◌≤◌, false, sym, ◌∙◌, ap, List, length, get_or, take, drop, replicate, arith, refl, subst, inl, inr, ◌⊎◌, chunk, ext_get_or, get_or-replicate, get_or_past, length-replicate, length-chunk, get_or-chunk, I, chooses, CoversSupport, word_letters, AreShort, row_letters, IsRow, CoversLetters}
use Rattle.stab_pauli.proofs.RowLemmas.{length-row}
use Rattle.stab_pauli.proofs.PositionLemmas.{get_or-row}
use Rattle.stab_pauli.proofs.BlankLemmas.{row-none}
use Rattle.stab_pauli.proofs.PaddedLemmas.{length-string}
use Rattle.stab_pauli.proofs.XPartLemmas.{before}
use Rattle.stab_pauli.proofs.LetterMaskLemmas.{string-letter}
use Rattle.stab_pauli.proofs.DetermineLemmas.{short_take, short_drop, row_determined}

-- a letter of a row, by its block alone
block-letter : (m : ℕ) (row : List ℕ) (b k : ℕ) → length row ≡ 8 * m → b < m → k < 256 → get_or (row_letters m row) (256 * b + k) I ≡ get_or (row_letters 1 (chunk (8 * b) 8 row)) k I
block-letter m row b k l lb lk =
    ap (λ n. get_or (row_letters m row) n I) in_row
    ∙ get_or-row m row b (k / 64) (k % 64) l lb (omega arith) (omega arith)
    ∙ (λ i. get_or (word_letters 64 (sym (word (k / 64) (omega arith)) i) (sym (word (4 + k / 64) (omega arith)) i)) (k % 64) I)
    ∙ sym (get_or-row 1 (chunk (8 * b) 8 row) 0 (k / 64) (k % 64) (length-chunk (8 * b) 8 row (omega arith)) (omega arith) (omega arith) (omega arith))
    ∙ ap (λ n. get_or (row_letters 1 (chunk (8 * b) 8 row)) n I) in_block
  where
    in_row : 256 * b + k ≡ 256 * b + (k / 64 * 64 + k % 64)
    in_row = omega arith

    in_block : 256 * 0 + (k / 64 * 64 + k % 64) ≡ k
    in_block = omega arith

    word : (j : ℕ) → j < 8 → get_or (chunk (8 * b) 8 row) (8 * 0 + j) 0 ≡ get_or row (8 * b + j) 0
    word j lj = ap (λ n. get_or (chunk (8 * b) 8 row) n 0) (let e : 8 * 0 + j ≡ j = omega arith in e) ∙ get_or-chunk (8 * b) 8 row j 0 lj

-- a block of letters I is eight words 0
blank-block : (row : List ℕ) → length row ≡ 8 → AreShort 64 row → ((k : ℕ) → k < 256 → get_or (row_letters 1 row) k I ≡ I) → row ≡ replicate 8 0
blank-block row l short blank = row_determined 1 row (replicate 8 0) l (length-replicate {A = ℕ} 8 0) short short_zeros (letters ∙ sym (row-none 1 (replicate 8 0) refl))
  where
    zero_at : (i : ℕ) → (i < 8) ⊎ (8 ≤ i) → get_or {A = ℕ} (replicate 8 0) i 0 ≡ 0
    zero_at i (inl lt) = get_or-replicate {A = ℕ} 8 i 0 0 lt
    zero_at i (inr le) = get_or_past {X = ℕ} (replicate 8 0) i 0 le

    short_zeros : AreShort 64 (replicate 8 0)
    short_zeros = record { below = λ i. subst (λ n. n < 2 ^ 64) (sym (zero_at i (before i 8))) (omega arith) }

    letters : row_letters 1 row ≡ replicate (256 * 1) I
    letters =
        ext_get_or I (row_letters 1 row) (replicate (256 * 1) I) (length-row 1 row l ∙ sym (length-replicate (256 * 1) I))
        (λ j lj. let lt : j < 256 = omega (arith, length-row 1 row l) in blank j lt ∙ sym (get_or-replicate (256 * 1) j I I lt))

module _ (n m mask : ℕ) (ws : List ℕ) (is : IsRow n m ws) where
  pub letters-covered : CoversLetters m mask ws → CoversSupport mask (take n (row_letters m ws))
  letters-covered covers = record {
    in_range = λ b lb one. let lt = covers.within b lb one in let l = length-string n m ws is in let count = is.blocks.count in omega arith;
    blank = λ b k lb none lk. string-letter n m ws is (256 * b + k) ∙ at b k none lk (before b m);
  }
    where
      at : (b k : ℕ) → chooses mask b ≡ false → k < 256 → (b < m) ⊎ (m ≤ b) → get_or (row_letters m ws) (256 * b + k) I ≡ I
      at b k none lk (inl lt) =
          block-letter m ws b k is.size lt lk ∙ ap (λ p. get_or p k I) (row-none 1 (chunk (8 * b) 8 ws) (covers.blank b lt none)) ∙ get_or-replicate (256 * 1) k I I lk
      at b k none lk (inr le) = get_or_past (row_letters m ws) (256 * b + k) I (let l = length-row m ws is.size in omega arith)

  pub words-covered : m ≤ 64 → AreShort 64 ws → CoversSupport mask (take n (row_letters m ws)) → CoversLetters m mask ws
  words-covered few short covers = record {
    within = λ b lb one. let lt = covers.in_range b lb one in let l = length-string n m ws is in let count = is.blocks.count in omega arith;
    blank = λ b lt none.
        blank-block (chunk (8 * b) 8 ws) (length-chunk (8 * b) 8 ws (let l = is.size in omega arith)) (short_take 64 8 (drop (8 * b) ws) (short_drop 64 (8 * b) ws short))
        (λ k lk. sym (block-letter m ws b k is.size lt lk) ∙ sym (string-letter n m ws is (256 * b + k)) ∙ covers.blank b k (omega arith) none lk);
  }
