-- Lists of pairs that are left out: one more pair is listed.
use Rattle.stab_search.proofs.Names.{◌≡◌, ◌≢◌, ℕ, ◌<◌, ◌⊎◌, inl, inr, refl, sym, ◌∙◌, ap, subst, Bool, true, false, List, [], ◌∷◌, ◌++◌, length, ◌==◌, eqb-true, eqb-false, ◌⊕◌, parity-comm, odd, row, has, rows_listed, Vec, KeepFirst, IsLeftOut, by_two, ArePairs}
use Rattle.stab_search.proofs.ListLemmas.{by-bit}
use Rattle.stab_search.proofs.EndLemmas.{at-end}

pub pairs-more : (rows : List (List ℕ)) (firsts : ℕ) (old new : List (Vec ℕ)) (a b : ℕ) → rows_listed new a ≡ rows_listed old a ++ b ∷ []
    → ((e : ℕ) → e ≢ a → rows_listed new e ≡ rows_listed old e) → a ≢ b → IsLeftOut rows firsts a b ⊎ IsLeftOut rows firsts b a → ArePairs rows firsts old → ArePairs rows firsts new
pairs-more rows firsts old new a b here elsewhere differ out are = record {
  differ = λ x y there. on x y there (are.differ x y) (λ same_x same_y. subst (λ k. k ≢ y) (sym same_x) (subst (λ k. a ≢ k) (sym same_y) differ));
  left_out = λ x y there.
      on x y there (are.left_out x y)
      (λ same_x same_y.
      subst (λ k. IsLeftOut rows firsts k y ⊎ IsLeftOut rows firsts y k) (sym same_x) (subst (λ k. IsLeftOut rows firsts a k ⊎ IsLeftOut rows firsts k a) (sym same_y) out));
}
  where
    on : {P : Type 0} (x y : ℕ) → has y (rows_listed new x) ≡ true → (has y (rows_listed old x) ≡ true → P) → (x ≡ a → y ≡ b → P) → P
    on x y there before added =
        by-bit (x == a)
        (λ same.
        let is : x ≡ a = eqb-true x a same in
        at-end y (rows_listed old a) b (sym (ap (has y) here) ∙ subst (λ k. has y (rows_listed new k) ≡ true) is there)
        (λ was. before (subst (λ k. has y (rows_listed old k) ≡ true) (sym is) was)) (added is))
        (λ other. before (sym (ap (has y) (elsewhere x (eqb-false x a other))) ∙ there))

-- two errors flip the same as two after one of them
pub earlier : (rows : List (List ℕ)) (firsts a b c d : ℕ) → c < length rows → d < length rows
    → ((i : ℕ) → odd i (row rows a) ⊕ odd i (row rows b) ≡ odd i (row rows c) ⊕ odd i (row rows d))
    → ((a < c) × (a < d)) ⊎ ((b < c) × (b < d)) → KeepFirst firsts a b c d → IsLeftOut rows firsts a b ⊎ IsLeftOut rows firsts b a
earlier rows firsts a b c d in_c in_d same (inl after) keep = inl (by_two c d in_c in_d after.0 after.1 keep same)
earlier rows firsts a b c d in_c in_d same (inr after) keep =
    inr (by_two c d in_c in_d after.0 after.1 (swapped keep) (λ i. parity-comm (odd i (row rows b)) (odd i (row rows a)) ∙ same i))
  where
    swapped : KeepFirst firsts a b c d → KeepFirst firsts b a c d
    swapped (inl lt) = inl lt
    swapped (inr (inl lt)) = inr (inl lt)
    swapped (inr (inr late)) = inr (inr (late.1, late.0))

-- bits of which an even number are 1: one is the sum of the others, and two are the sum of the other two
pub third : (x y z : Bool) → x ⊕ (y ⊕ (z ⊕ false)) ≡ false → (x ⊕ y ≡ z) × ((x ⊕ z ≡ y) × (y ⊕ z ≡ x))
third true true true e = absurd (cc)
third true true false e = (refl, (refl, refl))
third true false true e = (refl, (refl, refl))
third true false false e = absurd (cc)
third false true true e = (refl, (refl, refl))
third false true false e = absurd (cc)
third false false true e = absurd (cc)
third false false false e = (refl, (refl, refl))

pub halves : (w x y z : Bool) → w ⊕ (x ⊕ (y ⊕ (z ⊕ false))) ≡ false → w ⊕ x ≡ y ⊕ z
halves true true true true e = refl
halves true true true false e = absurd (cc)
halves true true false true e = absurd (cc)
halves true true false false e = refl
halves true false true true e = absurd (cc)
halves true false true false e = refl
halves true false false true e = refl
halves true false false false e = absurd (cc)
halves false true true true e = absurd (cc)
halves false true true false e = refl
halves false true false true e = refl
halves false true false false e = absurd (cc)
halves false false true true e = refl
halves false false true false e = absurd (cc)
halves false false false true e = absurd (cc)
halves false false false false e = refl
