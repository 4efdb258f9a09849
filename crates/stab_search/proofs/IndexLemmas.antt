-- Index: what is listed at a position, when a list is added or written.
use Rattle.stab_search.proofs.Names.{◌≡◌, ℕ, zero, suc, ◌+◌, ◌≤◌, ◌<◌, ◌⊎◌, inl, inr, refl, sym, ◌∙◌, ap, subst, arith, true, List, [], ◌∷◌, ◌++◌, length, get_or, set, Vec, cases_eq, cases_lt, odd, row, ForEach, has, rows_listed}
use Rattle.std.specs.Prelude.{◌≢◌}
use Rattle.stab_search.proofs.ListLemmas.{each-push, has-push, has-before}
use Rattle.stab_search.proofs.Totals.{has-odd}

pub listed-push : (index : List (Vec ℕ)) (v : Vec ℕ) (e : ℕ) → v.items ≡ [] → rows_listed (index ++ v ∷ []) e ≡ rows_listed index e
listed-push [] v zero none = none
listed-push [] v (suc e) none = refl
listed-push (w ∷ index) v zero none = refl
listed-push (w ∷ index) v (suc e) none = listed-push index v e none

pub listed-set_here : (index : List (Vec ℕ)) (d : ℕ) (v : Vec ℕ) → d < length index → rows_listed (set index d v) d ≡ v.items
listed-set_here [] d v lt = absurd (omega arith)
listed-set_here (w ∷ index) zero v lt = refl
listed-set_here (w ∷ index) (suc d) v lt = listed-set_here index d v (omega arith)

pub listed-set_other : (index : List (Vec ℕ)) (d e : ℕ) (v : Vec ℕ) → e ≢ d → rows_listed (set index d v) e ≡ rows_listed index e
listed-set_other [] d e v other = refl
listed-set_other (w ∷ index) zero zero v other = absurd (other refl)
listed-set_other (w ∷ index) zero (suc e) v other = refl
listed-set_other (w ∷ index) (suc d) zero v other = refl
listed-set_other (w ∷ index) (suc d) (suc e) v other = listed-set_other index d e v (λ same. other (ap suc same))

pub listed-at : (index : List (Vec ℕ)) (d : ℕ) (v : Vec ℕ) → d < length index → v ≡ get_or index d v → v.items ≡ rows_listed index d
listed-at [] d v lt e = absurd (omega arith)
listed-at (w ∷ index) zero v lt e = ap (λ (u : Vec ℕ). u.items) e
listed-at (w ∷ index) (suc d) v lt e = listed-at index d v (omega arith) e

pub listed-past : (index : List (Vec ℕ)) (d : ℕ) → length index ≤ d → rows_listed index d ≡ []
listed-past [] d le = refl
listed-past (w ∷ index) zero le = absurd (omega arith)
listed-past (w ∷ index) (suc d) le = listed-past index d (omega arith)

-- row r listed at a position, and the other lists as they were

module _ (old new : List (Vec ℕ)) (d r : ℕ) (here : rows_listed new d ≡ rows_listed old d ++ r ∷ []) (elsewhere : (e : ℕ) → e ≢ d → rows_listed new e ≡ rows_listed old e) where
  pub added-has : has r (rows_listed new d) ≡ true
  added-has = ap (has r) here ∙ has-push r (rows_listed old d)

  pub preserved-has : (e q : ℕ) → has q (rows_listed old e) ≡ true → has q (rows_listed new e) ≡ true
  preserved-has e q h = by_position (cases_eq e d)
    where
      by_position : (e ≡ d) ⊎ (e ≡ d → ⊥) → has q (rows_listed new e) ≡ true
      by_position (inl same) =
          ap (λ k. has q (rows_listed new k)) same ∙ ap (has q) here
          ∙ has-before q r (rows_listed old d) (ap (λ k. has q (rows_listed old k)) (sym same) ∙ h)
      by_position (inr other) = ap (has q) (elsewhere e other) ∙ h

  pub preserved-inside : (n e : ℕ) → r < n → ForEach (λ q. q < n) (rows_listed old e) → ForEach (λ q. q < n) (rows_listed new e)
  preserved-inside n e lt a = by_position (cases_eq e d)
    where
      by_position : (e ≡ d) ⊎ (e ≡ d → ⊥) → ForEach (λ q. q < n) (rows_listed new e)
      by_position (inl same) =
          subst (λ k. ForEach (λ q. q < n) (rows_listed new k)) (sym same)
          (subst (ForEach (λ q. q < n)) (sym here)
          (each-push (λ q. q < n) (rows_listed old d) r lt (subst (λ k. ForEach (λ q. q < n) (rows_listed old k)) same a)))
      by_position (inr other) = subst (ForEach (λ q. q < n)) (sym (elsewhere e other)) a

-- one more row listed at each of its positions
pub complete-more : (rows : List (List ℕ)) (old new : List (Vec ℕ)) (r : ℕ) (positions : List ℕ) → positions ≡ row rows r
    → ((d q : ℕ) → has q (rows_listed old d) ≡ true → has q (rows_listed new d) ≡ true)
    → ((d : ℕ) → has d positions ≡ true → has r (rows_listed new d) ≡ true)
    → ((d q : ℕ) → q < r → odd d (row rows q) ≡ true → has q (rows_listed old d) ≡ true)
    → (d q : ℕ) → q < r + 1 → odd d (row rows q) ≡ true → has q (rows_listed new d) ≡ true
complete-more rows old new r positions is preserved added complete d q lt odd_here = by_position (cases_lt q r)
  where
    by_position : (q < r) ⊎ (r ≤ q) → has q (rows_listed new d) ≡ true
    by_position (inl less) = preserved d q (complete d q less odd_here)
    by_position (inr more) =
        let same : q ≡ r = omega arith in
        ap (λ k. has k (rows_listed new d)) same
        ∙ added d (has-odd d positions (ap (odd d) is ∙ ap (λ k. odd d (row rows k)) (sym same) ∙ odd_here))
