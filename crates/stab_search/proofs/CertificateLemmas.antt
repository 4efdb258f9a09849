-- Certificates: what members add up to over some errors.
use Rattle.stab_search.proofs.Names.{◌≡◌, ℕ, ◌+◌, ◌≤◌, ◌<◌, ◌⊎◌, inl, inr, refl, sym, ◌∙◌, ap, subst, arith, Bool, true, false, List, [], ◌∷◌, ◌++◌, length, get_or, ne_eqb, ◌==◌, eq-eqb, cases_eq, cases_lt, false≢true, ◌⊕◌, parity-mid, ErrorTable, odd, row, flipped_by_rows, HasNone, ForEach, odd_members, IsCertificate, FollowsDetectors}
use Rattle.stab_search.proofs.ListLemmas.{by-bit, each-all}
use Rattle.stab_search.proofs.Totals.{total, bits, total-append, total-none}
use Rattle.stab_search.proofs.FlipLemmas.{named_by, odd-named}

members-append : (members : List Bool) (xs ys : List ℕ) → odd_members members (xs ++ ys) ≡ odd_members members xs ⊕ odd_members members ys
members-append members xs ys =
    as_total (xs ++ ys) ∙ total-append _ false ◌⊕◌ bits (λ i. get_or members i false) xs ys
    ∙ ap (λ b. b ⊕ total false ◌⊕◌ (λ i. get_or members i false) ys) (sym (as_total xs))
    ∙ ap (λ b. odd_members members xs ⊕ b) (sym (as_total ys))
  where
    as_total : (zs : List ℕ) → odd_members members zs ≡ total false ◌⊕◌ (λ i. get_or members i false) zs
    as_total [] = refl
    as_total (z ∷ zs) = ap (λ b. get_or members z false ⊕ b) (as_total zs)

-- members with a number more
members-with : (members : List Bool) (o : ℕ) (xs : List ℕ)
    → total false ◌⊕◌ (λ i. get_or members i false ⊕ (i == o)) xs ≡ odd_members members xs ⊕ odd o xs
members-with members o [] = refl
members-with members o (x ∷ xs) =
    ap (λ b. (get_or members x false ⊕ (x == o)) ⊕ b) (members-with members o xs)
    ∙ parity-mid (get_or members x false) (x == o) (odd_members members xs) (odd o xs)

module _ (t : ErrorTable) (o : ℕ) (members : List Bool) (is : IsCertificate t o members) where
  even-named : (errors : List ℕ) → ForEach (λ r. r < length t.rows) errors → odd_members members (named_by t.rows errors) ≡ false
  even-named [] a = refl
  even-named (r ∷ rs) a =
      members-append members (row t.rows r) (named_by t.rows rs)
      ∙ ap (λ b. b ⊕ odd_members members (named_by t.rows rs)) (is.even r a.0)
      ∙ even-named rs a.1

  pub certified : FollowsDetectors t o
  certified errors inside undetected =
      sym (odd-named t.rows errors o)
      ∙ ap (λ b. b ⊕ odd o (named_by t.rows errors)) (sym (even-named errors (each-all (λ r. r < length t.rows) errors inside)))
      ∙ sym (members-with members o (named_by t.rows errors))
      ∙ total-none _ false ◌⊕◌ bits (λ i. get_or members i false ⊕ (i == o)) (named_by t.rows errors) each
    where
      Nothing : ℕ → Type 0
      Nothing i = (odd i (named_by t.rows errors) ≡ false) ⊎ ((get_or members i false ⊕ (i == o)) ≡ false)

      at_detector : (i : ℕ) → (i ≡ o → ⊥) → get_or members i false ≡ true → (i < t.detectors) ⊎ (t.detectors ≤ i) → Nothing i
      at_detector i other member (inl lt) = inl (odd-named t.rows errors i ∙ undetected i lt)
      at_detector i other member (inr le) = absurd (other (is.detectors i le member))

      by_position : (i : ℕ) → (i ≡ o) ⊎ (i ≡ o → ⊥) → Nothing i
      by_position i (inl same) =
          inr (ap (λ b. b ⊕ (i == o)) (ap (λ k. get_or members k false) same ∙ is.observable) ∙ ap (λ b. true ⊕ b) (eq-eqb i o same))
      by_position i (inr other) =
          by-bit (get_or members i false)
          (λ member. at_detector i other member (cases_lt i t.detectors))
          (λ none. inr (ap (λ b. b ⊕ (i == o)) none ∙ ne_eqb i o other))

      each : (i : ℕ) → Nothing i
      each i = by_position i (cases_eq i o)

-- an observable that no row names
pub unnamed : (t : ErrorTable) (o : ℕ) → ((r : ℕ) → r < length t.rows → odd o (row t.rows r) ≡ false) → FollowsDetectors t o
unnamed t o none errors inside undetected = flips_none errors (each-all (λ r. r < length t.rows) errors inside)
  where
    flips_none : (xs : List ℕ) → ForEach (λ r. r < length t.rows) xs → flipped_by_rows t.rows xs o ≡ false
    flips_none [] a = refl
    flips_none (x ∷ xs) a = ap (λ b. b ⊕ flipped_by_rows t.rows xs o) (none x a.0) ∙ flips_none xs a.1

-- if all observables follow the detectors, nothing is a logical error
pub none-followed : (t : ErrorTable) (end reached : ℕ) → ((r i : ℕ) → r < length t.rows → end ≤ i → odd i (row t.rows r) ≡ false) → end ≤ reached
    → ((o : ℕ) → t.detectors ≤ o → o < reached → FollowsDetectors t o) → HasNone t
none-followed t end reached beyond le follow errors logical =
    let o = logical.observed.0 in
    false≢true (sym (by_position o logical.observed.1 (cases_lt o reached) errors logical.inside logical.undetected) ∙ logical.observed.2)
  where
    by_position : (o : ℕ) → t.detectors ≤ o → (o < reached) ⊎ (reached ≤ o) → FollowsDetectors t o
    by_position o from (inl lt) = follow o from lt
    by_position o from (inr past) = unnamed t o (λ r l. beyond r o l (omega arith))

pub follow-next : (t : ErrorTable) (k : ℕ) → ((o : ℕ) → t.detectors ≤ o → o < k → FollowsDetectors t o) → FollowsDetectors t k
    → (o : ℕ) → t.detectors ≤ o → o < k + 1 → FollowsDetectors t o
follow-next t k before here o from lt = by_position (cases_lt o k)
  where
    by_position : (o < k) ⊎ (k ≤ o) → FollowsDetectors t o
    by_position (inl less) = before o from less
    by_position (inr le) = let same : k ≡ o = omega arith in subst (FollowsDetectors t) same here
