-- Reduced rows determine their group: each member is a product of rows.
use Rattle.stab_tableau.proofs.Names.{◌≡◌, ℕ, suc, ◌+◌, ◌<◌, ◌≤◌, Bool, true, false, inl, inr, refl, sym, ◌∙◌, ap, subst, List, [], ◌∷◌, length, arith, length-replicate, I, ◌⊕◌, Signed, identity, anticommute, product, length-product, product-twice, clash, IsStabiliserGroup, SameGroup, bit_at, IsLead, AreRowsFrom, AreReduced}
use Rattle.stab_tableau.proofs.TestLemmas.{same_test}
use Rattle.stab_tableau.proofs.BitLemmas.{bit-product, bits-determine, bit-identity, up-to, find-first, first-one}
use Rattle.stab_tableau.proofs.ReducedLemmas.{same-letters}

not-less : (a b : ℕ) → (a < b → ⊥) → b ≤ a
not-less a b f = omega (arith, f)

-- a member with 0 before a position has 0 up to the next lead
zeros-up : (n : ℕ) (member : Signed → Bool) (low k : ℕ) → k < n + n → ((j : ℕ) → low ≤ j → j < k → IsLead n member j → ⊥)
    → (p : Signed) → length p.letters ≡ n → member p ≡ true → ((j : ℕ) → j < low → bit_at n p.letters j ≡ false)
    → (j : ℕ) → j < k → bit_at n p.letters j ≡ false
zeros-up n member low k lt none p lp mp zeros = elim (find-first (bit_at n p.letters) k) [
  | inl all ↦ all
  | inr h ↦ absurd (none h.position
      (not-less h.position low (λ l. clash (bit_at n p.letters h.position) h.one (zeros h.position l)))
      h.below
      (p, lp, mp, ((let b = h.below in omega arith), h.one, h.before)))
]

-- a member without 1 is the identity
pub no-one : (n : ℕ) (member : Signed → Bool) → IsStabiliserGroup n member → (p : Signed) → length p.letters ≡ n → member p ≡ true
    → ((j : ℕ) → j < n + n → bit_at n p.letters j ≡ false) → p ≡ identity n
no-one n member g p lp mp none =
    same-letters n member g p (identity n) lp mp g.has_identity
    (bits-determine n p.letters (identity n).letters lp (length-replicate n I) (λ j lt. none j lt ∙ sym (bit-identity n j)))

module _ (n : ℕ) (s t : Signed → Bool) (gs : IsStabiliserGroup n s) (gt : IsStabiliserGroup n t) where
  -- a member of the first with 0 before a position passes the second, whose rows from that position on are the same
  determine : (low : ℕ) (rows : List Signed) → AreRowsFrom n s low rows → AreRowsFrom n t low rows
      → (p : Signed) → length p.letters ≡ n → s p ≡ true → ((j : ℕ) → j < low → bit_at n p.letters j ≡ false) → t p ≡ true
  determine low [] none other p lp sp zeros = elim (find-first (bit_at n p.letters) (n + n)) [
    | inl all ↦ ap t (no-one n s gs p lp sp all) ∙ gt.has_identity
    | inr h ↦ absurd (none h.position
        (not-less h.position low (λ lt. clash (bit_at n p.letters h.position) h.one (zeros h.position lt)))
        (p, lp, sp, (h.below, h.one, h.before)))
  ]
  determine low (r ∷ rows) a b p lp sp zeros =
      by_bit (bit_at n p.letters a.0) refl
      (determine (suc a.0) rows a.4 (subst (λ k. AreRowsFrom n t (suc k) rows) (first-one n r.letters b.0 a.0 b.3.first a.3.first) b.4))
    where
      up : (j : ℕ) → j < a.0 → bit_at n p.letters j ≡ false
      up = zeros-up n s low a.0 a.3.first.0 a.2 p lp sp zeros

      distinct : anticommute r p ≡ false
      distinct = gs.commuting r p a.3.size lp a.3.passes sp

      by_bit : (d : Bool) → bit_at n p.letters a.0 ≡ d
          → ((q : Signed) → length q.letters ≡ n → s q ≡ true → ((j : ℕ) → j < suc a.0 → bit_at n q.letters j ≡ false) → t q ≡ true)
          → t p ≡ true
      by_bit false e next = next p lp sp (up-to (λ j. bit_at n p.letters j ≡ false) a.0 up e)
      by_bit true e next =
          ap t (sym (product-twice r p distinct (a.3.size ∙ sym lp)))
          ∙ gt.closed r (product r p) a.3.size (length-product n r p a.3.size lp) b.3.passes
          (next (product r p) (length-product n r p a.3.size lp) (gs.closed r p a.3.size lp a.3.passes sp)
          (up-to (λ j. bit_at n (product r p).letters j ≡ false) a.0
          (λ j lt. bit-product n r.letters p.letters j ∙ (λ i. a.3.first.2 j lt i ⊕ up j lt i))
          (bit-product n r.letters p.letters a.0 ∙ (λ i. a.3.first.1 i ⊕ e i))))

-- groups with one list of reduced rows are one
pub rows-determine : (n : ℕ) (s t : Signed → Bool) → IsStabiliserGroup n s → IsStabiliserGroup n t → (a b : List Signed)
    → AreReduced n s a → AreReduced n t b → a ≡ b → SameGroup n s t
rows-determine n s t gs gt a b ra rb e p lp =
    same_test (s p) (t p)
    (λ sp. determine n s t gs gt 0 b (subst (AreReduced n s) e ra) rb p lp sp (λ j lt. absurd (omega arith)))
    (λ tp. determine n t s gt gs 0 b rb (subst (AreReduced n s) e ra) p lp tp (λ j lt. absurd (omega arith)))
