-- The end of an elimination: rows that have come to the last position are the reduced rows of their group.
use Rattle.stab_tableau.proofs.Names.{eqb_tells, ◌≡◌, ◌≢◌, ℕ, zero, suc, ◌+◌, ◌<◌, ◌≤◌, Bool, true, false, ◌&&◌, inl, inr, refl, sym, ◌∙◌, ap, subst, List, [], ◌∷◌, length, arith, Letter, ◌⊕◌, Signed, string_product, Rows, parity-self, parity-mid, length-string_product, clash, bit_at, IsLead, IsRowAt, AreRowsFrom, AreReduced, IsLinear, HasCome}
use Rattle.std.proofs.Common.{◌⊎◌}
use Rattle.stab_tableau.proofs.BitLemmas.{bit-product, bits-determine, nat-distinct, up-to}
use Rattle.stab_tableau.proofs.EliminationStepLemmas.{rows_of, at, and-false, and-true, and-parity}

-- a linear test of a string of zeros is 0: the string is its own product with itself
zeros-quiet : (n : ℕ) (f : List Letter → Bool) → IsLinear f → (p : List Letter) → length p ≡ n → ((j : ℕ) → j < n + n → bit_at n p j ≡ false) → f p ≡ false
zeros-quiet n f linear p lp zeros = ap f twice ∙ linear p p ∙ parity-self (f p)
  where
    twice : p ≡ string_product p p
    twice = bits-determine n p (string_product p p) lp (length-string_product n p p lp lp)
        (λ k lt. zeros k lt ∙ sym (bit-product n p p k ∙ parity-self (bit_at n p k)))

left-false : (a b : Bool) → a ≡ false → (a && b) ≡ false
left-false a b e = ap (λ a. a && b) e

-- rows by the list: the next row is at the next lead
rows-from : (n : ℕ) (member : Signed → Bool) (low : ℕ) (ys : List Signed) (lead : ℕ → ℕ)
    → ((i : ℕ) → i < length ys → IsRowAt n member (lead i) (at n ys i))
    → ((i j : ℕ) → i < j → j < length ys → lead i < lead j)
    → ((i : ℕ) → i < length ys → low ≤ lead i)
    → ((k : ℕ) → low ≤ k → IsLead n member k → (i : ℕ) × (i < length ys) × (lead i ≡ k))
    → AreRowsFrom n member low ys
rows-from n member low [] lead rows asc above all = λ k le ld. none (all k le ld)
  where
    none : {k : ℕ} → (i : ℕ) × (i < 0) × (lead i ≡ k) → ⊥
    none (i, lt, e) = omega (arith, lt)
rows-from n member low (p ∷ ys) lead rows asc above all = (
  lead 0,
  above 0 (omega arith),
  λ j le lt ld. gap j lt (all j le ld),
  rows 0 (omega arith),
  rows-from n member (suc (lead 0)) ys (λ i. lead (suc i)) (λ i li. rows (suc i) (omega arith))
      (λ i j ij lj. asc (suc i) (suc j) (omega arith) (omega arith)) (λ i li. let a = asc 0 (suc i) (omega arith) (omega arith) in omega arith)
      (λ k le ld. later k le (all k (let a = above 0 (omega arith) in omega arith) ld)),
)
  where
    gap : (j : ℕ) → j < lead 0 → (i : ℕ) × (i < suc (length ys)) × (lead i ≡ j) → ⊥
    gap j lt (zero, li, e) = omega (arith, lt, e)
    gap j lt (suc i, li, e) = let a = asc 0 (suc i) (omega arith) (omega arith) in omega (arith, a, lt, e)

    later : (k : ℕ) → suc (lead 0) ≤ k → (i : ℕ) × (i < suc (length ys)) × (lead i ≡ k) → (i : ℕ) × (i < length ys) × (lead (suc i) ≡ k)
    later k le (zero, li, e) = absurd (omega (arith, le, e))
    later k le (suc i, li, e) = (i, (omega arith), e)

module _ (member : Signed → Bool) (n used : ℕ) (xs : List Signed) (h : HasCome member (n + n) used (rows_of n xs)) where
  -- no row is left: it would be a string of zeros, on which no test is 1
  no-spare : used < length xs → ⊥
  no-spare lt =
      let i = h.basis.independent (λ a. true) in
      clash (i.0 (at n xs used).letters) (i.2 used lt) (zeros-quiet n i.0 i.1 (at n xs used).letters (h.basis.over used lt) (h.zeros used (omega arith) lt))

  all-used : used ≡ length xs
  all-used = let f = h.few in omega (arith, no-spare)

  -- bit k of a string, after it is cleared by the first rows at their leads
  residue : ℕ → ℕ → List Letter → Bool
  residue k zero p = bit_at n p k
  residue k (suc a) p = (bit_at n (at n xs a).letters k && bit_at n p (h.lead a)) ⊕ residue k a p

  residue-linear : (k a : ℕ) → IsLinear (residue k a)
  unfolding residue
  residue-linear k zero p q = bit-product n p q k
  residue-linear k (suc a) p q =
      (λ i. (bit_at n (at n xs a).letters k && bit-product n p q (h.lead a) i) ⊕ residue-linear k a p q i)
      ∙ ap (λ b. b ⊕ (residue k a p ⊕ residue k a q)) (and-parity (bit_at n (at n xs a).letters k) (bit_at n p (h.lead a)) (bit_at n q (h.lead a)))
      ∙ parity-mid (bit_at n (at n xs a).letters k && bit_at n p (h.lead a)) (bit_at n (at n xs a).letters k && bit_at n q (h.lead a)) (residue k a p) (residue k a q)

  -- if each row leaves it, it is the bit
  residue-same : (k a : ℕ) (p : List Letter) → ((b : ℕ) → b < a → (bit_at n (at n xs b).letters k && bit_at n p (h.lead b)) ≡ false) → residue k a p ≡ bit_at n p k
  unfolding residue
  residue-same k zero p e = refl
  residue-same k (suc a) p e = (λ i. e a (omega arith) i ⊕ residue-same k a p (λ b lb. e b (omega arith)) i)

  -- of a row among the first it is 0, by its own bit
  residue-row : (k b : ℕ) → b < used → (a : ℕ) → b < a → a ≤ used → residue k a (at n xs b).letters ≡ false
  unfolding residue
  residue-row k b lb zero lt le = absurd (omega arith)
  residue-row k b lb (suc a) lt le = elim (eqb_tells b a) [
    | inl same ↦ let e : b ≡ a = same.1 in
        (λ i. and-true (bit_at n (at n xs a).letters k) (bit_at n (at n xs b).letters (h.lead a))
        (ap (λ c. bit_at n (at n xs b).letters (h.lead c)) (sym e) ∙ (h.first b lb).1) i
        ⊕ residue-same k a (at n xs b).letters
        (λ c lc. and-false (bit_at n (at n xs c).letters k) (bit_at n (at n xs b).letters (h.lead c)) (h.clear c b (omega arith) lb (λ f. absurd (omega (arith, e, f))))) i)
        ∙ ap (λ c. bit_at n (at n xs c).letters k ⊕ bit_at n (at n xs b).letters k) (sym e)
        ∙ parity-self (bit_at n (at n xs b).letters k)
    | inr other ↦ let ne : b ≢ a = other.1 in
        (λ i. and-false (bit_at n (at n xs a).letters k) (bit_at n (at n xs b).letters (h.lead a)) (h.clear a b (omega arith) lb ne) i
        ⊕ residue-row k b lb a (omega (arith, ne)) (omega arith) i)
  ]

  -- a position is the lead of one of the first rows, or of none
  search_lead : (k a : ℕ) → ((b : ℕ) → b < a → h.lead b ≢ k) ⊎ ((b : ℕ) × (b < a) × (h.lead b ≡ k))
  search_lead k zero = inl (λ b lb. absurd (omega arith))
  search_lead k (suc a) = elim (search_lead k a) [
    | inr some ↦ inr (some.0, (let l = some.1 in omega arith), some.2)
    | inl none ↦ elim (eqb_tells (h.lead a) k) [
      | inl same ↦ inr (a, (omega arith), same.1)
      | inr other ↦ inl (up-to (λ b. h.lead b ≢ k) a none other.1)
    ]
  ]

  -- each lead of the group is that of a row: of a member whose first 1 is elsewhere the residue would be 1
  found : (k : ℕ) → IsLead n member k → (b : ℕ) × (b < used) × (h.lead b ≡ k)
  found k (p, lp, mp, first) = elim (search_lead k used) [
    | inr some ↦ some
    | inl none ↦ absurd (clash (residue k used p.letters)
        (residue-same k used p.letters (λ b lb. quiet b lb (nat-distinct (h.lead b) k (none b lb))) ∙ first.1)
        (h.basis.spans (residue k used) (residue-linear k used) (λ a la. residue-row k a (let e = all-used in omega arith) used (let e = all-used in omega arith) (omega arith)) p lp mp))
  ]
    where
      quiet : (b : ℕ) → b < used → (h.lead b < k) ⊎ (k < h.lead b) → (bit_at n (at n xs b).letters k && bit_at n p.letters (h.lead b)) ≡ false
      quiet b lb (inl lt) = and-false (bit_at n (at n xs b).letters k) (bit_at n p.letters (h.lead b)) (first.2 (h.lead b) lt)
      quiet b lb (inr lt) = left-false (bit_at n (at n xs b).letters k) (bit_at n p.letters (h.lead b)) ((h.first b lb).2 k lt)

  row-at-lead : (b : ℕ) → b < used → IsRowAt n member (h.lead b) (at n xs b)
  row-at-lead b lb = record {
    size = h.basis.over b (let f = h.few in omega arith);
    passes = h.basis.passes b (let f = h.few in omega arith);
    first = h.first b lb;
    others = λ l lead ne. distinct l ne (found l lead);
  }
    where
      distinct : (l : ℕ) → l ≢ h.lead b → (c : ℕ) × (c < used) × (h.lead c ≡ l) → bit_at n (at n xs b).letters l ≡ false
      distinct l ne (c, lc, e) = ap (bit_at n (at n xs b).letters) (sym e) ∙ h.clear c b lc lb (λ f. ne (sym e ∙ ap h.lead (sym f)))

  end-core : AreReduced n member xs
  end-core =
      rows-from n member 0 xs h.lead (λ i li. row-at-lead i (let e = all-used in omega arith))
      (λ i j ij lj. h.ascend i j ij (let e = all-used in omega arith)) (λ i li. omega arith)
      (λ k le ld. let f = found k ld in (f.0, (let l = f.1 in let e = all-used in omega arith), f.2))

pub end-step : (member : Signed → Bool) (n k used : ℕ) (r : Rows) → r.qubits ≡ n → k ≡ n + n → HasCome member k used r → AreReduced n member r.rows
end-step member n k used r e f h =
    end-core member n used r.rows
    (subst (λ k. HasCome member k used (rows_of n r.rows)) f (subst (λ m. HasCome member k used (rows_of m r.rows)) e h))
