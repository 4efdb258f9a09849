-- Reduced rows: a group has at most one list of them.
use Rattle.stab_tableau.proofs.Names.{eqb_tells, ◌≡◌, ◌≢◌, eqb, subst, ℕ, suc, ◌+◌, ◌<◌, Bool, true, false, not, inl, inr, refl, sym, ◌∙◌, ap, List, [], ◌∷◌, length, arith, ◌⊕◌, Signed, minus, product, signed_path, length-product, clash, IsStabiliserGroup, SameGroup, bit_at, IsLead, IsRowAt, AreRowsFrom, AreReduced}
use Rattle.std.proofs.Common.{◌⊎◌}
use Rattle.stab_tableau.proofs.BitLemmas.{bit-product, bits-determine, HasFirst, find-first}

-- two members with the same letters are one
pub same-letters : (n : ℕ) (member : Signed → Bool) → IsStabiliserGroup n member → (p q : Signed) → length p.letters ≡ n
    → member p ≡ true → member q ≡ true → p.letters ≡ q.letters → p ≡ q
same-letters n member g p q lp mp mq e = by_signs p.negative q.negative refl refl
  where
    opposite : minus p ≡ q → ⊥
    opposite o = clash (member q) mq (sym (ap member o) ∙ g.one_sign p lp mp)

    by_signs : (a b : Bool) → p.negative ≡ a → q.negative ≡ b → p ≡ q
    by_signs false false ea eb = signed_path p q (ea ∙ sym eb) e
    by_signs true true ea eb = signed_path p q (ea ∙ sym eb) e
    by_signs false true ea eb = absurd (opposite (signed_path (minus p) q (ap not ea ∙ sym eb) e))
    by_signs true false ea eb = absurd (opposite (signed_path (minus p) q (ap not ea ∙ sym eb) e))

even : (a b : Bool) → a ⊕ b ≡ false → a ≡ b
even false b e = sym e
even true false e = cc
even true true e = refl

module _ (n : ℕ) (member : Signed → Bool) (g : IsStabiliserGroup n member) where
  IsRowAt-lead : (k : ℕ) (p : Signed) → IsRowAt n member k p → IsLead n member k
  IsRowAt-lead k p r = (p, r.size, r.passes, r.first)

  -- at a lead there is one such member: the product of two of them has no first 1
  IsRowAt-one : (k : ℕ) (p q : Signed) → IsRowAt n member k p → IsRowAt n member k q → p ≡ q
  IsRowAt-one k p q rp rq =
      elim (find-first (bit_at n (product p q).letters) (n + n)) [
        | inl none ↦ same-letters n member g p q rp.size rp.passes rq.passes
            (bits-determine n p.letters q.letters rp.size rq.size (λ j lt. even _ _ (sym (bit-product n p.letters q.letters j) ∙ none j lt)))
        | inr h ↦ absurd (no_first h)
      ]
    where
      no_first : HasFirst (bit_at n (product p q).letters) (n + n) → ⊥
      no_first h = by_position (eqb_tells h.position k)
        where
          lead : IsLead n member h.position
          lead = (product p q, length-product n p q rp.size rq.size, g.closed p q rp.size rq.size rp.passes rq.passes, (h.below, h.one, h.before))

          by_position : ((eqb h.position k ≡ true) × (h.position ≡ k)) ⊎ ((eqb h.position k ≡ false) × (h.position ≢ k)) → ⊥
          by_position (inl e) =
              clash (bit_at n (product p q).letters h.position) h.one
              (ap (bit_at n (product p q).letters) e.1 ∙ bit-product n p.letters q.letters k ∙ (λ i. rp.first.1 i ⊕ rq.first.1 i))
          by_position (inr e) =
              clash (bit_at n (product p q).letters h.position) h.one
              (bit-product n p.letters q.letters h.position ∙ (λ i. rp.others h.position lead e.1 i ⊕ rq.others h.position lead e.1 i))

  -- so there is one list
  AreRowsFrom-one : (low : ℕ) (a b : List Signed) → AreRowsFrom n member low a → AreRowsFrom n member low b → a ≡ b
  AreRowsFrom-one low [] [] ra rb = refl
  AreRowsFrom-one low [] (q ∷ b) ra rb = absurd (ra rb.0 rb.1 (IsRowAt-lead rb.0 q rb.3))
  AreRowsFrom-one low (p ∷ a) [] ra rb = absurd (rb ra.0 ra.1 (IsRowAt-lead ra.0 p ra.3))
  AreRowsFrom-one low (p ∷ a) (q ∷ b) ra rb = λ i. head i ∷ AreRowsFrom-one (suc ra.0) a b ra.4 rest i
    where
      no_less : rb.0 < ra.0 → ⊥
      no_less lt = ra.2 rb.0 rb.1 lt (IsRowAt-lead rb.0 q rb.3)

      no_more : ra.0 < rb.0 → ⊥
      no_more lt = rb.2 ra.0 ra.1 lt (IsRowAt-lead ra.0 p ra.3)

      position : rb.0 ≡ ra.0
      position = omega (arith, no_less, no_more)

      head : p ≡ q
      head = IsRowAt-one ra.0 p q ra.3 (subst (λ k. IsRowAt n member k q) position rb.3)

      rest : AreRowsFrom n member (suc ra.0) b
      rest = subst (λ k. AreRowsFrom n member (suc k) b) position rb.4

  pub AreReduced-one : (a b : List Signed) → AreReduced n member a → AreReduced n member b → a ≡ b
  AreReduced-one = AreRowsFrom-one 0

-- two tests of one group have the same reduced rows
module _ (n : ℕ) (s t : Signed → Bool) (same : SameGroup n s t) where
  same-lead : (k : ℕ) → IsLead n t k → IsLead n s k
  same-lead k l = (l.0, l.1, same l.0 l.1 ∙ l.2, l.3)

  same-row : (k : ℕ) (p : Signed) → IsRowAt n s k p → IsRowAt n t k p
  same-row k p r = record {
    size = r.size;
    passes = sym (same p r.size) ∙ r.passes;
    first = r.first;
    others = λ l lead ne. r.others l (same-lead l lead) ne;
  }

  pub same-rows : (low : ℕ) (rows : List Signed) → AreRowsFrom n s low rows → AreRowsFrom n t low rows
  same-rows low [] none = λ k le lead. none k le (same-lead k lead)
  same-rows low (p ∷ rows) r =
      (r.0, r.1, (λ j le lt lead. r.2 j le lt (same-lead j lead)), same-row r.0 p r.3, same-rows (suc r.0) rows r.4)

  pub same-reduced : IsStabiliserGroup n t → (a b : List Signed) → AreReduced n s a → AreReduced n t b → a ≡ b
  same-reduced g a b ra rb = AreReduced-one n t g a b (same-rows 0 a ra) rb
