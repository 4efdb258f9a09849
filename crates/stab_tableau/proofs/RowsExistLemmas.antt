-- Reduced rows: a group has a list of them. They are found from the last position down: if a position is a lead, a member with its
-- first 1 there is cleared by the rows that are there already.
use Rattle.stab_tableau.proofs.Names.{eqb_tells, ◌≡◌, ◌≢◌, eqb, subst, ℕ, zero, suc, ◌+◌, ◌<◌, ◌≤◌, Bool, true, false, inl, inr, refl, ◌∙◌, ap, List, [], ◌∷◌, length, arith, Letter, ◌⊕◌, Signed, product, length-product, clash, IsStabiliserGroup, bit_at, IsFirst, IsLead, IsRowAt, AreRowsFrom, AreReduced}
use Rattle.std.proofs.Common.{◌⊎◌}
use Rattle.stab_tableau.proofs.BitLemmas.{bit-product, nat-distinct, find-first, first-one}
use Rattle.stab_tableau.proofs.SearchLemmas.{Decides, HasNone, HasSome, search}

-- whether a position is a lead

-- the first 1 of a string is at a position or not
decides-first : (n : ℕ) (p : List Letter) (k : ℕ) → Decides (IsFirst n p k)
decides-first n p k = elim (find-first (bit_at n p) (n + n)) [
  | inl none ↦ inl (λ w. clash (bit_at n p k) w.1 (none k w.0))
  | inr h ↦ by_position h.position (h.below, h.one, h.before) (eqb_tells h.position k)
]
  where
    by_position : (j : ℕ) → IsFirst n p j → ((eqb j k ≡ true) × (j ≡ k)) ⊎ ((eqb j k ≡ false) × (j ≢ k)) → Decides (IsFirst n p k)
    by_position j w (inl e) = inr (subst (IsFirst n p) e.1 w)
    by_position j w (inr e) = inl (λ v. e.1 (first-one n p j k w v))

abbrev signed : Bool → List Letter → Signed
signed b p = record { negative = b; letters = p }

-- a string is, with one of its signs, a member
abbrev IsMember : (Signed → Bool) → List Letter → Type 0
IsMember member p = (b : Bool) × (member (signed b p) ≡ true)

decides-member : (member : Signed → Bool) (p : List Letter) → Decides (IsMember member p)
decides-member member p = by_signs (member (signed false p)) (member (signed true p)) refl refl
  where
    neither : member (signed false p) ≡ false → member (signed true p) ≡ false → IsMember member p → ⊥
    neither ep em (false, e) = clash (member (signed false p)) e ep
    neither ep em (true, e) = clash (member (signed true p)) e em

    by_signs : (plus minus : Bool) → member (signed false p) ≡ plus → member (signed true p) ≡ minus → Decides (IsMember member p)
    by_signs true minus ep em = inr (false, ep)
    by_signs false true ep em = inr (true, em)
    by_signs false false ep em = inl (neither ep em)

decides-both : {A B : Type 0} → Decides A → Decides B → Decides (A × B)
decides-both (inl none) b = inl (λ w. none w.0)
decides-both (inr here) (inl none) = inl (λ w. none w.1)
decides-both (inr here) (inr there) = inr (here, there)

-- a position is a lead or not
decides-lead : (n : ℕ) (member : Signed → Bool) (k : ℕ) → Decides (IsLead n member k)
decides-lead n member k =
    by_search (search n (λ p. IsMember member p × IsFirst n p k) (λ p. decides-both (decides-member member p) (decides-first n p k)))
  where
    by_search : HasNone n (λ p. IsMember member p × IsFirst n p k) ⊎ HasSome n (λ p. IsMember member p × IsFirst n p k) → Decides (IsLead n member k)
    by_search (inl none) = inl (λ l. none l.0.letters l.1 ((l.0.negative, l.2), l.3))
    by_search (inr some) = inr (signed some.2.0.0 some.0, some.1, some.2.0.1, some.2.1)

-- clearing a member by rows

-- a member with the bits of p before a position, and with 0 at each lead from there on
record IsCleared (n : ℕ) (member : Signed → Bool) (low : ℕ) (p q : Signed) : Type 0 where
  size : length q.letters ≡ n
  passes : member q ≡ true
  same : (j : ℕ) → j < low → bit_at n q.letters j ≡ bit_at n p.letters j
  clear : (l : ℕ) → low ≤ l → IsLead n member l → bit_at n q.letters l ≡ false

module _ (n : ℕ) (member : Signed → Bool) (g : IsStabiliserGroup n member) where
  -- there is no lead from a position up to another if s has 0 there: what is cleared after that is cleared
  cleared-on : (low k : ℕ) → low ≤ k → ((j : ℕ) → low ≤ j → j < k → IsLead n member j → ⊥)
      → (p s q : Signed) → ((j : ℕ) → j < low → bit_at n s.letters j ≡ bit_at n p.letters j) → bit_at n s.letters k ≡ false
      → IsCleared n member (suc k) s q → IsCleared n member low p q
  cleared-on low k le none p s q same zero_there c = record {
    size = c.size;
    passes = c.passes;
    same = λ j lt. c.same j (omega arith) ∙ same j lt;
    clear = λ l ll lead. elim (eqb_tells l k) [
      | inl here ↦ ap (bit_at n q.letters) here.1 ∙ c.same k (omega arith) ∙ zero_there
      | inr other ↦ elim (nat-distinct l k other.1) [
        | inl lt ↦ absurd (none l ll lt lead)
        | inr lt ↦ c.clear l (omega arith) lead
      ]
    ];
  }

  -- a member is cleared by all rows from a position on: multiplied by those at whose lead it has 1 at their lead
  cleared : (low : ℕ) (rows : List Signed) → AreRowsFrom n member low rows → (p : Signed) → length p.letters ≡ n → member p ≡ true
      → (q : Signed) × IsCleared n member low p q
  cleared low [] none p lp mp = (p, record { size = lp; passes = mp; same = λ j lt. refl; clear = λ l le lead. absurd (none l le lead) })
  cleared low (r ∷ rows) a p lp mp = by_bit (bit_at n p.letters a.0) refl (cleared (suc a.0) rows a.4)
    where
      Next : Type 0
      Next = (s : Signed) → length s.letters ≡ n → member s ≡ true → (q : Signed) × IsCleared n member (suc a.0) s q

      by_bit : (b : Bool) → bit_at n p.letters a.0 ≡ b → Next → (q : Signed) × IsCleared n member low p q
      by_bit false e next = let c = next p lp mp in (c.0, cleared-on low a.0 a.1 a.2 p p c.0 (λ j lt. refl) e c.1)
      by_bit true e next =
          let c = next (product r p) (length-product n r p a.3.size lp) (g.closed r p a.3.size lp a.3.passes mp) in (
            c.0,
            cleared-on low a.0 a.1 a.2 p (product r p) c.0
                (λ j lt. bit-product n r.letters p.letters j ∙ ap (λ b. b ⊕ bit_at n p.letters j) (a.3.first.2 j (let le = a.1 in omega arith)))
                (bit-product n r.letters p.letters a.0 ∙ (λ i. a.3.first.1 i ⊕ e i)) c.1,
          )

  -- rows, one position after another

  -- the rows after a position that is no lead are those from it on
  rows-skip : (low : ℕ) (rows : List Signed) → (IsLead n member low → ⊥) → AreRowsFrom n member (suc low) rows → AreRowsFrom n member low rows
  rows-skip low rows none a = go rows a
    where
      not_from : (P : ℕ → Type 0) → ((j : ℕ) → suc low ≤ j → P j → ⊥) → (P low → ⊥) → (j : ℕ) → low ≤ j → P j → ⊥
      not_from P later here j le w = elim (eqb_tells j low) [
        | inl same ↦ here (subst P same.1 w)
        | inr other ↦ later j (let ne = other.1 in omega arith) w
      ]

      go : (rows : List Signed) → AreRowsFrom n member (suc low) rows → AreRowsFrom n member low rows
      go [] a = not_from (IsLead n member) a none
      go (p ∷ rows) (k, le, between, row, rest) =
          (k, (omega arith), (λ j lj lt lead. not_from (λ j. (j < k) × IsLead n member j) (λ j l w. between j l w.0 w.1) (λ w. none w.1) j lj (lt, lead)), row, rest)

  -- at a lead a member with its first 1 there, cleared by the rows after it, is the row
  rows-more : (low : ℕ) (rows : List Signed) → IsLead n member low → AreRowsFrom n member (suc low) rows → (more : List Signed) × AreRowsFrom n member low more
  rows-more low rows lead a =
      (c.0 ∷ rows, (low, (omega arith), (λ j le lt l. absurd (omega (arith, le, lt))), row, a))
    where
      c : (q : Signed) × IsCleared n member (suc low) lead.0 q
      c = cleared (suc low) rows a lead.0 lead.1 lead.2

      first : IsFirst n c.0.letters low
      first = (lead.3.0, c.1.same low (omega arith) ∙ lead.3.1, λ j lt. c.1.same j (omega arith) ∙ lead.3.2 j lt)

      row : IsRowAt n member low c.0
      row = record {
        size = c.1.size;
        passes = c.1.passes;
        first = first;
        others = λ l ld ne. elim (nat-distinct l low ne) [
          | inl lt ↦ first.2 l lt
          | inr lt ↦ c.1.clear l (omega arith) ld
        ];
      }

  rows-step : (low : ℕ) (rows : List Signed) → Decides (IsLead n member low) → AreRowsFrom n member (suc low) rows → (more : List Signed) × AreRowsFrom n member low more
  rows-step low rows (inl none) a = (rows, rows-skip low rows none a)
  rows-step low rows (inr lead) a = rows-more low rows lead a

  -- from each position on there are rows, and from the last one on there is none
  rows-exist : (left low : ℕ) → low + left ≡ n + n → (rows : List Signed) × AreRowsFrom n member low rows
  rows-exist zero low e = ([], λ k le lead. omega (arith, e, le, lead.3.0))
  rows-exist (suc left) low e =
      let rest = rows-exist left (suc low) (omega (arith, e)) in
      rows-step low rest.0 (decides-lead n member low) rest.1

  pub AreReduced-some : (rows : List Signed) × AreReduced n member rows
  AreReduced-some = rows-exist (n + n) 0 (omega arith)
