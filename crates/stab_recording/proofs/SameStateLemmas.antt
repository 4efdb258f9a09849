-- Same states: a string by which two states differ shows whether they are the same, and so do the stabilisers of one of them.
use Rattle.stab_recording.proofs.Names.{◌≡◌, ◌↔◌, ℕ, zero, suc, ◌<◌, ◌≤◌, Bool, true, false, not, refl, sym, ◌∙◌, ap, subst, List, Option, Some, None, inl, inr, length, arith, if◌then◌else◌, leb_tells, length-replicate, Letter, I, ◌⊕◌, Signed, minus, with_sign, anticommute, strings_anticommute, length-product, TableauState, stabilises, stabiliser_of, destabiliser_of, chosen_product, CommutesWithAll, IsGenerated, IsStabiliserGroup, SameGroup, is_random_by, IsConjugated, not-true, not_both, same_test, and-left, and-right, same-letters}
use Rattle.stab_pauli.specs.Paulis.{product}

twice : (b : Bool) → true ⊕ (true ⊕ b) ≡ b
twice true = refl
twice false = refl

-- whether a string is a member, by the sign that was asked for

module _ (v : Signed → Bool) (p s : Signed) (is : p ≡ s) (found : Option Bool)
    (determines : (b : Bool) → (found ≡ Some b) ↔ (v (with_sign b p) ≡ true)) where
  pub some-determined : (b : Bool) → found ≡ Some b → not b ≡ v s
  some-determined false e = sym (ap v (sym is) ∙ (determines false).0 e)
  some-determined true e = sym (ap v (sym is) ∙ not-true (v p) (λ m. let f = (determines false).1 m in cc))

  pub none-determined : found ≡ None → false ≡ v s
  none-determined e = sym (ap v (sym is) ∙ not-true (v p) (λ m. let f = (determines false).1 m in cc))

-- a string by which two states differ, if one of its signs is a member

module _ (n : ℕ) (f : List Letter) (u v : Signed → Bool) (group : IsStabiliserGroup n v) (size : length f ≡ n) (conjugated : IsConjugated n f u v) where
  neither : (negative : Bool) → v (record { negative = negative; letters = f }) ≡ true → (r : Signed) → length r.letters ≡ n
      → strings_anticommute f r.letters ≡ true → v r ≡ false
  neither negative is r lr e = not-true (v r) (λ m. not_both _ (group.commuting (record { negative = negative; letters = f }) r size lr is m) e)

  -- the one is the other if it commutes, and both are none if it anticommutes
  same-conjugated : (negative : Bool) → v (record { negative = negative; letters = f }) ≡ true → SameGroup n v u
  same-conjugated negative is p l = by_side (strings_anticommute f p.letters) refl
    where
      by_side : (b : Bool) → strings_anticommute f p.letters ≡ b → v p ≡ u p
      by_side false e = conjugated p l ∙ ap (λ b. u (with_sign b p)) e
      by_side true e =
          neither negative is p l e
          ∙ sym (neither negative is (with_sign true p) l e)
          ∙ conjugated (with_sign true p) l
          ∙ ap (λ b. u (with_sign b (with_sign true p))) e
          ∙ ap (λ s. u (record { negative = s; letters = p.letters })) (twice p.negative)

  -- if they are the same it commutes with each member
  commutes-same : SameGroup n v u → (s : Signed) → length s.letters ≡ n → v s ≡ true → not (strings_anticommute f s.letters) ≡ true
  commutes-same same s l m = by_side (strings_anticommute f s.letters) refl
    where
      by_side : (b : Bool) → strings_anticommute f s.letters ≡ b → not (strings_anticommute f s.letters) ≡ true
      by_side false e = ap not e
      by_side true e =
          absurd
          (not_both (v (minus s)) (group.one_sign s l m)
          (same (minus s) l ∙ sym (conjugated s l ∙ ap (λ b. u (with_sign b s)) e) ∙ m))

not-random : (v : Signed → Bool) (p : Signed) → is_random_by v p ≡ true → (q : Signed) → q.letters ≡ p.letters → v q ≡ true → ⊥
not-random v p free q e m = by_signs p.negative q.negative refl refl
  where
    same : (negative : Bool) → q.negative ≡ negative → v (record { negative = negative; letters = p.letters }) ≡ true
    same negative is = sym (λ i. v (record { negative = is i; letters = e i })) ∙ m

    flipped : (b : Bool) → not b ≡ true → b ≡ true → ⊥
    flipped true a c = cc
    flipped false a c = cc

    by_signs : (a b : Bool) → p.negative ≡ a → q.negative ≡ b → ⊥
    by_signs false false ea eb = flipped (v p) (and-left _ _ free) (ap (λ s. v (record { negative = s; letters = p.letters })) ea ∙ same false eb)
    by_signs true true ea eb = flipped (v p) (and-left _ _ free) (ap (λ s. v (record { negative = s; letters = p.letters })) ea ∙ same true eb)
    by_signs false true ea eb =
        flipped (v (minus p)) (and-right _ _ free) (ap (λ s. v (record { negative = not s; letters = p.letters })) ea ∙ same true eb)
    by_signs true false ea eb =
        flipped (v (minus p)) (and-right _ _ free) (ap (λ s. v (record { negative = not s; letters = p.letters })) ea ∙ same false eb)

-- if no sign of a string by which two states differ is a member, they are not the same
differing-random : (t : TableauState) (p : Signed) (u : Signed → Bool) → IsStabiliserGroup t.qubits (stabilises t) → length p.letters ≡ t.qubits
    → IsConjugated t.qubits p.letters u (stabilises t) → ((q : Signed) → length q.letters ≡ t.qubits → CommutesWithAll t q → IsGenerated t q)
    → is_random_by (stabilises t) p ≡ true → SameGroup t.qubits (stabilises t) u → ⊥
differing-random t p u group size conjugated generated free same =
    let made = generated p size (commutes-same t.qubits p.letters u (stabilises t) group size conjugated same) in
    not-random (stabilises t) p free (chosen_product t p t.qubits) made.letters made.member

-- by the string that a checkpoint gave, and the sign that the state was asked for

module _ (t c : TableauState) (p : Signed) (group : IsStabiliserGroup t.qubits (stabilises t)) (size : length p.letters ≡ t.qubits)
    (same : c.qubits ≡ t.qubits) (conjugated : IsConjugated c.qubits p.letters (stabilises c) (stabilises t)) where
  here : IsConjugated t.qubits p.letters (stabilises c) (stabilises t)
  here = subst (λ n. IsConjugated n p.letters (stabilises c) (stabilises t)) same conjugated

  pub signs-same : (b : Bool) → stabilises t (with_sign b p) ≡ true → SameGroup t.qubits (stabilises t) (stabilises c)
  signs-same b m = same-conjugated t.qubits p.letters (stabilises c) (stabilises t) group size here (b ⊕ p.negative) m

  pub signs-differ : ((q : Signed) → length q.letters ≡ t.qubits → CommutesWithAll t q → IsGenerated t q) → is_random_by (stabilises t) p ≡ true
      → SameGroup t.qubits (stabilises t) (stabilises c) → ⊥
  signs-differ generated free = differing-random t p (stabilises c) group size here generated free

-- what follows from a string of one state alone
pub differing-determined : (n : ℕ) (u v : Signed → Bool) → SameGroup n u v → (p : Signed) × (length p.letters ≡ n) × (u p ≡ true) × (v p ≡ false) → ⊥
differing-determined n u v same determined = not_both (v determined.0) determined.3 (sym (same determined.0 determined.1) ∙ determined.2)

-- a group that has the stabilisers of a state is the group of all that stabilises it

module _ (t : TableauState) (member : Signed → Bool) (own : IsStabiliserGroup t.qubits (stabilises t)) (group : IsStabiliserGroup t.qubits member)
    (generated : (p : Signed) → length p.letters ≡ t.qubits → CommutesWithAll t p → IsGenerated t p)
    (has : (k : ℕ) → k < t.qubits → (length (stabiliser_of t k).letters ≡ t.qubits) × (member (stabiliser_of t k) ≡ true)) where
  record IsMember (p : Signed) : Type 0 where
    size : length p.letters ≡ t.qubits
    passes : member p ≡ true

  chosen-step : (p s : Signed) (k : ℕ) → k < t.qubits → (d : Bool) → IsMember s → IsMember (if d then product s (stabiliser_of t k) else s)
  chosen-step p s k lt false m = m
  chosen-step p s k lt true m = record {
    size = length-product t.qubits s (stabiliser_of t k) m.size (has k lt).0;
    passes = group.closed s (stabiliser_of t k) m.size (has k lt).0 m.passes (has k lt).1;
  }

  chosen-member : (p : Signed) (k : ℕ) → k ≤ t.qubits → IsMember (chosen_product t p k)
  chosen-member p zero le = record { size = length-replicate t.qubits I; passes = group.has_identity }
  chosen-member p (suc k) le =
      chosen-step p (chosen_product t p k) k (omega arith) (anticommute (destabiliser_of t k) p) (chosen-member p k (omega arith))

  stabilises-then : (p : Signed) → length p.letters ≡ t.qubits → stabilises t p ≡ true → member p ≡ true
  stabilises-then p lp mp =
      ap member (same-letters t.qubits (stabilises t) own p (chosen_product t p t.qubits) lp mp made.member (sym made.letters))
      ∙ (chosen-member p t.qubits (omega arith)).passes
    where
      made : IsGenerated t p
      made = generated p lp (λ s ls ms. ap not (own.commuting p s lp ls mp ms))

  then-stabilises : (p : Signed) → length p.letters ≡ t.qubits → member p ≡ true → stabilises t p ≡ true
  then-stabilises p lp mp =
      ap (stabilises t) (same-letters t.qubits member group p (chosen_product t p t.qubits) lp mp (chosen-member p t.qubits (omega arith)).passes (sym made.letters))
      ∙ made.member
    where
      made : IsGenerated t p
      made = generated p lp (λ s ls ms. ap not (group.commuting p s lp ls mp (stabilises-then s ls ms)))

  pub same-shared : SameGroup t.qubits (stabilises t) member
  same-shared p lp = same_test (stabilises t p) (member p) (stabilises-then p lp) (then-stabilises p lp)

-- by the answers for two parts of the stabilisers, of which the second was asked of states that are still the same

module _ (t u v w : TableauState) (same : u.qubits ≡ t.qubits) (still : v ≡ t) (other_still : w ≡ u) where
  pub shared-yes : IsStabiliserGroup t.qubits (stabilises t) → IsStabiliserGroup u.qubits (stabilises u)
      → ((p : Signed) → length p.letters ≡ t.qubits → CommutesWithAll t p → IsGenerated t p)
      → (start end : ℕ) → end ≡ t.qubits
      → ((k : ℕ) → k < end → start ≤ k → (length (stabiliser_of t k).letters ≡ t.qubits) × (stabilises u (stabiliser_of t k) ≡ true))
      → ((k : ℕ) → k < start → 0 ≤ k → (length (stabiliser_of v k).letters ≡ v.qubits) × (stabilises w (stabiliser_of v k) ≡ true))
      → SameGroup t.qubits (stabilises t) (stabilises u)
  shared-yes own group generated start end whole following before =
      same-shared t (stabilises u) own (subst (λ n. IsStabiliserGroup n (stabilises u)) same group) generated has
    where
      has : (k : ℕ) → k < t.qubits → (length (stabiliser_of t k).letters ≡ t.qubits) × (stabilises u (stabiliser_of t k) ≡ true)
      has k lt =
          elim (leb_tells start k) [
            | inl le ↦ following k (omega arith) le.1
            | inr more ↦ (
              subst (λ (t : TableauState). length (stabiliser_of t k).letters ≡ t.qubits) still (before k more.1 (omega arith)).0,
              sym (λ i. stabilises (other_still i) (stabiliser_of (still i) k)) ∙ (before k more.1 (omega arith)).1,
            )
          ]

  pub shared-no : (b : Bool)
      → (b ≡ false → (p : Signed) × (length p.letters ≡ v.qubits) × (stabilises v p ≡ true) × (stabilises w p ≡ false))
      → SameGroup t.qubits (stabilises t) (stabilises u) → b ≡ true
  shared-no true determined group = refl
  shared-no false determined group =
      absurd (differing-determined v.qubits (stabilises v) (stabilises w) here (determined refl))
    where
      here : SameGroup v.qubits (stabilises v) (stabilises w)
      here =
          subst (λ (t : TableauState). SameGroup t.qubits (stabilises t) (stabilises w)) (sym still)
          (subst (λ u. SameGroup t.qubits (stabilises t) (stabilises u)) (sym other_still) group)
