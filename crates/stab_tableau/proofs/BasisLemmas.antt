-- The stabilisers of a state generate its group and are independent.
use Rattle.stab_tableau.proofs.Names.{if◌then◌else◌, eq-eqb, eqb_tells, ◌≡◌, ◌≢◌, ℕ, zero, suc, eqb, ◌<◌, ◌≤◌, Bool, true, false, not, ◌&&◌, inl, inr, refl, sym, ◌∙◌, ap, List, length, arith, length-replicate, Letter, I, ◌⊕◌, Signed, anticommute, strings_anticommute, product, string_product, Rows, row_at, parity-self, parity-false, parity-mid, strings_anticommute-comm, strings_anticommute-product, string_product-self, blank, IsInverseTable, IsOnto, TableauState, stabilises, stabiliser_of, destabiliser_of, chosen_product, IsGenerated, IsLinear, IsBasis}
use Rattle.stab_tableau.proofs.GeneratedLemmas.{stabiliser-length, stabiliser-member, are-dual, is-generated}
use Rattle.stab_tableau.proofs.GroupTestLemmas.{group-stabilises}
use Rattle.stab_tableau.proofs.EliminationStepLemmas.{and-true, and-false, and-parity}

module _ (t : TableauState) where
  -- a linear test that is 0 on the stabilisers is 0 on their products

  linear-blank : (f : List Letter → Bool) → IsLinear f → f (blank t.qubits) ≡ false
  linear-blank f linear =
      ap f (sym (string_product-self t.qubits (blank t.qubits) (length-replicate t.qubits I)))
      ∙ linear (blank t.qubits) (blank t.qubits)
      ∙ parity-self (f (blank t.qubits))

  chosen-test : (f : List Letter → Bool) → IsLinear f → (p : Signed) (k : ℕ) → ((j : ℕ) → j < k → f (stabiliser_of t j).letters ≡ false)
      → f (chosen_product t p k).letters ≡ false
  chosen-test f linear p zero zeros = linear-blank f linear
  chosen-test f linear p (suc k) zeros =
      by_choice (anticommute (destabiliser_of t k) p) (chosen-test f linear p k (λ j lt. zeros j (omega arith)))
    where
      by_choice : (d : Bool) → f (chosen_product t p k).letters ≡ false
          → f (if d then product (chosen_product t p k) (stabiliser_of t k) else chosen_product t p k).letters ≡ false
      by_choice true before = linear (chosen_product t p k).letters (stabiliser_of t k).letters ∙ (λ i. before i ⊕ zeros k (omega arith) i)
      by_choice false before = before

  -- the test that has given bits on the stabilisers: anticommuting with those destabilisers whose bit is 1
  dual_test : (ℕ → Bool) → ℕ → List Letter → Bool
  dual_test v zero p = false
  dual_test v (suc k) p = (v k && strings_anticommute (destabiliser_of t k).letters p) ⊕ dual_test v k p

  dual_test-linear : (v : ℕ → Bool) (k : ℕ) → IsLinear (dual_test v k)
  unfolding dual_test
  dual_test-linear v zero p q = refl
  dual_test-linear v (suc k) p q =
      (λ i. (v k && anticommute-sum i) ⊕ dual_test-linear v k p q i)
      ∙ ap (λ b. b ⊕ (dual_test v k p ⊕ dual_test v k q)) (and-parity (v k) (strings_anticommute (destabiliser_of t k).letters p) (strings_anticommute (destabiliser_of t k).letters q))
      ∙ parity-mid (v k && strings_anticommute (destabiliser_of t k).letters p) (v k && strings_anticommute (destabiliser_of t k).letters q) (dual_test v k p) (dual_test v k q)
    where
      anticommute-sum : strings_anticommute (destabiliser_of t k).letters (string_product p q) ≡ strings_anticommute (destabiliser_of t k).letters p ⊕ strings_anticommute (destabiliser_of t k).letters q
      anticommute-sum =
          strings_anticommute-comm (destabiliser_of t k).letters (string_product p q) ∙ strings_anticommute-product p q (destabiliser_of t k).letters
          ∙ (λ i. strings_anticommute-comm p (destabiliser_of t k).letters i ⊕ strings_anticommute-comm q (destabiliser_of t k).letters i)

  module _ (is : IsInverseTable t.qubits t.rows) (onto : IsOnto t.qubits t.rows) where
    dual : (j k : ℕ) → j < t.qubits → k < t.qubits → strings_anticommute (destabiliser_of t k).letters (stabiliser_of t j).letters ≡ eqb j k
    dual j k lj lk = strings_anticommute-comm (destabiliser_of t k).letters (stabiliser_of t j).letters ∙ (are-dual t is onto j k lj lk).both

    distinct : (j k : ℕ) → j < t.qubits → k < t.qubits → j ≢ k → strings_anticommute (destabiliser_of t k).letters (stabiliser_of t j).letters ≡ false
    distinct j k lj lk ne = elim (eqb_tells j k) [
      | inl same ↦ absurd (ne same.1)
      | inr other ↦ dual j k lj lk ∙ other.0
    ]

    dual_test-later : (v : ℕ → Bool) (j k : ℕ) → j < t.qubits → k ≤ j → dual_test v k (stabiliser_of t j).letters ≡ false
    unfolding dual_test
    dual_test-later v j zero lj le = refl
    dual_test-later v j (suc k) lj le =
        (λ i. and-false (v k) (strings_anticommute (destabiliser_of t k).letters (stabiliser_of t j).letters)
        (distinct j k lj (omega arith) (λ e. absurd (omega (arith, e)))) i
        ⊕ dual_test-later v j k lj (omega arith) i)

    dual_test-is : (v : ℕ → Bool) (j k : ℕ) → j < k → k ≤ t.qubits → dual_test v k (stabiliser_of t j).letters ≡ v j
    unfolding dual_test
    dual_test-is v j zero lt le = absurd (omega arith)
    dual_test-is v j (suc k) lt le = elim (eqb_tells j k) [
      | inl same ↦ let e : j ≡ k = same.1 in
          (λ i. and-true (v k) (strings_anticommute (destabiliser_of t k).letters (stabiliser_of t j).letters)
          (dual j k (omega arith) (omega arith) ∙ eq-eqb j k e) i ⊕ dual_test-later v j k (omega arith) (omega arith) i)
          ∙ parity-false (v k) ∙ ap v (sym e)
      | inr other ↦ let ne : j ≢ k = other.1 in
          (λ i. and-false (v k) (strings_anticommute (destabiliser_of t k).letters (stabiliser_of t j).letters)
          (distinct j k (omega arith) (omega arith) ne) i
          ⊕ dual_test-is v j k (omega (arith, ne)) (omega arith) i)
    ]

    module _ (r : Rows) (same : r.qubits ≡ t.qubits) (count : length r.rows ≡ t.qubits)
        (rows : (k : ℕ) → k < t.qubits → row_at r k ≡ stabiliser_of t k) where
      letters-of : (f : List Letter → Bool) (a : ℕ) → a < t.qubits → f (row_at r a).letters ≡ f (stabiliser_of t a).letters
      letters-of f a la = ap (λ (s : Signed). f s.letters) (rows a la)

      pub stabilisers-basis : IsBasis (stabilises t) r
      stabilisers-basis = record {
        over = λ a la. ap (λ (s : Signed). length s.letters) (rows a (omega arith)) ∙ stabiliser-length t is onto a (omega arith) ∙ sym same;
        passes = λ a la. ap (stabilises t) (rows a (omega arith)) ∙ stabiliser-member t is onto a (omega arith);
        spans = λ f linear zeros p lp mp.
            let made : IsGenerated t p =
            is-generated t is onto p (lp ∙ same) (λ s ls ms. ap not ((group-stabilises t is).commuting p s (lp ∙ same) ls mp ms)) in
            ap f (sym made.letters)
            ∙ chosen-test f linear p t.qubits (λ j lj. sym (letters-of f j lj) ∙ zeros j (omega arith));
        independent = λ v. (
          dual_test v t.qubits,
          dual_test-linear v t.qubits,
          λ a la. letters-of (dual_test v t.qubits) a (omega arith) ∙ dual_test-is v a t.qubits (omega arith) (omega arith),
        );
      }
