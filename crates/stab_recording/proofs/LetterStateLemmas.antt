-- Letters at a state: with one of two signs they stabilise it, or they flip the sign of some stabiliser, which is then none.
use Rattle.stab_recording.proofs.Names.{◌≡◌, ℕ, zero, suc, refl, sym, ◌∙◌, ap, subst, arith, Bool, true, false, not, ◌&&◌, ◌||◌, List, [], ◌∷◌, length, ◌⊎◌, inl, inr, or_cases, Letter, I, X, Y, Z, parity-false, Signed, with_sign, strings_anticommute, is_random_by, IsStabiliserGroup, TableauState, stabilises, chosen_product, CommutesWithAll, IsGenerated, IsConjugated, and-left, and-right, not_both, Stabilise, FramesSome}

-- some string of n letters passes a test, or none does

abbrev SomePasses : ℕ → (List Letter → Bool) → Type 0
SomePasses n test = (r : List Letter) × (length r ≡ n) × (test r ≡ true)

abbrev NonePasses : ℕ → (List Letter → Bool) → Type 0
NonePasses n test = (r : List Letter) → length r ≡ n → test r ≡ false

some-or-none : (n : ℕ) (test : List Letter → Bool) → SomePasses n test ⊎ NonePasses n test
some-or-none zero test = by-answer (test []) refl
  where
    by-answer : (b : Bool) → test [] ≡ b → SomePasses 0 test ⊎ NonePasses 0 test
    by-answer true e = inl ([], refl, e)
    by-answer false e = inr none
      where
        none : NonePasses 0 test
        none [] l = e
        none (x ∷ r) l = absurd (omega (arith, l))
some-or-none (suc n) test =
    by-first (some-or-none n (λ r. test (I ∷ r))) (some-or-none n (λ r. test (X ∷ r))) (some-or-none n (λ r. test (Y ∷ r))) (some-or-none n (λ r. test (Z ∷ r)))
  where
    Begun : Letter → Type 0
    Begun l = SomePasses n (λ r. test (l ∷ r)) ⊎ NonePasses n (λ r. test (l ∷ r))

    longer : (l : Letter) → SomePasses n (λ r. test (l ∷ r)) → SomePasses (suc n) test
    longer l s = (l ∷ s.0, ap suc s.1, s.2)

    by-first : Begun I → Begun X → Begun Y → Begun Z → SomePasses (suc n) test ⊎ NonePasses (suc n) test
    by-first (inl s) x y z = inl (longer I s)
    by-first (inr i) (inl s) y z = inl (longer X s)
    by-first (inr i) (inr x) (inl s) z = inl (longer Y s)
    by-first (inr i) (inr x) (inr y) (inl s) = inl (longer Z s)
    by-first (inr i) (inr x) (inr y) (inr z) = inr none
      where
        none : NonePasses (suc n) test
        none [] l = absurd (omega (arith, l))
        none (I ∷ r) l = i r (omega (arith, l))
        none (X ∷ r) l = x r (omega (arith, l))
        none (Y ∷ r) l = y r (omega (arith, l))
        none (Z ∷ r) l = z r (omega (arith, l))

-- signs

plus-out : (a p m : Bool) → (a && (p || m)) ≡ false → p ≡ true → not a ≡ true
plus-out a p m e f = grind arith

minus-out : (a p m : Bool) → (a && (p || m)) ≡ false → m ≡ true → not a ≡ true
minus-out a p m e f = grind arith

random-signs : (p m : Bool) → (not p && not m) ≡ true → (p ≡ false) × (m ≡ false)
random-signs p m e = grind arith

-- of letters that neither sign makes a stabiliser none stabilises
not-random : (f : List Letter) (t : TableauState) → is_random_by (stabilises t) (record { negative = false; letters = f }) ≡ true → Stabilise f t → ⊥
not-random f t free (false, e) =
    not_both _ (random-signs (stabilises t (record { negative = false; letters = f })) (stabilises t (record { negative = true; letters = f })) free).0 e
not-random f t free (true, e) =
    not_both _ (random-signs (stabilises t (record { negative = false; letters = f })) (stabilises t (record { negative = true; letters = f })) free).1 e

conjugate-some : (f : List Letter) (t : TableauState) → length f ≡ t.qubits → IsStabiliserGroup t.qubits (stabilises t)
    → ((p : Signed) → length p.letters ≡ t.qubits → CommutesWithAll t p → IsGenerated t p)
    → is_random_by (stabilises t) (record { negative = false; letters = f }) ≡ true → FramesSome f t
conjugate-some f t long group generated free = by-search (some-or-none t.qubits test)
  where
    test : List Letter → Bool
    test r = strings_anticommute f r && (stabilises t (record { negative = false; letters = r }) || stabilises t (record { negative = true; letters = r }))

    conjugated : (p : Signed) → length p.letters ≡ t.qubits → stabilises t p ≡ true → strings_anticommute f p.letters ≡ true → FramesSome f t
    conjugated p l e a = (p, l, e, group.one_sign p l e, a)

    by-sign : (r : List Letter) → length r ≡ t.qubits → strings_anticommute f r ≡ true
        → (stabilises t (record { negative = false; letters = r }) ≡ true) ⊎ (stabilises t (record { negative = true; letters = r }) ≡ true) → FramesSome f t
    by-sign r l a (inl e) = conjugated (record { negative = false; letters = r }) l e a
    by-sign r l a (inr e) = conjugated (record { negative = true; letters = r }) l e a

    commutes : NonePasses t.qubits test → (negative : Bool) (r : List Letter) → length r ≡ t.qubits → stabilises t (record { negative = negative; letters = r }) ≡ true
        → not (strings_anticommute f r) ≡ true
    commutes none false r l e =
        plus-out (strings_anticommute f r) (stabilises t (record { negative = false; letters = r })) (stabilises t (record { negative = true; letters = r })) (none r l) e
    commutes none true r l e =
        minus-out (strings_anticommute f r) (stabilises t (record { negative = false; letters = r })) (stabilises t (record { negative = true; letters = r })) (none r l) e

    stabilise : IsGenerated t (record { negative = false; letters = f }) → Stabilise f t
    stabilise is =
        let product = chosen_product t (record { negative = false; letters = f }) t.qubits in
        (product.negative, subst (λ r. stabilises t (record { negative = product.negative; letters = r }) ≡ true) is.letters is.member)

    by-search : SomePasses t.qubits test ⊎ NonePasses t.qubits test → FramesSome f t
    by-search (inl s) =
        by-sign s.0 s.1
        (and-left (strings_anticommute f s.0) _ s.2)
        (or_cases _ _ (and-right (strings_anticommute f s.0) _ s.2))
    by-search (inr none) =
        absurd
        (not-random f t free
        (stabilise (generated (record { negative = false; letters = f }) long (λ s l e. commutes none s.negative s.letters l e))))

-- a state that was read, and a string of these letters, of which a sign was asked for

pub none-found : (f : List Letter) (c t : TableauState) (p : Signed) → t ≡ c → p ≡ record { negative = false; letters = f } → length f ≡ c.qubits
    → IsStabiliserGroup t.qubits (stabilises t) → ((q : Signed) → length q.letters ≡ t.qubits → CommutesWithAll t q → IsGenerated t q)
    → is_random_by (stabilises t) p ≡ true → FramesSome f c
none-found f c t p read string long group generated free =
    subst (FramesSome f) read
    (conjugate-some f t (long ∙ sym (ap (λ (s : TableauState). s.qubits) read)) group generated (subst (λ q. is_random_by (stabilises t) q ≡ true) string free))

pub some-found : (f : List Letter) (c t : TableauState) (p : Signed) (b : Bool) → t ≡ c → p ≡ record { negative = false; letters = f }
    → stabilises t (with_sign b p) ≡ true → Stabilise f c
some-found f c t p b read string e = (
  b,
  subst (λ s. stabilises c (record { negative = s; letters = f }) ≡ true) (parity-false b)
      (subst (λ q. stabilises c (with_sign b q) ≡ true) string (subst (λ s. stabilises s (with_sign b p) ≡ true) read e)),
)

-- a stabiliser that letters negate is none of the state that they make
pub conjugated-differs : (n : ℕ) (f : List Letter) (c t : TableauState) → c.qubits ≡ n → FramesSome f c → IsConjugated c.qubits f (stabilises c) (stabilises t)
    → (p : Signed) × (length p.letters ≡ n) × (stabilises c p ≡ true) × (stabilises t p ≡ false)
conjugated-differs n f c t same some conjugated =
    (some.0, some.1 ∙ same, some.2, conjugated some.0 some.1 ∙ ap (λ b. stabilises c (with_sign b some.0)) some.4 ∙ some.3)
