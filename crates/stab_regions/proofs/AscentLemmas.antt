-- Ascents: an ascending list of numbers is that of the numbers that it names.
use Rattle.stab_regions.proofs.Names.{◌≡◌, ℕ, zero, suc, ◌+◌, ◌<◌, ◌≤◌, refl, sym, ap, ◌∙◌, subst, Bool, true, false, List, [], ◌∷◌, ⊎_elim, arith, ◌==◌, if◌then◌else◌, cases_eq, cases_lt, nat_tests, ◌⊕◌, odd, numbers_where, is_stored, retained_of, AscendsFrom}
use Rattle.std.specs.Prelude.{◌&&◌}

-- numbers ascend, from one on up to below another
abbrev pub Ascends : (from below : ℕ) → List ℕ → Type 0
Ascends from below [] = Unit {0}
Ascends from below (k ∷ ks) = (from ≤ k) × (k < below) × Ascends (k + 1) below ks

-- numbers with the same property

where-step : (f : ℕ → Bool) (i k : ℕ) (b : Bool) → f i ≡ b → numbers_where f i (suc k) ≡ (if b then i ∷ numbers_where f (i + 1) k else numbers_where f (i + 1) k)
where-step f i k b e = ap (λ c. if c then i ∷ numbers_where f (i + 1) k else numbers_where f (i + 1) k) e

pub where-same : (f g : ℕ → Bool) (i k : ℕ) → ((m : ℕ) → i ≤ m → m < i + k → f m ≡ g m) → numbers_where f i k ≡ numbers_where g i k
where-same f g i zero same = refl
where-same f g i (suc k) same =
    let later : numbers_where f (i + 1) k ≡ numbers_where g (i + 1) k = where-same f g (i + 1) k (λ m ge lt. same m (omega arith) (omega arith)) in
    ap (λ b. if b then i ∷ numbers_where f (i + 1) k else numbers_where f (i + 1) k) (same i (omega arith) (omega arith))
    ∙ ap (λ (rest : List ℕ). if g i then i ∷ rest else rest) later

where-none : (f : ℕ → Bool) (i k : ℕ) → ((m : ℕ) → f m ≡ false) → numbers_where f i k ≡ []
where-none f i zero none = refl
where-none f i (suc k) none = where-step f i k false (none i) ∙ where-none f (i + 1) k none

-- what an ascending list names

different : (a i : ℕ) → i < a → (a == i) ≡ false
different a i lt = grind (arith, nat_tests)

same : (a : ℕ) → (a == a) ≡ true
same a = grind (arith, nat_tests)

pub not-named : (i from below : ℕ) (ks : List ℕ) → i < from → Ascends from below ks → odd i ks ≡ false
not-named i from below [] lt a = refl
not-named i from below (k ∷ ks) lt a =
    ap (λ b. b ⊕ odd i ks) (different k i (omega (arith, a.0))) ∙ not-named i (k + 1) below ks (omega (arith, a.0)) a.2

-- with this many numbers after the first, if the list is known for those
abbrev pub Known : ℕ → Type 0
Known k = (i : ℕ) (ks : List ℕ) → Ascends i (i + k) ks → ks ≡ numbers_where (λ m. odd m ks) i k

differs : (i n m : ℕ) → n ≡ i → i + 1 ≤ m → (n == m) ≡ false
differs i n m e ge = grind (arith, nat_tests)

named-first : (i n below : ℕ) (ns : List ℕ) → n ≡ i → Ascends (i + 1) below ns → odd i (n ∷ ns) ≡ true
named-first i n below ns e rest =
    ap (λ b. b ⊕ odd i ns) (ap (λ t. t == i) e ∙ same i) ∙ ap (λ b. true ⊕ b) (not-named i (i + 1) below ns (omega arith) rest)

first-is : (k i n : ℕ) (ns : List ℕ) → Known k → n ≡ i → Ascends (i + 1) ((i + 1) + k) ns → n ∷ ns ≡ numbers_where (λ m. odd m (n ∷ ns)) i (suc k)
first-is k i n ns known e rest =
    ap (λ t. t ∷ ns) e
    ∙ ap (λ (t : List ℕ). i ∷ t) (known (i + 1) ns rest)
    ∙ ap (λ (t : List ℕ). i ∷ t) (where-same (λ m. odd m ns) (λ m. odd m (n ∷ ns)) (i + 1) k (λ m ge lt. sym (ap (λ b. b ⊕ odd m ns) (differs i n m e ge))))
    ∙ sym (where-step (λ m. odd m (n ∷ ns)) i k true (named-first i n ((i + 1) + k) ns e rest))

later-is : (k i n : ℕ) (ns : List ℕ) → Known k → Ascends (i + 1) ((i + 1) + k) (n ∷ ns) → n ∷ ns ≡ numbers_where (λ m. odd m (n ∷ ns)) i (suc k)
later-is k i n ns known rest =
    known (i + 1) (n ∷ ns) rest
    ∙ sym (where-step (λ m. odd m (n ∷ ns)) i k false (not-named i (i + 1) ((i + 1) + k) (n ∷ ns) (omega arith) rest))

next-is : (k : ℕ) → Known k → Known (suc k)
next-is k known i [] a = sym (where-none (λ m. odd m []) i (suc k) (λ m. refl))
next-is k known i (n ∷ ns) a = ⊎_elim here later (cases_eq n i)
  where
    end : i + suc k ≡ (i + 1) + k
    end = omega arith

    here : n ≡ i → n ∷ ns ≡ numbers_where (λ m. odd m (n ∷ ns)) i (suc k)
    here e = first-is k i n ns known e (subst (λ t. Ascends (i + 1) t ns) end (subst (λ t. Ascends (t + 1) (i + suc k) ns) e a.2))

    later : (n ≡ i → ⊥) → n ∷ ns ≡ numbers_where (λ m. odd m (n ∷ ns)) i (suc k)
    later ne = later-is k i n ns known (omega (arith, a.0, ne), omega (arith, a.1), subst (λ t. Ascends (n + 1) t ns) end a.2)

none-is : Known zero
none-is i [] a = refl
none-is i (n ∷ ns) a = absurd (omega (arith, a.0, a.1))

pub ascending-is : (k : ℕ) → Known k
ascending-is zero = none-is
ascending-is (suc k) = next-is k (ascending-is k)

-- an ascending list that names no number from one on ascends up to below it

equal : (k m : ℕ) → k ≡ m → (k == m) ≡ true
equal k m e = grind (arith, nat_tests)

differ : (k i below : ℕ) → k < below → below ≤ i → (k == i) ≡ false
differ k i below lt ge = grind (arith, nat_tests)

true≢false : true ≡ false → ⊥
true≢false e = cc

above-not-named : (i from : ℕ) (ks : List ℕ) → i < from → AscendsFrom from ks → odd i ks ≡ false
above-not-named i from [] lt a = refl
above-not-named i from (k ∷ ks) lt a =
    ap (λ b. b ⊕ odd i ks) (different k i (omega (arith, a.0))) ∙ above-not-named i (k + 1) ks (omega (arith, a.0)) a.1

below-them : (below k : ℕ) (ks : List ℕ) → AscendsFrom (k + 1) ks → ((i : ℕ) → below ≤ i → odd i (k ∷ ks) ≡ false) → k < below
below-them below k ks a others = ⊎_elim (λ lt. lt) (λ ge. absurd (true≢false (sym (named k refl) ∙ others k ge))) (cases_lt k below)
  where
    named : (m : ℕ) → k ≡ m → odd k (k ∷ ks) ≡ true
    named m e = ap (λ b. b ⊕ odd k ks) (equal k k refl) ∙ ap (λ b. true ⊕ b) (above-not-named k (k + 1) ks (omega arith) a)

pub ascends-below : (from below : ℕ) (ks : List ℕ) → AscendsFrom from ks → ((i : ℕ) → below ≤ i → odd i ks ≡ false) → Ascends from below ks
ascends-below from below [] a others = tt
ascends-below from below (k ∷ ks) a others =
    let lt : k < below = below-them below k ks a.1 others in (
      a.0,
      lt,
      ascends-below (k + 1) below ks a.1
          (λ i ge. sym (ap (λ b. b ⊕ odd i ks) (differ k i below lt ge)) ∙ others i ge),
    )

-- those whose bit is set

preserved-step : (preserved : List Bool) (f : ℕ → Bool) (i : ℕ) (rest : List ℕ) (b c : Bool) → f i ≡ b → is_stored preserved i ≡ c →
    retained_of preserved (if b then i ∷ rest else rest) ≡ (if c && b then i ∷ retained_of preserved rest else retained_of preserved rest)
preserved-step preserved f i rest true true e d = ap (λ t. if t then i ∷ retained_of preserved rest else retained_of preserved rest) d
preserved-step preserved f i rest true false e d = ap (λ t. if t then i ∷ retained_of preserved rest else retained_of preserved rest) d
preserved-step preserved f i rest false true e d = refl
preserved-step preserved f i rest false false e d = refl

pub preserved-where : (preserved : List Bool) (f : ℕ → Bool) (i k : ℕ) → retained_of preserved (numbers_where f i k) ≡ numbers_where (λ m. is_stored preserved m && f m) i k
preserved-where preserved f i zero = refl
preserved-where preserved f i (suc k) =
    preserved-step preserved f i (numbers_where f (i + 1) k) (f i) (is_stored preserved i) refl refl
    ∙ ap (λ (rest : List ℕ). if is_stored preserved i && f i then i ∷ rest else rest) (preserved-where preserved f (i + 1) k)
