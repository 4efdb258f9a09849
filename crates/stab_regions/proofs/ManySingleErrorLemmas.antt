-- Many single errors: what they flip together of a deterministic bit is the exclusive or of what each flips alone.
use Rattle.stab_regions.proofs.Names.{◌≡◌, ℕ, ◌+◌, ◌-◌, ◌<◌, ◌≤◌, ◌⊎◌, inl, inr, sym, ◌∙◌, ap, subst, arith, refl, Bool, List, [], ◌∷◌, ◌++◌, append_assoc, take, drop, length, length-take-le, if◌then◌else◌, cases_lt, eq-eqb, length-append, All-head, All-tail, Letter, ◌⊕◌, parity-self, Step, one, unroll, observables_of, detectors_of, gate_of, RunsArePointsWithOutputs, parity_flips, SingleError, with_gate, gates_at, with_gates_from, with_gates, bit, SingleErrorFits, flips_together, SingleErrorsAdd}
use Rattle.std.proofs.Common.{All, take-append-drop}
use Rattle.std.proofs.lemmas.Bool.{ne_eqb}
use Rattle.stab_regions.proofs.TwoSingleErrorLemmas.{HasDeterministicBit, letter-flips, count-flipped, still-deterministic, flips-alike}

-- where the gates of single errors are put in

-- of none, the steps are as they were
none-put : (t : ℕ) (xs : List Step) → with_gates_from t [] xs ≡ xs
none-put t [] = refl
none-put t (x ∷ xs) = ap (λ ys. x ∷ ys) (none-put (t + 1) xs)

-- first steps with the gates that are put in front of each of them
abbrev front_with : ℕ → List SingleError → List Step → List Step
front_with t fs [] = []
front_with t fs (x ∷ xs) = gates_at t fs ++ x ∷ front_with (t + 1) fs xs

-- steps in two parts
in-parts : (t : ℕ) (fs : List SingleError) (xs ys : List Step) (end : ℕ) → end ≡ t + length xs
    → with_gates_from t fs (xs ++ ys) ≡ front_with t fs xs ++ with_gates_from end fs ys
in-parts t fs [] ys end e =
    let here : t ≡ end = omega (arith, e) in
    ap (λ k. with_gates_from k fs ys) here
in-parts t fs (x ∷ xs) ys end e =
    ap (λ zs. gates_at t fs ++ x ∷ zs) (in-parts (t + 1) fs xs ys end (omega (arith, e)))
    ∙ sym (append_assoc (gates_at t fs) (x ∷ front_with (t + 1) fs xs) (with_gates_from end fs ys))

-- one single error more

module _ (f : SingleError) (fs : List SingleError) where
  abbrev its_gate : Step
  its_gate = one (gate_of f.letter) f.qubit

  gate-here : (t : ℕ) → f.before ≡ t → gates_at t (f ∷ fs) ≡ its_gate ∷ gates_at t fs
  gate-here t e = ap (λ b. if b then its_gate ∷ gates_at t fs else gates_at t fs) (eq-eqb f.before t e)

  no-gate : (t : ℕ) → (f.before ≡ t → ⊥) → gates_at t (f ∷ fs) ≡ gates_at t fs
  no-gate t other = ap (λ b. if b then its_gate ∷ gates_at t fs else gates_at t fs) (ne_eqb f.before t other)

  -- steps after its site are without its gate
  gone-following : (t : ℕ) (xs : List Step) → f.before < t → with_gates_from t (f ∷ fs) xs ≡ with_gates_from t fs xs
  gone-following t [] lt = no-gate t (λ e. omega (arith, e, lt))
  gone-following t (x ∷ xs) lt = (λ i. no-gate t (λ e. omega (arith, e, lt)) i ++ x ∷ gone-following (t + 1) xs (omega (arith, lt)) i)

  -- those from its site on have it first
  first-there : (t : ℕ) (xs : List Step) → f.before ≡ t → with_gates_from t (f ∷ fs) xs ≡ its_gate ∷ with_gates_from t fs xs
  first-there t [] e = gate-here t e
  first-there t (x ∷ xs) e = (λ i. gate-here t e i ++ x ∷ gone-following (t + 1) xs (omega (arith, e)) i)

  -- and those in front of it are without
  not-yet : (t : ℕ) (xs : List Step) → t + length xs ≤ f.before → front_with t (f ∷ fs) xs ≡ front_with t fs xs
  not-yet t [] le = refl
  not-yet t (x ∷ xs) le = (λ i. no-gate t (λ e. omega (arith, e, le)) i ++ x ∷ not-yet (t + 1) xs (omega (arith, le)) i)

  -- so its gate is between the two parts
  put-in : (t : ℕ) (xs ys : List Step) → f.before ≡ t + length xs
      → with_gates_from t (f ∷ fs) (xs ++ ys) ≡ front_with t fs xs ++ its_gate ∷ with_gates_from f.before fs ys
  put-in t xs ys e =
      in-parts t (f ∷ fs) xs ys f.before e ∙ (λ i. not-yet t xs (omega (arith, e)) i ++ first-there f.before ys refl i)

-- what a letter flips in front of gates of single errors

-- with other steps after a site, the bit is still deterministic, and the letter flips it as before
record Alike (n count i : ℕ) (front : List Step) (l : Letter) (q : ℕ) (back others : List Step) : Type 0 where
  deterministic : HasDeterministicBit n count (front ++ others) i
  detectors : detectors_of (front ++ others) ≡ detectors_of (front ++ back)
  flips : parity_flips n (detectors_of (front ++ back)) i l q others ≡ parity_flips n (detectors_of (front ++ back)) i l q back

module _ (law : RunsArePointsWithOutputs) (n count i : ℕ) (front : List Step) (l : Letter) (q : ℕ) (lt : q < n) (back : List Step) where
  -- one gate more
  one-more : (mid rest : List Step) (m : Letter) (r : ℕ) → r < n → Alike n count i front l q back (mid ++ rest)
      → Alike n count i front l q back (mid ++ one (gate_of m) r ∷ rest)
  one-more mid rest m r lt_r a =
      let before : List Step = front ++ (mid ++ rest) in
      let parts : before ≡ (front ++ mid) ++ rest = sym (append_assoc front mid rest) in
      let joined : (front ++ mid) ++ one (gate_of m) r ∷ rest ≡ front ++ (mid ++ one (gate_of m) r ∷ rest) = append_assoc front mid (one (gate_of m) r ∷ rest) in
      record {
        deterministic = subst (λ ys. HasDeterministicBit n count ys i) joined (still-deterministic law n count (front ++ mid) m r rest i before parts a.deterministic lt_r);
        detectors =
            ap detectors_of (sym joined) ∙ count-flipped law n count (front ++ mid) m r rest i before parts a.deterministic lt_r ∙ a.detectors;
        flips =
            ap (λ d. parity_flips n d i l q (mid ++ one (gate_of m) r ∷ rest)) (sym a.detectors)
            ∙ flips-alike law n count front l q mid m r rest i before parts a.deterministic lt lt_r
            ∙ ap (λ d. parity_flips n d i l q (mid ++ rest)) a.detectors
            ∙ a.flips;
      }

  module _ (t : ℕ) (long : length front ≡ t) where
    -- one single error more, which may be in front of the site
    one-single_error-more : (f : SingleError) (fs : List SingleError) → SingleErrorFits n (front ++ back) f → Alike n count i front l q back (with_gates_from t fs back)
        → Alike n count i front l q back (with_gates_from t (f ∷ fs) back)
    one-single_error-more f fs fit a = by_site (cases_lt f.before t)
      where
        k : ℕ
        k = f.before - t

        by_site : (f.before < t) ⊎ (t ≤ f.before) → Alike n count i front l q back (with_gates_from t (f ∷ fs) back)
        by_site (inl less) = subst (Alike n count i front l q back) (sym (gone-following f fs t back less)) a
        by_site (inr more) =
            let within : k ≤ length back = omega (arith, more, fit.before, long, length-append front back) in
            let there : f.before ≡ t + length (take k back) = omega (arith, more, length-take-le k back within) in
            let mid : List Step = front_with t fs (take k back) in
            let rest : List Step = with_gates_from f.before fs (drop k back) in
            let with_it : with_gates_from t (f ∷ fs) back ≡ mid ++ one (gate_of f.letter) f.qubit ∷ rest =
            ap (with_gates_from t (f ∷ fs)) (sym (take-append-drop k back)) ∙ put-in f fs t (take k back) (drop k back) there in
            let without : with_gates_from t fs back ≡ mid ++ rest =
            ap (with_gates_from t fs) (sym (take-append-drop k back)) ∙ in-parts t fs (take k back) (drop k back) f.before there in
            subst (Alike n count i front l q back) (sym with_it) (one-more mid rest f.letter f.qubit fit.qubit (subst (Alike n count i front l q back) without a))

    -- by induction on the single errors
    single_errors-alike : HasDeterministicBit n count (front ++ back) i → (fs : List SingleError) → All (SingleErrorFits n (front ++ back)) fs
        → Alike n count i front l q back (with_gates_from t fs back)
    single_errors-alike deterministic [] fit = subst (Alike n count i front l q back) (sym (none-put t back)) (record { deterministic = deterministic; detectors = refl; flips = refl })
    single_errors-alike deterministic (f ∷ fs) fit =
        one-single_error-more f fs (All-head (SingleErrorFits n (front ++ back)) f fs fit) (single_errors-alike deterministic fs (All-tail (SingleErrorFits n (front ++ back)) f fs fit))

-- what single errors flip together

-- one more flips what it flips alone, in front of others or after them
flips-still : (law : RunsArePointsWithOutputs) (n count i : ℕ) (f : SingleError) (front back : List Step) → length front ≡ f.before → f.qubit < n
    → HasDeterministicBit n count (front ++ back) i → (fs : List SingleError) → All (SingleErrorFits n (front ++ back)) fs → (coins : ℕ → Bool)
    → bit n count coins (with_gates (f ∷ fs) (front ++ back)) i ⊕ bit n count coins (with_gates fs (front ++ back)) i
    ≡ bit n count coins (front ++ one (gate_of f.letter) f.qubit ∷ back) i ⊕ bit n count coins (front ++ back) i
flips-still law n count i f front back long lt deterministic fs fit coins =
    let there : f.before ≡ 0 + length front = omega (arith, long) in
    let mid : List Step = front_with 0 fs front in
    let rest : List Step = with_gates_from f.before fs back in
    let all : Alike n count i [] f.letter f.qubit (front ++ back) (with_gates fs (front ++ back)) =
    single_errors-alike law n count i [] f.letter f.qubit lt (front ++ back) 0 refl deterministic fs fit in
    let following : Alike n count i front f.letter f.qubit back rest = single_errors-alike law n count i front f.letter f.qubit lt back f.before long deterministic fs fit in
    ap (λ ys. bit n count coins ys i ⊕ bit n count coins (with_gates fs (front ++ back)) i) (put-in f fs 0 front back there)
    ∙ letter-flips law n count mid f.letter f.qubit rest i (with_gates fs (front ++ back)) (in-parts 0 fs front back f.before there) all.deterministic lt coins coins
    ∙ ap (λ d. parity_flips n d i f.letter f.qubit rest) all.detectors
    ∙ following.flips
    ∙ sym (letter-flips law n count front f.letter f.qubit back i (front ++ back) refl deterministic lt coins coins)

-- one bit more
add-on : (more some plain here there : Bool) → more ⊕ some ≡ here → some ⊕ plain ≡ there → more ⊕ plain ≡ here ⊕ there
add-on more some plain here there e f = grind arith

module _ (law : RunsArePointsWithOutputs) (n count : ℕ) (xs : List Step) (i : ℕ) (deterministic : HasDeterministicBit n count xs i) (coins : ℕ → Bool) where
  abbrev flips_alone : SingleError → Bool
  flips_alone f = bit n count coins (with_gate f xs) i ⊕ bit n count coins xs i

  -- the same for the steps around its site
  flips-on : (f : SingleError) → SingleErrorFits n xs f → (fs : List SingleError) → All (SingleErrorFits n xs) fs
      → bit n count coins (with_gates (f ∷ fs) xs) i ⊕ bit n count coins (with_gates fs xs) i ≡ flips_alone f
  flips-on f here fs fit =
      let front : List Step = take f.before xs in
      let back : List Step = drop f.before xs in
      let whole : front ++ back ≡ xs = take-append-drop f.before xs in
      subst (λ ys. bit n count coins (with_gates (f ∷ fs) ys) i ⊕ bit n count coins (with_gates fs ys) i
      ≡ bit n count coins (with_gate f xs) i ⊕ bit n count coins ys i) whole
      (flips-still law n count i f front back (length-take-le f.before xs here.before) here.qubit (subst (λ ys. HasDeterministicBit n count ys i) (sym whole) deterministic) fs
      (subst (λ ys. All (SingleErrorFits n ys) fs) (sym whole) fit) coins)

  -- and all of them flip what an odd number of them flips
  all-add : (fs : List SingleError) → All (SingleErrorFits n xs) fs → bit n count coins (with_gates fs xs) i ⊕ bit n count coins xs i ≡ flips_together flips_alone fs
  all-add [] fit = ap (λ ys. bit n count coins ys i ⊕ bit n count coins xs i) (none-put 0 xs) ∙ parity-self (bit n count coins xs i)
  all-add (f ∷ fs) fit =
      let rest : All (SingleErrorFits n xs) fs = All-tail (SingleErrorFits n xs) f fs fit in
      add-on (bit n count coins (with_gates (f ∷ fs) xs) i) (bit n count coins (with_gates fs xs) i) (bit n count coins xs i) (flips_alone f) (flips_together flips_alone fs)
      (flips-on f (All-head (SingleErrorFits n xs) f fs fit) fs rest) (all-add fs rest)

-- the law

pub single_errors-add : RunsArePointsWithOutputs → SingleErrorsAdd
single_errors-add law n items i single_errors fits lt fit same coins =
    all-add law n (observables_of items) (unroll items) i (record { fits = fits; within = lt; same = same }) coins single_errors fit
