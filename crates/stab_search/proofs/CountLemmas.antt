-- Counts: as many sets as ways, if each row has weight 1.
use Rattle.stab_search.proofs.Names.{◌≡◌, ℕ, zero, suc, ◌+◌, ◌*◌, ◌-◌, ◌≤◌, ◌<◌, ◌⊎◌, inl, inr, refl, sym, ◌∙◌, ap, subst, arith, Bool, List, [], ◌∷◌, ◌++◌, length, length-map, map, drop, nat_lt, cases_lt, lt-ltb, le-ltb, if◌then◌else◌, ◌⊕◌, parity-comm, parity-assoc, parity-twice, AscendsFrom, IsAscending, ErrorTable, odd, flipped_by_rows, ForEach, Completes, ways, unit_weights, IsLogicalSetOf, AreAsMany, IsCountOfSets, HasNoneBelow, HasNoneWithin, HasBound, HasNoFewer, AreGroups, ReportsNumber, Option, Some, None}
use Rattle.stab_search.proofs.ChoiceLemmas.{completes-logical, logical-completes}
use Rattle.stab_search.proofs.DistinctLemmas.{bound-whole}
use Rattle.stab_search.proofs.EndLemmas.{completes-nothing}
use Rattle.stab_search.proofs.ListLemmas.{each-all}
use Rattle.stab_parities.proofs.MergeLemmas.{odd-append}
use Rattle.stab_search.proofs.WayLemmas.{decide, leaf-none, flips-shift, completes-skip, completes-take}

-- a set of errors, each once, that completes what is flipped
record IsSetFor (t : ErrorTable) (left : ℕ) (s es : List ℕ) : Type 0 where
  pub ascending : IsAscending es
  pub completes : Completes t s es
  pub count : length es ≡ left

-- ascending numbers, each one more or one less

up-one : (e : ℕ) → suc (e + 1) ≡ suc e + 1
up-one e = omega arith

up-ascends : (m : ℕ) (es : List ℕ) → AscendsFrom m es → AscendsFrom (suc m) (map suc es)
up-ascends m [] a = tt
up-ascends m (e ∷ es) a = (let h = a.0 in omega arith, subst (λ n. AscendsFrom n (map suc es)) (up-one e) (up-ascends (e + 1) es a.1))

lower : (m k : ℕ) (es : List ℕ) → m ≤ k → AscendsFrom k es → AscendsFrom m es
lower m k [] le a = tt
lower m k (e ∷ es) le a = (let h = a.0 in omega arith, a.1)

-- a list of ascending numbers that are not 0 is one of numbers that are one less
record IsUp (m : ℕ) (es : List ℕ) : Type 0 where
  pub down : List ℕ
  pub same : map suc down ≡ es
  pub ascending : AscendsFrom m down

is-up : (m : ℕ) (es : List ℕ) → AscendsFrom (suc m) es → IsUp m es
is-up m [] a = record { down = []; same = refl; ascending = tt }
is-up m (zero ∷ es) a = absurd (let h = a.0 in omega arith)
is-up m (suc e ∷ es) a =
    let later = is-up (e + 1) es (subst (λ n. AscendsFrom n es) (sym (up-one e)) a.1) in
    record { down = e ∷ later.down; same = ap (λ (xs : List ℕ). suc e ∷ xs) later.same; ascending = (let h = a.0 in omega arith, later.ascending) }

abbrev pred-of : ℕ → ℕ
pred-of zero = zero
pred-of (suc n) = n

down-up : (es : List ℕ) → map pred-of (map suc es) ≡ es
down-up [] = refl
down-up (e ∷ es) = ap (λ (xs : List ℕ). e ∷ xs) (down-up es)

up-same : (xs ys : List ℕ) → map suc xs ≡ map suc ys → xs ≡ ys
up-same xs ys e = sym (down-up xs) ∙ ap (map pred-of) e ∙ down-up ys

-- no such list begins with 0
abbrev first-of : List ℕ → ℕ
first-of [] = 1
first-of (x ∷ xs) = x

not-first : (xs ys : List ℕ) → map suc xs ≡ 0 ∷ ys → ⊥
not-first [] ys e = let h = ap first-of e in absurd (omega arith)
not-first (x ∷ xs) ys e = let h = ap first-of e in absurd (omega arith)

rest-same : (x : ℕ) (xs ys : List ℕ) → x ∷ xs ≡ x ∷ ys → xs ≡ ys
rest-same x xs ys e = ap (drop 1) e

-- completed by all rows but the first, and with the first

module _ (detectors : ℕ) (r : List ℕ) (rows : List (List ℕ)) (s es : List ℕ) where
  abbrev part : ErrorTable
  part = record { detectors = detectors; rows = rows }

  abbrev whole : ErrorTable
  whole = record { detectors = detectors; rows = r ∷ rows }

  inside-down : (xs : List ℕ) → ForEach (λ e. e < suc (length rows)) (map suc xs) → ForEach (λ e. e < length rows) xs
  inside-down [] a = tt
  inside-down (x ∷ xs) a = (let h = a.0 in omega arith, inside-down xs a.1)

  skip-completes : Completes whole s (map suc es) → Completes part s es
  skip-completes c = record {
    inside = inside-down es c.inside;
    undetected = λ d lt. sym (flips-shift r rows es d) ∙ c.undetected d lt;
    observed = (c.observed.0, c.observed.1, ap (λ b. b ⊕ odd c.observed.0 s) (sym (flips-shift r rows es c.observed.0)) ∙ c.observed.2);
  }

  take-completes : Completes whole s (0 ∷ map suc es) → Completes part (r ++ s) es
  take-completes c = record {
    inside = inside-down es c.inside.1;
    undetected = λ d lt.
        sym (parity-twice (odd d r) (flipped_by_rows rows es d))
        ∙ ap (λ b. odd d r ⊕ b) (ap (λ b. odd d r ⊕ b) (sym (flips-shift r rows es d)) ∙ c.undetected d lt)
        ∙ sym (odd-append d r s);
    observed = let o = c.observed.0 in (
      o,
      c.observed.1,
      ap (λ b. flipped_by_rows rows es o ⊕ b) (odd-append o r s)
          ∙ sym (parity-assoc (flipped_by_rows rows es o) (odd o r) (odd o s))
          ∙ ap (λ b. b ⊕ odd o s) (parity-comm (flipped_by_rows rows es o) (odd o r))
          ∙ ap (λ b. (odd o r ⊕ b) ⊕ odd o s) (sym (flips-shift r rows es o))
          ∙ c.observed.2,
    );
  }

-- sets without the first row, and sets with it

module _ (detectors : ℕ) (r : List ℕ) (rows : List (List ℕ)) (left : ℕ) (s : List ℕ) (a b : ℕ)
    (skipped : AreAsMany (IsSetFor (record { detectors = detectors; rows = rows }) (suc left) s) a)
    (taken : AreAsMany (IsSetFor (record { detectors = detectors; rows = rows }) left (r ++ s)) b) where
  abbrev all-rows : ErrorTable
  all-rows = record { detectors = detectors; rows = r ∷ rows }

  abbrev chosen : ℕ → List ℕ
  chosen k = if nat_lt k a then map suc (skipped.set k) else 0 ∷ map suc (taken.set (k - a))

  is-before : (k : ℕ) → k < a → chosen k ≡ map suc (skipped.set k)
  is-before k lt = ap (λ (c : Bool). if c then map suc (skipped.set k) else 0 ∷ map suc (taken.set (k - a))) (lt-ltb k a lt)

  is-after : (k : ℕ) → a ≤ k → chosen k ≡ 0 ∷ map suc (taken.set (k - a))
  is-after k le = ap (λ (c : Bool). if c then map suc (skipped.set k) else 0 ∷ map suc (taken.set (k - a))) (le-ltb k a le)

  chosen-one : (k : ℕ) → k < a + b → IsSetFor all-rows (suc left) s (chosen k)
  chosen-one k lt =
      elim (cases_lt k a) [
        | inl less ↦
            let one = skipped.is_one k less in
            subst (IsSetFor all-rows (suc left) s) (sym (is-before k less))
            (record {
              ascending = lower 0 1 (map suc (skipped.set k)) (omega arith) (up-ascends 0 (skipped.set k) one.ascending);
              completes = completes-skip detectors r rows s (skipped.set k) one.completes;
              count = length-map (skipped.set k) suc ∙ one.count;
            })
        | inr more ↦
            let one = taken.is_one (k - a) (omega arith) in
            subst (IsSetFor all-rows (suc left) s) (sym (is-after k more))
            (record {
              ascending = (omega arith, up-ascends 0 (taken.set (k - a)) one.ascending);
              completes = completes-take detectors r rows s (taken.set (k - a)) one.completes;
              count = ap suc (length-map (taken.set (k - a)) suc ∙ one.count);
            })
      ]

  chosen-distinct : (j k : ℕ) → j < a + b → k < a + b → chosen j ≡ chosen k → j ≡ k
  chosen-distinct j k lj lk e = by_positions (cases_lt j a) (cases_lt k a)
    where
      by_positions : (j < a) ⊎ (a ≤ j) → (k < a) ⊎ (a ≤ k) → j ≡ k
      by_positions (inl x) (inl y) = skipped.distinct j k x y (up-same (skipped.set j) (skipped.set k) (sym (is-before j x) ∙ e ∙ is-before k y))
      by_positions (inl x) (inr y) = absurd (not-first (skipped.set j) (map suc (taken.set (k - a))) (sym (is-before j x) ∙ e ∙ is-after k y))
      by_positions (inr x) (inl y) = absurd (not-first (skipped.set k) (map suc (taken.set (j - a))) (sym (is-before k y) ∙ sym e ∙ is-after j x))
      by_positions (inr x) (inr y) =
          let same = taken.distinct (j - a) (k - a) (omega arith) (omega arith)
          (up-same (taken.set (j - a)) (taken.set (k - a)) (rest-same 0 (map suc (taken.set (j - a))) (map suc (taken.set (k - a))) (sym (is-after j x) ∙ e ∙ is-after k y))) in
          omega arith

  without-first : (es : List ℕ) → AscendsFrom 1 es → IsSetFor all-rows (suc left) s es → (k : ℕ) × ((k < a + b) × (chosen k ≡ es))
  without-first es ascends one =
      let up = is-up 0 es ascends in
      let is = skipped.all up.down (record {
        ascending = up.ascending;
        completes = skip-completes detectors r rows s up.down (subst (Completes all-rows s) (sym up.same) one.completes);
        count = sym (length-map up.down suc) ∙ ap length up.same ∙ one.count;
      }) in
      let less = is.1.0 in
      (is.0, (omega arith, is-before is.0 less ∙ ap (map suc) is.1.1 ∙ up.same))

  with-first : (es : List ℕ) → AscendsFrom 1 es → IsSetFor all-rows (suc left) s (0 ∷ es) → (k : ℕ) × ((k < a + b) × (chosen k ≡ 0 ∷ es))
  with-first es ascends one =
      let up = is-up 0 es ascends in
      let long = one.count in
      let short : length es ≡ left = omega arith in
      let is = taken.all up.down (record {
        ascending = up.ascending;
        completes = take-completes detectors r rows s up.down (subst (λ (xs : List ℕ). Completes all-rows s (0 ∷ xs)) (sym up.same) one.completes);
        count = sym (length-map up.down suc) ∙ ap length up.same ∙ short;
      }) in
      let less = is.1.0 in
      let back : a + is.0 - a ≡ is.0 = omega arith in (
        a + is.0,
        (
          omega arith,
          is-after (a + is.0) (omega arith) ∙ ap (λ n. 0 ∷ map suc (taken.set n)) back ∙ ap (λ (xs : List ℕ). 0 ∷ map suc xs) is.1.1
              ∙ ap (λ (xs : List ℕ). 0 ∷ xs) up.same,
        ),
      )

  chosen-all : (es : List ℕ) → IsSetFor all-rows (suc left) s es → (k : ℕ) × ((k < a + b) × (chosen k ≡ es))
  chosen-all [] one = absurd (let long = one.count in omega arith)
  chosen-all (zero ∷ es) one = with-first es one.ascending.1 one
  chosen-all (suc e ∷ es) one = without-first (suc e ∷ es) (omega arith, one.ascending.1) one

  as-many-sum : AreAsMany (IsSetFor all-rows (suc left) s) (a + b)
  as-many-sum = record { set = chosen; is_one = chosen-one; distinct = chosen-distinct; all = chosen-all }

-- of no error there is one set or none

as-many-leaf : (t : ErrorTable) (s : List ℕ) → AreAsMany (IsSetFor t 0 s) (ways t.detectors t.rows (unit_weights t.rows) 0 s)
as-many-leaf t s =
    elim (decide t s) [
      | inl one ↦
          subst (AreAsMany (IsSetFor t 0 s)) (sym one.1)
          (record {
            set = λ k. [];
            is_one = λ k lt. record { ascending = tt; completes = one.0; count = refl };
            distinct = λ j k lj lk e. omega arith;
            all = λ es is. (0, (omega arith, sym (nothing es is.count)));
          })
      | inr none ↦
          subst (AreAsMany (IsSetFor t 0 s)) (sym none.1)
          (record {
            set = λ k. [];
            is_one = λ k lt. absurd (omega arith);
            distinct = λ j k lj lk e. absurd (omega arith);
            all = λ es is. absurd (none.0 (subst (Completes t s) (nothing es is.count) is.completes));
          })
    ]
  where
    nothing : (es : List ℕ) → length es ≡ 0 → es ≡ []
    nothing [] e = refl
    nothing (x ∷ xs) e = absurd (omega arith)

as-many : (detectors : ℕ) (rows : List (List ℕ)) (left : ℕ) (s : List ℕ)
    → AreAsMany (IsSetFor (record { detectors = detectors; rows = rows }) left s) (ways detectors rows (unit_weights rows) left s)
as-many detectors rows zero s = as-many-leaf (record { detectors = detectors; rows = rows }) s
as-many detectors [] (suc left) s = record {
  set = λ k. [];
  is_one = λ k lt. absurd (omega arith);
  distinct = λ j k lj lk e. absurd (omega arith);
  all = λ es is. absurd (none es is);
}
  where
    none : (es : List ℕ) → IsSetFor (record { detectors = detectors; rows = [] }) (suc left) s es → ⊥
    none [] is = let long = is.count in absurd (omega arith)
    none (x ∷ xs) is = let inside = is.completes.inside.0 in absurd (omega arith)
as-many detectors (r ∷ rows) (suc left) s =
    subst (λ n. AreAsMany (IsSetFor (record { detectors = detectors; rows = r ∷ rows }) (suc left) s) (ways detectors rows (unit_weights rows) (suc left) s + n))
    (once (ways detectors rows (unit_weights rows) left (r ++ s)))
    (as-many-sum detectors r rows left s (ways detectors rows (unit_weights rows) (suc left) s) (ways detectors rows (unit_weights rows) left (r ++ s))
    (as-many detectors rows (suc left) s) (as-many detectors rows left (r ++ s)))
  where
    once : (n : ℕ) → n ≡ 1 * n
    once n = omega arith

-- as many logical errors of a table

pub as-many-logical : (t : ErrorTable) (size : ℕ) → AreAsMany (IsLogicalSetOf t size) (ways t.detectors t.rows (unit_weights t.rows) size [])
as-many-logical t size =
    let are = as-many t.detectors t.rows size [] in record {
      set = are.set;
      is_one = λ k lt.
          let one = are.is_one k lt in
          record { ascending = one.ascending; logical = completes-logical t [] (are.set k) refl one.completes; count = one.count };
      distinct = are.distinct;
      all = λ es is.
          are.all es (record {
            ascending = is.ascending;
            completes = logical-completes t es (each-all (λ r. r < length t.rows) es is.logical.inside) is.logical;
            count = is.count;
          });
    }

pub count-reported : (t : ErrorTable) (size n : ℕ) (answer : Option ℕ) → ReportsNumber n answer → n ≡ ways t.detectors t.rows (unit_weights t.rows) size [] → IsCountOfSets t size answer
count-reported t size n (Some k) reported is = subst (AreAsMany (IsLogicalSetOf t size)) (sym (reported ∙ is)) (as-many-logical t size)
count-reported t size n None reported is = (n, (reported, subst (AreAsMany (IsLogicalSetOf t size)) (sym is) (as-many-logical t size)))

pub count-nothing : (t : ErrorTable) (size : ℕ) → size ≡ 0 → IsCountOfSets t size (Some 0)
count-nothing t size is =
    subst (λ n. IsCountOfSets t n (Some 0)) (sym is) (count-reported t 0 0 (Some 0) refl (sym (leaf-none t [] (λ c. completes-nothing t [] c refl))))

-- the groups of a table

module _ (t part : ErrorTable) (detectors : ℕ) (rows : List (List ℕ)) (weights : List ℕ) (is : part ≡ record { detectors = detectors; rows = rows })
    (same : detectors ≡ t.detectors) (groups : AreGroups t rows weights) (size : ℕ) (least : HasNoneBelow t size) where
  is_part : part ≡ record { detectors = t.detectors; rows = rows }
  is_part = is ∙ ap {B = ErrorTable} (λ d. record { detectors = d; rows = rows }) same

  bound : HasBound part size
  bound = subst (λ p. HasBound p size) (sym is_part) (bound-whole t.detectors rows t.rows groups.rows_of size least)

  pub groups-count : length weights ≡ length part.rows
  groups-count = groups.count ∙ ap (λ (p : ErrorTable). length p.rows) (sym is_part)

  pub groups-none : (n : ℕ) → n < size → HasNoneWithin part n
  groups-none n lt errors logical = let more = bound errors logical in omega arith

  pub groups-fewer : (n : ℕ) → n ≤ size → HasNoFewer part [] n
  groups-fewer n le rest c = let more = bound rest (completes-logical part [] rest refl c) in omega arith

  pub groups-reported : (n : ℕ) (answer : Option ℕ) → n ≡ size → ReportsNumber (ways part.detectors part.rows weights n []) answer → IsCountOfSets t size answer
  groups-reported n answer all reported =
      count-reported t size (ways part.detectors part.rows weights n []) answer reported
      (ap (λ (p : ErrorTable). ways p.detectors p.rows weights n []) is_part ∙ ap (λ m. ways t.detectors rows weights m []) all ∙ groups.same size least)
