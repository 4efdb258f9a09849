-- Ways: of none but observables, of what is flipped alike, with one weight changed, and the errors after them.
use Rattle.stab_search.proofs.Names.{eqb-true, ◌≡◌, ℕ, zero, suc, ◌+◌, ◌*◌, ◌≤◌, ◌<◌, ◌⊎◌, inl, inr, refl, sym, ◌∙◌, ap, subst, arith, Bool, true, false, ◌||◌, List, [], ◌∷◌, ◌++◌, length, map, set, slice_index, cases_lt, false≢true, ◌==◌, nat_lt, if◌then◌else◌, and_parts, or_left, or_right, lt-ltb, ltb-true, length-map, list_any, ◌⊕◌, parity-comm, parity-assoc, parity-twice, ErrorTable, odd, row, flipped_by_rows, ForEach, has, Completes, leaf, ways, IsWeightedWay}
use Rattle.std.specs.Prelude.{◌&&◌}
use Rattle.std.proofs.Math.Nat.{mul-add, mul_left_comm, mul-zero}
use Rattle.stab_search.proofs.ListLemmas.{by-bit, has-here, has-there}
use Rattle.stab_search.proofs.Totals.{bits, swap, has-odd}
use Rattle.stab_parities.proofs.MergeLemmas.{odd-append}

-- whether some number of a list passes

any-some : (p : ℕ → Bool) (xs : List ℕ) (k : ℕ) → has k xs ≡ true → p k ≡ true → list_any p xs ≡ true
any-some p [] k there pass = absurd (false≢true there)
any-some p (x ∷ xs) k there pass =
    by-bit (x == k)
    (λ same. or_left (p x) (list_any p xs) (subst (λ y. p y ≡ true) (sym (eqb-same x k same)) pass))
    (λ other. or_right (p x) (list_any p xs) (any-some p xs k (ap (λ b. b || has k xs) (sym other) ∙ there) pass))
  where
    eqb-same : (x k : ℕ) → (x == k) ≡ true → x ≡ k
    eqb-same x k e = eqb-true x k e

any-one : (p : ℕ → Bool) (xs : List ℕ) → list_any p xs ≡ true → (k : ℕ) × ((has k xs ≡ true) × (p k ≡ true))
any-one p [] e = absurd (false≢true e)
any-one p (x ∷ xs) e =
    by-bit (p x)
    (λ pass. (x, (has-here x xs, pass)))
    (λ not.
    let later = any-one p xs (ap (λ b. b || list_any p xs) (sym not) ∙ e) in
    (later.0, (has-there later.0 x xs later.1.0, later.1.1)))

-- without another error there is one way, or none

module _ (t : ErrorTable) (s : List ℕ) where
  abbrev detected : Bool
  detected = list_any (λ k. nat_lt k t.detectors && odd k s) s

  abbrev observed : Bool
  observed = list_any (λ k. odd k s) s

  leaf-detected : detected ≡ true → leaf t.detectors s ≡ 0
  leaf-detected e = ap (λ b. if b then 0 else if list_any (λ k. odd k s) s then 1 else 0) e

  leaf-bit : detected ≡ false → (b : Bool) → observed ≡ b → leaf t.detectors s ≡ (if b then 1 else 0)
  leaf-bit e b o = ap (λ b. if b then 0 else if list_any (λ k. odd k s) s then 1 else 0) e ∙ ap (λ b. if b then 1 else 0) o

  undetected-none : detected ≡ false → (d : ℕ) → d < t.detectors → odd d s ≡ false
  undetected-none e d lt =
      by-bit (odd d s)
      (λ flipped.
      absurd (false≢true (sym e ∙ any-some (λ k. nat_lt k t.detectors && odd k s) s d (has-odd d s flipped)
      (ap (λ b. b && odd d s) (lt-ltb d t.detectors lt) ∙ flipped))))
      (λ not. not)

  observed-one : detected ≡ false → observed ≡ true → Completes t s []
  observed-one e o =
      let one = any-one (λ k. odd k s) s o in record {
        inside = tt;
        undetected = λ d lt. sym (undetected-none e d lt);
        observed = (one.0, at_least one.0 one.1.1, one.1.1);
      }
    where
      at_least : (k : ℕ) → odd k s ≡ true → t.detectors ≤ k
      at_least k flipped =
          elim (cases_lt k t.detectors) [
            | inl lt ↦ absurd (false≢true (sym (undetected-none e k lt) ∙ flipped))
            | inr le ↦ le
          ]

  detected-not : detected ≡ true → Completes t s [] → ⊥
  detected-not e c =
      let one = any-one (λ k. nat_lt k t.detectors && odd k s) s e in
      let both = and_parts (nat_lt one.0 t.detectors) (odd one.0 s) one.1.1 in
      false≢true (c.undetected one.0 (ltb-true one.0 t.detectors both.0) ∙ both.1)

  observed-not : observed ≡ false → Completes t s [] → ⊥
  observed-not e c =
      let o = c.observed.0 in
      false≢true (sym e ∙ any-some (λ k. odd k s) s o (has-odd o s c.observed.2) c.observed.2)

  pub decide : (Completes t s [] × (leaf t.detectors s ≡ 1)) ⊎ ((Completes t s [] → ⊥) × (leaf t.detectors s ≡ 0))
  decide =
      by-bit detected
      (λ e. inr (detected-not e, leaf-detected e))
      (λ e.
      by-bit observed
      (λ o. inl (observed-one e o, leaf-bit e true o))
      (λ o. inr (observed-not o, leaf-bit e false o)))

  pub leaf-one : Completes t s [] → leaf t.detectors s ≡ 1
  leaf-one c =
      elim decide [
        | inl one ↦ one.1
        | inr none ↦ absurd (none.0 c)
      ]

  pub leaf-none : (Completes t s [] → ⊥) → leaf t.detectors s ≡ 0
  leaf-none not =
      elim decide [
        | inl one ↦ absurd (not one.0)
        | inr none ↦ none.1
      ]

  pub leaf-some : 0 < leaf t.detectors s → Completes t s []
  leaf-some lt =
      elim decide [
        | inl one ↦ one.0
        | inr none ↦ let is = none.1 in absurd (omega arith)
      ]

-- what is flipped alike has the same ways

completes-alike : (t : ErrorTable) (s u : List ℕ) → ((i : ℕ) → odd i s ≡ odd i u) → Completes t s [] → Completes t u []
completes-alike t s u alike c = record {
  inside = tt;
  undetected = λ d lt. c.undetected d lt ∙ alike d;
  observed = (c.observed.0, c.observed.1, sym (alike c.observed.0) ∙ c.observed.2);
}

leaf-alike : (detectors : ℕ) (s u : List ℕ) → ((i : ℕ) → odd i s ≡ odd i u) → leaf detectors s ≡ leaf detectors u
leaf-alike detectors s u alike =
    let t : ErrorTable = record { detectors = detectors; rows = [] } in
    elim (decide t s) [
      | inl one ↦ one.1 ∙ sym (leaf-one t u (completes-alike t s u alike one.0))
      | inr none ↦ none.1 ∙ sym (leaf-none t u (λ c. none.0 (completes-alike t u s (λ i. sym (alike i)) c)))
    ]

pub ways-alike : (detectors : ℕ) (rows : List (List ℕ)) (weights : List ℕ) (left : ℕ) (s u : List ℕ) → ((i : ℕ) → odd i s ≡ odd i u)
    → ways detectors rows weights left s ≡ ways detectors rows weights left u
ways-alike detectors rows weights zero s u alike = leaf-alike detectors s u alike
ways-alike detectors [] weights (suc left) s u alike = refl
ways-alike detectors (r ∷ rows) [] (suc left) s u alike = refl
ways-alike detectors (r ∷ rows) (w ∷ weights) (suc left) s u alike =
    ap (λ n. n + w * ways detectors rows weights left (r ++ s)) (ways-alike detectors rows weights (suc left) s u alike)
    ∙ ap (λ n. ways detectors rows weights (suc left) u + w * n)
    (ways-alike detectors rows weights left (r ++ s) (r ++ u) (λ i. odd-append i r s ∙ ap (λ b. odd i r ⊕ b) (alike i) ∙ sym (odd-append i r u)))

swap-alike : (x r s : List ℕ) (i : ℕ) → odd i (x ++ (r ++ s)) ≡ odd i (r ++ (x ++ s))
swap-alike x r s i =
    odd-append i x (r ++ s) ∙ ap (λ b. odd i x ⊕ b) (odd-append i r s)
    ∙ swap Bool false ◌⊕◌ bits (odd i x) (odd i r) (odd i s)
    ∙ ap (λ b. odd i r ⊕ b) (sym (odd-append i x s)) ∙ sym (odd-append i r (x ++ s))

pub twice-alike : (x s : List ℕ) (i : ℕ) → odd i (x ++ (x ++ s)) ≡ odd i s
twice-alike x s i = odd-append i x (x ++ s) ∙ ap (λ b. odd i x ⊕ b) (odd-append i x s) ∙ parity-twice (odd i x) (odd i s)

-- sums of products

plus-nothing : (a b : ℕ) → a + 0 * b ≡ a
plus-nothing a b = omega arith

sum-swap : (a b c : ℕ) → (a + b) + c ≡ (a + c) + b
sum-swap a b c = omega arith

spread : (x y z u a w : ℕ) → (x + a * y) + w * (z + a * u) ≡ (x + w * z) + a * (y + w * u)
spread x y z u a w =
    let left = mul-add w z (a * u) in
    let right = mul-add a y (w * u) in
    let same = mul_left_comm w a u in
    sums x (a * y) (w * z) (w * (a * u)) (w * (z + a * u)) (a * (w * u)) (a * (y + w * u)) left right same
  where
    sums : (x ay wz wau p awu q : ℕ) → p ≡ wz + wau → q ≡ ay + awu → wau ≡ awu → (x + ay) + p ≡ (x + wz) + q
    sums x ay wz wau p awu q e f g = omega arith

-- an error without a weight

skip : (detectors : ℕ) (r : List ℕ) (rows : List (List ℕ)) (weights : List ℕ) (left : ℕ) (s : List ℕ)
    → ways detectors (r ∷ rows) (0 ∷ weights) left s ≡ ways detectors rows weights left s
skip detectors r rows weights zero s = refl
skip detectors r rows weights (suc left) s = plus-nothing (ways detectors rows weights (suc left) s) (ways detectors rows weights left (r ++ s))

-- one weight: the ways without the error, and for each of its weight those with it

pub linear : (detectors : ℕ) (rows : List (List ℕ)) (weights : List ℕ) (k a left : ℕ) (s : List ℕ) → k < length rows → length weights ≡ length rows
    → ways detectors rows (set weights k a) (suc left) s
    ≡ ways detectors rows (set weights k 0) (suc left) s + a * ways detectors rows (set weights k 0) left (row rows k ++ s)
linear detectors [] weights k a left s lt count = absurd (omega arith)
linear detectors (r ∷ rows) [] k a left s lt count = absurd (omega arith)
linear detectors (r ∷ rows) (w ∷ weights) zero a left s lt count =
    ap (λ n. ways detectors rows weights (suc left) s + a * n) (sym (skip detectors r rows weights left (r ++ s)))
    ∙ ap (λ n. n + a * ways detectors (r ∷ rows) (0 ∷ weights) left (r ++ s)) (sym (skip detectors r rows weights (suc left) s))
linear detectors (r ∷ rows) (w ∷ weights) (suc k) a zero s lt count =
    let none = set weights k 0 in
    let x = row rows k in
    ap (λ n. n + w * leaf detectors (r ++ s)) (linear detectors rows weights k a zero s (omega arith) (omega arith))
    ∙ sum-swap (ways detectors rows none 1 s) (a * leaf detectors (x ++ s)) (w * leaf detectors (r ++ s))
linear detectors (r ∷ rows) (w ∷ weights) (suc k) a (suc left) s lt count =
    let none = set weights k 0 in
    let x = row rows k in
    ap (λ n. n + w * ways detectors rows (set weights k a) (suc left) (r ++ s)) (linear detectors rows weights k a (suc left) s (omega arith) (omega arith))
    ∙ ap (λ n. (ways detectors rows none (suc (suc left)) s + a * ways detectors rows none (suc left) (x ++ s)) + w * n)
    (linear detectors rows weights k a left (r ++ s) (omega arith) (omega arith))
    ∙ spread (ways detectors rows none (suc (suc left)) s) (ways detectors rows none (suc left) (x ++ s)) (ways detectors rows none (suc left) (r ++ s))
    (ways detectors rows none left (x ++ (r ++ s))) a w
    ∙ ap (λ n. (ways detectors rows none (suc (suc left)) s + w * ways detectors rows none (suc left) (r ++ s)) + a * (ways detectors rows none (suc left) (x ++ s) + w * n))
    (ways-alike detectors rows none left (x ++ (r ++ s)) (r ++ (x ++ s)) (swap-alike x r s))

-- the same if the error is put among others

pub insert : (detectors : ℕ) (rows : List (List ℕ)) (weights : List ℕ) (x : List ℕ) (a : ℕ) (rest : List (List ℕ)) (others : List ℕ) (left : ℕ) (s : List ℕ)
    → length weights ≡ length rows
    → ways detectors (rows ++ x ∷ rest) (weights ++ a ∷ others) (suc left) s
    ≡ ways detectors (rows ++ rest) (weights ++ others) (suc left) s + a * ways detectors (rows ++ rest) (weights ++ others) left (x ++ s)
insert detectors [] [] x a rest others left s count = refl
insert detectors [] (w ∷ weights) x a rest others left s count = absurd (omega arith)
insert detectors (r ∷ rows) [] x a rest others left s count = absurd (omega arith)
insert detectors (r ∷ rows) (w ∷ weights) x a rest others zero s count =
    ap (λ n. n + w * leaf detectors (r ++ s)) (insert detectors rows weights x a rest others zero s (omega arith))
    ∙ sum-swap (ways detectors (rows ++ rest) (weights ++ others) 1 s) (a * leaf detectors (x ++ s)) (w * leaf detectors (r ++ s))
insert detectors (r ∷ rows) (w ∷ weights) x a rest others (suc left) s count =
    let all = rows ++ rest in
    let none = weights ++ others in
    ap (λ n. n + w * ways detectors (rows ++ x ∷ rest) (weights ++ a ∷ others) (suc left) (r ++ s)) (insert detectors rows weights x a rest others (suc left) s (omega arith))
    ∙ ap (λ n. (ways detectors all none (suc (suc left)) s + a * ways detectors all none (suc left) (x ++ s)) + w * n)
    (insert detectors rows weights x a rest others left (r ++ s) (omega arith))
    ∙ spread (ways detectors all none (suc (suc left)) s) (ways detectors all none (suc left) (x ++ s)) (ways detectors all none (suc left) (r ++ s))
    (ways detectors all none left (x ++ (r ++ s))) a w
    ∙ ap (λ n. (ways detectors all none (suc (suc left)) s + w * ways detectors all none (suc left) (r ++ s)) + a * (ways detectors all none (suc left) (x ++ s) + w * n))
    (ways-alike detectors all none left (x ++ (r ++ s)) (r ++ (x ++ s)) (swap-alike x r s))

-- errors of all rows but the first, and with the first

pub flips-shift : (r : List ℕ) (rows : List (List ℕ)) (es : List ℕ) (i : ℕ) → flipped_by_rows (r ∷ rows) (map suc es) i ≡ flipped_by_rows rows es i
flips-shift r rows [] i = refl
flips-shift r rows (e ∷ es) i = ap (λ b. odd i (row rows e) ⊕ b) (flips-shift r rows es i)

pub each-shift : (P Q : ℕ → Type 0) → ((e : ℕ) → P e → Q (suc e)) → (es : List ℕ) → ForEach P es → ForEach Q (map suc es)
each-shift P Q f [] a = tt
each-shift P Q f (e ∷ es) a = (f e a.0, each-shift P Q f es a.1)

module _ (detectors : ℕ) (r : List ℕ) (rows : List (List ℕ)) (s es : List ℕ) where
  abbrev part : ErrorTable
  part = record { detectors = detectors; rows = rows }

  abbrev whole : ErrorTable
  whole = record { detectors = detectors; rows = r ∷ rows }

  inside-shift : ForEach (λ e. e < length rows) es → ForEach (λ e. e < suc (length rows)) (map suc es)
  inside-shift a = each-shift (λ e. e < length rows) (λ e. e < suc (length rows)) (λ e lt. omega arith) es a

  pub completes-skip : Completes part s es → Completes whole s (map suc es)
  completes-skip c = record {
    inside = inside-shift c.inside;
    undetected = λ d lt. flips-shift r rows es d ∙ c.undetected d lt;
    observed = (c.observed.0, c.observed.1, ap (λ b. b ⊕ odd c.observed.0 s) (flips-shift r rows es c.observed.0) ∙ c.observed.2);
  }

  pub completes-take : Completes part (r ++ s) es → Completes whole s (0 ∷ map suc es)
  completes-take c = record {
    inside = (omega arith, inside-shift c.inside);
    undetected = λ d lt.
        ap (λ b. odd d r ⊕ b) (flips-shift r rows es d ∙ c.undetected d lt ∙ odd-append d r s) ∙ parity-twice (odd d r) (odd d s);
    observed = let o = c.observed.0 in (
      o,
      c.observed.1,
      ap (λ b. (odd o r ⊕ b) ⊕ odd o s) (flips-shift r rows es o)
          ∙ ap (λ b. b ⊕ odd o s) (parity-comm (odd o r) (flipped_by_rows rows es o))
          ∙ parity-assoc (flipped_by_rows rows es o) (odd o r) (odd o s)
          ∙ ap (λ b. flipped_by_rows rows es o ⊕ b) (sym (odd-append o r s))
          ∙ c.observed.2,
    );
  }

-- where there are ways, there are errors

positive : (w n : ℕ) → 0 < w * n → (0 < w) × (0 < n)
positive zero n lt = absurd (omega arith)
positive (suc w) zero lt = let none = mul-zero (suc w) in absurd (omega arith)
positive (suc w) (suc n) lt = (omega arith, omega arith)

others-some : (a b : ℕ) → 0 < a + b → a ≤ 0 → 0 < b
others-some a b some none = omega arith

pub found : (detectors : ℕ) (rows : List (List ℕ)) (weights : List ℕ) (left : ℕ) (s : List ℕ) → length weights ≡ length rows
    → 0 < ways detectors rows weights left s → (rest : List ℕ) × IsWeightedWay (record { detectors = detectors; rows = rows }) weights s left rest
found detectors rows weights zero s count some =
    ([], record { completes = leaf-some (record { detectors = detectors; rows = rows }) s some; weighted = tt; count = refl })
found detectors [] weights (suc left) s count some = absurd (omega arith)
found detectors (r ∷ rows) [] (suc left) s count some = absurd (omega arith)
found detectors (r ∷ rows) (w ∷ weights) (suc left) s count some =
    elim (cases_lt 0 (ways detectors rows weights (suc left) s)) [
      | inl lt ↦
          let other = found detectors rows weights (suc left) s (omega arith) lt in (
            map suc other.0,
            record {
              completes = completes-skip detectors r rows s other.0 other.1.completes;
              weighted = each-shift (λ e. 0 < slice_index weights e) (λ e. 0 < slice_index (w ∷ weights) e) (λ e h. h) other.0 other.1.weighted;
              count = length-map other.0 suc ∙ other.1.count;
            },
          )
      | inr le ↦
          let both = positive w (ways detectors rows weights left (r ++ s)) (others-some (ways detectors rows weights (suc left) s) (w * ways detectors rows weights left (r ++ s)) some le) in
          let other = found detectors rows weights left (r ++ s) (omega arith) both.1 in (
            0 ∷ map suc other.0,
            record {
              completes = completes-take detectors r rows s other.0 other.1.completes;
              weighted = (both.0, each-shift (λ e. 0 < slice_index weights e) (λ e. 0 < slice_index (w ∷ weights) e) (λ e h. h) other.0 other.1.weighted);
              count = ap suc (length-map other.0 suc ∙ other.1.count);
            },
          )
    ]

-- so without such errors there are none
pub no-ways : (t : ErrorTable) (weights : List ℕ) (left : ℕ) (s : List ℕ) → length weights ≡ length t.rows → ((rest : List ℕ) → IsWeightedWay t weights s left rest → ⊥)
    → ways t.detectors t.rows weights left s ≡ 0
no-ways t weights left s count none =
    elim (cases_lt 0 (ways t.detectors t.rows weights left s)) [
      | inl lt ↦ let way = found t.detectors t.rows weights left s count lt in absurd (none way.0 way.1)
      | inr le ↦ omega arith
    ]
