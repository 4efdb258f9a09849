-- Pairs that are left out: of the least sets that are logical errors one has none of them, the last in the order of their errors.
use Rattle.stab_search.proofs.Names.{◌≡◌, ◌≢◌, ℕ, suc, ◌+◌, ◌-◌, ◌^◌, ◌≤◌, ◌<◌, ◌⊎◌, inl, inr, sym, ◌∙◌, ap, subst, arith, true, false, ◌||◌, List, [], ◌∷◌, ◌++◌, length, false≢true, ◌==◌, eqb-true, ◌⊕◌, parity-assoc, IsAscending, ErrorTable, odd, row, flipped_by_rows, IsLogicalError, HasNoneWithin, ForEach, has, toggle, rows_listed, Vec, HasBefore, KeepFirst, IsLeftOut, by_one, by_two, ArePairs, pow-le-pow_right, pow-succ'}
use Rattle.stab_search.specs.SearchParts.{set_weight, IsLastSet}
use Rattle.stab_search.proofs.FlipLemmas.{flips-without}
use Rattle.stab_search.proofs.ListLemmas.{by-bit, by-position, each-all, all-each, each-without, length-without, length-toggle, has-without, without, without-here, without-there, has-here, has-there, toggle-here, toggle-out, toggle-there}
use Rattle.stab_search.proofs.ShortestLemmas.{gathering, gathered-logical}

weight-without : (n g : ℕ) (xs : List ℕ) → has g xs ≡ true → set_weight n xs ≡ 2 ^ (n - g) + set_weight n (without g xs)
weight-without n g [] e = absurd (false≢true e)
weight-without n g (x ∷ xs) e =
    by-bit (x == g)
    (λ same.
    ap (λ k. 2 ^ (n - k) + set_weight n xs) (eqb-true x g same)
    ∙ ap (λ ys. 2 ^ (n - g) + set_weight n ys) (sym (without-here g x xs same)))
    (λ other.
    let later = weight-without n g xs (ap (λ b. b || has g xs) (sym other) ∙ e) in
    let whole = ap (set_weight n) (without-there g x xs other) in
    omega arith)

weight-toggle : (n g : ℕ) (xs : List ℕ) → set_weight n (toggle g xs) ≤ 2 ^ (n - g) + set_weight n xs
weight-toggle n g [] = omega arith
weight-toggle n g (x ∷ xs) =
    by-position g x
    (λ lt. let is = ap (set_weight n) (toggle-here g x xs lt) in omega arith)
    (λ same. let is = ap (set_weight n) (toggle-out g x xs same) in omega arith)
    (λ lt. let is = ap (set_weight n) (toggle-there g x xs lt) in let later = weight-toggle n g xs in omega arith)

weight-gathering : (n : ℕ) (xs : List ℕ) → set_weight n (gathering xs).0 ≤ set_weight n xs
weight-gathering n [] = omega arith
weight-gathering n (x ∷ xs) =
    let here = weight-toggle n x (gathering xs).0 in
    let later = weight-gathering n xs in
    omega arith

-- two errors after another one weigh no more than it
half : (n a c : ℕ) → a < c → c < n → 2 ^ (n - c) + 2 ^ (n - c) ≤ 2 ^ (n - a)
half n a c before inside =
    let twice = pow-succ' 2 (n - c) in
    let less : 2 ^ suc (n - c) ≤ 2 ^ (n - a) = pow-le-pow_right {n = 2} (omega arith) {i = suc (n - c)} {j = n - a} (omega arith) in
    omega arith

some-weight : (k : ℕ) → 0 < 2 ^ k
some-weight k = let least : 2 ^ 0 ≤ 2 ^ k = pow-le-pow_right {n = 2} (omega arith) {i = 0} {j = k} (omega arith) in omega arith

-- what holds of a number of a list holds of its first or of one of the rest
pub among : (a x : ℕ) (xs : List ℕ) {P : Type 0} → has a (x ∷ xs) ≡ true → (x ≡ a → P) → (has a xs ≡ true → P) → P
among a x xs e here there =
    by-bit (x == a) (λ same. here (eqb-true x a same)) (λ other. there (ap (λ b. b || has a xs) (sym other) ∙ e))

-- An error before another stays in the set of a list that has each of its errors once.

-- toggled into a set that grows, it keeps the others
has-toggle : (f x : ℕ) (xs : List ℕ) → length (toggle x xs) ≡ suc (length xs) → has f (x ∷ xs) ≡ true → has f (toggle x xs) ≡ true
has-toggle f x [] count e = e
has-toggle f x (y ∷ ys) count e =
    by-position x y
    (λ lt. ap (has f) (toggle-here x y ys lt) ∙ e)
    (λ same. let is = ap length (toggle-out x y ys same) in absurd (omega arith))
    (λ lt.
    let is = ap length (toggle-there x y ys lt) in
    let later : length (toggle x ys) ≡ suc (length ys) = omega arith in
    ap (has f) (toggle-there x y ys lt)
    ∙ among f x (y ∷ ys) e
    (λ same. has-there f y (toggle x ys) (has-toggle f x ys later (subst (λ k. has k (x ∷ ys) ≡ true) same (has-here x ys))))
    (λ rest.
    among f y ys rest
    (λ same. subst (λ k. has k (y ∷ toggle x ys) ≡ true) same (has-here y (toggle x ys)))
    (λ there. has-there f y (toggle x ys) (has-toggle f x ys later (has-there f x ys there)))))

has-gathering : (f : ℕ) (xs : List ℕ) → length xs ≤ length (gathering xs).0 → has f xs ≡ true → has f (gathering xs).0 ≡ true
has-gathering f [] le e = e
has-gathering f (x ∷ xs) le e =
    let set = gathering xs in
    let fewer = set.1.fewer in
    let grown = length-toggle x set.0 in
    has-toggle f x set.0 (omega arith)
    (among f x xs e (λ same. subst (λ k. has k (x ∷ set.0) ≡ true) same (has-here x set.0)) (λ there. has-there f x set.0 (has-gathering f xs (omega arith) there)))

pub before-gathering : (firsts : ℕ) (xs : List ℕ) → length xs ≤ length (gathering xs).0 → HasBefore firsts xs → HasBefore firsts (gathering xs).0
before-gathering firsts xs le (f, (lt, there)) = (f, (lt, has-gathering f xs le there))

-- Two of a set's errors, replaced by the errors that flip the same.

-- what is left of the set
module _ (t : ErrorTable) (set : List ℕ) (a b : ℕ) (in_a : has a set ≡ true) (in_b : has b set ≡ true) (differ : a ≢ b) where
  abbrev others : List ℕ
  others = without b (without a set)

  still : has b (without a set) ≡ true
  still = has-without b a set in_b (λ same. differ (sym same))

  flips-others : (i : ℕ) → flipped_by_rows t.rows set i ≡ (odd i (row t.rows a) ⊕ odd i (row t.rows b)) ⊕ flipped_by_rows t.rows others i
  flips-others i =
      flips-without t.rows a set i in_a
      ∙ ap (λ x. odd i (row t.rows a) ⊕ x) (flips-without t.rows b (without a set) i still)
      ∙ sym (parity-assoc (odd i (row t.rows a)) (odd i (row t.rows b)) (flipped_by_rows t.rows others i))

  length-others : length set ≡ suc (suc (length others))
  length-others = length-without a set in_a ∙ ap suc (length-without b (without a set) still)

  weight-others : (n : ℕ) → set_weight n set ≡ 2 ^ (n - a) + (2 ^ (n - b) + set_weight n others)
  weight-others n = weight-without n a set in_a ∙ ap (λ w. 2 ^ (n - a) + w) (weight-without n b (without a set) still)

  -- errors that flip what the two do, with those left, are a logical error too
  logical-others : (more : List ℕ) → ForEach (λ r. r < length t.rows) more
      → ((i : ℕ) → flipped_by_rows t.rows (more ++ others) i ≡ flipped_by_rows t.rows set i) → IsLogicalError t set → ForEach (λ r. r < length t.rows) (more ++ others) → IsLogicalError t (more ++ others)
  logical-others more inside same e each = record {
    inside = all-each (λ r. r < length t.rows) (more ++ others) each;
    undetected = λ d lt. same d ∙ e.undetected d lt;
    observed = (e.observed.0, e.observed.1, same e.observed.0 ∙ e.observed.2);
  }

  -- one that can be first is still there, or one of those for them is
  before-others : (firsts c d : ℕ) → KeepFirst firsts a b c d → HasBefore firsts set → HasBefore firsts (c ∷ d ∷ others)
  before-others firsts c d (inl lt) first = (c, (lt, has-here c (d ∷ others)))
  before-others firsts c d (inr (inl lt)) first = (d, (lt, has-there d c (d ∷ others) (has-here d others)))
  before-others firsts c d (inr (inr late)) (f, (lt, there)) = (
    f,
    (
      lt,
      has-there f c (d ∷ others)
          (has-there f d others
          (has-without f b (without a set) (has-without f a set there (λ same. let h = late.0 in omega (arith, lt, h, same))) (λ same. let h = late.1 in omega (arith, lt, h, same)))),
    ),
  )

  each-others : IsLogicalError t set → ForEach (λ r. r < length t.rows) others
  each-others e = each-without (λ r. r < length t.rows) b (without a set) (each-without (λ r. r < length t.rows) a set (each-all (λ r. r < length t.rows) set e.inside))

-- a least set with a pair that is left out, and the set that is after it
pub record Later (t : ErrorTable) (firsts left : ℕ) (set : List ℕ) : Type 0 where
  pub next : List ℕ
  pub begun : HasBefore firsts next
  pub ascending : IsAscending next
  pub logical : IsLogicalError t next
  pub count : length next ≡ left + 1
  pub less : set_weight (length t.rows) next < set_weight (length t.rows) set

later : (t : ErrorTable) (firsts left : ℕ) (set : List ℕ) (a b : ℕ) → HasNoneWithin t left → IsLogicalError t set → length set ≡ left + 1 → HasBefore firsts set
    → has a set ≡ true → has b set ≡ true → a ≢ b → IsLeftOut t.rows firsts a b → Later t firsts left set
later t firsts left set a b none e count first in_a in_b differ (by_one c inside same) =
    let rest = others t set a b in_a in_b differ in
    let is = logical-others t set a b in_a in_b differ (c ∷ []) (inside, tt)
    (λ i. ap (λ x. x ⊕ flipped_by_rows t.rows rest i) (sym (same i)) ∙ sym (flips-others t set a b in_a in_b differ i)) e
    (inside, each-others t set a b in_a in_b differ e) in
    let more = none (c ∷ rest) is in
    let long = length-others t set a b in_a in_b differ in
    absurd (omega arith)
later t firsts left set a b none e count first in_a in_b differ (by_two c d in_c in_d after_c after_d keep same) =
    let n = length t.rows in
    let rest = others t set a b in_a in_b differ in
    let is = logical-others t set a b in_a in_b differ (c ∷ d ∷ []) (in_c, (in_d, tt))
    (λ i.
    sym (parity-assoc (odd i (row t.rows c)) (odd i (row t.rows d)) (flipped_by_rows t.rows rest i))
    ∙ ap (λ x. x ⊕ flipped_by_rows t.rows rest i) (sym (same i)) ∙ sym (flips-others t set a b in_a in_b differ i)) e
    (in_c, (in_d, each-others t set a b in_a in_b differ e)) in
    let long = length-others t set a b in_a in_b differ in
    let set_of = gathering (c ∷ d ∷ rest) in
    let logical = gathered-logical t (c ∷ d ∷ rest) set_of.0 set_of.1 is in
    let more = none set_of.0 logical in
    let fewer = set_of.1.fewer in
    let heavy = weight-others t set a b in_a in_b differ n in
    let light = weight-gathering n (c ∷ d ∷ rest) in
    let half_c = half n a c after_c in_c in
    let half_d = half n a d after_d in_d in
    let some = some-weight (n - b) in
    record {
      next = set_of.0;
      begun = before-gathering firsts (c ∷ d ∷ rest) (omega arith) (before-others t set a b in_a in_b differ firsts c d keep first);
      ascending = set_of.1.ascending;
      logical = logical;
      count = omega arith;
      less = omega arith;
    }

-- Whether a set has a pair that is left out.

-- no error of one list is listed with one of the other
abbrev pub Unpaired : List (Vec ℕ) → List ℕ → List ℕ → Type 0
Unpaired pairs xs ys = (a g : ℕ) → has a xs ≡ true → has g ys ≡ true → has g (rows_listed pairs a) ≡ false

record Paired (pairs : List (Vec ℕ)) (xs ys : List ℕ) : Type 0 where
  a : ℕ
  g : ℕ
  in_xs : has a xs ≡ true
  in_ys : has g ys ≡ true
  pair : has g (rows_listed pairs a) ≡ true

pairs-with : (pairs : List (Vec ℕ)) (x : ℕ) (ys : List ℕ) → ((g : ℕ) → has g ys ≡ true → has g (rows_listed pairs x) ≡ false) ⊎ Paired pairs (x ∷ []) ys
pairs-with pairs x [] = inl (λ g e. absurd (false≢true e))
pairs-with pairs x (y ∷ ys) =
    by-bit (has y (rows_listed pairs x))
    (λ pair. inr (record { a = x; g = y; in_xs = has-here x []; in_ys = has-here y ys; pair = pair }))
    (λ none. on none (pairs-with pairs x ys))
  where
    on : has y (rows_listed pairs x) ≡ false → ((g : ℕ) → has g ys ≡ true → has g (rows_listed pairs x) ≡ false) ⊎ Paired pairs (x ∷ []) ys
        → ((g : ℕ) → has g (y ∷ ys) ≡ true → has g (rows_listed pairs x) ≡ false) ⊎ Paired pairs (x ∷ []) (y ∷ ys)
    on none (inl rest) = inl (λ g e. among g y ys e (λ same. subst (λ k. has k (rows_listed pairs x) ≡ false) same none) (rest g))
    on none (inr p) = inr (record { a = p.a; g = p.g; in_xs = p.in_xs; in_ys = has-there p.g y ys p.in_ys; pair = p.pair })

paired : (pairs : List (Vec ℕ)) (xs ys : List ℕ) → Unpaired pairs xs ys ⊎ Paired pairs xs ys
paired pairs [] ys = inl (λ a g e. absurd (false≢true e))
paired pairs (x ∷ xs) ys = on (pairs-with pairs x ys) (paired pairs xs ys)
  where
    on : ((g : ℕ) → has g ys ≡ true → has g (rows_listed pairs x) ≡ false) ⊎ Paired pairs (x ∷ []) ys → Unpaired pairs xs ys ⊎ Paired pairs xs ys
        → Unpaired pairs (x ∷ xs) ys ⊎ Paired pairs (x ∷ xs) ys
    on (inr p) rest = inr (record { a = x; g = p.g; in_xs = has-here x xs; in_ys = p.in_ys; pair = subst (λ k. has p.g (rows_listed pairs k) ≡ true) (alone p.a p.in_xs) p.pair })
      where
        alone : (k : ℕ) → has k (x ∷ []) ≡ true → k ≡ x
        alone k e = among k x [] e (λ same. sym same) (λ none. absurd (false≢true none))
    on (inl none) (inr p) = inr (record { a = p.a; g = p.g; in_xs = has-there p.a x xs p.in_xs; in_ys = p.in_ys; pair = p.pair })
    on (inl none) (inl rest) = inl (λ a g e. among a x xs e (λ same. subst (λ k. has g ys ≡ true → has g (rows_listed pairs k) ≡ false) same (none g)) (λ there. rest a g there))

module _ (t : ErrorTable) (pairs : List (Vec ℕ)) (firsts : ℕ) (are : ArePairs t.rows firsts pairs) (left : ℕ) (none : HasNoneWithin t left) where
  after : (set : List ℕ) → IsLogicalError t set → length set ≡ left + 1 → HasBefore firsts set → Paired pairs set set → Later t firsts left set
  after set e count first p = by_order (are.left_out p.a p.g p.pair)
    where
      by_order : IsLeftOut t.rows firsts p.a p.g ⊎ IsLeftOut t.rows firsts p.g p.a → Later t firsts left set
      by_order (inl out) = later t firsts left set p.a p.g none e count first p.in_xs p.in_ys (are.differ p.a p.g p.pair) out
      by_order (inr out) = later t firsts left set p.g p.a none e count first p.in_ys p.in_xs (λ same. are.differ p.a p.g p.pair (sym same)) out

  -- the last of the least sets has no pair that is left out
  pub last-unpaired : (set : List ℕ) → IsLastSet (record { table = t; firsts = firsts }) (left + 1) set → Unpaired pairs set set
  last-unpaired set l =
      elim (paired pairs set set) [
        | inl unpaired ↦ unpaired
        | inr p ↦
            let next = after set l.is.logical l.is.count l.is.begun p in
            let later = l.last next.next (record { ascending = next.ascending; logical = next.logical; count = next.count; begun = next.begun }) in
            absurd (omega (arith, next.less, later))
      ]
