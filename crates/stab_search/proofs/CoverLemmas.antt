-- Covers: of some errors that flip N detectors back, one flips at least N over their number.
use Rattle.stab_search.proofs.Names.{◌≡◌, ℕ, ◌+◌, ◌-◌, ◌*◌, ◌≤◌, ◌<◌, inl, inr, refl, sym, ◌∙◌, ap, subst, arith, true, false, ◌||◌, List, [], ◌∷◌, length, get_or, cases_lt, false≢true, if◌then◌else◌, ◌==◌, eqb-true, ErrorTable, odd, row, flipped_by_rows, ForEach, has, Vec, shares, MayBe, CompletesSet, Meet}
use Rattle.stab_search.proofs.FlipLemmas.{namer}
use Rattle.stab_search.proofs.ListLemmas.{by-bit, each-has, has-here, has-there, has-at}

-- how often some errors flip one detector, and some detectors

abbrev ones : List (List ℕ) → ℕ → List ℕ → ℕ
ones rows d [] = 0
ones rows d (e ∷ es) = (if odd d (row rows e) then 1 else 0) + ones rows d es

abbrev all-shares : List (List ℕ) → List ℕ → List ℕ → ℕ
all-shares rows [] ds = 0
all-shares rows (e ∷ es) ds = shares rows e ds + all-shares rows es ds

shares-more : (rows : List (List ℕ)) (es : List ℕ) (d : ℕ) (ds : List ℕ) → all-shares rows es (d ∷ ds) ≡ ones rows d es + all-shares rows es ds
shares-more rows [] d ds = refl
shares-more rows (e ∷ es) d ds = let later = shares-more rows es d ds in omega arith

one-of : (rows : List (List ℕ)) (d g : ℕ) (es : List ℕ) → has g es ≡ true → odd d (row rows g) ≡ true → 1 ≤ ones rows d es
one-of rows d g [] e flipped_by_rows = absurd (false≢true e)
one-of rows d g (x ∷ xs) e flipped_by_rows =
    by-bit (odd d (row rows x))
    (λ here. let is = ap (λ b. (if b then 1 else 0) + ones rows d xs) here in omega arith)
    (λ not. let later = one-of rows d g xs (rest not) flipped_by_rows in omega arith)
  where
    rest : odd d (row rows x) ≡ false → has g xs ≡ true
    rest not =
        by-bit (x == g)
        (λ same. absurd (false≢true (sym not ∙ subst (λ k. odd d (row rows k) ≡ true) (sym (eqb-true x g same)) flipped_by_rows)))
        (λ other. ap (λ b. b || has g xs) (sym other) ∙ e)

-- errors that flip each of some detectors flip as many at least
pub no-fewer : (t : ErrorTable) (es ds : List ℕ) → ForEach (λ d. flipped_by_rows t.rows es d ≡ true) ds → length ds ≤ all-shares t.rows es ds
no-fewer t es [] a = omega arith
no-fewer t es (d ∷ ds) a =
    let later = no-fewer t es ds a.1 in
    let one = namer t.rows es d a.0 in
    let some = one-of t.rows d one.0 es one.1.0 one.1.1 in
    let more = shares-more t.rows es d ds in
    omega arith

-- one of some errors has more than a bound if all together have more than the bound for each
pub above : (rows : List (List ℕ)) (es ds : List ℕ) (m : ℕ) → m * length es < all-shares rows es ds → (e : ℕ) × ((has e es ≡ true) × (m < shares rows e ds))
above rows [] ds m lt = absurd (omega arith)
above rows (e ∷ es) ds m lt =
    elim (cases_lt m (shares rows e ds)) [
      | inl more ↦ (e, (has-here e es, more))
      | inr few ↦ let later = above rows es ds m (omega arith) in (later.0, (has-there later.0 e es later.1.0, later.1.1))
    ]

-- an error that flips some of the detectors flips one of them
pub some-shared : (rows : List (List ℕ)) (e : ℕ) (ds : List ℕ) → 0 < shares rows e ds → (d : ℕ) × ((has d ds ≡ true) × (odd d (row rows e) ≡ true))
some-shared rows e [] lt = absurd (omega arith)
some-shared rows e (d ∷ ds) lt =
    by-bit (odd d (row rows e))
    (λ here. (d, (has-here d ds, here)))
    (λ not.
    let is = ap (λ b. (if b then 1 else 0) + shares rows e ds) not in
    let later = some-shared rows e ds (omega arith) in
    (later.0, (has-there later.0 d ds later.1.0, later.1.1)))

pub shared : (rows : List (List ℕ)) (e d : ℕ) (ds : List ℕ) → has d ds ≡ true → odd d (row rows e) ≡ true → 0 < shares rows e ds
shared rows e d [] e' flipped_by_rows = absurd (false≢true e')
shared rows e d (x ∷ xs) there flipped_by_rows =
    by-bit (x == d)
    (λ same.
    let is = ap (λ b. (if b then 1 else 0) + shares rows e xs) (subst (λ k. odd k (row rows e) ≡ true) (sym (eqb-true x d same)) flipped_by_rows) in
    omega arith)
    (λ other. let later = shared rows e d xs (ap (λ b. b || has d xs) (sym other) ∙ there) flipped_by_rows in omega arith)

-- an error of a set that may be tried
may-be : (t : ErrorTable) (pairs : List (Vec ℕ)) (first : ℕ) (path flipped rest : List ℕ) (e : ℕ) → CompletesSet t pairs first path flipped rest → has e rest ≡ true
    → MayBe pairs first path e
may-be t pairs first path flipped rest e ends there = record {
  later = each-has (λ r. first < r) e rest ends.follows.later there;
  fresh = ends.follows.fresh e there;
  unpaired = λ a in_path. ends.follows.unpaired a e in_path there;
}

-- a member of a list that is among others is at some position there
at-position : (rest at : List ℕ) (e : ℕ) → has e at ≡ true → has e rest ≡ true → (k : ℕ) × ((k < length at) × (has (get_or at k 0) rest ≡ true))
at-position rest at e there in_rest =
    let position = has-at e at there in
    (position.0, (position.1.0, subst (λ r. has r rest ≡ true) (sym position.1.1) in_rest))

module _ (t : ErrorTable) (pairs : List (Vec ℕ)) (first : ℕ) (path flipped ds : List ℕ) (inside : ForEach (λ d. d < t.detectors) ds)
    (are_flipped : ForEach (λ d. odd d flipped ≡ true) ds) (left : ℕ) where
  -- each set flips all the detectors
  flip-each : (rest : List ℕ) → CompletesSet t pairs first path flipped rest → ForEach (λ d. flipped_by_rows t.rows rest d ≡ true) ds
  flip-each rest ends = both ds inside are_flipped
    where
      both : (xs : List ℕ) → ForEach (λ d. d < t.detectors) xs → ForEach (λ d. odd d flipped ≡ true) xs → ForEach (λ d. flipped_by_rows t.rows rest d ≡ true) xs
      both [] a b = tt
      both (x ∷ xs) a b = (ends.completes.undetected x a.0 ∙ b.0, both xs a.1 b.1)

  -- all errors that flip one of the detectors
  pub meet-rarest : (d : ℕ) (at : List ℕ) → has d ds ≡ true
      → ((e : ℕ) → e < length t.rows → MayBe pairs first path e → odd d (row t.rows e) ≡ true → has e at ≡ true) → Meet t pairs first path flipped left at
  meet-rarest d at among all rest ends count =
      let one = namer t.rows rest d (each-has (λ k. flipped_by_rows t.rows rest k ≡ true) d ds (flip-each rest ends) among) in
      at-position rest at one.0
      (all one.0 (each-has (λ r. r < length t.rows) one.0 rest ends.completes.inside one.1.0) (may-be t pairs first path flipped rest one.0 ends one.1.0) one.1.1)
      one.1.0

  -- all errors that flip many of them
  pub meet-covering : (least : ℕ) (at : List ℕ) → 0 < least → (least - 1) * left < length ds
      → ((e d : ℕ) → e < length t.rows → MayBe pairs first path e → least ≤ shares t.rows e ds → has d ds ≡ true → odd d (row t.rows e) ≡ true → has e at ≡ true)
      → Meet t pairs first path flipped left at
  meet-covering least at some few all rest ends count =
      let whole = no-fewer t rest ds (flip-each rest ends) in
      let same = ap (λ n. (least - 1) * n) count in
      let one = above t.rows rest ds (least - 1) (omega arith) in
      let many = one.1.1 in
      let shared = some-shared t.rows one.0 ds (omega arith) in
      at-position rest at one.0
      (all one.0 shared.0 (each-has (λ r. r < length t.rows) one.0 rest ends.completes.inside one.1.0)
      (may-be t pairs first path flipped rest one.0 ends one.1.0) (omega arith) shared.1.0 shared.1.1)
      one.1.0
