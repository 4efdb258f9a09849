-- Sweeps: the pass goes on before one step and before several, over pieces of a circuit's steps.
use Rattle.stab_regions.proofs.Names.{◌≡◌, ℕ, zero, suc, ◌+◌, ◌-◌, ◌<◌, ◌≤◌, refl, sym, ap, ◌∙◌, subst, Bool, true, false, List, [], ◌∷◌, ◌++◌, map, map-append, length, get_or, take, drop, reverse, min, arith, All, None, flat_map, drop_more, drop-drop, drop-map, get_or-map, length-drop, length-map, take_more, take-append-drop, All-nil, All-cons, All-head, All-tail, All-take, All-drop, Items, Step, one, two, controlled, collapse, product, detector, observable, unroll, check_of, detectors_of, HasDistinctQubits, StepFits, check-steps, Asked, Sides, Sweep, sites_asked, sides_asked, step_qubits, where_asked, Inserted, inserted_on, inserted_by, inserted_from, Counts, numbers_before, FitsCounts, MayPass, StandsAfter, GoesBefore, IsWalkAt, row_of, IsSwept}
use Rattle.stab_items.proofs.CountLemmas.{detectors_few}
use Rattle.stab_items.specs.Steps.{makes, records_of}
use Rattle.stab_regions.proofs.EffectLemmas.{fits-next, fits-drop, fits-all}
use Rattle.stab_regions.proofs.SiteLemmas.{sites-split, step-within}
use Rattle.stab_regions.proofs.WalkRowLemmas.{walk-rows}
use Rattle.stab_regions.specs.inner.SiteRows.{rows_on, rows_around, Ascend}

-- detectors are counted exactly
pub detectors-exact : (items : Items) (n : ℕ) → check_of items ≡ None → n ≡ min (detectors_of (unroll items)) 1048577 → n ≡ detectors_of (unroll items)
detectors-exact items n checked is = omega (arith, check-steps items checked, detectors_few (unroll items), is)

-- steps that are taken one by one

pub taken-more : (k : ℕ) (xs : List Step) (x : Step) (rest : List Step) → drop k xs ≡ x ∷ rest →
    (take (k + 1) xs ≡ take k xs ++ x ∷ []) × (rest ≡ drop (k + 1) xs)
taken-more k xs x rest e =
    let lt : k < length xs = omega (arith, length-drop k xs, ap length e) in
    let here : get_or xs k x ≡ x = ap (λ (ys : List Step). get_or ys 0 x) (sym (drop_more xs k x lt) ∙ e) in
    (take_more xs k x lt ∙ ap (λ y. take k xs ++ y ∷ []) here, ap (drop 1) (sym e) ∙ drop-drop 1 k xs)

-- a piece, and what is after it
pub piece : (begin end : ℕ) (xs : List Step) → begin ≤ end → take (end - begin) (drop begin xs) ++ drop end xs ≡ drop begin xs
piece begin end xs le =
    let there : begin + (end - begin) ≡ end = omega (arith, le) in
    ap (λ (ys : List Step). take (end - begin) (drop begin xs) ++ ys) (ap (λ n. drop n xs) (sym there) ∙ sym (drop-drop (end - begin) begin xs))
    ∙ take-append-drop (end - begin) (drop begin xs)

-- the last of this many values, from the first on, that stand for steps
pub mapped-last : {A : Type 0} (f : A → Step) (xs : List A) (left : ℕ) (item : A) → 0 < left → left ≤ length xs → item ≡ get_or xs (left - 1) item →
    (drop (left - 1) (map f xs) ≡ f item ∷ drop ((left - 1) + 1) (map f xs)) × (map f (drop left xs) ≡ drop ((left - 1) + 1) (map f xs))
mapped-last f xs left item some le is =
    let next : (left - 1) + 1 ≡ left = omega (arith, some) in
    let inside : left - 1 < length (map f xs) = omega (arith, some, le, length-map xs f) in
    let here : get_or (map f xs) (left - 1) (f item) ≡ f item = get_or-map f xs (left - 1) item (f item) (omega (arith, some, le)) ∙ ap f (sym is) in (
      drop_more (map f xs) (left - 1) (f item) inside ∙ ap (λ y. y ∷ drop ((left - 1) + 1) (map f xs)) here,
      sym (drop-map f left xs) ∙ ap (λ n. drop n (map f xs)) (sym next),
    )

-- records are counted exactly

makes-one : (x : Step) → makes x ≤ 1
makes-one (one g q) = omega arith
makes-one (two g a b) = omega arith
makes-one (controlled l k q) = omega arith
makes-one (collapse l q true inverted resets) = omega arith
makes-one (collapse l q false inverted resets) = omega arith
makes-one (product factors inverted) = omega arith
makes-one (detector ks) = omega arith
makes-one (observable j ks) = omega arith

few-records : (xs : List Step) → records_of xs ≤ length xs
few-records [] = omega arith
few-records (x ∷ xs) = omega (arith, makes-one x, few-records xs)

pub records-exact : (items : Items) (n : ℕ) → check_of items ≡ None → n ≡ min (records_of (unroll items)) 1048577 → n ≡ records_of (unroll items)
records-exact items n checked is = omega (arith, check-steps items checked, few-records (unroll items), is)

-- which steps may be passed

passes-head : (c : Counts) (x : Step) (xs back : List Step) → MayPass c (x ∷ xs) back → MayPass c (x ∷ []) (xs ++ back)
passes-head c x xs back p = record {
  fits = p.fits;
  distinct = All-cons HasDistinctQubits x [] (All-head HasDistinctQubits x xs p.distinct) (All-nil HasDistinctQubits);
}

passes-tail : (c : Counts) (x : Step) (xs back : List Step) → MayPass c (x ∷ xs) back → MayPass c xs back
passes-tail c x xs back p = record { fits = fits-next c x (xs ++ back) p.fits; distinct = All-tail HasDistinctQubits x xs p.distinct }

passes-drop : (c : Counts) (k : ℕ) (xs back : List Step) → MayPass c xs back → MayPass c (drop k xs) back
passes-drop c zero xs back p = p
passes-drop c (suc k) [] back p = p
passes-drop c (suc k) (x ∷ xs) back p = passes-drop c k xs back (passes-tail c x xs back p)

pub passes-piece : (n begin end : ℕ) (items : Items) → begin ≤ end → All (StepFits n) (unroll items) → All HasDistinctQubits (unroll items)
    → MayPass (numbers_before n items) (take (end - begin) (drop begin (unroll items))) (drop end (unroll items))
passes-piece n begin end items le fits distinct = record {
  fits = subst (FitsCounts (numbers_before n items)) (sym (piece begin end (unroll items) le)) (fits-drop (numbers_before n items) begin (unroll items) (fits-all n items fits));
  distinct = All-take HasDistinctQubits (end - begin) (drop begin (unroll items)) (All-drop HasDistinctQubits begin (unroll items) distinct);
}

-- the pass before several steps

pub passes-several : (x : Step) (xs : List Step) (Old Mid New : Counts → List Step → Type 0) → GoesBefore xs Old Mid → GoesBefore (x ∷ []) Mid New → GoesBefore (x ∷ xs) Old New
passes-several x xs Old Mid New first then_one = λ c back passes at.
    then_one c (xs ++ back) (passes-head c x xs back passes) (first c back (passes-tail c x xs back passes) at)

-- if it is after all of them, and came before those from number k + 1 on, it is after that with number k
pub stands-next : (xs : List Step) (k : ℕ) (x : Step) (Old New : Counts → List Step → Type 0) → drop k xs ≡ x ∷ drop (k + 1) xs → StandsAfter Old xs → GoesBefore (drop (k + 1) xs) Old New
    → StandsAfter New (x ∷ [])
stands-next xs k x Old New here p passes_on =
    let passes : MayPass p.counts (x ∷ drop (k + 1) xs) p.back = subst (λ (ys : List Step). MayPass p.counts ys p.back) here (passes-drop p.counts k xs p.back p.passes) in
    record {
      counts = p.counts;
      back = drop (k + 1) xs ++ p.back;
      at = passes_on p.counts p.back (passes-tail p.counts x (drop (k + 1) xs) p.back passes) p.at;
      passes = passes-head p.counts x (drop (k + 1) xs) p.back passes;
    }

-- the rows around a step

where-map : {A B : Type 0} (f : A → B) (b : Bool) (xs : List A) (ys : List B) → (b ≡ true → ys ≡ map f xs) → where_asked b ys ≡ map f (where_asked b xs)
where-map f true xs ys e = e refl
where-map f false xs ys e = refl

around-are : (f : Inserted → List ℕ) (n : ℕ) (sides : Sides) (x : Step) (back : List Step) (fx fz ax az : List (List ℕ)) (qs : List ℕ) → All (λ q. q < n) qs
    → (sides.front ≡ true → All (Ascend fx fz) qs) → (sides.following ≡ true → All (Ascend ax az) qs)
    → ((q : ℕ) → q < n → Ascend fx fz q → rows_on fx fz q ≡ map f (inserted_on q (x ∷ back)))
    → ((q : ℕ) → q < n → Ascend ax az q → rows_on ax az q ≡ map f (inserted_on q back))
    → flat_map (rows_around sides fx fz ax az) qs ≡ map f (flat_map (inserted_by sides x back) qs)
around-are f n sides x back fx fz ax az [] within up_f up_a front after = refl
around-are f n sides x back fx fz ax az (q ∷ qs) within up_f up_a front after =
    let lt : q < n = All-head (λ q. q < n) q qs within in
    (λ t.
    (where-map f sides.front (inserted_on q (x ∷ back)) (rows_on fx fz q) (λ e. front q lt (All-head (Ascend fx fz) q qs (up_f e))) t
    ++ where-map f sides.following (inserted_on q back) (rows_on ax az q) (λ e. after q lt (All-head (Ascend ax az) q qs (up_a e))) t)
    ++ around-are f n sides x back fx fz ax az qs (All-tail (λ q. q < n) q qs within) (λ e. All-tail (Ascend fx fz) q qs (up_f e)) (λ e. All-tail (Ascend ax az) q qs (up_a e)) front after t)
    ∙ ap (λ rows. rows ++ map f (flat_map (inserted_by sides x back) qs)) (sym (map-append f (where_asked sides.front (inserted_on q (x ∷ back))) (where_asked sides.following (inserted_on q back))))
    ∙ sym (map-append f (inserted_by sides x back q) (flat_map (inserted_by sides x back) qs))

-- the pass before one step, by the rows and sides that are read
module _ (asked : Asked) (x : Step) (c : Counts) (back : List Step) (old new : Sweep) (same : new.walk.numbered ≡ old.walk.numbered) (fits : FitsCounts c (x ∷ back))
    (swept : IsSwept asked old c back) (at : IsWalkAt new.walk c (x ∷ back)) (sides : Sides) (is_sides : sides ≡ sides_asked asked x) (fx fz ax az : List (List ℕ))
    (is_fx : fx ≡ new.walk.rows.by_x.items) (is_fz : fz ≡ new.walk.rows.by_z.items) (is_ax : ax ≡ old.walk.rows.by_x.items) (is_az : az ≡ old.walk.rows.by_z.items) where
  abbrev f : Inserted → List ℕ
  f = row_of new.walk.numbered c

  front-rows : (q : ℕ) → q < c.qubits → Ascend fx fz q → rows_on fx fz q ≡ map f (inserted_on q (x ∷ back))
  front-rows q lt up =
      (λ t. rows_on (is_fx t) (is_fz t) q)
      ∙ walk-rows new.walk.numbered new.walk c (x ∷ back) at fits q lt (subst (λ (xs : List (List ℕ)). Ascend xs new.walk.rows.by_z.items q) is_fx (subst (λ (zs : List (List ℕ)). Ascend fx zs q) is_fz up))

  after-rows : (q : ℕ) → q < c.qubits → Ascend ax az q → rows_on ax az q ≡ map f (inserted_on q back)
  after-rows q lt up =
      (λ t. rows_on (is_ax t) (is_az t) q)
      ∙ walk-rows old.walk.numbered old.walk c back swept.walk (fits-next c x back fits) q lt
      (subst (λ (xs : List (List ℕ)). Ascend xs old.walk.rows.by_z.items q) is_ax (subst (λ (zs : List (List ℕ)). Ascend ax zs q) is_az up))
      ∙ ap (λ k. map (row_of k c) (inserted_on q back)) (sym same)

  pub swept-more : (sides.front ≡ true → All (Ascend fx fz) (step_qubits x)) → (sides.following ≡ true → All (Ascend ax az) (step_qubits x))
      → reverse new.rows ≡ flat_map (rows_around sides fx fz ax az) (step_qubits x) ++ reverse old.rows → IsSwept asked new c (x ∷ back)
  swept-more up_f up_a rows = record {
    walk = at;
    rows =
        rows
        ∙ ap (λ rest. flat_map (rows_around sides fx fz ax az) (step_qubits x) ++ rest) (swept.rows ∙ ap (λ k. map (row_of k c) (inserted_from (sites_asked asked) back)) (sym same))
        ∙ ap (λ front. front ++ map f (inserted_from (sites_asked asked) back))
        (around-are f c.qubits sides x back fx fz ax az (step_qubits x) (step-within c.qubits x (All-head (StepFits c.qubits) x back fits.steps)) up_f up_a front-rows after-rows
        ∙ ap (λ (s : Sides). map f (flat_map (inserted_by s x back) (step_qubits x))) is_sides
        ∙ ap (map f) (sym (sites-split asked x back)))
        ∙ sym (map-append f _ (inserted_from (sites_asked asked) back));
  }
