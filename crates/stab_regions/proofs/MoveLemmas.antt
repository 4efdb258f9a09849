-- Moves: what regions at a point become one step before it, if the rows, the records and the marks are changed.
use Rattle.stab_regions.proofs.Names.{◌≡◌, ℕ, ◌+◌, ◌-◌, ◌<◌, ◌≤◌, ◌^◌, ◌⊎◌, inl, inr, refl, sym, ◌∙◌, ap, subst, arith, Bool, true, false, not, ◌||◌, ◌&&◌, List, [], ◌∷◌, ◌++◌, append-nil, length, take, ne_eqb, cases_lt, Vec, if◌then◌else◌, nat_lt, ◌==◌, slice_index_or, with_items, drop_of_length-le, take-length, length-replicate, I, Step, one, two, controlled, collapse, product, detector, observable, is_detector, Region, region_of, region_before, region_through, with_looks, keeps_region, asks_nothing, asks_observable, named_by_detector, steps_before_detector, named_by, region_of_detector, detectors_before, parity_region, parity_preserved, RegionWalk, ShowsNumber, AreRowsSized, HasParity, HasOwn, HasNumbers, asked_of, asked_about, in_front_of, corrected_by, MovesRows, MovesTo}
use Rattle.stab_regions.proofs.DetectorLemmas.{count-other, count-detector}
use Rattle.stab_regions.proofs.EffectLemmas.{test-same}
use Rattle.stab_regions.proofs.ReadLemmas.{size-through}
use Rattle.stab_regions.proofs.ParityLemmas.{IsNext, is-next, none-before, asked-observable, asked-detector, asked-other}

-- items that are written over all of a `Vec`
pub refilled : {X Z : Type 0} (v : Vec X Z) (ws : List X) → length ws ≡ length v.items → (with_items v ws).items ≡ ws
refilled v ws e =
    let long : v.len ≡ length ws = omega (arith, e, v.ok.0) in
    ap (λ rest. take v.len (ws ++ rest)) (drop_of_length-le v.items (omega (arith, e)))
    ∙ ap (take v.len) (append-nil ws)
    ∙ ap (λ k. take k ws) long ∙ take-length ws

-- a step that asks for nothing

asked-none : (D before i : ℕ) (x : Step) → is_detector x ≡ false → asks_observable (i - D) x ≡ [] → asked_of D before i x ≡ []
asked-none D before i x plain silent =
    (λ t. if nat_lt i D then (if plain t && (i + 1 == before) then named_by_detector x else []) else silent t) ∙ same (nat_lt i D)
  where
    nothing : List ℕ
    nothing = []

    same : (b : Bool) → (if b then nothing else nothing) ≡ nothing
    same true = refl
    same false = refl

pub twice-not : (b : Bool) → b ≡ not (not b)
twice-not true = refl
twice-not false = refl

-- a detector or observable asks for its records by its own number, before the step as after it
asked-same : (n D before i : ℕ) (x : Step) (r : Region) → before ≤ D
    → region_before n x (with_looks (asked_about 0 before D i x) r) ≡ with_looks (asked_of D before i x) (region_before n x r)
asked-same n D before i x r le = by_kind x
  where
    silent : (y : Step) → is_detector y ≡ false → asks_observable (i - D) y ≡ [] → region_before n y r ≡ with_looks (asked_of D before i y) (region_before n y r)
    silent y plain none = ap (λ ks. with_looks ks (region_before n y r)) (sym (asked-none D before i y plain none))

    -- no record has a number
    unnumbered : (y : Step) → is_detector y ≡ false → asks_observable (i - D) y ≡ []
        → region_before n y (with_looks (if i + 1 == 0 then 1 ∷ [] else []) r) ≡ with_looks (asked_of D before i y) (region_before n y r)
    unnumbered y plain none = ap (λ b. region_before n y (with_looks (if b then 1 ∷ [] else []) r)) (ne_eqb (i + 1) 0 (λ e. omega (arith, e))) ∙ silent y plain none

    detector-asked : (ks : List ℕ) → (i < D) ⊎ (D ≤ i) → (if i + 1 == before then ks else []) ≡ asked_of D before i (detector ks)
    detector-asked ks (inl lt) = sym (asked-detector D before i (detector ks) (i + 1 == before) lt refl)
    detector-asked ks (inr ge) =
        ap (λ b. if b then ks else []) (ne_eqb (i + 1) before (λ e. omega (arith, e, ge, le))) ∙ sym (asked-observable D before i (detector ks) ge)

    observable-asked : (j : ℕ) (ks : List ℕ) → (i < D) ⊎ (D ≤ i) → (if i == D + j then ks else []) ≡ asked_of D before i (observable j ks)
    observable-asked j ks (inl lt) = ap (λ b. if b then ks else []) (ne_eqb i (D + j) (λ e. omega (arith, e, lt))) ∙ sym (asked-other D before i (observable j ks) lt refl)
    observable-asked j ks (inr ge) =
        ap (λ b. if b then ks else []) (test-same i (D + j) j (i - D) (λ e. omega (arith, e)) (λ e. omega (arith, e, ge))) ∙ sym (asked-observable D before i (observable j ks) ge)

    by_kind : (y : Step) → region_before n y (with_looks (asked_about 0 before D i y) r) ≡ with_looks (asked_of D before i y) (region_before n y r)
    by_kind (one g q) = silent (one g q) refl refl
    by_kind (two g a b) = silent (two g a b) refl refl
    by_kind (controlled l k q) = silent (controlled l k q) refl refl
    by_kind (collapse l q true inverted resets) = unnumbered (collapse l q true inverted resets) refl refl
    by_kind (collapse l q false inverted resets) = silent (collapse l q false inverted resets) refl refl
    by_kind (product factors inverted) = unnumbered (product factors inverted) refl refl
    by_kind (detector ks) = ap (λ ls. with_looks ls r) (detector-asked ks (cases_lt i D))
    by_kind (observable j ks) = ap (λ ls. with_looks ls r) (observable-asked j ks (cases_lt i D))

-- wherever the regions are those at a point, they are so one step before it

back-detectors : (b : Bool) (k dets detectors : ℕ) → k ≤ detectors → (if b then k - 1 else k) ≤ detectors
back-detectors true k dets detectors le = omega arith
back-detectors false k dets detectors le = le

marked : (a b c : Bool) → c ≡ not b → (not a || c) ≡ not (a && b)
marked true b c e = e
marked false b c e = refl

-- the region of a parity that is a detector's, perhaps in front, or an observable's
abbrev pub region_where : (n D i : ℕ) → List Step → (is_detectors in_front : Bool) → Region
region_where n D i back b c =
    if b then (if c then region_of n [] else region_of_detector n (i - detectors_before D back) back)
    else region_through n (asks_observable (i - D)) back (region_of n [])

pub long-parity : (n D i : ℕ) (back : List Step) → length (parity_region n D i back).string.letters ≡ n
long-parity n D i back = by_site (nat_lt i D) (nat_lt i (detectors_before D back))
  where
    none : (ks : List ℕ) → length (region_of n ks).string.letters ≡ n
    none ks = length-replicate n I

    by_site : (b c : Bool) → length (region_where n D i back b c).string.letters ≡ n
    by_site true true = none []
    by_site true false =
        size-through n asks_nothing (steps_before_detector (i - detectors_before D back) back) (region_of n (named_by (i - detectors_before D back) back)) (none (named_by (i - detectors_before D back) back))
    by_site false c = size-through n (asks_observable (i - D)) back (region_of n []) (none [])

-- none of the observables that are counted is beyond them
beyond : (D count before i : ℕ) (x : Step) (r : RegionWalk) → r.rows.observable ≡ D → length r.random.items ≡ D + count → D + count ≤ i → HasParity r x
    → asked_of D before i x ≡ []
beyond D count before i x r detectors marks le there = asked-observable D before i x (omega arith) ∙ by_kind x there
  where
    by_kind : (y : Step) → HasParity r y → asks_observable (i - D) y ≡ []
    by_kind (one g q) there = refl
    by_kind (two g a b) there = refl
    by_kind (controlled l k q) there = refl
    by_kind (collapse l q recorded inverted resets) there = refl
    by_kind (product factors inverted) there = refl
    by_kind (detector ks) there = refl
    by_kind (observable j ks) there = ap (λ b. if b then ks else []) (ne_eqb j (i - D) (λ e. omega (arith, there, detectors, marks, le)))

has-number : (D : ℕ) (x : Step) (back : List Step) (r : RegionWalk) → r.rows.detector_end ≡ detectors_before D back → HasParity r x → is_detector x ≡ true → 0 < detectors_before D back
has-number D (detector ks) back r is there e = subst (λ k. 0 < k) is there
has-number D (one g q) back r is there e = cc
has-number D (two g a b) back r is there e = cc
has-number D (controlled l k q) back r is there e = cc
has-number D (collapse l q recorded inverted resets) back r is there e = cc
has-number D (product factors inverted) back r is there e = cc
has-number D (observable j ks) back r is there e = cc

next-before : (D before : ℕ) (x : Step) (back : List Step) → before ≡ detectors_before D back → in_front_of x before ≡ detectors_before D (x ∷ back)
next-before D before x back is = by_kind (is_detector x) refl
  where
    by_kind : (b : Bool) → is_detector x ≡ b → in_front_of x before ≡ detectors_before D (x ∷ back)
    by_kind true e =
        let one_more = count-detector x back e in
        ap (λ b. if b then before - 1 else before) e ∙ omega (arith, one_more, is)
    by_kind false e =
        let same = count-other x back e in
        ap (λ b. if b then before - 1 else before) e ∙ omega (arith, same, is)

-- marks are raised where a step does not keep the region
abbrev pub MarksFlipped : (n : ℕ) → Step → (old : RegionWalk) → (random : List Bool) → Type 0
MarksFlipped n x old random =
    (i : ℕ) (r : Region) → length r.string.letters ≡ n → ShowsNumber old.rows i r → i < length old.random.items
    → slice_index_or random i false ≡ (not (keeps_region n x r) || slice_index_or old.random.items i false)

corrected-all : (x : Step) → corrected_by true x ≡ x
corrected-all (one g q) = refl
corrected-all (two g a b) = refl
corrected-all (controlled l k q) = refl
corrected-all (collapse l q recorded inverted resets) = refl
corrected-all (product factors inverted) = refl
corrected-all (detector ks) = refl
corrected-all (observable j ks) = refl

pub moves-to : (x : Step) (old new : RegionWalk) → HasParity old x → MovesRows (length old.rows.by_x.items) x (corrected_by true x) old.rows new.rows → length new.random.items ≡ length old.random.items
    → MarksFlipped (length old.rows.by_x.items) x old new.random.items → MovesTo x old new
moves-to x old new there m long marks n D count back h =
    let moved : MovesRows n x x old.rows new.rows = (subst (λ (y : Step). MovesRows n x y old.rows new.rows) (corrected-all x) (subst (λ k. MovesRows k x (corrected_by true x) old.rows new.rows) h.qubits m)) in
    let marked_new : MarksFlipped n x old new.random.items = subst (λ k. MarksFlipped k x old new.random.items) h.qubits marks in
    let next : (i : ℕ) → IsNext n D i x back = λ i. is-next n D i x back (has-number D x back old h.before there) in
    let shown : (i : ℕ) (r : Region) → length r.string.letters ≡ n → ShowsNumber old.rows i r → ShowsNumber new.rows i (with_looks (asked_of D (detectors_before D back) i x) (region_before n x r)) =
    λ i r size shows.
    subst (ShowsNumber new.rows i)
    ((λ t. region_before n x (with_looks (asked_about (h.sized.records t) (h.before t) (h.detectors t) i x) r))
    ∙ asked-same n D (detectors_before D back) i x r (omega arith))
    (moved.regions i r size shows) in
    record {
      sized = record {
        rows = moved.rows ∙ h.sized.rows ∙ sym moved.qubits;
        records = moved.record_end ∙ omega (arith, h.sized.records);
        before =
            subst (λ k. k ≤ new.rows.observable) (sym moved.detector_end)
            (subst (λ k. in_front_of x old.rows.detector_end ≤ k) (sym moved.observable) (back-detectors (is_detector x) old.rows.detector_end 0 old.rows.observable h.sized.before));
        detectors = omega (arith, moved.observable, long, h.sized.detectors);
        few = omega (arith, long, h.sized.few);
      };
      qubits = moved.qubits ∙ h.qubits;
      detectors = moved.observable ∙ h.detectors;
      before = moved.detector_end ∙ next-before D old.rows.detector_end x back h.before;
      marks = long ∙ h.marks;
      regions = λ i lt. subst (ShowsNumber new.rows i) (sym (next i).region) (shown i (parity_region n D i back) (long-parity n D i back) (h.regions i lt));
      others = λ i le.
          subst (ShowsNumber new.rows i)
          (ap (with_looks (asked_of D (detectors_before D back) i x)) (none-before n x)
          ∙ ap (λ looks. with_looks looks (region_of n [])) (beyond D count (detectors_before D back) i x old h.detectors h.marks le there))
          (shown i (region_of n []) (length-replicate n I) (h.others i le));
      random = λ i lt.
          marked_new i (parity_region n D i back) (long-parity n D i back) (h.regions i lt) (omega (arith, lt, h.marks))
          ∙ marked (keeps_region n x (parity_region n D i back)) (parity_preserved n D i back) _ (h.random i lt)
          ∙ ap not (sym (next i).preserved);
    }

-- the numbers of a step fit, if its parity is there
own-fits : (x : Step) (r : RegionWalk) → AreRowsSized r → HasParity r x → HasOwn r.rows.detector_end r.rows.observable x
own-fits (one g q) r sized there = tt
own-fits (two g a b) r sized there = tt
own-fits (controlled l k q) r sized there = tt
own-fits (collapse l q recorded inverted resets) r sized there = tt
own-fits (product factors inverted) r sized there = tt
own-fits (detector ks) r sized there = there
own-fits (observable j ks) r sized there = small (r.rows.observable + j) (length r.random.items) (2 ^ 32) there sized.few
  where
    small : (a b top : ℕ) → a < b → b < top → a < top
    small a b top lt few = omega (arith, lt, few)

pub numbers-fit : (x : Step) (r : RegionWalk) → AreRowsSized r → HasParity r x → HasNumbers r.rows x
numbers-fit x r sized there = record {
  record_few = omega (arith, sized.records);
  detector_few = small r.rows.detector_end (length r.random.items) (2 ^ 32) (omega (arith, sized.before, sized.detectors)) sized.few;
  own = own-fits x r sized there;
}
  where
    small : (a b top : ℕ) → a ≤ b → b < top → a < top
    small a b top le few = omega (arith, le, few)
