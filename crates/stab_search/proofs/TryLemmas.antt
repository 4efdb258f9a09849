-- Tries: an error is tried, the ways with it are added up, and its weight is put back.
use Rattle.stab_search.proofs.Names.{◌≡◌, ◌≢◌, ℕ, zero, suc, ◌+◌, ◌*◌, ◌≤◌, ◌<◌, ◌⊎◌, inl, inr, refl, sym, ◌∙◌, ap, subst, arith, true, false, List, [], ◌∷◌, ◌++◌, length, drop, get_or, set, slice_index, cases_lt, ◌==◌, eqb-true, eqb-false, ◌⊕◌, parity-comm, bit_xor, Option, IsAscending, ErrorTable, odd, row, HasNoneWithin, ForEach, has, key_of, flipped_by_rows, parity-false, false≢true, length-append, ways, ReportsNumber, HasNoFewer, IsWaysPart}
use Rattle.std.proofs.lemmas.List.{get_or-set_same, get_or-set_other, set-get_or, ext_get_or}
use Rattle.stab_search.proofs.ChoiceLemmas.{meet-keyed, meet-flipping, nothing-left, none-after}
use Rattle.stab_search.proofs.EndLemmas.{completes-push, completes-observed, completes-detected, completes-nothing}
use Rattle.stab_search.proofs.ListLemmas.{by-bit, each-has}
use Rattle.stab_search.proofs.ScanLemmas.{left-over, none-left, is-among}
use Rattle.stab_parities.proofs.MergeLemmas.{odd-append}
use Rattle.std.proofs.Math.Nat.{mul-zero, zero-mul}
use Rattle.stab_search.proofs.FlipLemmas.{key-sum}
use Rattle.stab_search.proofs.WayLemmas.{linear, no-ways, leaf-none, leaf-one}

-- what is flipped after an error
pub alike-after : (s next x : List ℕ) → ((i : ℕ) → odd i next ≡ odd i s ⊕ odd i x) → (i : ℕ) → odd i next ≡ odd i (x ++ s)
alike-after s next x merged i =
    merged i ∙ parity-comm (odd i s) (odd i x) ∙ sym (odd-append i x s)

-- no fewer errors complete it than are left

pub fewer-after : (t : ErrorTable) (s next : List ℕ) (g rest : ℕ) → ((d : ℕ) → odd d next ≡ odd d s ⊕ odd d (row t.rows g)) → g < length t.rows
    → HasNoFewer t s (rest + 1) → HasNoFewer t next rest
fewer-after t s next g rest merged lt fewer others c =
    let more = fewer (others ++ g ∷ []) (completes-push t s next g others merged lt c) in
    let long = length-append others (g ∷ []) in
    omega arith

pub none-less : (t : ErrorTable) (n m : ℕ) → m ≤ n → HasNoneWithin t n → HasNoneWithin t m
none-less t n m le none errors logical = let more = none errors logical in omega arith

-- the ways with one more error added

pub part-more : (t : ErrorTable) (before now next s : List ℕ) (g rest : ℕ) (sum more total : Option ℕ) → g < length t.rows → length now ≡ length t.rows
    → next ≡ set now g 0 → IsWaysPart t before now (rest + 1) s sum
    → ReportsNumber (get_or now g 0 * ways t.detectors t.rows (set now g 0) rest (row t.rows g ++ s)) more
    → ((m n : ℕ) → ReportsNumber m sum → ReportsNumber n more → ReportsNumber (m + n) total)
    → IsWaysPart t before next (rest + 1) s total
part-more t before now next s g rest sum more total lt count is part reported plus =
    let one = get_or now g 0 * ways t.detectors t.rows (set now g 0) rest (row t.rows g ++ s) in
    let after : suc rest ≡ rest + 1 = omega arith in
    let split : ways t.detectors t.rows now (suc rest) s ≡ ways t.detectors t.rows (set now g 0) (suc rest) s + one =
    ap (λ (ws : List ℕ). ways t.detectors t.rows ws (suc rest) s) (sym (set-get_or now g 0)) ∙ linear t.detectors t.rows now g (get_or now g 0) rest s lt count in
    let same : ways t.detectors t.rows now (rest + 1) s ≡ ways t.detectors t.rows (set now g 0) (rest + 1) s + one =
    subst (λ n. ways t.detectors t.rows now n s ≡ ways t.detectors t.rows (set now g 0) n s + one) after split in
    let later : ways t.detectors t.rows next (rest + 1) s ≡ ways t.detectors t.rows (set now g 0) (rest + 1) s =
    ap (λ (ws : List ℕ). ways t.detectors t.rows ws (rest + 1) s) is in (
      part.0 + one,
      (
        plus part.0 one part.1.0 reported,
        sums part.0 one (ways t.detectors t.rows next (rest + 1) s) (ways t.detectors t.rows (set now g 0) (rest + 1) s) (ways t.detectors t.rows now (rest + 1) s)
            (ways t.detectors t.rows before (rest + 1) s) later same part.1.1,
      ),
    )
  where
    sums : (n one next none now before : ℕ) → next ≡ none → now ≡ none + one → n + now ≡ before → (n + one) + next ≡ before
    sums n one next none now before e f g = omega arith

pub part-none : (t : ErrorTable) (weights s : List ℕ) (left : ℕ) (a : Option ℕ) → ReportsNumber 0 a → IsWaysPart t weights weights left s a
part-none t weights s left a reported = (0, (reported, nothing-more (ways t.detectors t.rows weights left s)))
  where
    nothing-more : (n : ℕ) → 0 + n ≡ n
    nothing-more n = omega arith

pub part-whole : (t : ErrorTable) (before after s : List ℕ) (left : ℕ) (a : Option ℕ) → IsWaysPart t before after left s a → ways t.detectors t.rows after left s ≡ 0
    → ReportsNumber (ways t.detectors t.rows before left s) a
part-whole t before after s left a part none =
    let same = part.1.1 in
    let is : part.0 ≡ ways t.detectors t.rows before left s = omega arith in
    subst (λ n. ReportsNumber n a) is part.1.0

-- without a weight, or without a last error that has the key, nothing is added

pub nothing-weighs : (w n : ℕ) → w ≡ 0 → 0 ≡ w * n
nothing-weighs w n none = sym (ap (λ v. v * n) none ∙ zero-mul n)

pub nothing-last : (t : ErrorTable) (numbers weights s x : List ℕ) (w rest : ℕ) → length numbers ≤ t.detectors → length weights ≡ length t.rows → rest ≡ 1
    → ((e : ℕ) → e < length t.rows → key_of numbers (row t.rows e) ≡ key_of numbers (x ++ s) → slice_index weights e ≡ 0)
    → 0 ≡ w * ways t.detectors t.rows weights rest (x ++ s)
nothing-last t numbers weights s x w rest few count one none =
    let zero_ways : ways t.detectors t.rows weights rest (x ++ s) ≡ 0 =
    no-ways t weights rest (x ++ s) count
    (λ others way.
    let met = meet-keyed t weights (x ++ s) numbers rest [] few one
    (λ e inside some same. let nothing = none e inside same in absurd (omega arith)) others way in
    absurd (false≢true met.1.1)) in
    sym (ap (λ n. w * n) zero_ways ∙ mul-zero w)

-- weights put back

pub put-step : (errors before was now next : List ℕ) (k e : ℕ) → k < length errors → ForEach (λ g. g < length now) errors
    → next ≡ set now (get_or errors k 0) (get_or before k 0)
    → ((j : ℕ) → j < length errors → get_or before j 0 ≡ get_or was (get_or errors j 0) 0)
    → (has e (drop k errors) ≡ true) ⊎ (get_or now e 0 ≡ get_or was e 0)
    → (has e (drop (k + 1) errors) ≡ true) ⊎ (get_or next e 0 ≡ get_or was e 0)
put-step errors before was now next k e lt inside is each so_far =
    by-bit (get_or errors k 0 == e)
    (λ same.
    let here : get_or errors k 0 ≡ e = eqb-true (get_or errors k 0) e same in
    inr (
    ap (λ (ws : List ℕ). get_or ws e 0) is
    ∙ ap (λ j. get_or (set now (get_or errors k 0) (get_or before k 0)) j 0) (sym here)
    ∙ get_or-set_same now (get_or errors k 0) (get_or before k 0) 0 (each-has (λ g. g < length now) (get_or errors k 0) errors inside (is-among errors k lt))
    ∙ each k lt ∙ ap (λ j. get_or was j 0) here
    ))
    (λ other.
    let distinct : get_or errors k 0 ≢ e = eqb-false (get_or errors k 0) e other in
    elim so_far [
      | inl left ↦ inl (left-over e errors k lt left (λ same. absurd (distinct same)) (λ later. later))
      | inr same ↦
          inr (
          ap (λ (ws : List ℕ). get_or ws e 0) is
          ∙ get_or-set_other now (get_or errors k 0) e (get_or before k 0) 0 (λ q. distinct (sym q))
          ∙ same
          )
    ])

pub put-all : (errors was now : List ℕ) (k : ℕ) → length errors ≤ k → length now ≡ length was
    → ((e : ℕ) → (has e (drop k errors) ≡ true) ⊎ (get_or now e 0 ≡ get_or was e 0)) → now ≡ was
put-all errors was now k past long each =
    ext_get_or 0 now was long
    (λ i lt.
    elim (each i) [
      | inl left ↦ none-left i errors k past left
      | inr same ↦ same
    ])

-- the first error of a set flips an observable

pub none-first : (t : ErrorTable) (before after : List ℕ) (left : ℕ) (at : List ℕ) → length after ≡ length t.rows
    → ((e o : ℕ) → e < length t.rows → t.detectors ≤ o → odd o (row t.rows e) ≡ true → has e at ≡ true)
    → ((e : ℕ) → has e at ≡ true → slice_index after e ≡ 0) → ((e : ℕ) → has e at ≡ false → slice_index after e ≡ slice_index before e)
    → ways t.detectors t.rows after left [] ≡ 0
none-first t before after left at count all weightless others =
    none-after t before after [] left at count
    (λ rest way.
    let o = way.completes.observed in
    meet-flipping t before [] left at rest o.0 way (sym (parity-false (flipped_by_rows t.rows rest o.0)) ∙ o.2)
    (λ e inside some flips. all e o.0 inside o.1 flips))
    weightless others

-- weights after one is set to 0

pub zero-here : (ws next : List ℕ) (g : ℕ) → g < length ws → next ≡ set ws g 0 → get_or next g 0 ≡ 0
zero-here ws next g lt is = ap (λ (xs : List ℕ). get_or xs g 0) is ∙ get_or-set_same ws g 0 0 lt

pub others-preserved : (ws next : List ℕ) (g e : ℕ) → g ≢ e → next ≡ set ws g 0 → get_or next e 0 ≡ get_or ws e 0
others-preserved ws next g e other is = ap (λ (xs : List ℕ). get_or xs e 0) is ∙ get_or-set_other ws g e 0 0 (λ q. other (sym q))

pub zero-preserved : (ws next : List ℕ) (g e : ℕ) → g < length ws → next ≡ set ws g 0 → get_or ws e 0 ≡ 0 → get_or next e 0 ≡ 0
zero-preserved ws next g e lt is none =
    by-bit (g == e)
    (λ same. subst (λ j. get_or next j 0 ≡ 0) (eqb-true g e same) (zero-here ws next g lt is))
    (λ other. others-preserved ws next g e (eqb-false g e other) is ∙ none)

pub length-set : (xs : List ℕ) (j a : ℕ) → length (set xs j a) ≡ length xs
length-set [] j a = refl
length-set (x ∷ xs) zero a = refl
length-set (x ∷ xs) (suc j) a = ap suc (length-set xs j a)

pub key-after : (numbers s x : List ℕ) → key_of numbers (x ++ s) ≡ bit_xor (key_of numbers s) (key_of numbers x)
key-after numbers s x = key-sum numbers (x ++ s) s x (λ d lt. odd-append d x s ∙ parity-comm (odd d x) (odd d s))

-- what is flipped has no detector, or no error is left

pub without-detector : (t : ErrorTable) (weights s : List ℕ) (left n : ℕ) → length weights ≡ length t.rows → IsAscending s → HasNoneWithin t left → HasNoFewer t s left
    → (s ≡ []) ⊎ ((0 < length s) × (t.detectors ≤ get_or s 0 0))
    → (left ≡ 0 → 0 < length s → n ≡ 1) → (0 < left → n ≡ 0) → (s ≡ [] → n ≡ 0) → n ≡ ways t.detectors t.rows weights left s
without-detector t weights s zero n count a none fewer (inl nothing) one zeros empty =
    empty nothing ∙ sym (leaf-none t s (λ c. completes-nothing t s c nothing))
without-detector t weights s zero n count a none fewer (inr first) one zeros empty =
    one refl first.0 ∙ sym (leaf-one t s (completes-observed t s a first.0 first.1))
without-detector t weights s (suc left) n count a none fewer first one zeros empty =
    zeros (omega arith) ∙ sym (nothing-left t weights s (suc left) count a none fewer (omega arith) first)

pub detector-none : (t : ErrorTable) (weights s : List ℕ) (left : ℕ) → left ≡ 0 → IsAscending s → (0 < length s) × (get_or s 0 0 < t.detectors)
    → 0 ≡ ways t.detectors t.rows weights left s
detector-none t weights s left over a first =
    sym (ap (λ n. ways t.detectors t.rows weights n s) over ∙ leaf-none t s (completes-detected t s a first.0 first.1))

-- errors that flip an observable, with one more

pub observed-more : (t : ErrorTable) (found next : List ℕ) (r : ℕ)
    → ((q o : ℕ) → q < r → t.detectors ≤ o → odd o (row t.rows q) ≡ true → has q found ≡ true)
    → ((q : ℕ) → has q found ≡ true → has q next ≡ true)
    → ((o : ℕ) → t.detectors ≤ o → odd o (row t.rows r) ≡ true → has r next ≡ true)
    → (q o : ℕ) → q < r + 1 → t.detectors ≤ o → odd o (row t.rows q) ≡ true → has q next ≡ true
observed-more t found next r all preserved taken q o lt le flips =
    elim (cases_lt q r) [
      | inl less ↦ preserved q (all q o less le flips)
      | inr more ↦
          let same : q ≡ r = omega arith in
          subst (λ k. has k next ≡ true) (sym same) (taken o le (subst (λ k. odd o (row t.rows k) ≡ true) same flips))
    ]
