-- Counts of a circuit's steps, records and detectors, which its limit of steps does not cut.
use Rattle.stab_items.proofs.Names.{◌≡◌, refl, ◌≤◌, ℕ, ◌+◌, min, Bool, true, false, List, [], ◌∷◌, length, if◌then◌else◌, None, arith, Items, Step, one, two, collapse, detector, observable, unroll, makes, records_of, is_detector, detectors_of, check_of}
use Rattle.stab_items.specs.Steps.{controlled, product, detectors_in, most_steps, steps_cap}
use Rattle.stab_items.proofs.SummaryLemmas.{few_steps}

-- a step makes at most one record
one_record : (s : Step) → makes s ≤ 1
one_record (one g q) = omega arith
one_record (two g a b) = omega arith
one_record (controlled l k q) = omega arith
one_record (collapse l q true inverted resets) = omega arith
one_record (collapse l q false inverted resets) = omega arith
one_record (product factors inverted) = omega arith
one_record (detector ks) = omega arith
one_record (observable j ks) = omega arith

-- a step makes at most one detector
one_detector : (s : Step) → detectors_in s ≤ 1
one_detector (one g q) = omega arith
one_detector (two g a b) = omega arith
one_detector (controlled l k q) = omega arith
one_detector (collapse l q recorded inverted resets) = omega arith
one_detector (product factors inverted) = omega arith
one_detector (detector ks) = omega arith
one_detector (observable j ks) = omega arith

-- steps make at most as many records as they are
records_few : (ss : List Step) → records_of ss ≤ length ss
records_few [] = omega arith
records_few (s ∷ ss) = omega (arith, one_record s, records_few ss)

-- the detectors of a step and of those after it
pub detectors_more : (s : Step) (ss : List Step) → detectors_of (s ∷ ss) ≡ detectors_in s + detectors_of ss
detectors_more s ss = by_kind (is_detector s)
  where
    by_kind : (b : Bool) → (if b then 1 + detectors_of ss else detectors_of ss) ≡ (if b then 1 else 0) + detectors_of ss
    by_kind true = refl
    by_kind false = omega arith

-- steps make at most as many detectors as they are
pub detectors_few : (ss : List Step) → detectors_of ss ≤ length ss
detectors_few [] = omega arith
detectors_few (s ∷ ss) = omega (arith, detectors_more s ss, one_detector s, detectors_few ss)

-- what is within the limit is not cut
uncut : (n : ℕ) → n ≤ most_steps → min n steps_cap ≡ n
uncut n h = grind arith

-- the steps of a circuit are counted whole
pub steps_counted : (items : Items) → check_of items ≡ None → min (length (unroll items)) steps_cap ≡ length (unroll items)
steps_counted items e = uncut (length (unroll items)) (few_steps items e)

-- the records of a circuit are counted whole
pub records_counted : (items : Items) → check_of items ≡ None → min (records_of (unroll items)) steps_cap ≡ records_of (unroll items)
records_counted items e = uncut (records_of (unroll items)) (omega (arith, records_few (unroll items), few_steps items e))

-- the detectors of a circuit are counted whole
pub detectors_counted : (items : Items) → check_of items ≡ None → min (detectors_of (unroll items)) steps_cap ≡ detectors_of (unroll items)
detectors_counted items e = uncut (detectors_of (unroll items)) (omega (arith, detectors_few (unroll items), few_steps items e))
