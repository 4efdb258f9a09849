use Rattle.stab_search.proofs.Names.{◌≡◌, ◌<◌, ◌≤◌, subst, arith, length, HasNone}
use Rattle.stab_search.proofs.DistinctLemmas.{none-reported, bound-reported}
use Rattle.stab_search.proofs.BoundLemmas.{least-bounded}
use Rattle.stab_search.proofs.graphlike.by_cycles.Goals as goal

pub returns-then-certified : goal.returns-then-certified
returns-then-certified c =
    let same : record { detectors = c.detectors-2.result; rows = c.rows.result.now } ≡ c.in-Some.graph.table =
    λ i. record { detectors = c.detectors-2.ensures.value i; rows = c.rows.ensures.value i } in
    record {
      answer = none-reported c.args.part.now c.in-Some.graph.table c.detectors.result c.in_ok-distinct.distinct.rows.items
          (rw c.in-Some.is at c.in_ok-new.ensures.table) c.detectors.ensures.value c.in_ok-distinct.ensures.all
          (subst HasNone same (c.in_ok-certified.ensures.none c.if-certified.true));
    }

pub returns-then-len-most : goal.returns-then-len-most
returns-then-len-most c =
    let count : c.len-2.result ≡ length c.in-Some-2.set.items = omega (arith, c.len-2.ensures, c.in-Some-2.set.ok.0) in
    let same : c.len.result ≡ c.len-2.result = omega (arith, c.len.ensures, c.len-2.ensures) in
    let bound =
    bound-reported c.args.part.now c.in-Some.graph.table c.detectors.result c.in_ok-distinct.distinct.rows.items
    (rw c.in-Some.is at c.in_ok-new.ensures.table) c.detectors.ensures.value c.in_ok-distinct.ensures.all c.min-bound.result
    (c.in_ok-shown.ensures.yes c.if-not-shown.false) in
    let more : c.args.most < c.min-bound.result = omega (arith, same, c.if-len-most.true, c.min-bound.ensures, c.saturating_add.ensures, c.ranges.most) in
    record {
      answer = (
        λ errors logical. omega (arith, more, bound errors logical),
        (c.in-Some-2.set.items, (rw c.in-Some-2.is at c.in_ok-logical_set.ensures.set).logical),
      );
    }

pub returns : goal.returns
returns c =
    let count : c.len-2.result ≡ length c.in-Some-2.set.items = omega (arith, c.len-2.ensures, c.in-Some-2.set.ok.0) in
    let same : c.len.result ≡ c.len-2.result = omega (arith, c.len.ensures, c.len-2.ensures) in
    let few : c.len-2.result ≤ c.args.most = omega (arith, c.if-len-most.false) in
    record {
      answer = least-bounded c.args.part.now c.args.most c.min-bound.result (length c.as_slice.result.now) c.in-Some-2.set.items
          (omega (arith, count, same, few, c.min-bound.ensures, c.saturating_add.ensures, c.in-Some-2.set.small)) (omega (arith, same, few, c.min-bound.ensures))
          (bound-reported c.args.part.now c.in-Some.graph.table c.detectors.result c.in_ok-distinct.distinct.rows.items
          (rw c.in-Some.is at c.in_ok-new.ensures.table) c.detectors.ensures.value c.in_ok-distinct.ensures.all c.min-bound.result
          (c.in_ok-shown.ensures.yes c.if-not-shown.false))
          (rw c.in-Some-2.is at c.in_ok-logical_set.ensures.set);
    }
