use Rattle.stab_search.proofs.Names.{◌≡◌, arith, refl, subst, HasNone}
use Rattle.stab_search.specs.SearchParts.{Searched}
use Rattle.stab_search.proofs.SearchPartLemmas.{decided, own-search, whole-none}
use Rattle.stab_search.proofs.existence.has_logical_error.Goals as goal

pub returns-then-branch-2 : goal.returns-then-branch-2
returns-then-branch-2 c =
    let same : record { detectors = c.detectors-detectors.result; rows = c.rows-rows.result.now } ≡ c.args.errors.now.table =
    λ i. record { detectors = c.detectors-detectors.ensures.value i; rows = c.rows-rows.ensures.value i } in
    record { decides = subst HasNone same (c.in_ok-are_certified.ensures.none c.if-branch-2.true) }

pub returns : goal.returns
returns c =
    let s : Searched = record { table = c.args.errors.now.table; firsts = c.args.errors.now.firsts } in
    let r = c.in_ok-found.ensures.reported in
    record {
      decides = decided s.table c.whole-whole.result s refl c.len.result r.last c.in_ok-found.found c.is_some.result c.is_some.ensures (omega (arith, c.len.ensures.value))
          (whole-none s.table c.whole-whole.result c.whole-whole.ensures.value s (own-search s.table s.firsts r.begun) r.last r.none) r.found;
    }
