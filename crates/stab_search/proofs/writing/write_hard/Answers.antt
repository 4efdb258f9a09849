use Rattle.stab_search.proofs.Names.{◌+◌, refl, ap, [], ◌∷◌, ◌++◌, flat_map, map, clause_text, sum_clauses, is_false, Is, err_from_is_err_and, writes_failed, writes_then}
use Rattle.stab_search.proofs.LeftLemmas.{writes_parts}
use Rattle.stab_search.proofs.writing.write_hard.Goals as goal

pub returns-in_err-write_sums : goal.returns-in_err-write_sums
returns-in_err-write_sums g c =
    let p = err_from_is_err_and c.from_residual.result c.from_residual.ensures.1 in
    let problem = c.args.problem.now in
    let text = clause_text c.args.top in
    let last = (Is (problem.errors + 1) ∷ []) ∷ problem.observed.items ∷ [] in
    record {
      writes = writes_parts text (flat_map sum_clauses problem.sums.items) (map is_false problem.undetected.items) last (flat_map sum_clauses c.as_slice.result.now) (map is_false problem.undetected.items) last _ _ _ (ap (λ l. flat_map sum_clauses l) c.as_slice.ensures.value) refl refl
          (writes_failed (flat_map text (map is_false problem.undetected.items) ++ flat_map text last) p.1 p.2 c.in_err-write_sums.ensures.writes);
    }

pub returns-in_err-write_false : goal.returns-in_err-write_false
returns-in_err-write_false g c =
    let p = err_from_is_err_and c.from_residual-in_err-write_false.result c.from_residual-in_err-write_false.ensures.1 in
    let problem = c.args.problem.now in
    let text = clause_text c.args.top in
    let last = (Is (problem.errors + 1) ∷ []) ∷ problem.observed.items ∷ [] in
    record {
      writes = writes_parts text (flat_map sum_clauses problem.sums.items) (map is_false problem.undetected.items) last (flat_map sum_clauses c.as_slice.result.now) (map is_false c.as_slice-2.result.now) last _ _ _ (ap (λ l. flat_map sum_clauses l) c.as_slice.ensures.value) (ap (map is_false) c.as_slice-2.ensures.value) refl
          (writes_then _ _ (flat_map text (map is_false c.as_slice-2.result.now) ++ flat_map text last) c.in_ok-write_sums.ensures.writes
          (writes_failed (flat_map text last) p.1 p.2 c.in_err-write_false.ensures.writes));
    }

pub returns : goal.returns
returns g c =
    let problem = c.args.problem.now in
    let text = clause_text c.args.top in
    let last = (Is (problem.errors + 1) ∷ []) ∷ problem.observed.items ∷ [] in
    let last' = (Is (problem.errors + 1) ∷ []) ∷ c.as_slice-3.result.now ∷ [] in
    record {
      writes = writes_parts text (flat_map sum_clauses problem.sums.items) (map is_false problem.undetected.items) last (flat_map sum_clauses c.as_slice.result.now) (map is_false c.as_slice-2.result.now) last' _ _ _ (ap (λ l. flat_map sum_clauses l) c.as_slice.ensures.value) (ap (map is_false) c.as_slice-2.ensures.value) (ap (λ l. (Is (problem.errors + 1) ∷ []) ∷ l ∷ []) c.as_slice-3.ensures.value)
          (writes_then _ _ (flat_map text (map is_false c.as_slice-2.result.now) ++ flat_map text last') c.in_ok-write_sums.ensures.writes
          (writes_then _ _ (flat_map text last') c.in_ok-write_false.ensures.writes c.write_clauses.ensures.writes));
    }
