use Rattle.stab_search.proofs.Names.{◌≡◌, ℕ, ◌+◌, ◌<◌, ◌∙◌, ◌∷◌, sym, subst, ap, ap₂, drop, length, min, take, All, one_of, variables_of, AreFrom}
use Rattle.stab_search.proofs.QuestionLemmas.{asks, drop_min}
use Rattle.std.proofs.lemmas.List.{take_min}
use Rattle.stab_search.proofs.problem.Problem.of.Goals as goal

pub returns-clause-asks : goal.returns-clause-asks
returns-clause-asks c =
    let table = c.args.table.now in
    let parities = c.in_ok-sums.field-0.parities.items in
    let front : c.split_at.result.0.now ≡ take table.detectors parities = c.split_at.ensures.front ∙ ap₂ (λ m l. take m l) (c.min.ensures ∙ ap₂ (λ a b. min a b) c.detectors.ensures.value (ap length c.as_slice-parities.ensures.value)) c.as_slice-parities.ensures.value ∙ take_min table.detectors parities in
    let back : c.split_at.result.1.now ≡ drop table.detectors parities = c.split_at.ensures.back ∙ ap₂ (λ m l. drop m l) (c.min.ensures ∙ ap₂ (λ a b. min a b) c.detectors.ensures.value (ap length c.as_slice-parities.ensures.value)) c.as_slice-parities.ensures.value ∙ drop_min table.detectors parities in
    asks table (record { errors = c.len-4.result; sums = c.in_ok-sums.field-0.sums; undetected = c.in_ok-undetected.undetected; observed = c.in_ok-observed.observed }) parities (record {
      errors = c.len-4.ensures.value;
      sums = subst (λ v. AreFrom v c.in_ok-sums.field-0.sums.items) c.in_ok-sums.ensures.first c.in_ok-sums.ensures.built.sums;
      below = subst (λ f. All (λ v. v < f + length c.in_ok-sums.field-0.sums.items) parities) c.in_ok-sums.ensures.first c.in_ok-sums.ensures.built.parities;
      are = c.in_ok-sums.ensures.parities;
      undetected = c.in_ok-undetected.ensures.value ∙ ap variables_of front;
      observed = c.in_ok-observed.ensures.value ∙ ap (λ l. one_of (c.len-2.result + 1) (variables_of l)) back ∙ ap (λ n. one_of (n + 1) (variables_of (drop table.detectors parities))) (c.len-2.ensures.value ∙ sym c.len-4.ensures.value);
    })
