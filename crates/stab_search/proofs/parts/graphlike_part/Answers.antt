use Rattle.stab_search.proofs.Names.{◌≡◌, ◌⊎◌, ℕ, List, [], ◌∷◌, ◌++◌, length, ap, sym, subst, arith, ◌∙◌, length-append, ErrorTable, row, IsGraphlike}
use Rattle.stab_search.proofs.PartLemmas.{preserved-push, others-push}
use Rattle.stab_search.proofs.parts.graphlike_part.Goals as goal

pub rows-preserved : goal.rows-preserved
rows-preserved c =
    let t = c.args.table.now in
    let old = c.rows.part in
    let x = c.graphlike_or_empty.result.now in
    let same : c.push.new.self.rows ≡ old.rows ++ x ∷ [] = ap (λ (p : ErrorTable). p.rows) c.in_ok-push.ensures.ok in
    let preserved : IsGraphlike t.detectors (row t.rows c.rows.r) → x ≡ row t.rows c.rows.r =
    λ graphlike.
    c.graphlike_or_empty.ensures.preserved
    (subst (λ d. IsGraphlike d c.row.result.now) (sym c.detectors-in-rows.ensures.value) (subst (IsGraphlike t.detectors) (sym c.row.ensures.value) graphlike))
    ∙ c.row.ensures.value in
    let other : IsGraphlike t.detectors (row t.rows c.rows.r) ⊎ (x ≡ []) =
    subst (λ (ys : List ℕ). IsGraphlike t.detectors ys ⊎ (x ≡ [])) c.row.ensures.value
    (subst (λ d. IsGraphlike d c.row.result.now ⊎ (x ≡ [])) c.detectors-in-rows.ensures.value c.graphlike_or_empty.ensures.others) in
    let longer = length-append old.rows (x ∷ []) in
    let count = ap length same in
    record {
      detectors = ap (λ (p : ErrorTable). p.detectors) c.in_ok-push.ensures.ok ∙ c.rows.invariant.detectors;
      made = omega (arith, longer, count, c.rows.invariant.made);
      preserved = λ q lt. subst (λ (p : List (List ℕ)). IsGraphlike t.detectors (row t.rows q) → row p q ≡ row t.rows q) (sym same)
          (preserved-push t.detectors t.rows old.rows x c.rows.r c.rows.invariant.made c.rows.invariant.preserved preserved q lt);
      others = λ q lt. subst (λ (p : List (List ℕ)). IsGraphlike t.detectors (row t.rows q) ⊎ (row p q ≡ [])) (sym same)
          (others-push t.detectors t.rows old.rows x c.rows.r c.rows.invariant.made c.rows.invariant.others other q lt);
    }
