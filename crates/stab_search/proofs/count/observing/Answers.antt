use Rattle.stab_search.proofs.Names.{◌≡◌, ◌<◌, ℕ, [], ◌∷◌, ◌++◌, ◌∙◌, sym, ap, subst, arith, length, odd, ForEach, has, false≢true, Vec}
use Rattle.stab_search.proofs.ListLemmas.{each-push, has-push, has-before}
use Rattle.stab_search.proofs.TryLemmas.{observed-more}
use Rattle.stab_search.proofs.count.observing.Goals as goal
use Rattle.stab_search.proofs.count.observing.Goals.{then-end_of-detectors+in_ok-push, else-end_of-detectors}

pub rows-preserved : goal.rows-preserved
rows-preserved c =
    let t = c.args.errors.now.table in
    let n = length t.rows in
    elim c.if-end_of-detectors.branch [
      | then-end_of-detectors+in_ok-push w ↦
          let is : c.if-end_of-detectors.found.items ≡ c.rows.found.items ++ c.rows.r ∷ [] = ap (λ (v : Vec ℕ). v.items) w.found-is ∙ w.in_ok-push.ensures.items in
          record {
            inside = subst (ForEach (λ q. q < n)) (sym is) (each-push (λ q. q < n) c.rows.found.items c.rows.r (omega (arith, c.rows-test.true, c.len-r-end.ensures.value)) c.rows.invariant.inside);
            all = observed-more t c.rows.found.items c.if-end_of-detectors.found.items c.rows.r c.rows.invariant.all
                (λ q there. ap (has q) is ∙ has-before q c.rows.r c.rows.found.items there)
                (λ o le flips. ap (has c.rows.r) is ∙ has-push c.rows.r c.rows.found.items);
          }
      | else-end_of-detectors w ↦
          let is : c.if-end_of-detectors.found.items ≡ c.rows.found.items = ap (λ (v : Vec ℕ). v.items) w.found-is in
          record {
            inside = subst (ForEach (λ q. q < n)) (sym is) c.rows.invariant.inside;
            all = observed-more t c.rows.found.items c.if-end_of-detectors.found.items c.rows.r c.rows.invariant.all
                (λ q there. ap (has q) is ∙ there)
                (λ o le flips.
                absurd (false≢true (sym (c.end_of.ensures.end o (omega (arith, w.if-end_of-detectors.false, le, c.detectors.ensures.value))) ∙ ap (odd o) c.row.ensures.value ∙ flips)));
          }
    ]
