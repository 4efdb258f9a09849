use Rattle.stab_error_model.proofs.Names.{◌∙◌, ◌∷◌, [], inl, inr, refl, sym, ap, subst, IsAscending, odd, parts_of_error, error_shown, IsErrorRow}
use Rattle.stab_error_model.proofs.PartLemmas.{split-more}
use Rattle.stab_error_model.proofs.parts.add_split.Goals as goal

pub returns-then-is_graphlike : goal.returns-then-is_graphlike
returns-then-is_graphlike c =
    let e = c.args.error in
    let row = c.as_slice.result.now in
    let is : IsErrorRow c.args.single_errors.now.rows e row =
    record { ascending = subst IsAscending (sym c.as_slice.ensures.value) c.in_ok-row.ensures.ascending; value = λ i. ap (odd i) c.as_slice.ensures.value ∙ c.in_ok-row.ensures.odd i } in record {
      split = λ whole before.
          split-more c.args.single_errors.now.rows c.args.detectors whole c.args.errors.now.items c.add_error.new.errors.items e (error_shown e ∷ []) before
          (row, is, inl (c.is_graphlike.ensures.yes c.if-is_graphlike.true, refl)) c.in_ok-add_error.ensures.adds;
    }

pub returns : goal.returns
returns c =
    let e = c.args.error in
    let row = c.as_slice.result.now in
    let is : IsErrorRow c.args.single_errors.now.rows e row =
    record { ascending = subst IsAscending (sym c.as_slice.ensures.value) c.in_ok-row.ensures.ascending; value = λ i. ap (odd i) c.as_slice.ensures.value ∙ c.in_ok-row.ensures.odd i } in record {
      split = λ whole before.
          split-more c.args.single_errors.now.rows c.args.detectors whole c.args.errors.now.items c.add_parts.new.errors.items e (parts_of_error (error_shown e)) before
          (row, is, inr (c.is_graphlike.ensures.not c.if-is_graphlike.false, refl)) c.in_ok-add_parts.ensures.adds;
    }
