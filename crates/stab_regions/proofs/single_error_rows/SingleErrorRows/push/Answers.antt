use Rattle.stab_regions.proofs.Names.{◌≡◌, ◌++◌, ◌∷◌, [], ◌∙◌, ap, length, List, ℕ, rows_cut, Rises}
use Rattle.stab_regions.proofs.StoredRowLemmas.{push-all}
use Rattle.stab_regions.proofs.single_error_rows.SingleErrorRows.push.Goals as goal
use Rattle.stab_regions.proofs.single_error_rows.SingleErrorRows.push.Goals.{In_ok-push}

pushed : (c : In_ok-push) →
    Rises 0 c.push.new.self.items (length c.extend_from_slice.new.self.items)
    × (rows_cut 0 c.push.new.self.items c.extend_from_slice.new.self.items ≡ rows_cut 0 c.self.inside.ends.items c.self.inside.numbers.items ++ c.args.row.now ∷ [])
pushed c =
    push-all c.self.inside.ends.items c.push.new.self.items c.self.inside.numbers.items c.extend_from_slice.new.self.items c.args.row.now c.len.result
    (c.in_ok-push.ensures.items ∙ ap (λ (es : List ℕ). es ++ c.len.result ∷ []) c.in_ok-reserve.ensures.items)
    c.in_ok-extend_from_slice.ensures.items
    (c.len.ensures ∙ c.extend_from_slice.new.self.ok.0)
    c.self.invariant

pub invariant_of-self-2 : goal.invariant_of-self-2
invariant_of-self-2 c = (pushed c).0

pub returns : goal.returns
returns c = record { value = (pushed c).1 ∙ ap (λ (rows : List (List ℕ)). rows ++ c.args.row.now ∷ []) c.self.view_is }
