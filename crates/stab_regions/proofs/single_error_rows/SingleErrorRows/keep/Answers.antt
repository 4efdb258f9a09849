use Rattle.stab_regions.proofs.Names.{◌≡◌, ℕ, ◌+◌, sym, ap, ◌∙◌, subst, List, length, map, arith, rules, with_items, with_items_is, filter_same, rows_cut, Rises, retained_of, ends_retained}
use Rattle.stab_regions.proofs.StoredRowLemmas.{cut-retained, rises-retained, length-retained}
use Rattle.stab_regions.proofs.single_error_rows.SingleErrorRows.keep.Goals as goal
use Rattle.stab_regions.proofs.single_error_rows.SingleErrorRows.keep.Goals.{After-retain}

numbers_are : (c : After-retain) → c.retain.new.self.items ≡ retained_of c.args.retained.now c.self.inside.numbers.items
numbers_are c = filter_same _ _ _ (λ x b f k. search rules) _ _ c.retain.ensures.filtered

moved : (c : After-retain) → c.move_ends.new.ends ≡ ends_retained c.args.retained.now 0 0 c.self.inside.ends.items c.self.inside.numbers.items
moved c = c.move_ends.ensures.value ∙ (λ i. ends_retained c.args.retained.now 0 0 (c.deref_mut.ensures.value i) (c.as_slice.ensures.value i))

ends_are : (c : After-retain) → (with_items c.self.inside.ends c.move_ends.new.ends).items ≡ ends_retained c.args.retained.now 0 0 c.self.inside.ends.items c.self.inside.numbers.items
ends_are c =
    with_items_is c.self.inside.ends c.move_ends.new.ends
    (ap length (moved c) ∙ length-retained c.args.retained.now 0 0 c.self.inside.ends.items c.self.inside.numbers.items ∙ sym c.self.inside.ends.ok.0)
    ∙ moved c

pub invariant_of-self : goal.invariant_of-self
invariant_of-self c =
    let r = rises-retained c.args.retained.now 0 0 c.self.inside.ends.items c.self.inside.numbers.items (length c.self.inside.numbers.items) (omega arith) c.self.invariant in
    let total : 0 + length (retained_of c.args.retained.now c.self.inside.numbers.items) ≡ length c.retain.new.self.items = omega (arith, ap length (numbers_are c)) in
    subst (λ (es : List ℕ). Rises 0 es (length c.retain.new.self.items)) (sym (ends_are c))
    (subst (Rises 0 (ends_retained c.args.retained.now 0 0 c.self.inside.ends.items c.self.inside.numbers.items)) total r)

pub returns : goal.returns
returns c = record {
  value =
      (λ i. rows_cut 0 (ends_are c i) (numbers_are c i))
      ∙ cut-retained c.args.retained.now 0 0 c.self.inside.ends.items c.self.inside.numbers.items
      ∙ ap (map (retained_of c.args.retained.now)) c.self.view_is;
}
