use Rattle.stab_regions.proofs.Names.{refl, true, product}
use Rattle.stab_regions.proofs.MoveLemmas.{refilled}
use Rattle.stab_regions.proofs.RowMoveLemmas.{measured-rows}
use Rattle.stab_regions.proofs.region_rows.RegionRows.undo_product.Goals as goal

pub returns : goal.returns
returns c = record {
  moved = λ inverted.
      let begun = c.begin_record.new.self in
      let moved = rw (c.as_mut_slice.ensures.value, c.as_mut_slice-2.ensures.value) at c.in_ok-before_product.ensures in
      measured-rows (product c.args.factors.now inverted) (product c.args.factors.now inverted) true c.args.self.now begun _ c.before_product.new.by_x c.before_product.new.by_z c.in_ok-begin_record.ensures.begun
      (refilled begun.by_x _ moved.same_x) (refilled begun.by_z _ moved.same_z) moved.same_x moved.same_z refl refl refl refl (λ i. refl) refl (moved.regions inverted);
}
