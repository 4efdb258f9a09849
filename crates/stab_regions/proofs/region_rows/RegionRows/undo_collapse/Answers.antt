use Rattle.stab_regions.proofs.Names.{refl, ◌&&◌, collapse}
use Rattle.stab_regions.proofs.MoveLemmas.{refilled}
use Rattle.stab_regions.proofs.RowMoveLemmas.{made-end, asked-made, measured-rows}
use Rattle.stab_regions.proofs.region_rows.RegionRows.undo_collapse.Goals as goal

pub returns : goal.returns
returns c = record {
  moved = λ inverted.
      let old = c.args.self.now in
      let begun = c.begin_record.new.self in
      let moved = rw (c.as_mut_slice.ensures.value, c.as_mut_slice-2.ensures.value, c.both.ensures.value) at c.in_ok-before_collapse.ensures in
      measured-rows (collapse c.args.letter c.args.qubit c.args.recorded inverted c.args.reset)
      (collapse c.args.letter c.args.qubit c.args.recorded inverted (c.args.corrects && c.args.reset)) c.args.recorded old begun _ c.before_collapse.new.by_x c.before_collapse.new.by_z
      c.in_ok-begin_record.ensures.begun (refilled begun.by_x _ moved.same_x) (refilled begun.by_z _ moved.same_z) moved.same_x moved.same_z refl refl refl
      (made-end c.args.recorded c.args.letter c.args.qubit inverted c.args.reset old.record_end)
      (asked-made c.args.recorded c.args.letter c.args.qubit inverted c.args.reset old.record_end old.detector_end old.observable) refl (moved.regions inverted);
}
