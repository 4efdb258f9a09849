use Rattle.stab_regions.proofs.Names.{ap, length, collapse, product, step_shown}
use Rattle.stab_regions.proofs.RowMoveLemmas.{rows-arrive, rows-arrive-whichever}
use Rattle.stab_regions.proofs.region_rows.RegionRows.before.Goals as goal

pub returns-in-One : goal.returns-in-One
returns-in-One c = record { moved = rows-arrive c.undo_gate.result (length c.args.self.now.by_x.items) c.args.corrects _ _ c.args.self.now _ (ap step_shown c.in-One.is) c.undo_gate.ensures.moved }

pub returns-in-Two : goal.returns-in-Two
returns-in-Two c = record { moved = rows-arrive c.undo_pair.result (length c.args.self.now.by_x.items) c.args.corrects _ _ c.args.self.now _ (ap step_shown c.in-Two.is) c.undo_pair.ensures.moved }

pub returns-in-Controlled : goal.returns-in-Controlled
returns-in-Controlled c = record { moved = rows-arrive c.undo_controlled.result (length c.args.self.now.by_x.items) c.args.corrects _ _ c.args.self.now _ (ap step_shown c.in-Controlled.is) c.undo_controlled.ensures.moved }

pub returns-in-Collapse : goal.returns-in-Collapse
returns-in-Collapse c = record {
  moved =
      rows-arrive-whichever c.undo_collapse.result (length c.args.self.now.by_x.items) c.args.corrects _
      (λ inverted. collapse c.in-Collapse.letter c.in-Collapse.qubit c.in-Collapse.recorded inverted c.in-Collapse.reset) _ c.args.self.now _
      (ap step_shown c.in-Collapse.is) c.undo_collapse.ensures.moved;
}

pub returns-in-Product : goal.returns-in-Product
returns-in-Product c = record {
  moved =
      rows-arrive-whichever c.undo_product.result (length c.args.self.now.by_x.items) c.args.corrects _ (λ inverted. product c.in-Product.factors.now inverted) _ c.args.self.now _
      (ap step_shown c.in-Product.is) c.undo_product.ensures.moved;
}

pub returns-in-Detector : goal.returns-in-Detector
returns-in-Detector c = record { moved = rows-arrive c.begin_detector.result (length c.args.self.now.by_x.items) c.args.corrects _ _ c.args.self.now _ (ap step_shown c.in-Detector.is) c.begin_detector.ensures.moved }

pub returns-in-Observable : goal.returns-in-Observable
returns-in-Observable c = record { moved = rows-arrive c.ask.result (length c.args.self.now.by_x.items) c.args.corrects _ _ c.args.self.now _ (ap step_shown c.in-Observable.is) c.ask.ensures.moved }
