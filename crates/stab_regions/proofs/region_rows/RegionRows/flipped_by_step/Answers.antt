use Rattle.stab_regions.proofs.Names.{◌∙◌, sym, ap, subst, length, not, step_shown, Step, StepFits, keeps_region}
use Rattle.stab_regions.proofs.ShowLemmas.{bits-anticommute}
use Rattle.stab_regions.proofs.MoveLemmas.{twice-not}
use Rattle.stab_regions.proofs.RowMoveLemmas.{if_ok}
use Rattle.stab_regions.proofs.region_rows.RegionRows.flipped_by_step.Goals as goal

pub returns-in-Collapse : goal.returns-in-Collapse
returns-in-Collapse c =
    let rows = c.args.self.now in
    let flips = rw (c.as_slice-by_x.ensures.value, c.as_slice-by_z.ensures.value) at c.flipped.ensures.odd in
    record {
      odd =
          if_ok c.flipped.result _ _
          (λ p named i r long shows.
          named i
          ∙ bits-anticommute i (length rows.by_x.items) c.in-Collapse.qubit c.in-Collapse.letter rows.by_x.items rows.by_z.items r.string
          (subst (StepFits (length rows.by_x.items)) (ap step_shown c.in-Collapse.is) c.requires.fits) long shows.letters
          ∙ twice-not _
          ∙ ap (λ (x : Step). not (keeps_region (length rows.by_x.items) x r)) (sym (ap step_shown c.in-Collapse.is)))
          flips;
    }

pub returns-in-Product : goal.returns-in-Product
returns-in-Product c =
    let rows = c.args.self.now in
    let flips = rw (c.as_slice-by_x.ensures.value, c.as_slice-by_z.ensures.value) at c.flipped_by_product.ensures.odd in
    record {
      odd =
          if_ok c.flipped_by_product.result _ _
          (λ p named i r long shows.
          named i r.string long shows.letters ∙ twice-not _ ∙ ap (λ (x : Step). not (keeps_region (length rows.by_x.items) x r)) (sym (ap step_shown c.in-Product.is)))
          flips;
    }
