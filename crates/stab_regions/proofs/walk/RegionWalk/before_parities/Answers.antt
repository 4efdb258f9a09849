use Rattle.stab_regions.proofs.Names.{refl, ◌∙◌, ap, length, ◌||◌, Bool, false, slice_index_or, List, step_shown}
use Rattle.stab_regions.proofs.MoveLemmas.{refilled, moves-to, numbers-fit}
use Rattle.stab_regions.proofs.walk.RegionWalk.before_parities.Goals as goal

pub before-requires-clause-there : goal.before-requires-clause-there
before-requires-clause-there c = numbers-fit (step_shown c.args.step) c.args.self.now c.requires.sized c.requires.there

pub returns : goal.returns
returns c =
    let old = c.args.self.now in
    let marks = rw (c.as_mut_slice.ensures.value, c.numbers.ensures.value) at c.mark.ensures in
    let filled = refilled old.random c.mark.new.bits marks.same_length in
    record {
      numbered = refl;
      state =
          moves-to (step_shown c.args.step) old _ c.requires.there c.in_ok-before.ensures.moved (ap length filled ∙ marks.same_length)
          (λ i r long shows lt.
          ap (λ (bits : List Bool). slice_index_or bits i false) filled
          ∙ marks.value i lt
          ∙ ap (λ (b : Bool). b || slice_index_or old.random.items i false) (c.in_ok-flipped.ensures.odd i r long shows));
    }
