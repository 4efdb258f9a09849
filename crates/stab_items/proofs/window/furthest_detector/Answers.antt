use Rattle.stab_items.proofs.Names.{◌<◌, [], ◌∙◌, subst, All, map, length, arith, take_all, get_or_default, detector, lookbacks_of, LooksWithin}
use Rattle.stab_items.proofs.LookLemmas.{within-target}
use Rattle.stab_items.proofs.window.furthest_detector.Goals as goal

pub loop-position-preserved : goal.loop-position-preserved
loop-position-preserved c =
    let all = lookbacks_of c.args.detectors in
    let position = c.loop-position.position in
    let lt : position < length all = omega (arith, c.loop-position-test.true, c.len-position-end.ensures.value) in
    record {
      more = omega (arith, c.greatest-window.ensures.more, c.loop-position.invariant.more);
      within =
          within-target c.loop-position.window c.greatest-window.result detector all position c.get.result.now lt
          (c.get.ensures.value ∙ get_or_default all position [] c.get.result.now lt) c.greatest-window.ensures.more c.loop-position.invariant.within c.greatest-window.ensures.within;
    }

pub returns-clause-within : goal.returns-clause-within
returns-clause-within c =
    subst (λ kss. All (LooksWithin c.loop-position.window) (map detector kss))
    (take_all c.loop-position.position (lookbacks_of c.args.detectors) (omega (arith, c.loop-position-test.false, c.len-position-end.ensures.value))) c.loop-position.invariant.within
