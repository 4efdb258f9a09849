use Rattle.stab_search.proofs.Names.{◌≡◌, true, subst, sym, take, List, ℕ, ForEach, odd}
use Rattle.stab_search.proofs.ScanLemmas.{each-odd, taken-among}
use Rattle.stab_search.proofs.errors.Errors.detectors_of.Goals as goal

pub returns-clause-flipped : goal.returns-clause-flipped
returns-clause-flipped c =
    subst (λ (xs : List ℕ). ForEach (λ d. odd d c.args.flipped.now ≡ true) xs) (sym c.split_at.ensures.front)
    (each-odd (take c.detectors.count c.args.flipped.now) c.args.flipped.now c.requires.ascending (λ g there. taken-among g c.detectors.count c.args.flipped.now there))
