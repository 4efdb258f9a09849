use Rattle.stab_run.proofs.Names.{◌≡◌, ℕ, sym, subst, List, length, map, take, drop, OnTrue_at, OnTrue_from, Step, detector, steps_shown, lookbacks_of}
use Rattle.stab_run.proofs.SameLemmas.{mapped_part}
use Rattle.stab_run.proofs.same.begin_with.Goals as goal

pub returns-in-Detectors-Detectors : goal.returns-in-Detectors-Detectors
returns-in-Detectors-Detectors c =
    let own = lookbacks_of c.in-Detectors-Detectors.detectors in
    let others = lookbacks_of c.in-Detectors-Detectors.more in
    record {
      same = OnTrue_from c.detectors_begin_with.result _
          (λ t. subst (λ ss. take (length (steps_shown c.args.others)) (drop c.args.position (steps_shown ss)) ≡ steps_shown c.args.others) (sym c.in-Detectors-Detectors.is-0)
          (subst (λ ss. take (length (steps_shown ss)) (drop c.args.position (map detector own)) ≡ steps_shown ss) (sym c.in-Detectors-Detectors.is-1)
          (mapped_part {X = List ℕ} {Y = Step} detector c.args.position own others (OnTrue_at t c.detectors_begin_with.ensures.same))));
    }
