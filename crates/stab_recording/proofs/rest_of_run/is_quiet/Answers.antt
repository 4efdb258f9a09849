use Rattle.stab_recording.proofs.Names.{◌≡◌, ◌-◌, Bool, true, false, sym, ◌∙◌, ap, arith, List, length, drop, ones}
use Rattle.stab_recording.proofs.QuietLemmas.{quiet-back, newest-counted}
use Rattle.stab_recording.proofs.rest_of_run.is_quiet.Goals as goal

pub returns-clause-quiet : goal.returns-clause-quiet
returns-clause-quiet c = λ e k le.
    let off : c.has_one.result ≡ false = grind (arith, e) in
    let newest : c.split_at.result.1.now ≡ drop (length c.records-records.result.now - c.args.window) c.records-records.result.now =
    c.split_at.ensures.back ∙ ap (λ i. drop i c.records-records.result.now) c.saturating_sub.ensures in
    let here : c.split_at.result.1.now ≡ drop (length c.args.propagation.now.flips.records - c.args.window) c.args.propagation.now.flips.records =
    newest ∙ ap (λ (l : List Bool). drop (length l - c.args.window) l) c.records-records.ensures.value in
    quiet-back c.args.propagation.now.flips.records c.args.window k (ap ones (sym here) ∙ c.has_one.ensures.none off) le

pub returns-clause-flips : goal.returns-clause-flips
returns-clause-flips c = λ e.
    let on : c.has_one.result ≡ true = grind (arith, e) in
    let here : c.split_at.result.1.now ≡ drop c.saturating_sub.result c.args.propagation.now.flips.records =
    c.split_at.ensures.back ∙ ap (drop c.saturating_sub.result) c.records-records.ensures.value in
    newest-counted c.saturating_sub.result c.args.propagation.now.flips.records (omega (arith, c.has_one.ensures.one on, ap ones here))
