use Rattle.stab_items.proofs.Names.{◌≡◌, ◌∙◌, ap, sym, ◌+◌, ◌++◌, ◌∷◌, [], copies, round_gaps}
use Rattle.stab_items.proofs.GapLemmas.{no-gaps, rounds-popped}
use Rattle.stab_items.proofs.circuit.gaps.gaps_of_rounds.Goals as goal

pub returns-in_default-clause-some : goal.returns-in_default-clause-some
returns-in_default-clause-some c = no-gaps c.args.count c.args.lead c.args.round.items c.pop.new.self.items c.in_default.ensures.items (sym c.args.round.ok.0 ∙ c.in_default.ensures.cases.0)

pub returns-clause-some : goal.returns-clause-some
returns-clause-some c =
    let last = c.in-Some.last in
    let front = c.pop.new.self.items in
    let lead = c.args.lead in
    let n = c.args.count in
    let all = c.in_ok-gaps.gaps.items in
    let copied : all ≡ copies n (front ++ (last + lead) ∷ []) =
    c.in_ok-gaps.ensures.ok ∙ ap (copies n) (c.as_slice.ensures.value ∙ c.in_ok-push.ensures.items) in
    c.in_ok-push-2.ensures.items
    ∙ rounds-popped n lead last c.in_ok-gaps.gaps.len front all c.pop-2.new.self.items c.requires.some copied (sym c.in_ok-gaps.gaps.ok.0) c.pop-2.ensures.rest
    ∙ ap (round_gaps n lead) (sym c.in-Some.ensures.items)
