use Rattle.stab_script.proofs.Names.{ap, codes, two_numbers, ReplyBytes}
use Rattle.stab_script.proofs.CountedReplyLaws.{four_texts}
use Rattle.stab_script.proofs.reply.Reply.counts.Goals as goal

pub returns-clause-written : goal.returns-clause-written
returns-clause-written c =
    let b = c.args.before in
    let o = c.args.own in
    four_texts (two_numbers b.steps o.steps (codes " ")) (two_numbers b.records o.records (codes " ")) (two_numbers b.detectors o.detectors (codes " ")) (two_numbers b.coins o.coins (codes "\n"))
    (ap (λ (r : ReplyBytes). r.written) c.new-reply.ensures.empty)
    c.in_ok-add_numbers.ensures.written c.in_ok-add_numbers-2.ensures.written c.in_ok-add_numbers-3.ensures.written c.in_ok-add_numbers-4.ensures.written
