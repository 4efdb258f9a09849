use Rattle.stab_script.proofs.Names.{◌≡◌, ◌∷◌, [], ◌||◌, sym, subst, Took, TookAndFailed, Answer, request_asked, Reported, progress}
use Rattle.std.specs.Prelude.{List, ℕ, Bool}
use Rattle.stab_script.proofs.ReportLaws.{reported_one, reported_one_cut, progress_with}
use Rattle.stab_script.proofs.editor.Editor.report_request.Goals as goal

pub returns-in-Ok-clause-reports : goal.returns-in-Ok-clause-reports
returns-in-Ok-clause-reports g c =
    let old = progress g.A.Answer.environment g.A.Answer.held c.args.self.now in
    let o = g.O.Output.seen c.args.out.now in
    let o' = g.O.Output.seen c.write_all.new.out in
    let a : Answer = record { held = g.A.Answer.held c.answer.new.self; reply = c.in_ok-reply.field-0.reply.written; refused = c.in_ok-reply.field-0.refused } in
    let took : Took o o' a.reply = subst (λ (l : List ℕ). Took o o' l) c.bytes.ensures.value c.in-Ok.ensures.writes in
    let noted : old.refused || a.refused ≡ c.either-self.result = sym c.either-self.ensures.value in
    subst (λ (b : Bool). Reported old (progress_with (g.A.Answer.environment c.answer.new.self) a.held b) (request_asked c.args.request ∷ []) o o') noted
    (reported_one old (g.A.Answer.environment c.answer.new.self) (request_asked c.args.request) a c.in_ok-reply.ensures.environment c.in_ok-reply.ensures.answers took)

pub returns-clause-reports : goal.returns-clause-reports
returns-clause-reports g c =
    let old = progress g.A.Answer.environment g.A.Answer.held c.args.self.now in
    let o = g.O.Output.seen c.args.out.now in
    let o' = g.O.Output.seen c.write_all.new.out in
    let a : Answer = record { held = g.A.Answer.held c.answer.new.self; reply = c.in_ok-reply.field-0.reply.written; refused = c.in_ok-reply.field-0.refused } in
    let failed : TookAndFailed o o' a.reply = subst (λ (l : List ℕ). TookAndFailed o o' l) c.bytes.ensures.value c.in-Err.ensures.writes.1 in
    reported_one_cut old (request_asked c.args.request) a c.in-Err.refusal c.whole.result c.in_ok-reply.ensures.answers c.whole.ensures.value (c.in-Err.ensures.writes.0, failed)
