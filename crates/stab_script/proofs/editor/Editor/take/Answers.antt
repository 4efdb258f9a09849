use Rattle.stab_script.proofs.Names.{◌≡◌, ◌+◌, ◌++◌, sym, ap, ◌∙◌, subst, arith, get_or, take, Request, ScriptReader, Reading, read, read_byte, opened_in, Reported, ReportedSome, progress}
use Rattle.std.specs.Prelude.{List}
use Rattle.stab_script.proofs.ReadingLaws.{read_none, read_more, first_requests, opened_byte}
use Rattle.stab_script.proofs.ReportLaws.{reported_none, reported_then, reported_some_after, reported_some_within, reports_err}
use Rattle.stab_script.proofs.editor.Editor.take.Goals as goal

pub loop-byte-init : goal.loop-byte-init
loop-byte-init g c =
    let now = progress g.A.Answer.environment g.A.Answer.held c.args.self.now in
    let o = g.O.Output.seen c.args.out.now in
    record {
      reader = sym (ap (λ (r : Reading). r.reader) (read_none c.args.self.now.reader));
      reported = subst (λ (r : Reading). Reported now now r.requests o o) (sym (read_none c.args.self.now.reader)) (reported_none now o);
      few = omega arith;
    }

pub returns-in_err-take_byte-clause-reports : goal.returns-in_err-take_byte-clause-reports
returns-in_err-take_byte-clause-reports g c =
    let old = progress g.A.Answer.environment g.A.Answer.held c.args.self.now in
    let mid = progress g.A.Answer.environment g.A.Answer.held c.loop-byte.self in
    let reader = c.args.self.now.reader in
    let i = c.loop-byte.byte-index in
    let byte = get_or c.args.piece.now i 0 in
    let before = read reader (take i c.args.piece.now) in
    let o = g.O.Output.seen c.args.out.now in
    let p = g.O.Output.seen c.loop-byte.out in
    let q = g.O.Output.seen c.take_byte.new.out in
    let f = c.in_err-take_byte.field-0.0 in
    let more = read_more reader c.args.piece.now i c.loop-byte-test.true in
    let rest = first_requests reader c.args.piece.now (i + 1) in
    let here : ReportedSome mid (read_byte before.reader byte).requests p q f = subst (λ (d : ScriptReader). ReportedSome mid (read_byte d byte).requests p q f) c.loop-byte.invariant.reader c.in_err-take_byte.ensures.reports in
    let whole : (before.requests ++ (read_byte before.reader byte).requests) ++ rest.0 ≡ (read reader c.args.piece.now).requests = ap (λ (r : Reading). r.requests ++ rest.0) (sym more) ∙ sym rest.1 in
    reports_err old _ _ o q f c.from_residual.result c.from_residual.ensures.1
    (subst (λ (l : List Request). ReportedSome old l o q f) whole
    (reported_some_within (before.requests ++ (read_byte before.reader byte).requests) rest.0 f (reported_some_after before.requests (read_byte before.reader byte).requests f c.loop-byte.invariant.reported here)))

pub loop-byte-preserved : goal.loop-byte-preserved
loop-byte-preserved g c =
    let old = progress g.A.Answer.environment g.A.Answer.held c.args.self.now in
    let mid = progress g.A.Answer.environment g.A.Answer.held c.loop-byte.self in
    let new = progress g.A.Answer.environment g.A.Answer.held c.take_byte.new.self in
    let reader = c.args.self.now.reader in
    let i = c.loop-byte.byte-index in
    let byte = get_or c.args.piece.now i 0 in
    let before = read reader (take i c.args.piece.now) in
    let o = g.O.Output.seen c.args.out.now in
    let p = g.O.Output.seen c.loop-byte.out in
    let q = g.O.Output.seen c.take_byte.new.out in
    let more = read_more reader c.args.piece.now i c.loop-byte-test.true in
    let here : Reported mid new (read_byte before.reader byte).requests p q = subst (λ (d : ScriptReader). Reported mid new (read_byte d byte).requests p q) c.loop-byte.invariant.reader c.in_ok-take_byte.ensures.reports in
    let bound = opened_byte c.loop-byte.self.reader byte in
    let same : opened_in c.take_byte.new.self.reader.gathering ≡ opened_in (read_byte c.loop-byte.self.reader byte).reader.gathering = ap (λ (d : ScriptReader). opened_in d.gathering) c.in_ok-take_byte.ensures.reader in
    record {
      reader = c.in_ok-take_byte.ensures.reader ∙ ap (λ (d : ScriptReader). (read_byte d byte).reader) c.loop-byte.invariant.reader ∙ sym (ap (λ (r : Reading). r.reader) more);
      reported = subst (λ (r : Reading). Reported old new r.requests o q) (sym more) (reported_then before.requests (read_byte before.reader byte).requests c.loop-byte.invariant.reported here);
      few = omega arith;
    }
