use Rattle.stab_script.proofs.Names.{◌≡◌, ◌+◌, ◌-◌, ◌++◌, [], ◌∷◌, false, sym, ap, ◌∙◌, subst, arith, inr, length, length-take, take, drop, append-nil, take-append-drop, Gave, ScriptReader, begin, read, empty_reader, opened_in, EditorState, Reported, ReportedSome, progress, Request, Answer, EndsScript}
use Rattle.stab_script.proofs.ReadingLaws.{opened_read}
use Rattle.stab_script.proofs.ReportLaws.{progress_with}
use Rattle.std.specs.Prelude.{List, ℕ, Ok, Err}
use Rattle.stab_script.proofs.ScriptRunLaws.{Said, before_script, greeting_broke, script_failed, broke_after, script_too_long, gave_end, script_ended, script_err, ends_as}
use Rattle.stab_script.proofs.ScriptTurnLaws.{ended_in_turn, in_turn_at_first, in_turn_so_far, unread_in_turn}
use Rattle.stab_script.proofs.session_edit.run_script.Goals as goal

pub returns-in_err-report_request : goal.returns-in_err-report_request
returns-in_err-report_request g c =
    let environment = g.A.Answer.environment c.args.answers in
    let items = (g.A.Answer.held c.args.answers).items in
    let s = g.S.Input.seen c.args.script.now in
    let o = g.O.Output.seen c.args.out.now in
    let o' = g.O.Output.seen c.report_request.new.out in
    let f = c.in_err-report_request.field-0.0 in
    let at_first : progress g.A.Answer.environment g.A.Answer.held c.new-editor.result ≡ before_script environment items =
    c.new-editor.ensures.progress ∙ ap (λ h. progress_with environment h false) c.requires.opened in
    let ends : (P : List Request → Answer → Type 0) → ((xs : List Request) (a : Answer) → P xs a) → EndsScript (Said environment items P) s s o o' c.from_residual.result =
    λ P always.
    script_err f c.from_residual.result c.from_residual.ensures.1
    (greeting_broke environment items P s f always (subst (λ (x : EditorState). ReportedSome x (begin ∷ []) o o' f) at_first c.in_err-report_request.ensures.reports)) in
    record {
      ends = ends_as s s o o' c.from_residual.result (λ xs a said. said.0) (ends (λ xs a. Unit {0}) (λ xs a. tt));
      turns = unread_in_turn s o' (g.W.Watcher.log c.args.script.now) c.from_residual.result ends;
    }

pub reads-init : goal.reads-init
reads-init g c =
    let environment = g.A.Answer.environment c.args.answers in
    let items = (g.A.Answer.held c.args.answers).items in
    let o = g.O.Output.seen c.args.out.now in
    let o' = g.O.Output.seen c.report_request.new.out in
    let now = progress g.A.Answer.environment g.A.Answer.held c.report_request.new.self in
    let reader : c.report_request.new.self.reader ≡ empty_reader = c.report_request.ensures.reader ∙ c.new-editor.ensures.reader in
    let none : opened_in c.report_request.new.self.reader.gathering ≡ 0 = ap (λ (d : ScriptReader). opened_in d.gathering) reader in
    let at_first : progress g.A.Answer.environment g.A.Answer.held c.new-editor.result ≡ before_script environment items =
    c.new-editor.ensures.progress ∙ ap (λ h. progress_with environment h false) c.requires.opened in
    record {
      few = omega arith;
      opened = omega arith;
      so_far = in_turn_at_first environment items now c.report_request.new.self.reader (g.S.Input.seen c.args.script.now) o o' (g.W.Watcher.log c.args.script.now)
          (subst (λ (x : EditorState). Reported x now (begin ∷ []) o o') at_first c.in_ok-report_request.ensures.reports) reader;
    }

pub returns-in-Err : goal.returns-in-Err
returns-in-Err g c =
    let both =
    ended_in_turn (g.S.Input.seen c.read.new.script) (g.O.Output.seen c.reads.out) (Err c.in-Err.field-0) c.read.new.buf (Err c.whole.result) c.reads.invariant.so_far c.in-Err.ensures.logs c.in-Err.ensures.reads
    (λ P lasts p. inr (script_failed P c.whole.result c.reads.invariant.so_far.0 p c.reads.invariant.few c.in-Err.ensures.reads c.whole.ensures.value)) in
    record { ends = both.0; turns = both.1 }

pub returns-then-count-eq0 : goal.returns-then-count-eq0
returns-then-count-eq0 g c =
    let s' = g.S.Input.seen c.reads.script in
    let s'' = g.S.Input.seen c.read.new.script in
    let none : Gave s' s'' [] = subst (λ (n : ℕ). Gave s' s'' (take n c.read.new.buf)) c.if-count-eq0.true c.in-Ok.ensures.reads.1 in
    let both =
    ended_in_turn s'' (g.O.Output.seen c.end.new.out) (Ok c.in-Ok.count) c.read.new.buf c.end.result c.reads.invariant.so_far c.in-Ok.ensures.logs c.in-Ok.ensures.reads
    (λ P lasts p.
    script_ended P (g.O.Output.seen c.end.new.out) c.end.result lasts c.reads.invariant.so_far.0 p c.reads.invariant.few
    (gave_end none (c.in-Ok.ensures.reads.2 c.if-count-eq0.true (omega (arith, c.read.auto)))) c.end.ensures.finishes) in
    record { ends = both.0; turns = both.1 }

pub returns-in_err-take-in-Ok : goal.returns-in_err-take-in-Ok
returns-in_err-take-in-Ok g c =
    let s' = g.S.Input.seen c.reads.script in
    let s'' = g.S.Input.seen c.read.new.script in
    let piece = c.split_at.result.0.now in
    let part = c.split_at-then-count-taken.result.0.now in
    let rest = drop (67108864 - c.reads.taken) piece in
    let given : Gave s' s'' piece = subst (λ (l : List ℕ). Gave s' s'' l) (sym c.split_at.ensures.front) c.in-Ok.ensures.reads.1 in
    let whole : part ++ rest ≡ piece = ap (λ l. l ++ rest) c.split_at-then-count-taken.ensures.front ∙ take-append-drop (67108864 - c.reads.taken) piece in
    let both =
    ended_in_turn s'' (g.O.Output.seen c.take.new.out) (Ok c.in-Ok.count) c.read.new.buf c.from_residual-in_err-take-in-Ok.result c.reads.invariant.so_far c.in-Ok.ensures.logs c.in-Ok.ensures.reads
    (λ P lasts p.
    script_err c.in_err-take-in-Ok.field-0.0 c.from_residual-in_err-take-in-Ok.result c.from_residual-in_err-take-in-Ok.ensures.1
    (broke_after P c.in_err-take-in-Ok.field-0.0 part rest lasts c.reads.invariant.so_far.0 p (subst (λ (l : List ℕ). Gave s' s'' l) (sym whole) given) c.in_err-take-in-Ok.ensures.reports)) in
    record { ends = both.0; turns = both.1 }

pub returns-then-count-taken : goal.returns-then-count-taken
returns-then-count-taken g c =
    let s' = g.S.Input.seen c.reads.script in
    let s'' = g.S.Input.seen c.read.new.script in
    let piece = c.split_at.result.0.now in
    let given : Gave s' s'' piece = subst (λ (l : List ℕ). Gave s' s'' l) (sym c.split_at.ensures.front) c.in-Ok.ensures.reads.1 in
    let size : length piece ≡ c.in-Ok.count = omega (arith, ap length c.split_at.ensures.front, length-take c.in-Ok.count c.read.new.buf, c.in-Ok.ensures.reads.0) in
    let both =
    ended_in_turn s'' (g.O.Output.seen c.take.new.out) (Ok c.in-Ok.count) c.read.new.buf (Err c.whole-then-count-taken.result) c.reads.invariant.so_far c.in-Ok.ensures.logs c.in-Ok.ensures.reads
    (λ P lasts p.
    inr (script_too_long P c.whole-then-count-taken.result piece c.split_at-then-count-taken.result.0.now lasts c.reads.invariant.so_far.0 p c.reads.invariant.few
    (omega (arith, size, c.in-Ok.ensures.reads.0, c.read.auto)) (omega (arith, size, c.if-count-taken.true)) c.split_at-then-count-taken.ensures.front given c.in_ok-take-in-Ok.ensures.reports c.whole-then-count-taken.ensures.value)) in
    record { ends = both.0; turns = both.1 }

pub returns-in_err-take-in-Ok-2 : goal.returns-in_err-take-in-Ok-2
returns-in_err-take-in-Ok-2 g c =
    let s' = g.S.Input.seen c.reads.script in
    let s'' = g.S.Input.seen c.read.new.script in
    let piece = c.split_at.result.0.now in
    let given : Gave s' s'' piece = subst (λ (l : List ℕ). Gave s' s'' l) (sym c.split_at.ensures.front) c.in-Ok.ensures.reads.1 in
    let both =
    ended_in_turn s'' (g.O.Output.seen c.take-in-Ok.new.out) (Ok c.in-Ok.count) c.read.new.buf c.from_residual-in_err-take-in-Ok-2.result c.reads.invariant.so_far c.in-Ok.ensures.logs c.in-Ok.ensures.reads
    (λ P lasts p.
    script_err c.in_err-take-in-Ok-2.field-0.0 c.from_residual-in_err-take-in-Ok-2.result c.from_residual-in_err-take-in-Ok-2.ensures.1
    (broke_after P c.in_err-take-in-Ok-2.field-0.0 piece [] lasts c.reads.invariant.so_far.0 p (subst (λ (l : List ℕ). Gave s' s'' l) (sym (append-nil piece)) given) c.in_err-take-in-Ok-2.ensures.reports)) in
    record { ends = both.0; turns = both.1 }

pub reads-preserved : goal.reads-preserved
reads-preserved g c =
    let s' = g.S.Input.seen c.reads.script in
    let s'' = g.S.Input.seen c.read.new.script in
    let piece = c.split_at.result.0.now in
    let given : Gave s' s'' piece = subst (λ (l : List ℕ). Gave s' s'' l) (sym c.split_at.ensures.front) c.in-Ok.ensures.reads.1 in
    let size : length piece ≡ c.in-Ok.count = omega (arith, ap length c.split_at.ensures.front, length-take c.in-Ok.count c.read.new.buf, c.in-Ok.ensures.reads.0) in
    let bound = opened_read c.reads.editor.reader piece in
    let same : opened_in c.take-in-Ok.new.self.reader.gathering ≡ opened_in (read c.reads.editor.reader piece).reader.gathering = ap (λ (d : ScriptReader). opened_in d.gathering) c.in_ok-take-in-Ok-2.ensures.reader in
    record {
      few = omega (arith, c.if-count-taken.false, c.reads.invariant.few);
      opened = omega (arith, size, bound, same, c.reads.invariant.opened);
      so_far = in_turn_so_far piece (c.reads.taken + c.in-Ok.count) c.in-Ok.count c.read.new.buf c.reads.invariant.so_far c.in-Ok.ensures.logs (sym c.split_at.ensures.front) given (ap (λ n. c.reads.taken + n) (sym size)) c.in_ok-take-in-Ok-2.ensures.reader c.in_ok-take-in-Ok-2.ensures.reports;
    }
