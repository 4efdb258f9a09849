-- Laws of script turns: the log of a script's reads, so far and at the end, in turn with its answer.
use Rattle.stab_script.proofs.Names.{◌≡◌, ℕ, ◌+◌, Bool, IsTrue, List, [], ◌∷◌, ◌++◌, length, take, refl, sym, ap, ◌∙◌, subst, append_assoc, append-nil, length-append, Option, Some, None, Result, Ok, Err, ◌⊎◌, inl, inr, InputView, OutputView, Gave, Reads, DeviceFault, Fault, gave_more, gave_and_failed, Items, Environment, Held, Request, Answer, IsAnswerToAll, both, replying, held_at_first, ScriptReader, begin, requests_in, read, empty_reader, Asked, given_by, asked, Logs, all_given, InTurn, TakesTurns, EndsScript, EditorState, Reported}
use Rattle.stab_script.proofs.ReportLaws.{answers_then, both_assoc, both_nothing}
use Rattle.stab_script.specs.ScriptTurns.{Answered, AnswerGoesOn}
use Rattle.stab_script.proofs.ScriptRunLaws.{before_script, AnsweredSoFar, so_far_none, so_far_more, reported_more, Said, Lasts, said_more, ends_as}

-- an answer that goes on

goes_on_more : (s : Environment) (held : Held) (first rest more : List Request) (front whole b : Answer) → AnswerGoesOn s held first rest front whole → IsAnswerToAll s whole.held more b
    → AnswerGoesOn s held first (rest ++ more) front (both whole b)
goes_on_more s held first rest more front whole b on next =
    let here : IsAnswerToAll s on.1.0.held more b = subst (λ (x : Answer). IsAnswerToAll s x.held more b) on.1.2 next in
    (on.0, (both on.1.0 b, answers_then s front.held rest more on.1.0 b on.1.1 here, ap (λ x. both x b) on.1.2 ∙ both_assoc front on.1.0 b))

goes_on_none : (s : Environment) (held : Held) (first : List Request) (front : Answer) → IsAnswerToAll s held first front → AnswerGoesOn s held first [] front front
goes_on_none s held first front is = (is, (replying front.held [], refl, sym (both_nothing front)))

-- what an answer begins with, also if a distance is asked for
pub begins : (s : Environment) (held : Held) (first rest : List Request) (b : Answer) → IsAnswerToAll s held (first ++ rest) b → (a : Answer) × AnswerGoesOn s held first rest a b
begins s held [] rest b is = (replying held [], (refl, (b, is, refl)))
begins s held (r ∷ first) rest b is =
    let there = begins s is.0.held first rest is.1 is.3 in
    (both is.0 there.0, ((is.0, there.0, is.2, there.1.0, refl), (there.1.1.0, there.1.1.1, is.4 ∙ ap (λ x. both is.0 x) there.1.1.2 ∙ sym (both_assoc is.0 there.0 there.1.1.0))))

-- reads in turn

-- with an answer that goes on
in_turn_on : (environment : Environment) (items : Items) (start : ℕ) (first rest : List Request) (a b : Answer) (before : List ℕ) (reads : List Asked) → IsAnswerToAll environment a.held rest b
    → InTurn environment items start first a before reads → InTurn environment items start (first ++ rest) (both a b) before reads
in_turn_on environment items start first rest a b before [] next turns = tt
in_turn_on environment items start first rest a b before (x ∷ xs) next turns =
    let here = turns.0 in (
      (
        here.0,
        here.1 ++ rest,
        ap (λ l. l ++ rest) here.2 ∙ append_assoc (requests_in before) here.1 rest,
        goes_on_more environment (held_at_first environment items) (requests_in before) here.1 rest here.0 a b here.3 next,
        here.4,
      ),
      in_turn_on environment items start first rest a b (before ++ x.given) xs next turns.1,
    )

-- what reads handed over, with one more
all_given_more : (reads : List Asked) (a : Asked) → all_given (reads ++ a ∷ []) ≡ all_given reads ++ a.given
all_given_more [] a = append-nil a.given
all_given_more (b ∷ bs) a = ap (λ l. b.given ++ l) (all_given_more bs a) ∙ sym (append_assoc b.given (all_given bs) a.given)

-- one more read in turn
in_turn_more : (environment : Environment) (items : Items) (start : ℕ) (requests : List Request) (answer : Answer) (before : List ℕ) (reads : List Asked) (a : Asked)
    → InTurn environment items start requests answer before reads → Answered environment items start requests answer (before ++ all_given reads) a → InTurn environment items start requests answer before (reads ++ a ∷ [])
in_turn_more environment items start requests answer before [] a turns here = (subst (λ (l : List ℕ). Answered environment items start requests answer l a) (append-nil before) here, tt)
in_turn_more environment items start requests answer before (b ∷ bs) a turns here =
    (turns.0, in_turn_more environment items start requests answer (before ++ b.given) bs a turns.1 (subst (λ (l : List ℕ). Answered environment items start requests answer l a) (sym (append_assoc before b.given (all_given bs))) here))

-- what was read so far was answered, so that a read finds exactly its replies
caught_up : (environment : Environment) (items : Items) {now : EditorState} {o o' : OutputView} (bytes : List ℕ) (r : Result ℕ DeviceFault) (buf : List ℕ)
    → (reported : Reported (before_script environment items) now (requests_in bytes) o o') → IsTrue o.honest → Answered environment items (length o.written) (requests_in bytes) reported.answer bytes (asked o' r buf)
caught_up environment items {now} {o} bytes r buf reported h = (
  reported.answer,
  [],
  sym (append-nil (requests_in bytes)),
  goes_on_none environment (held_at_first environment items) (requests_in bytes) reported.answer reported.answers,
  ap length (reported.took.moved h) ∙ length-append o.written reported.answer.reply,
)

-- logs

-- what is said of an answer: that it is in turn with these reads
abbrev pub Turns : Environment → Items → OutputView → List Asked → List Request → Answer → Type 0
Turns environment items o reads requests answer = IsTrue o.honest → InTurn environment items (length o.written) requests answer [] reads

turns_last : (environment : Environment) (items : Items) (o : OutputView) (reads : List Asked) → Lasts environment (Turns environment items o reads)
turns_last environment items o reads first rest a b turns next = λ h. in_turn_on environment items (length o.written) first rest a b [] reads next (turns h)

-- a log has all reads that handed over these bytes, in turn with this answer to these requests
pub record LogsThese (environment : Environment) (items : Items) (o : OutputView) (given : List ℕ) (requests : List Request) (answer : Answer) (log log' : Option (List Asked)) : Type 0 where
  pub before : List Asked
  pub reads : List Asked
  pub had : log ≡ Some before
  pub has : log' ≡ Some (before ++ reads)
  pub handed : all_given reads ≡ given
  pub turns : Turns environment items o reads requests answer

-- or was given up
abbrev pub LogsSoFar : Environment → Items → OutputView → List ℕ → List Request → Answer → Option (List Asked) → Option (List Asked) → Type 0
LogsSoFar environment items o given requests answer log log' = (log' ≡ None) ⊎ LogsThese environment items o given requests answer log log'

-- what was read of a script so far, and answered, each read in turn
abbrev pub AnsweredInTurn : Environment → Items → EditorState → ScriptReader → ℕ → InputView → InputView → OutputView → OutputView → Option (List Asked) → Option (List Asked) → Type 0
AnsweredInTurn environment items now reader taken s s' o o' log log' =
    (before : AnsweredSoFar environment items now reader taken s s' o o') × LogsSoFar environment items o before.bytes (requests_in before.bytes) before.reported.answer log log'

-- nothing was read yet
logs_none : (environment : Environment) (items : Items) (o : OutputView) (requests : List Request) (answer : Answer) (log : Option (List Asked)) → LogsSoFar environment items o [] requests answer log log
logs_none environment items o requests answer None = inl refl
logs_none environment items o requests answer (Some before) = inr (record { before = before; reads = []; had = refl; has = ap Some (sym (append-nil before)); handed = refl; turns = λ h. tt })

-- a log with more reads has them after the reads that it had
log_after : (before before' more : List Asked) {log' log'' : Option (List Asked)} → log' ≡ Some (before ++ more) → log' ≡ Some before' → (a : Asked) → log'' ≡ Some (before' ++ a ∷ [])
    → log'' ≡ Some (before ++ (more ++ a ∷ []))
log_after before before' more has had a now =
    let same : before' ≡ before ++ more = cc in
    now ∙ ap (λ l. Some (l ++ a ∷ [])) same ∙ ap Some (append_assoc before more (a ∷ []))

none_is_some : (before : List Asked) {log : Option (List Asked)} → log ≡ None → log ≡ Some before → ⊥
none_is_some before e f = cc

-- one more read
logs_more : {environment : Environment} {items : Items} {o : OutputView} {given : List ℕ} {requests : List Request} {answer : Answer} {log log' log'' : Option (List Asked)} (a : Asked)
    → LogsSoFar environment items o given requests answer log log' → Logs log' log'' (a ∷ []) → (IsTrue o.honest → Answered environment items (length o.written) requests answer given a)
    → LogsSoFar environment items o (given ++ a.given) requests answer log log''
logs_more a so_far (inl gone) here = inl gone
logs_more a (inl gone) (inr preserved) here = absurd (none_is_some preserved.0 gone preserved.1)
logs_more {environment} {items} {o} {given} {requests} {answer} a (inr p) (inr q) here = inr (record {
  before = p.before;
  reads = p.reads ++ a ∷ [];
  had = p.had;
  has = log_after p.before q.0 p.reads p.has q.1 a q.2;
  handed = all_given_more p.reads a ∙ ap (λ l. l ++ a.given) p.handed;
  turns = λ h.
      in_turn_more environment items (length o.written) requests answer [] p.reads a (p.turns h)
      (subst (λ (l : List ℕ). Answered environment items (length o.written) requests answer l a) (sym p.handed) (here h));
})

-- a read more of what was read and answered so far
pub reads_in_turn : {environment : Environment} {items : Items} {now : EditorState} {reader : ScriptReader} {taken : ℕ} {s s' : InputView} {o o' : OutputView} {log log' log'' : Option (List Asked)} (r : Result ℕ DeviceFault) (buf : List ℕ)
    → (before : AnsweredInTurn environment items now reader taken s s' o o' log log') → Logs log' log'' (asked o' r buf ∷ [])
    → LogsSoFar environment items o (before.0.bytes ++ given_by r buf) (requests_in before.0.bytes) before.0.reported.answer log log''
reads_in_turn {environment} {items} {now} {reader} {taken} {s} {s'} {o} {o'} r buf before more = logs_more (asked o' r buf) before.1 more (caught_up environment items before.0.bytes r buf before.0.reported)

-- where the input is after one more read
handed_over : (s s' s'' : InputView) (bytes buf : List ℕ) (r : Result ℕ DeviceFault) → Gave s s' bytes → Reads s' s'' r buf → IsTrue s.honest → s.unread ≡ (bytes ++ given_by r buf) ++ s''.unread
handed_over s s' s'' bytes buf (Ok n) before reads h = (gave_more bytes (take n buf) before reads.1).moved h
handed_over s s' s'' bytes buf (Err f) before reads h = (gave_and_failed bytes before reads).moved h ∙ ap (λ l. l ++ s''.unread) (sym (append-nil bytes))

-- how a script ends from where an answer to its first requests was written, whatever is said of that besides and lasts
abbrev pub EndsFrom : Environment → Items → List Request → Answer → InputView → InputView → OutputView → OutputView → Result Bool Fault → Type 1
EndsFrom environment items requests answer s s'' o o'' r = (P : List Request → Answer → Type 0) → Lasts environment P → P requests answer → EndsScript (Said environment items P) s s'' o o'' r

-- so it ends with an answer
ends_plainly : (environment : Environment) (items : Items) (requests : List Request) (answer : Answer) (s s'' : InputView) (o o'' : OutputView) (r : Result Bool Fault) → EndsFrom environment items requests answer s s'' o o'' r
    → EndsScript (IsAnswerToAll environment (held_at_first environment items)) s s'' o o'' r
ends_plainly environment items requests answer s s'' o o'' r ends = ends_as s s'' o o'' r (λ xs a said. said.0) (ends (λ xs a. Unit {0}) (λ first rest a b p q. tt) tt)

-- and in turn
ends_in_turn : {environment : Environment} {items : Items} {given : List ℕ} {requests : List Request} {answer : Answer} {s s'' : InputView} {o : OutputView} (o'' : OutputView) {log log'' : Option (List Asked)} (r : Result Bool Fault)
    → LogsSoFar environment items o given requests answer log log'' → (IsTrue s.honest → s.unread ≡ given ++ s''.unread) → EndsFrom environment items requests answer s s'' o o'' r
    → TakesTurns environment items s s'' o o'' log log'' r
ends_in_turn o'' r (inl gone) moved ends = inl gone
ends_in_turn {environment} {items} {given} {requests} {answer} {s} {s''} {o} o'' r (inr p) moved ends = inr (record {
  before = p.before;
  reads = p.reads;
  had = p.had;
  has = p.has;
  given = λ h. moved h ∙ ap (λ l. l ++ s''.unread) (sym p.handed);
  ends = ends (Turns environment items o p.reads) (turns_last environment items o p.reads) p.turns;
})

-- after a last read
pub last_in_turn : {environment : Environment} {items : Items} {now : EditorState} {reader : ScriptReader} {taken : ℕ} {s s' : InputView} {o o' : OutputView} {log log' log'' : Option (List Asked)}
    (s'' : InputView) (o'' : OutputView) (read_result : Result ℕ DeviceFault) (buf : List ℕ) (r : Result Bool Fault)
    → (before : AnsweredInTurn environment items now reader taken s s' o o' log log') → Logs log' log'' (asked o' read_result buf ∷ []) → Reads s' s'' read_result buf
    → EndsFrom environment items (requests_in before.0.bytes) before.0.reported.answer s s'' o o'' r → TakesTurns environment items s s'' o o'' log log'' r
last_in_turn {environment} {items} {now} {reader} {taken} {s} {s'} s'' o'' read_result buf r before more reads ends =
    ends_in_turn o'' r (reads_in_turn read_result buf before more) (handed_over s s' s'' before.0.bytes buf read_result before.0.gave reads) ends

-- a piece more was read and answered, and the read was in turn
pub in_turn_so_far : {environment : Environment} {items : Items} {mid new : EditorState} {reader reader' : ScriptReader} {taken : ℕ} {s s' s'' : InputView} {o o' o'' : OutputView} {log log' log'' : Option (List Asked)} (piece : List ℕ) (taken' n : ℕ) (buf : List ℕ)
    → AnsweredInTurn environment items mid reader taken s s' o o' log log' → Logs log' log'' (asked o' (Ok n) buf ∷ []) → take n buf ≡ piece → Gave s' s'' piece → taken' ≡ taken + length piece
    → reader' ≡ (read reader piece).reader → Reported mid new (read reader piece).requests o' o'' → AnsweredInTurn environment items new reader' taken' s s'' o o'' log log''
unfolding so_far_more
in_turn_so_far {environment} {items} {mid} {new} {reader} {reader'} {taken} {s} {s'} {s''} {o} {o'} {o''} {log} {log'} {log''} piece taken' n buf before more is gave size e reported = (
  so_far_more piece taken' before.0 gave size e reported,
  on (subst (λ (l : List ℕ). LogsSoFar environment items o (before.0.bytes ++ l) (requests_in before.0.bytes) before.0.reported.answer log log'') is (reads_in_turn (Ok n) buf before more)),
)
  where
    on : LogsSoFar environment items o (before.0.bytes ++ piece) (requests_in before.0.bytes) before.0.reported.answer log log''
        → LogsSoFar environment items o (before.0.bytes ++ piece) (requests_in (before.0.bytes ++ piece)) (reported_more before.0.bytes piece before.0.reading before.0.reported reported).answer log log''
    on (inl gone) = inl gone
    on (inr p) = inr (record {
      before = p.before;
      reads = p.reads;
      had = p.had;
      has = p.has;
      handed = p.handed;
      turns = said_more (Turns environment items o p.reads) before.0.bytes piece (turns_last environment items o p.reads) before.0.reading before.0.reported reported p.turns;
    })

-- a script before its first read, whose beginning was answered
pub in_turn_at_first : (environment : Environment) (items : Items) (now : EditorState) (reader : ScriptReader) (s : InputView) (o o' : OutputView) (log : Option (List Asked)) → Reported (before_script environment items) now (begin ∷ []) o o' → reader ≡ empty_reader
    → AnsweredInTurn environment items now reader 0 s s o o' log log
unfolding so_far_none
in_turn_at_first environment items now reader s o o' log reported e =
    let first = so_far_none environment items now reader s o o' reported e in
    (first, logs_none environment items o (requests_in []) first.reported.answer log)

-- a script that was not read
pub unread_in_turn : {environment : Environment} {items : Items} (s : InputView) {o : OutputView} (o'' : OutputView) (log : Option (List Asked)) (r : Result Bool Fault)
    → ((P : List Request → Answer → Type 0) → ((xs : List Request) (a : Answer) → P xs a) → EndsScript (Said environment items P) s s o o'' r) → TakesTurns environment items s s o o'' log log r
unread_in_turn {environment} {items} s {o} o'' None r ends = inl refl
unread_in_turn {environment} {items} s {o} o'' (Some before) r ends = inr (record {
  before = before;
  reads = [];
  had = refl;
  has = ap Some (sym (append-nil before));
  given = λ h. refl;
  ends = ends (Turns environment items o []) (λ xs a h. tt);
})

-- how a script ends after a last read
pub ended_in_turn : {environment : Environment} {items : Items} {now : EditorState} {reader : ScriptReader} {taken : ℕ} {s s' : InputView} {o o' : OutputView} {log log' log'' : Option (List Asked)}
    (s'' : InputView) (o'' : OutputView) (read_result : Result ℕ DeviceFault) (buf : List ℕ) (r : Result Bool Fault)
    → (before : AnsweredInTurn environment items now reader taken s s' o o' log log') → Logs log' log'' (asked o' read_result buf ∷ []) → Reads s' s'' read_result buf
    → EndsFrom environment items (requests_in before.0.bytes) before.0.reported.answer s s'' o o'' r
    → EndsScript (IsAnswerToAll environment (held_at_first environment items)) s s'' o o'' r × TakesTurns environment items s s'' o o'' log log'' r
ended_in_turn {environment} {items} {now} {reader} {taken} {s} {s'} {o} s'' o'' read_result buf r before more reads ends =
    (ends_plainly environment items (requests_in before.0.bytes) before.0.reported.answer s s'' o o'' r ends, last_in_turn s'' o'' read_result buf r before more reads ends)
