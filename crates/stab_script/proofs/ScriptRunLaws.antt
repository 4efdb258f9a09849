-- Laws of script runs: what was read and answered so far, and how a script ends from there.
use Rattle.stab_script.proofs.Names.{Answer, ◌≡◌, ◌≤◌, ◌<◌, ℕ, ◌+◌, ◌-◌, Bool, false, ◌||◌, List, [], ◌∷◌, ◌++◌, length, take, refl, sym, ap, ◌∙◌, subst, arith, append_assoc, length-append, Result, Ok, Err, inl, inr, append-nil, take_all, take-append-add, IsErrAnd, InputView, OutputView, Gave, GaveAndFailed, GaveAll, IsAtEnd, TooLong, ReadFault, Fault, whole, gave_none, gave_more, gave_and_failed, left_more, Items, Environment, Request, begin, held_at_first, IsAnswerToAll, both, ScriptReader, Reading, read, read_end, requests_in, requests_of, empty_reader, most_script, AnswersScript, BreaksOff, AnswersFront, EndsScript, EditorState, Reported, ReportedSome, FlushFails, Sent, Finishes}
use Rattle.stab_script.proofs.ReadingLaws.{read_append, read_none}
use Rattle.stab_script.proofs.ReportLaws.{answers_then, reported_then, reported_some_after}

-- the progress before a script
abbrev pub before_script : Environment → Items → EditorState
before_script environment items = record { environment = environment; held = held_at_first environment items; refused = false }

-- what was read of a script so far, and answered
pub record AnsweredSoFar (environment : Environment) (items : Items) (now : EditorState) (reader : ScriptReader) (taken : ℕ) (s s' : InputView) (o o' : OutputView) : Type 0 where
  pub bytes : List ℕ
  pub gave : Gave s s' bytes
  pub counted : length bytes ≡ taken
  pub reading : reader ≡ (read empty_reader bytes).reader
  pub reported : Reported (before_script environment items) now (requests_in bytes) o o'

-- nothing was read yet, and the script's beginning was answered
unfoldable pub so_far_none : (environment : Environment) (items : Items) (now : EditorState) (reader : ScriptReader) (s : InputView) (o o' : OutputView) → Reported (before_script environment items) now (begin ∷ []) o o' → reader ≡ empty_reader
    → AnsweredSoFar environment items now reader 0 s s o o'
so_far_none environment items now reader s o o' reported e = record {
  bytes = [];
  gave = gave_none s;
  counted = refl;
  reading = e ∙ sym (ap (λ (r : Reading). r.reader) (read_none empty_reader));
  reported = subst (λ (r : Reading). Reported (before_script environment items) now (begin ∷ r.requests) o o') (sym (read_none empty_reader)) reported;
}

-- what bytes ask for after others
pub after_requests : (bytes piece : List ℕ) → requests_in (bytes ++ piece) ≡ requests_in bytes ++ (read (read empty_reader bytes).reader piece).requests
after_requests bytes piece = ap (λ (r : Reading). begin ∷ r.requests) (read_append empty_reader bytes piece)

-- a piece more was read and answered
unfoldable pub reported_more : {environment : Environment} {items : Items} {mid new : EditorState} {reader : ScriptReader} {o o' o'' : OutputView} (bytes piece : List ℕ)
    → reader ≡ (read empty_reader bytes).reader → Reported (before_script environment items) mid (requests_in bytes) o o' → Reported mid new (read reader piece).requests o' o''
    → Reported (before_script environment items) new (requests_in (bytes ++ piece)) o o''
reported_more {environment} {items} {mid} {new} {reader} {o} {o'} {o''} bytes piece e before more =
    let here : Reported mid new (read (read empty_reader bytes).reader piece).requests o' o'' = record {
      answer = more.answer;
      answers = subst (λ (d : ScriptReader). IsAnswerToAll mid.environment mid.held (read d piece).requests more.answer) e more.answers;
      took = more.took;
      leaves = more.leaves;
    } in
    let all : Reported (before_script environment items) new (requests_in bytes ++ (read (read empty_reader bytes).reader piece).requests) o o'' =
    reported_then (requests_in bytes) (read (read empty_reader bytes).reader piece).requests before here in
    record {
      answer = all.answer;
      answers = subst (λ (l : List Request). IsAnswerToAll environment (held_at_first environment items) l all.answer) (sym (after_requests bytes piece)) all.answers;
      took = all.took;
      leaves = all.leaves;
    }

unfoldable pub so_far_more : {environment : Environment} {items : Items} {mid new : EditorState} {reader reader' : ScriptReader} {taken : ℕ} {s s' s'' : InputView} {o o' o'' : OutputView} (piece : List ℕ) (taken' : ℕ)
    → AnsweredSoFar environment items mid reader taken s s' o o' → Gave s' s'' piece → taken' ≡ taken + length piece
    → reader' ≡ (read reader piece).reader → Reported mid new (read reader piece).requests o' o''
    → AnsweredSoFar environment items new reader' taken' s s'' o o''
so_far_more {environment} {items} {mid} {new} {reader} {reader'} {taken} piece taken' before gave size e reported = record {
  bytes = before.bytes ++ piece;
  gave = gave_more before.bytes piece before.gave gave;
  counted = length-append before.bytes piece ∙ ap (λ n. n + length piece) before.counted ∙ sym size;
  reading = e ∙ ap (λ (d : ScriptReader). (read d piece).reader) before.reading ∙ sym (ap (λ (r : Reading). r.reader) (read_append empty_reader before.bytes piece));
  reported = reported_more before.bytes piece before.reading before.reported reported;
}

-- what is said of requests and their answer besides
abbrev pub Said : Environment → Items → (List Request → Answer → Type 0) → List Request → Answer → Type 0
Said environment items P requests a = IsAnswerToAll environment (held_at_first environment items) requests a × P requests a

-- it holds of more requests, if the answer goes on
abbrev pub Lasts : Environment → (List Request → Answer → Type 0) → Type 0
Lasts environment P = (first rest : List Request) (a b : Answer) → P first a → IsAnswerToAll environment a.held rest b → P (first ++ rest) (both a b)

-- so it holds of a piece more
pub said_more : {environment : Environment} {items : Items} {mid new : EditorState} {reader : ScriptReader} {o o' o'' : OutputView} (P : List Request → Answer → Type 0) (bytes piece : List ℕ)
    → Lasts environment P → (e : reader ≡ (read empty_reader bytes).reader) (before : Reported (before_script environment items) mid (requests_in bytes) o o') (more : Reported mid new (read reader piece).requests o' o'')
    → P (requests_in bytes) before.answer → P (requests_in (bytes ++ piece)) (reported_more bytes piece e before more).answer
unfolding reported_more reported_then
said_more {environment} {items} {mid} {new} {reader} P bytes piece lasts e before more p =
    let at : IsAnswerToAll mid.environment mid.held (read (read empty_reader bytes).reader piece).requests more.answer =
    subst (λ (d : ScriptReader). IsAnswerToAll mid.environment mid.held (read d piece).requests more.answer) e more.answers in
    let here : IsAnswerToAll environment before.answer.held (read (read empty_reader bytes).reader piece).requests more.answer =
    subst (λ (x : EditorState). IsAnswerToAll x.environment x.held (read (read empty_reader bytes).reader piece).requests more.answer) before.leaves at in
    subst (λ (l : List Request). P l (both before.answer more.answer)) (sym (after_requests bytes piece))
    (lasts (requests_in bytes) (read (read empty_reader bytes).reader piece).requests before.answer more.answer p here)

-- and of some of them that were reported, the last perhaps in part
said_some : {environment : Environment} {items : Items} {now : EditorState} {o o' o'' : OutputView} (P : List Request → Answer → Type 0) (xs ys : List Request) (f : Fault) → Lasts environment P
    → (before : Reported (before_script environment items) now xs o o') (some : ReportedSome now ys o' o'' f) → P xs before.answer
    → P (reported_some_after xs ys f before some).first (reported_some_after xs ys f before some).answer
unfolding reported_some_after
said_some {environment} {items} P xs ys f lasts before some p =
    let here : IsAnswerToAll environment before.answer.held some.first some.answer = subst (λ (x : EditorState). IsAnswerToAll x.environment x.held some.first some.answer) before.leaves some.answers in
    lasts xs some.first before.answer some.answer p here

-- the same replies, if the requests are written otherwise
abbrev some_same : {old : EditorState} {o o' : OutputView} {f : Fault} (xs ys : List Request) → ys ≡ xs → ReportedSome old xs o o' f → ReportedSome old ys o o' f
some_same xs ys e some = record { first = some.first; rest = some.rest; split = e ∙ some.split; answer = some.answer; answers = some.answers; cut = some.cut }

-- the script's input failed
pub script_failed : {environment : Environment} {items : Items} {now : EditorState} {reader : ScriptReader} {taken : ℕ} {s s' s'' : InputView} {o o' : OutputView} (P : List Request → Answer → Type 0) (f : Fault)
    → (before : AnsweredSoFar environment items now reader taken s s' o o') → P (requests_in before.bytes) before.reported.answer → taken ≤ most_script → GaveAndFailed s' s'' [] → f ≡ whole ReadFault
    → AnswersFront (Said environment items P) s s'' o o' f
script_failed {environment} {items} {now} P f before p few failed e =
    let same : take most_script before.bytes ≡ before.bytes = take_all most_script before.bytes (omega (arith, before.counted)) in
    record {
      bytes = before.bytes;
      within = inl (e, gave_and_failed before.bytes before.gave failed, omega (arith, before.counted));
      answer = before.reported.answer;
      answers = subst (λ (l : List ℕ). Said environment items P (requests_in l) before.reported.answer) (sym same) (before.reported.answers, p);
      took = before.reported.took;
    }

-- what first bytes of a script ask for comes first
front_requests : (front following : List ℕ) → (more : List Request) × (requests_of (front ++ following) ≡ requests_in front ++ more)
front_requests front following =
    let r = read empty_reader (front ++ following) in
    let later = (read (read empty_reader front).reader following).requests in (
      later ++ (read_end r.reader).requests,
      ap (λ l. l ++ (read_end r.reader).requests) (after_requests front following)
          ∙ append_assoc (requests_in front) later (read_end r.reader).requests,
    )

-- the output failed, or memory was refused, in what some first bytes of the script ask for
pub script_broke : (environment : Environment) (items : Items) (P : List Request → Answer → Type 0) (s s' : InputView) (o o' : OutputView) (f : Fault) (front following : List ℕ)
    → Gave s s' (front ++ following) → (some : ReportedSome (before_script environment items) (requests_in front) o o' f) → P some.first some.answer → BreaksOff (Said environment items P) s s' o o' f
script_broke environment items P s s' o o' f front following gave some p =
    let more = front_requests front (following ++ s'.unread) in
    record {
      bytes = front ++ following;
      unread = s'.unread;
      gave = gave;
      left = λ h. refl;
      first = some.first;
      rest = some.rest ++ more.0;
      split = ap requests_of (append_assoc front following s'.unread) ∙ more.1 ∙ ap (λ l. l ++ more.0) some.split ∙ append_assoc some.first some.rest more.0;
      answer = some.answer;
      answers = (some.answers, p);
      cut = inl some.cut;
    }

-- the output failed, or memory was refused, before the script was read
pub greeting_broke : (environment : Environment) (items : Items) {o o' : OutputView} (P : List Request → Answer → Type 0) (s : InputView) (f : Fault) → ((requests : List Request) (a : Answer) → P requests a)
    → ReportedSome (before_script environment items) (begin ∷ []) o o' f → BreaksOff (Said environment items P) s s o o' f
greeting_broke environment items {o} {o'} P s f always some =
    script_broke environment items P s s o o' f [] [] (gave_none s) (some_same (begin ∷ []) (requests_in []) (ap (λ (r : Reading). begin ∷ r.requests) (read_none empty_reader)) some) (always _ _)

-- the same, after what was answered so far
pub broke_after : {environment : Environment} {items : Items} {now : EditorState} {reader : ScriptReader} {taken : ℕ} {s s' s'' : InputView} {o o' o'' : OutputView} (P : List Request → Answer → Type 0) (f : Fault) (part following : List ℕ)
    → Lasts environment P → (before : AnsweredSoFar environment items now reader taken s s' o o') → P (requests_in before.bytes) before.reported.answer → Gave s' s'' (part ++ following) → ReportedSome now (read reader part).requests o' o'' f
    → BreaksOff (Said environment items P) s s'' o o'' f
broke_after {environment} {items} {now} {reader} {taken} {s} {s'} {s''} {o} {o'} {o''} P f part following lasts before p gave some =
    let later : List Request = (read (read empty_reader before.bytes).reader part).requests in
    let here : ReportedSome now later o' o'' f = some_same (read reader part).requests later (sym (ap (λ (d : ScriptReader). (read d part).requests) before.reading)) some in
    let all : ReportedSome (before_script environment items) (requests_in before.bytes ++ later) o o'' f = reported_some_after (requests_in before.bytes) later f before.reported here in
    let whole_gave : Gave s s'' ((before.bytes ++ part) ++ following) = subst (λ (l : List ℕ). Gave s s'' l) (sym (append_assoc before.bytes part following)) (gave_more before.bytes (part ++ following) before.gave gave) in
    script_broke environment items P s s'' o o'' f (before.bytes ++ part) following whole_gave
    (some_same (requests_in before.bytes ++ later) (requests_in (before.bytes ++ part)) (after_requests before.bytes part) all)
    (said_some P (requests_in before.bytes) later f lasts before.reported here p)

-- the script goes past its limit
pub script_too_long : {environment : Environment} {items : Items} {now new : EditorState} {reader : ScriptReader} {taken : ℕ} {s s' s'' : InputView} {o o' o'' : OutputView} (P : List Request → Answer → Type 0) (f : Fault) (piece part : List ℕ)
    → Lasts environment P → (before : AnsweredSoFar environment items now reader taken s s' o o') → P (requests_in before.bytes) before.reported.answer
    → taken ≤ most_script → length piece ≤ 4096 → most_script - taken < length piece → part ≡ take (most_script - taken) piece
    → Gave s' s'' piece → Reported now new (read reader part).requests o' o'' → f ≡ whole TooLong
    → AnswersFront (Said environment items P) s s'' o o'' f
script_too_long {environment} {items} {now} {new} {reader} {taken} {s} {s'} {s''} {o} {o'} {o''} P f piece part lasts before p few size past is gave reported e =
    let all = reported_more before.bytes part before.reading before.reported reported in
    let cut : take most_script (before.bytes ++ piece) ≡ before.bytes ++ part = cut_at before.bytes piece taken before.counted few ∙ ap (λ l. before.bytes ++ l) (sym is) in
    record {
      bytes = before.bytes ++ piece;
      within = inr (e, gave_more before.bytes piece before.gave gave, omega (arith, length-append before.bytes piece, before.counted), omega (arith, length-append before.bytes piece, before.counted));
      answer = all.answer;
      answers = subst (λ (l : List ℕ). Said environment items P (requests_in l) all.answer) (sym cut) (all.answers, said_more P before.bytes part lasts before.reading before.reported reported p);
      took = all.took;
    }
  where
    cut_at : (xs ys : List ℕ) (n : ℕ) → length xs ≡ n → n ≤ most_script → take most_script (xs ++ ys) ≡ xs ++ take (most_script - n) ys
    cut_at xs ys n e h = let all : most_script ≡ length xs + (most_script - n) = omega arith in ap (λ k. take k (xs ++ ys)) all ∙ take-append-add xs ys (most_script - n)

-- nothing more was given, at the end
pub gave_end : {a b : InputView} → Gave a b [] → IsAtEnd a → GaveAll a b []
gave_end gave end = record { gave = gave; at_end = λ h. sym (gave.moved h) ∙ end h }

-- all was given
gave_whole : {a b c : InputView} (bytes : List ℕ) → Gave a b bytes → GaveAll b c [] → GaveAll a c bytes
gave_whole {a} {b} {c} bytes before end = record {
  gave = subst (λ (l : List ℕ). Gave a c l) (append-nil bytes) (gave_more bytes [] before end.gave);
  at_end = λ h. end.at_end (before.as_honest h);
}

-- an answer to what the end asks for, from where the script was read to
last_answers : {environment : Environment} {items : Items} {now : EditorState} {reader : ScriptReader} {taken : ℕ} {s s' : InputView} {o o' : OutputView} (before : AnsweredSoFar environment items now reader taken s s' o o') (answer : Answer)
    → IsAnswerToAll now.environment now.held (read_end reader).requests answer → IsAnswerToAll environment before.reported.answer.held (read_end (read empty_reader before.bytes).reader).requests answer
last_answers {environment} {items} {now} {reader} before answer answers =
    let at : IsAnswerToAll now.environment now.held (read_end (read empty_reader before.bytes).reader).requests answer =
    subst (λ (d : ScriptReader). IsAnswerToAll now.environment now.held (read_end d).requests answer) before.reading answers in
    subst (λ (x : EditorState). IsAnswerToAll x.environment x.held (read_end (read empty_reader before.bytes).reader).requests answer) before.reported.leaves at

-- the script came to its end, and its last replies were sent
ended_sent : {environment : Environment} {items : Items} {now : EditorState} {reader : ScriptReader} {taken : ℕ} {s s' s'' : InputView} {o o' o'' : OutputView} (P : List Request → Answer → Type 0) (refused : Bool)
    → Lasts environment P → (before : AnsweredSoFar environment items now reader taken s s' o o') → P (requests_in before.bytes) before.reported.answer
    → taken ≤ most_script → GaveAll s' s'' [] → Sent now (read_end reader).requests o' o'' refused
    → AnswersScript (Said environment items P) s s'' o o'' refused
ended_sent {environment} {items} {now} {reader} {taken} {s} {s'} {s''} {o} {o'} {o''} P refused lasts before p few gave sent =
    let last = (read_end (read empty_reader before.bytes).reader).requests in
    let a = before.reported.answer in
    let here = last_answers before sent.answer sent.answers in
    record {
      script = before.bytes;
      within = omega (arith, before.counted);
      gave = gave_whole before.bytes before.gave gave;
      answer = both a sent.answer;
      answers = (answers_then environment (held_at_first environment items) (requests_in before.bytes) last a sent.answer before.reported.answers here, lasts (requests_in before.bytes) last a sent.answer p here);
      sent = left_more a.reply sent.answer.reply before.reported.took sent.sent;
      flag = sent.flag ∙ ap (λ (x : EditorState). x.refused || sent.answer.refused) before.reported.leaves;
    }

-- the script came to its end, and its last replies were cut off
ended_cut : {environment : Environment} {items : Items} {now : EditorState} {reader : ScriptReader} {taken : ℕ} {s s' s'' : InputView} {o o' o'' : OutputView} (P : List Request → Answer → Type 0) (f : Fault)
    → Lasts environment P → (before : AnsweredSoFar environment items now reader taken s s' o o') → P (requests_in before.bytes) before.reported.answer
    → GaveAll s' s'' [] → ReportedSome now (read_end reader).requests o' o'' f
    → BreaksOff (Said environment items P) s s'' o o'' f
ended_cut {environment} {items} {now} {reader} {taken} {s} {s'} {s''} {o} {o'} {o''} P f lasts before p gave ends =
    let last : List Request = (read_end (read empty_reader before.bytes).reader).requests in
    let some : ReportedSome now last o' o'' f = some_same (read_end reader).requests last (sym (ap (λ (d : ScriptReader). (read_end d).requests) before.reading)) ends in
    let all = reported_some_after (requests_in before.bytes) last f before.reported some in
    record {
      bytes = before.bytes;
      unread = [];
      gave = (gave_whole before.bytes before.gave gave).gave;
      left = (gave_whole before.bytes before.gave gave).at_end;
      first = all.first;
      rest = all.rest;
      split = ap requests_of (append-nil before.bytes) ∙ all.split;
      answer = all.answer;
      answers = (all.answers, said_some P (requests_in before.bytes) last f lasts before.reported some p);
      cut = inl all.cut;
    }

-- the script came to its end, and the flush failed
ended_unflushed : {environment : Environment} {items : Items} {now : EditorState} {reader : ScriptReader} {taken : ℕ} {s s' s'' : InputView} {o o' o'' : OutputView} (P : List Request → Answer → Type 0) (f : Fault)
    → Lasts environment P → (before : AnsweredSoFar environment items now reader taken s s' o o') → P (requests_in before.bytes) before.reported.answer
    → GaveAll s' s'' [] → FlushFails now (read_end reader).requests o' o'' f
    → BreaksOff (Said environment items P) s s'' o o'' f
ended_unflushed {environment} {items} {now} {reader} {taken} {s} {s'} {s''} {o} {o'} {o''} P f lasts before p gave failed =
    let last = (read_end (read empty_reader before.bytes).reader).requests in
    let a = before.reported.answer in
    let here = last_answers before failed.answer failed.answers in
    record {
      bytes = before.bytes;
      unread = [];
      gave = (gave_whole before.bytes before.gave gave).gave;
      left = (gave_whole before.bytes before.gave gave).at_end;
      first = requests_of before.bytes;
      rest = [];
      split = ap requests_of (append-nil before.bytes) ∙ sym (append-nil (requests_of before.bytes));
      answer = both a failed.answer;
      answers = (answers_then environment (held_at_first environment items) (requests_in before.bytes) last a failed.answer before.reported.answers here, lasts (requests_in before.bytes) last a failed.answer p here);
      cut = inr (failed.fault, left_more a.reply failed.answer.reply before.reported.took failed.failed);
    }

-- the script came to its end
pub script_ended : {environment : Environment} {items : Items} {now : EditorState} {reader : ScriptReader} {taken : ℕ} {s s' s'' : InputView} {o o' : OutputView} (P : List Request → Answer → Type 0) (o'' : OutputView) (r : Result Bool Fault)
    → Lasts environment P → (before : AnsweredSoFar environment items now reader taken s s' o o') → P (requests_in before.bytes) before.reported.answer
    → taken ≤ most_script → GaveAll s' s'' [] → Finishes now (read_end reader).requests o' o'' r
    → EndsScript (Said environment items P) s s'' o o'' r
script_ended P o'' (Ok refused) lasts before p few gave ends = ended_sent P refused lasts before p few gave ends
script_ended P o'' (Err f) lasts before p few gave (inl some) = inl (ended_cut P f lasts before p gave some)
script_ended P o'' (Err f) lasts before p few gave (inr failed) = inl (ended_unflushed P f lasts before p gave failed)

-- a fault that is passed on
pub script_err : {answered : List Request → Answer → Type 0} {s s' : InputView} {o o' : OutputView} (f : Fault) (r : Result Bool Fault) → IsErrAnd r (λ y. y ≡ f) → BreaksOff answered s s' o o' f
    → EndsScript answered s s' o o' r
script_err f (Ok x) is broke = absurd is
script_err {answered} {s} {s'} {o} {o'} f (Err y) is broke = inl (subst (λ (g : Fault). BreaksOff answered s s' o o' g) (sym is) broke)

-- what is said of requests and their answer may be said in other words

script_as : {A B : List Request → Answer → Type 0} {s s' : InputView} {o o' : OutputView} {refused : Bool} → ((requests : List Request) (a : Answer) → A requests a → B requests a)
    → AnswersScript A s s' o o' refused → AnswersScript B s s' o o' refused
script_as weaker x = record { script = x.script; within = x.within; gave = x.gave; answer = x.answer; answers = weaker (requests_of x.script) x.answer x.answers; sent = x.sent; flag = x.flag }

broke_as : {A B : List Request → Answer → Type 0} {s s' : InputView} {o o' : OutputView} {f : Fault} → ((requests : List Request) (a : Answer) → A requests a → B requests a)
    → BreaksOff A s s' o o' f → BreaksOff B s s' o o' f
broke_as weaker x = record {
  bytes = x.bytes;
  unread = x.unread;
  gave = x.gave;
  left = x.left;
  first = x.first;
  rest = x.rest;
  split = x.split;
  answer = x.answer;
  answers = weaker x.first x.answer x.answers;
  cut = x.cut;
}

front_as : {A B : List Request → Answer → Type 0} {s s' : InputView} {o o' : OutputView} {f : Fault} → ((requests : List Request) (a : Answer) → A requests a → B requests a)
    → AnswersFront A s s' o o' f → AnswersFront B s s' o o' f
front_as weaker x = record { bytes = x.bytes; within = x.within; answer = x.answer; answers = weaker (requests_in (take most_script x.bytes)) x.answer x.answers; took = x.took }

pub ends_as : {A B : List Request → Answer → Type 0} (s s' : InputView) (o o' : OutputView) (r : Result Bool Fault) → ((requests : List Request) (a : Answer) → A requests a → B requests a)
    → EndsScript A s s' o o' r → EndsScript B s s' o o' r
ends_as s s' o o' (Ok refused) weaker x = script_as weaker x
ends_as s s' o o' (Err f) weaker (inl x) = inl (broke_as weaker x)
ends_as s s' o o' (Err f) weaker (inr x) = inr (front_as weaker x)
