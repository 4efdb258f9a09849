-- Laws of reports: requests that calls answer one after another.
use Rattle.stab_script.proofs.Names.{◌≡◌, ℕ, Bool, true, false, ◌||◌, List, [], ◌∷◌, ◌++◌, refl, sym, ap, ◌∙◌, subst, append_assoc, Result, Ok, Err, inl, inr, append-nil, IsErrAnd, OutputView, Took, TookAndFailed, CutOff, WriteFault, Refusal, Fault, whole, took_none, took_more, took_and_failed, Environment, Request, Held, Answer, IsAnswer, IsAnswerToAll, both, replying, EditorState, after_answer, Reported, ReportedSome, AnswersRequests}

pub or_assoc : (a b c : Bool) → (a || b) || c ≡ a || (b || c)
or_assoc true b c = refl
or_assoc false b c = refl

or_false : (a : Bool) → a || false ≡ a
or_false true = refl
or_false false = refl

abbrev answer_with : Held → List ℕ → Bool → Answer
answer_with held reply refused = record { held = held; reply = reply; refused = refused }

-- answers one after another, in either grouping
pub both_assoc : (a b c : Answer) → both (both a b) c ≡ both a (both b c)
both_assoc a b c =
    ap (λ l. answer_with c.held l ((a.refused || b.refused) || c.refused)) (append_assoc a.reply b.reply c.reply)
    ∙ ap (λ r. answer_with c.held (a.reply ++ (b.reply ++ c.reply)) r) (or_assoc a.refused b.refused c.refused)

-- an answer and then none
pub both_nothing : (a : Answer) → both a (replying a.held []) ≡ a
both_nothing a =
    ap (λ l. answer_with a.held l (a.refused || false)) (append-nil a.reply)
    ∙ ap (λ r. answer_with a.held a.reply r) (or_false a.refused)

-- answers to first requests and to those after them
pub answers_then : (s : Environment) (held : Held) (xs ys : List Request) (a b : Answer)
    → IsAnswerToAll s held xs a → IsAnswerToAll s a.held ys b → IsAnswerToAll s held (xs ++ ys) (both a b)
answers_then s held [] ys a b p q =
    let here : IsAnswerToAll s held ys b = subst (λ (x : Answer). IsAnswerToAll s x.held ys b) p q in
    subst (λ (x : Answer). IsAnswerToAll s held ys (both x b)) (sym p) here
answers_then s held (r ∷ xs) ys a b p q =
    let later : IsAnswerToAll s p.1.held ys b = subst (λ (x : Answer). IsAnswerToAll s x.held ys b) p.4 q in
    (p.0, both p.1 b, p.2, answers_then s p.0.held xs ys p.1 b p.3 later, ap (λ x. both x b) p.4 ∙ both_assoc p.0 p.1 b)

-- one request alone
pub answers_one : (s : Environment) (held : Held) (r : Request) (a : Answer) → IsAnswer s held r a → IsAnswerToAll s held (r ∷ []) a
answers_one s held r a is = (a, replying a.held [], is, refl, sym (both_nothing a))

abbrev pub progress_with : Environment → Held → Bool → EditorState
progress_with environment held refused = record { environment = environment; held = held; refused = refused }

-- one request was answered
pub reported_one : {o o' : OutputView} (old : EditorState) (environment : Environment) (r : Request) (a : Answer) → environment ≡ old.environment → IsAnswer old.environment old.held r a → Took o o' a.reply
    → Reported old (progress_with environment a.held (old.refused || a.refused)) (r ∷ []) o o'
reported_one old environment r a preserved is took = record {
  answer = a;
  answers = answers_one old.environment old.held r a is;
  took = took;
  leaves = ap (λ s. progress_with s a.held (old.refused || a.refused)) preserved;
}

-- the reply to one request was cut off
pub reported_one_cut : {o o' : OutputView} (old : EditorState) (r : Request) (a : Answer) (e : Refusal) (f : Fault) → IsAnswer old.environment old.held r a → f ≡ whole e → (e ≡ WriteFault) × TookAndFailed o o' a.reply
    → ReportedSome old (r ∷ []) o o' f
reported_one_cut old r a e f is same failed = record {
  first = r ∷ [];
  rest = [];
  split = refl;
  answer = a;
  answers = answers_one old.environment old.held r a is;
  cut = inl (same ∙ ap whole failed.0, failed.1);
}

-- nothing was asked for
pub reported_none : (old : EditorState) (o : OutputView) → Reported old old [] o o
reported_none old o = record {
  answer = replying old.held [];
  answers = refl;
  took = took_none o;
  leaves = sym (ap (λ b. progress_with old.environment old.held b) (or_false old.refused));
}

-- first some, then others
unfoldable pub reported_then : {a b c : EditorState} {o p q : OutputView} (xs ys : List Request) → Reported a b xs o p → Reported b c ys p q → Reported a c (xs ++ ys) o q
reported_then {a} {b} {c} {o} {p} {q} xs ys first next =
    let here : IsAnswerToAll a.environment first.answer.held ys next.answer = subst (λ (x : EditorState). IsAnswerToAll x.environment x.held ys next.answer) first.leaves next.answers in
    record {
      answer = both first.answer next.answer;
      answers = answers_then a.environment a.held xs ys first.answer next.answer first.answers here;
      took = took_more first.answer.reply next.answer.reply first.took next.took;
      leaves = next.leaves ∙ ap (λ x. after_answer x next.answer) first.leaves ∙ ap (λ r. progress_with a.environment next.answer.held r) (or_assoc a.refused first.answer.refused next.answer.refused);
    }

-- what is cut off after some replies
pub cut_after : {o p q : OutputView} (xs ys : List ℕ) (f : Fault) → Took o p xs → CutOff p q ys f → CutOff o q (xs ++ ys) f
cut_after xs ys f before (inl failed) = inl (failed.0, took_and_failed xs ys before failed.1)
cut_after xs ys f before (inr (memory, some)) = inr (memory, (xs ++ some.0, some.1, ap (λ l. xs ++ l) some.2 ∙ sym (append_assoc xs some.0 some.1), took_more xs some.0 before some.3))

-- first some, and then the others are cut off
unfoldable pub reported_some_after : {a b : EditorState} {o p q : OutputView} (xs ys : List Request) (f : Fault) → Reported a b xs o p → ReportedSome b ys p q f → ReportedSome a (xs ++ ys) o q f
reported_some_after {a} {b} xs ys f before some =
    let here : IsAnswerToAll a.environment before.answer.held some.first some.answer = subst (λ (x : EditorState). IsAnswerToAll x.environment x.held some.first some.answer) before.leaves some.answers in
    record {
      first = xs ++ some.first;
      rest = some.rest;
      split = ap (λ l. xs ++ l) some.split ∙ sym (append_assoc xs some.first some.rest);
      answer = both before.answer some.answer;
      answers = answers_then a.environment a.held xs some.first before.answer some.answer before.answers here;
      cut = cut_after before.answer.reply some.answer.reply f before.took some.cut;
    }

-- what is cut off within the front is cut off within the whole
pub reported_some_within : {a : EditorState} {o p : OutputView} (xs ys : List Request) (f : Fault) → ReportedSome a xs o p f → ReportedSome a (xs ++ ys) o p f
reported_some_within {a} xs ys f some = record {
  first = some.first;
  rest = some.rest ++ ys;
  split = ap (λ l. l ++ ys) some.split ∙ append_assoc some.first some.rest ys;
  answer = some.answer;
  answers = some.answers;
  cut = some.cut;
}

-- a fault that is passed on
pub reports_err : {T : Type 0} (old new : EditorState) (requests : List Request) (o o' : OutputView) (f : Fault) (r : Result T Fault) → IsErrAnd r (λ y. y ≡ f) → ReportedSome old requests o o' f → AnswersRequests old new requests o o' r
reports_err old new requests o o' f (Ok x) is some = absurd is
reports_err old new requests o o' f (Err y) is some = subst (λ g. ReportedSome old requests o o' g) (sym is) some

-- first some, then a call that gives others
pub reports_after : {T : Type 0} {a b : EditorState} {o p : OutputView} (c : EditorState) (q : OutputView) (xs ys : List Request) (r : Result T Fault) → Reported a b xs o p → AnswersRequests b c ys p q r → AnswersRequests a c (xs ++ ys) o q r
reports_after c q xs ys (Ok x) first next = reported_then xs ys first next
reports_after c q xs ys (Err f) first next = reported_some_after xs ys f first next
