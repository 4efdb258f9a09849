-- Editors: what a call leaves that answers requests, one after another, and writes each reply.
-- Source: this project's own.
use Rattle.std.specs.Prelude.{◌≡◌, Bool, ◌||◌, List, ◌++◌, ◌⊎◌, Result, Ok, Err}
use Rattle.stab_io.specs.Devices.{OutputView, Took, CutOff, TookAndFlushed, TookAndFlushFailed}
use Rattle.stab_io.specs.declared.refusal.Fault.{Fault}
use Rattle.stab_io.specs.declared.refusal.Refusal.TheVariants.{WriteFault}
use Rattle.stab_io.specs.Refusals.{whole}
use Rattle.stab_script.specs.declared.editor.Editor.{Editor}
use Rattle.stab_script.specs.Scripts.{Environment, Request, Held, Answer, IsAnswerToAll}

-- what answers are made from: the environment, what is held now, and whether a line was refused so far
pub record EditorState : Type 0 where
  pub environment : Environment
  pub held : Held
  pub refused : Bool

-- the progress of an editor
abbrev pub progress : {A : Type 0} → (A → Environment) → (A → Held) → Editor A → EditorState
progress environment_of held_of e = record { environment = environment_of e.answers; held = held_of e.answers; refused = e.refused }

-- the progress after an answer
abbrev pub after_answer : EditorState → Answer → EditorState
after_answer old a = record { environment = old.environment; held = a.held; refused = old.refused || a.refused }

-- the requests were answered, and the replies written
pub record Reported (old new : EditorState) (requests : List Request) (o o' : OutputView) : Type 0 where
  pub answer : Answer
  pub answers : IsAnswerToAll old.environment old.held requests answer
  pub took : Took o o' answer.reply
  pub leaves : new ≡ after_answer old answer

-- the replies to some first requests were written, or cut off: the output failed, or the answer is 20
pub record ReportedSome (old : EditorState) (requests : List Request) (o o' : OutputView) (f : Fault) : Type 0 where
  pub first : List Request
  pub rest : List Request
  pub split : requests ≡ first ++ rest
  pub answer : Answer
  pub answers : IsAnswerToAll old.environment old.held first answer
  pub cut : CutOff o o' answer.reply f

-- a call answers requests
abbrev pub AnswersRequests : {T : Type 0} → EditorState → EditorState → List Request → OutputView → OutputView → Result T Fault → Type 0
AnswersRequests old new requests o o' (Ok x) = Reported old new requests o o'
AnswersRequests old new requests o o' (Err f) = ReportedSome old requests o o' f

-- the requests were answered and the replies written, and the one flush after them failed
pub record FlushFails (old : EditorState) (requests : List Request) (o o' : OutputView) (f : Fault) : Type 0 where
  pub answer : Answer
  pub answers : IsAnswerToAll old.environment old.held requests answer
  pub fault : f ≡ whole WriteFault
  pub failed : TookAndFlushFailed o o' answer.reply

-- the requests were answered, and the replies written and flushed once
pub record Sent (old : EditorState) (requests : List Request) (o o' : OutputView) (refused : Bool) : Type 0 where
  pub answer : Answer
  pub answers : IsAnswerToAll old.environment old.held requests answer
  pub sent : TookAndFlushed o o' answer.reply
  pub flag : refused ≡ old.refused || answer.refused

-- a call answers the last requests, flushes, and says whether a line was refused
abbrev pub Finishes : EditorState → List Request → OutputView → OutputView → Result Bool Fault → Type 0
Finishes old requests o o' (Ok refused) = Sent old requests o o' refused
Finishes old requests o o' (Err f) = ReportedSome old requests o o' f ⊎ FlushFails old requests o o' f
