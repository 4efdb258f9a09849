-- Session answers: what contracts see of a session as what answers requests.
-- Source: this project's own.
use Rattle.std.specs.Prelude.{ℕ, Bool, List}
use Rattle.stab_run.specs.Runs.{State, run_of}
use Rattle.stab_session.specs.Sessions.{SessionState}
use Rattle.stab_script.specs.Changes.{bookmark_shown}
use Rattle.stab_script.specs.Scripts.{Environment, Held, Answer, Shows}
use Rattle.stab_script.specs.declared.changes.BookmarkedBits.{BookmarkedBits}
use Rattle.stab_script.specs.declared.request.Show.{Show}

-- the qubits and coins of a session, and whether its script is counted
abbrev pub session_environment : {C : Type 0} → (C → ℕ → Bool) → (counted : Bool) → SessionState C → Environment
session_environment sequence counted s = record { counted = counted; qubits = s.qubits; coins = sequence s.coins }

-- the run of a session
abbrev pub session_run : {C : Type 0} → (C → ℕ → Bool) → SessionState C → State
session_run sequence s = run_of s.qubits (sequence s.coins) s.items

-- what is held: the items of a session, and a bookmark
abbrev pub held_of : {C : Type 0} → SessionState C → BookmarkedBits → Held
held_of s m = record { items = s.items; bookmark = bookmark_shown m }

-- what is shown of a session
abbrev pub ShowsOf : {C : Type 0} → (C → ℕ → Bool) → SessionState C → Show → List ℕ → Type 0
ShowsOf sequence s what text = Shows s.qubits (session_run sequence s) s.items what text

-- an answer
abbrev pub answered : Held → List ℕ → Bool → Answer
answered held reply refused = record { held = held; reply = reply; refused = refused }
