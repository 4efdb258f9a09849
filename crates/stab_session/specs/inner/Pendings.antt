-- Pending edits: a circuit is edited before it is run, and the edit is taken back if the run is refused memory.
-- Source: this project's own.
use Rattle.std.specs.Prelude.{◌≡◌, ℕ, List, Option, None, Result, Ok}
use Rattle.stab_io.specs.declared.refusal.Refusal.{Refusal}
use Rattle.stab_items.specs.Items.{OneItem, listed}
use Rattle.stab_items.specs.Steps.{unroll, observables_of, check_within}
use Rattle.stab_items.specs.Paths.{Path}
use Rattle.stab_items.specs.Edits.{edited, list_refusal, verdict, taken, put_item, first_changed, old_end, new_end}
use Rattle.stab_items.specs.declared.edit.Edit.{Edit}
use Rattle.stab_items.specs.declared.edit.Span.{Span}
use Rattle.stab_items.specs.declared.edit.Edit.TheVariants.{Insert, Replace, Delete}
use Rattle.stab_session.specs.declared.pending.Pending.{Pending}
use Rattle.stab_session.specs.declared.pending.Pending.TheVariants.{Inserted, Replaced, Deleted}
use Rattle.stab_run.specs.Spans.{IsSpan}

-- where the edit was made
abbrev pub pending_path : Pending → Path
pending_path (Inserted path) = path
pending_path (Replaced path old) = path
pending_path (Deleted path old) = path

-- the pending edit is this one
abbrev pub IsPendingOf : Edit → Pending → Type 0
IsPendingOf (Insert at x) p = p ≡ Inserted at
IsPendingOf (Replace at x) p = (old : OneItem) × (p ≡ Replaced at old)
IsPendingOf (Delete at) p = (old : OneItem) × (p ≡ Deleted at old)

-- the items after the edit is taken back
abbrev pub taken_back : Pending → List OneItem → Result (List OneItem) Refusal
taken_back (Inserted path) items = edited (Delete path) items
taken_back (Replaced path old) items = edited (Replace path old) items
taken_back (Deleted path old) items = edited (Replace path old) items

-- the item that the edit put in, and that comes back with it
abbrev pub item_back : Pending → List OneItem → Option OneItem
item_back (Inserted path) items = taken (Delete path) items
item_back (Replaced path old) items = taken (Replace path old) items
item_back (Deleted path old) items = None

-- the items after the edit is finished: an item that is to be deleted is replaced until then by one that stands for nothing
abbrev pub finished_items : Pending → List OneItem → Result (List OneItem) Refusal
finished_items (Inserted path) items = Ok items
finished_items (Replaced path old) items = Ok items
finished_items (Deleted path old) items = edited (Delete path) items

-- two lists of items have the same runs
pub record HaveSameRuns (xs ys : List OneItem) : Type 0 where
  pub steps : unroll (listed xs) ≡ unroll (listed ys)
  pub observables : observables_of (listed xs) ≡ observables_of (listed ys)

-- the span is where the steps that there are now differ from the old ones, and ends where the edit ends in the old items and in the
-- new ones
pub record IsSpanNow (edit : Edit) (old now new : List OneItem) (s : Span) : Type 0 where
  pub span : IsSpan (unroll (listed old)) (unroll (listed now)) s
  pub first : s.first ≡ first_changed edit old
  pub old_end : s.old_end ≡ old_end edit old
  pub new_end : s.new_end ≡ new_end edit new

-- an edit that nothing refuses on n qubits was begun: it goes back to the old items, with what it put in, and ahead to the new
-- ones, which have the same runs as those that there are now
pub record IsBegun (n : ℕ) (edit : Edit) (old now : List OneItem) (p : Pending) (s : Span) : Type 0 where
  pub same : IsPendingOf edit p
  pub new : List OneItem
  pub edited : edited edit old ≡ Ok new
  pub accepted : verdict n edit old ≡ None
  pub ahead : finished_items p now ≡ Ok new
  pub ahead_allowed : list_refusal (finished_items p now) ≡ None
  pub back : taken_back p now ≡ Ok old
  pub back_allowed : list_refusal (taken_back p now) ≡ None
  pub item : item_back p now ≡ put_item edit
  pub same_runs : HaveSameRuns now new
  pub checked : check_within n (listed now) ≡ None
  pub span : IsSpanNow edit old now new s
