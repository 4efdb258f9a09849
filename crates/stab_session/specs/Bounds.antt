-- Bounds: what an edit of a session may cost, in steps that are carried out and checkpoints of the state that are stored.
-- Source: this project's own.
use Rattle.std.specs.Prelude.{ℕ, ◌+◌, ◌-◌, ◌*◌, ◌/◌, Bool, List, [], ◌∷◌, Option, Some, None, Result, Ok, Err, length, take, drop, slice_get}
use Rattle.stab_io.specs.declared.refusal.Refusal.{Refusal}
use Rattle.stab_items.specs.Items.{OneItem, entries, listed}
use Rattle.stab_items.specs.Steps.{unroll, observables_of}
use Rattle.stab_items.specs.Edits.{edit_path, edited, verdict, first_changed, old_end, new_end, put_item}
use Rattle.stab_items.specs.declared.edit.Edit.{Edit}
use Rattle.stab_run.specs.Runs.{run, start}
use Rattle.stab_run.specs.Points.{Point, point_of}
use Rattle.stab_run.specs.Laws.{AgreeAt}
use Rattle.stab_session.specs.Counts.{AgreeAsFarAsLooked, IsCounted}
use Rattle.stab_session.specs.Sessions.{SessionState}

-- how many steps a session's circuit has
abbrev pub number_of_steps : {C : Type 0} → SessionState C → ℕ
number_of_steps s = length (unroll s.items)

-- at most this many checkpoints are stored: two for each stride of steps, and two more
abbrev pub most_checkpoints : {C : Type 0} → SessionState C → ℕ
most_checkpoints s = 2 * (number_of_steps s / s.stride) + 2

-- the steps after the changed place, and a stride before it: on its way an edit goes past no more of them
abbrev pub steps_from_change : {C : Type 0} → Edit → SessionState C → SessionState C → ℕ
steps_from_change e old new = (number_of_steps new - first_changed e (entries old.items)) + new.stride

-- besides, frames go in vain over no more than three times the steps after the changed place
abbrev pub most_tried : {C : Type 0} → Edit → SessionState C → SessionState C → ℕ
most_tried e old new = 3 * (number_of_steps new - first_changed e (entries old.items))

-- the steps of an edited list after its first ones, as many as this, and a stride; none if there is no such list
abbrev pub steps_after : ℕ → ℕ → Result (List OneItem) Refusal → ℕ
steps_after first K (Ok items) = (length (unroll (listed items)) - first) + K
steps_after first K (Err refusal) = 0

-- this many, and none if a verdict refuses
abbrev pub unless_refused : Option Refusal → ℕ → ℕ
unless_refused None count = count
unless_refused (Some refusal) count = 0

-- a refused edit asks for no more coins: for none if the verdict refuses it; if it is refused memory, for as many as the
-- edited circuit has steps after the changed place, and a stride of them
abbrev pub most_refused_asks : {C : Type 0} → Edit → SessionState C → ℕ
most_refused_asks e s =
    unless_refused (verdict s.qubits e (entries s.items))
    (steps_after (first_changed e (entries s.items)) s.stride (edited e (entries s.items)))

-- how many steps an item has, or none if there is no item
abbrev pub steps_of_item : Option OneItem → ℕ
steps_of_item None = 0
steps_of_item (Some x) = length (unroll (listed (x ∷ [])))

-- how many steps an edit puts in: those of its item, none if it takes one out; inside blocks, those of the outermost block
-- around its place, as the edit leaves it
abbrev pub steps_put : {C : Type 0} → Edit → SessionState C → ℕ
steps_put e new = steps_of_item (elim (edit_path e).blocks [ [] ↦ put_item e | b ∷ bs ↦ slice_get (entries new.items) b ])

-- these steps, and two strides: if the runs agree some steps after what an edit changed, it goes past no more than these and the steps
-- between
abbrev pub steps_near_change : {C : Type 0} → Edit → SessionState C → ℕ
steps_near_change e new = steps_put e new + 2 * new.stride

-- where the run of a session's first steps ends, this many
abbrev pub point_at : {C : Type 0} → (C → ℕ → Bool) → SessionState C → ℕ → Point
point_at sequence s k = point_of (run s.qubits (sequence s.coins) (take k (unroll s.items)) (start (observables_of s.items)))

-- this many steps after what an edit took out and what it put in, the old run and the new one have the same group, number of the next
-- coin and records
abbrev pub AgreeAfter : {C : Type 0} → (C → ℕ → Bool) → Edit → SessionState C → SessionState C → ℕ → Type 0
AgreeAfter sequence e old new far =
    AgreeAt new.qubits (point_at sequence old (old_end e (entries old.items) + far))
    (point_at sequence new (new_end e (entries new.items) + far))

-- this many steps after they have the same group, number of the next coin unless none decides any more, and records as far back as the
-- steps from there on look
abbrev pub AgreeBackAfter : {C : Type 0} → (C → ℕ → Bool) → Edit → SessionState C → SessionState C → ℕ → Type 0
AgreeBackAfter sequence e old new far =
    AgreeAsFarAsLooked new.qubits (sequence old.coins) (drop (new_end e (entries new.items) + far) (unroll new.items))
    (point_at sequence old (old_end e (entries old.items) + far)) (point_at sequence new (new_end e (entries new.items) + far))

-- an edit of a session went past this many steps, carried out or not: from the last old checkpoint at or before the first changed step
-- to one after the edit at which the runs agree as far back as the steps after look, or to the end
abbrev pub IsCountOf : {C : Type 0} → (C → ℕ → Bool) → Edit → SessionState C → SessionState C → ℕ → Type 0
IsCountOf sequence e old new applied =
    IsCounted (AgreeAfter sequence e old new) (AgreeBackAfter sequence e old new) old.checkpoints (first_changed e (entries old.items))
    (old_end e (entries old.items)) (new_end e (entries new.items)) (number_of_steps new) applied
