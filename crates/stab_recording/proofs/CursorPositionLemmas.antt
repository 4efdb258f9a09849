-- Checkpoints: one of those that all are so, how long its lists are, and the one that was saved last.
use Rattle.stab_recording.proofs.Names.{◌≡◌, ℕ, refl, subst, List, [], ◌∷◌, ◌++◌, All, Some, slice_get, All-get_or, slice_get_within, get_or_from_slice_get, TableauState, Checkpoint, last_state}

-- what holds for all checkpoints holds for the one with a number
pub at-number : {X : Type 0} (P : X → Type 0) (xs : List X) (k : ℕ) (x : X) → slice_get xs k ≡ Some x → All P xs → P x
at-number P xs k x is all = subst P (get_or_from_slice_get xs k x x is) (All-get_or P xs k x (slice_get_within xs k x is) all)

-- the last of some checkpoints is the one that was saved last
pub last-pushed : (t : TableauState) (cs : List Checkpoint) (c : Checkpoint) → last_state t (cs ++ c ∷ []) ≡ c.tableau
last-pushed t [] c = refl
last-pushed t (b ∷ cs) c = last-pushed b.tableau cs c
