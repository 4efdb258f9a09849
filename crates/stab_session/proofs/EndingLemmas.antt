-- Endings: how a frame that was propagated past checkpoints of a run ended, said at the point where it did.
use Rattle.stab_session.proofs.Names.{◌≡◌, ℕ, zero, suc, ◌+◌, ◌-◌, ◌≤◌, sym, ◌∙◌, ap, subst, Bool, ◌⊎◌, inl, inr, List, [], ◌∷◌, All, Option, Some, None, length, take, drop, slice_get, arith, IfSome, All-take, slice_get_within, get_or_from_slice_get, take-add, TableauState, member, IsConjugated, Step, Point, origin, point_after, StepFits, after-append, PropagationState, frame_at, IsGone, group-origin, conjugated-blank, conjugated-stabiliser, Checkpoint, IsCheckpoint, AreInOrder, IsDropped, Ending, over, gone, dropped}

-- a frame flips no sign at a point, if it goes on without letters; from there on it is gone, whoever looks back no further than the lookback window
pub record IsEnded (n window : ℕ) (a : Point) (last new : PropagationState) : Type 0 where
  pub quiet : IsConjugated n last.letters (member a.trace) (member a.trace)
  pub blank : (base : ℕ) → IsGone n window (frame_at base new)

-- points of a run after a step of it
pub rest-point : (n : ℕ) (coins : ℕ → Bool) (xs back : List Step) (i : ℕ) → drop i xs ≡ back → (m : ℕ)
    → point_after n coins (take (i + m) xs) origin ≡ point_after n coins (take m back) (point_after n coins (take i xs) origin)
rest-point n coins xs back i following m =
    ap (λ zs. point_after n coins zs origin) (take-add i m xs)
    ∙ after-append n coins (take i xs) (take m (drop i xs)) origin
    ∙ ap (λ zs. point_after n coins (take m zs) (point_after n coins (take i xs) origin)) following

-- checkpoints in order are after where they begin
pub order-from : (from end : ℕ) (cs : List Checkpoint) (j : ℕ) → AreInOrder from end cs → IfSome (slice_get cs j) (λ c. from ≤ c.step)
order-from from end [] j order = tt
order-from from end (c ∷ cs) zero order = order.0
order-from from end (c ∷ cs) (suc j) order = below (slice_get cs j) (order-from c.step end cs j order.1)
  where
    below : (found : Option Checkpoint) → IfSome found (λ d. c.step ≤ d.step) → IfSome found (λ d. from ≤ d.step)
    below None h = tt
    below (Some d) h = omega (arith, order.0, h)

-- what it flipped is what it had flipped
pub ending-flips : (n window : ℕ) (back : List Step) (from steps : ℕ) (stored : List Checkpoint) (conjugated : List TableauState) (last new : PropagationState)
    → Ending n window back from steps stored conjugated last new → new.flips ≡ last.flips
ending-flips n window back from steps stored conjugated last new (over all same is) = ap (λ (w : PropagationState). w.flips) is
ending-flips n window back from steps stored conjugated last new (gone none is) = ap (λ (w : PropagationState). w.flips) is
ending-flips n window back from steps stored conjugated last new (dropped c found at d) = ap (λ (w : PropagationState). w.flips) d.left

-- a string with a sign that stabilises a checkpoint flips no sign at the run's point there
stabiliser-quiet : (n : ℕ) (coins : ℕ → Bool) (xs back : List Step) (from steps : ℕ) (c : Checkpoint) (window : ℕ) (last new : PropagationState) → drop from xs ≡ back → All (StepFits n) xs
    → IsCheckpoint n coins xs c → from ≤ c.step → c.step - from ≡ steps → length last.letters ≡ n → IsDropped n window c last new
    → IsConjugated n last.letters (member (point_after n coins (take steps back) (point_after n coins (take from xs) origin)).trace)
    (member (point_after n coins (take steps back) (point_after n coins (take from xs) origin)).trace)
stabiliser-quiet n coins xs back from steps c window last new following fits is le at size d =
    subst (λ (a : Point). IsConjugated n last.letters (member a.trace) (member a.trace)) (ap (λ m. point_after n coins (take m xs) origin) site ∙ rest-point n coins xs back from following steps)
    (conjugated-stabiliser n last.letters (member (point_after n coins (take c.step xs) origin).trace)
    (group-origin n coins (take c.step xs) (All-take (StepFits n) c.step xs fits)) size d.stabilise.0
    (sym (is.group (record { negative = d.stabilise.0; letters = last.letters }) size) ∙ d.stabilise.1))
  where
    site : c.step ≡ from + steps
    site = omega (arith, le, at)

-- it passed all, past all checkpoints, or it ended at a point where it flips no sign
pub endings : (n window : ℕ) (back : List Step) (from steps : ℕ) (stored : List Checkpoint) (conjugated : List TableauState) (last new : PropagationState) (coins : ℕ → Bool) (xs : List Step)
    → drop from xs ≡ back → All (StepFits n) xs → All (IsCheckpoint n coins xs) stored → AreInOrder from (length xs) stored → length last.letters ≡ n
    → Ending n window back from steps stored conjugated last new
    → ((steps ≡ length back) × (length conjugated ≡ length stored) × (new.letters ≡ last.letters))
    ⊎ IsEnded n window (point_after n coins (take steps back) (point_after n coins (take from xs) origin)) last new
endings n window back from steps stored conjugated last new coins xs following fits are order size (over all same is) = inl (all, same, ap (λ (w : PropagationState). w.letters) is)
endings n window back from steps stored conjugated last new coins xs following fits are order size (gone none is) =
    inr (record {
      quiet =
          subst (λ l. IsConjugated n l (member (point_after n coins (take steps back) (point_after n coins (take from xs) origin)).trace)
          (member (point_after n coins (take steps back) (point_after n coins (take from xs) origin)).trace))
          (sym (none 0).letters ∙ ap (λ (w : PropagationState). w.letters) is)
          (conjugated-blank n (member (point_after n coins (take steps back) (point_after n coins (take from xs) origin)).trace));
      blank = none;
    })
endings n window back from steps stored conjugated last new coins xs following fits are order size (dropped c found at d) =
    inr (record {
      quiet =
          stabiliser-quiet n coins xs back from steps c window last new following fits
          (subst (IsCheckpoint n coins xs) (get_or_from_slice_get stored (length conjugated) c c found) (are (length conjugated) c (slice_get_within stored (length conjugated) c found)))
          (subst (λ o. IfSome o (λ e. from ≤ e.step)) found (order-from from (length xs) stored (length conjugated) order)) at size d;
      blank = d.gone;
    })
