-- Conjugated checkpoints: where checkpoints are that were conjugated, and moved with a span.
use Rattle.stab_session.proofs.Names.{◌≡◌, ℕ, zero, suc, ◌+◌, ◌-◌, ◌^◌, ◌<◌, ◌≤◌, refl, sym, ◌∙◌, ap, subst, List, [], ◌∷◌, ◌++◌, drop, map, Option, Some, None, arith, IfSome, MatchOption, TableauState, Span, Checkpoint, Near, last_of, checkpoint_steps, moved, moved_checkpoint, AreInOrder, with_states, StaysNear, span_meeting}
use Rattle.std.specs.Prelude.{slice_get}
use Rattle.stab_session.proofs.SpacingLemmas.{near-le, near-tail, near-moved, moved-within, steps-moved}

-- a checkpoint that stays near is after the span
pub stays-following : (K : ℕ) (s : Span) (total step : ℕ) (o : Option Checkpoint) → StaysNear K s total step o → IfSome o (λ c. s.old_end ≤ c.step)
stays-following K s total step None h = tt
stays-following K s total step (Some c) h = h.1.0

-- other states are where the states before were
pub same-steps : (ts : List TableauState) (cs : List Checkpoint) → checkpoint_steps (with_states ts cs) ≡ checkpoint_steps cs
same-steps [] cs = refl
same-steps (t ∷ ts) [] = refl
same-steps (t ∷ ts) (c ∷ cs) = ap (λ steps. c.step ∷ steps) (same-steps ts cs)

-- checkpoints from a step on, up to the last step, are in order
near-order : (K L a : ℕ) (cs : List Checkpoint) → Near K (a ∷ checkpoint_steps cs ++ L ∷ []) → AreInOrder a L cs
near-order K L a [] h = h.0
near-order K L a (c ∷ cs) h = (h.0, near-order K L c.step cs h.2)

pub in-order : (K L from n : ℕ) (cs : List Checkpoint) → Near K (checkpoint_steps cs ++ L ∷ []) → from ≤ L → IfSome (slice_get cs n) (λ c. from ≤ c.step)
    → AreInOrder from L (drop n cs)
in-order K L from zero [] near within following = within
in-order K L from (suc n) [] near within following = within
in-order K L from zero (c ∷ cs) near within following = (following, near-order K L c.step cs near)
in-order K L from (suc n) (c ∷ cs) near within following = in-order K L from n cs (near-tail K L c.step (checkpoint_steps cs) near) within following

-- moved with a span, checkpoints that stay near one another and the one before stay so
moved-on : (K L total step : ℕ) (s : Span) (ds : List Checkpoint) → s.old_end ≤ L → total ≡ s.new_end + (L - s.old_end) → total < 2 ^ 64 → step ≤ s.new_end
    → (o : Option Checkpoint) → slice_get ds 0 ≡ o
    → MatchOption o (total ≤ step + K) (λ c. (s.old_end ≤ c.step) × (moved s.old_end s.new_end c.step ≤ step + K)) → Near K (checkpoint_steps ds ++ L ∷ [])
    → Near K (step ∷ map (moved s.old_end s.new_end) (checkpoint_steps ds) ++ total ∷ [])
moved-on K L total step s [] end total_is few order None is stays near = (omega arith, stays, tt)
moved-on K L total step s [] end total_is few order (Some d) is stays near = absurd (cc)
moved-on K L total step s (c ∷ cs) end total_is few order None is stays near = absurd (cc)
moved-on K L total step s (c ∷ cs) end total_is few order (Some d) is stays near =
    let same : c ≡ d = cc in
    let here : (s.old_end ≤ c.step) × (moved s.old_end s.new_end c.step ≤ step + K) =
    subst (λ (x : Checkpoint). (s.old_end ≤ x.step) × (moved s.old_end s.new_end x.step ≤ step + K)) (sym same) stays in
    let following : s.old_end ≤ c.step = here.0 in
    let there : moved s.old_end s.new_end c.step ≡ s.new_end + (c.step - s.old_end) =
    moved-within s.old_end s.new_end c.step L (near-le K L c.step (checkpoint_steps cs) near) (omega (arith, total_is, few)) in (
      omega (arith, there, order),
      here.1,
      subst (λ t. Near K (moved s.old_end s.new_end c.step ∷ map (moved s.old_end s.new_end) (checkpoint_steps cs) ++ t ∷ [])) (sym total_is)
          (subst (λ t. Near K (t ∷ map (moved s.old_end s.new_end) (checkpoint_steps cs) ++ (s.new_end + (L - s.old_end)) ∷ [])) (sym there)
          (near-moved K s.old_end s.new_end L c.step (checkpoint_steps cs) following near (omega (arith, total_is, few)))),
    )

near-from : (K L n : ℕ) (cs : List Checkpoint) → Near K (checkpoint_steps cs ++ L ∷ []) → Near K (checkpoint_steps (drop n cs) ++ L ∷ [])
near-from K L zero cs near = near
near-from K L (suc n) [] near = near
near-from K L (suc n) (c ∷ cs) near = near-from K L n cs (near-tail K L c.step (checkpoint_steps cs) near)

first-dropped : (n : ℕ) (cs : List Checkpoint) → slice_get (drop n cs) 0 ≡ slice_get cs n
first-dropped zero cs = refl
first-dropped (suc n) [] = refl
first-dropped (suc n) (c ∷ cs) = first-dropped n cs

pub conjugated-near : (K L total step n : ℕ) (s : Span) (ts : List TableauState) (cs : List Checkpoint) → s.old_end ≤ L → total ≡ s.new_end + (L - s.old_end)
    → total < 2 ^ 64 → StaysNear K s total step (slice_get cs n) → Near K (checkpoint_steps cs ++ L ∷ [])
    → Near K (step ∷ checkpoint_steps (map (moved_checkpoint (span_meeting s)) (with_states ts (drop n cs))) ++ total ∷ [])
conjugated-near K L total step n s ts cs end total_is few stays near =
    subst (λ steps. Near K (step ∷ steps ++ total ∷ []))
    (ap (map (moved s.old_end s.new_end)) (sym (same-steps ts (drop n cs)))
    ∙ sym (steps-moved (span_meeting s) (with_states ts (drop n cs))))
    (moved-on K L total step s (drop n cs) end total_is few stays.0 (slice_get cs n) (first-dropped n cs) stays.1 (near-from K L n cs near))

-- checkpoints near one another, and others from the last of them on

pub near-more : (K a last : ℕ) (cs : List Checkpoint) (c : Checkpoint) → Near K (a ∷ checkpoint_steps cs) → last_of a (checkpoint_steps cs) ≡ last → last ≤ c.step → c.step ≤ last + K
    → Near K (a ∷ checkpoint_steps (cs ++ c ∷ [])) × (last_of a (checkpoint_steps (cs ++ c ∷ [])) ≡ c.step)
near-more K a last [] c near is from to = ((omega (arith, is, from), omega (arith, is, to), tt), refl)
near-more K a last (b ∷ cs) c near is from to =
    let more = near-more K b.step last cs c near.2 is from to in
    ((near.0, near.1, more.0), more.1)

pub near-both : (K total a last : ℕ) (cs ds : List Checkpoint) → Near K (a ∷ checkpoint_steps cs) → last_of a (checkpoint_steps cs) ≡ last → Near K (last ∷ checkpoint_steps ds ++ total ∷ [])
    → Near K (a ∷ checkpoint_steps (cs ++ ds) ++ total ∷ [])
near-both K total a last [] ds near is next = subst (λ k. Near K (k ∷ checkpoint_steps ds ++ total ∷ [])) (sym is) next
near-both K total a last (c ∷ cs) ds near is next = (near.0, near.1, near-both K total c.step last cs ds near.2 is next)
