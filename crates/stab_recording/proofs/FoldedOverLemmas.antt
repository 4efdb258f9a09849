-- Folded segments: a replay on its way that repeats what it gave from one saved checkpoint to the next, up to a frame if there is one, is on
-- its way again.
use Rattle.stab_recording.proofs.Names.{◌≡◌, ℕ, zero, suc, ◌+◌, ◌-◌, ◌≤◌, refl, sym, ◌∙◌, ap, subst, Bool, true, List, [], ◌∷◌, ◌++◌, take, drop, IsSomeAnd, Option, None, Some, slice_get, add-one, arith, option_map, none-some, same_Some, slice_get_within, TableauState, Step, Repeat, origin, joined, point_after, outputs, output_of, lengths_of, outputs-append, PropagationState, Checkpoint, IsCheckpoint, checkpoint_steps, Near, Plan, Replay, KeepsPivotList, IsAtStep, IsAtStop, step_among_new, Segment, IsRoundsAfter, IsAlike, MayRecur, IsFolding, IsSegment, HasRepeated, MayGoOver, HasPropagated, with_folded, last_state, with_state, with_cursor, Recurrence, get-append}
use Rattle.std.proofs.Common.{IfSome}
use Rattle.stab_recording.proofs.RepeatedRunLemmas.{same-later, later-steps}
use Rattle.stab_recording.proofs.FoldedPartLemmas.{IsPartAgain, Comes, span, go-over, repeated-comes, by_frame-comes}
use Rattle.stab_recording.proofs.CursorPositionLemmas.{at-number, last-pushed}
use Rattle.stab_recording.proofs.ReplayLemmas.{on-stop, with-saved}

-- no checkpoint is after the step of a replay

no-later : (K x e : ℕ) (xs : List ℕ) → Near K (x ∷ xs ++ e ∷ []) → x ≤ e
no-later K x e [] h = h.0
no-later K x e (y ∷ xs) h = let first = h.0 in let rest = no-later K y e xs h.2 in omega (arith, first, rest)

pub near-at : (K a e i : ℕ) (cs : List Checkpoint) (c : Checkpoint) → Near K (a ∷ checkpoint_steps cs ++ e ∷ []) → slice_get cs i ≡ Some c → c.step ≤ e
near-at K a e i [] c near here = absurd (none-some c here)
near-at K a e zero (b ∷ cs) c near here = subst (λ (x : Checkpoint). x.step ≤ e) (same_Some b c here) (no-later K b.step e (checkpoint_steps cs) near.2)
near-at K a e (suc i) (b ∷ cs) c near here = near-at K b.step e i cs c near.2 here

-- the next checkpoint is a stride further at most
near-next : (K a e i : ℕ) (cs : List Checkpoint) (c d : Checkpoint) → Near K (a ∷ checkpoint_steps cs ++ e ∷ []) → slice_get cs i ≡ Some c → slice_get cs (suc i) ≡ Some d → d.step ≤ c.step + K
near-next K a e zero [] c d near here there = absurd (none-some c here)
near-next K a e (suc i) [] c d near here there = absurd (none-some c here)
near-next K a e (suc i) (b ∷ cs) c d near here there = near-next K b.step e i cs c d near.2 here there
near-next K a e zero (b ∷ []) c d near here there = absurd (none-some d there)
near-next K a e zero (b ∷ f ∷ cs) c d near here there =
    subst (λ (x : Checkpoint). x.step ≤ c.step + K) (same_Some f d there) (subst (λ (x : Checkpoint). f.step ≤ x.step + K) (same_Some b c here) near.2.1)

position-before : (P : ℕ → Type 0) (o : Option Checkpoint) (position : Checkpoint → ℕ) → IfSome o (λ c. P (position c)) → IfSome (option_map position o) P
position-before P None position h = tt
position-before P (Some c) position h = h

-- a replay whose state is that of a checkpoint, up to a frame if there is one, and what it gave from there to the next checkpoint

module _ (n : ℕ) (coins : ℕ → Bool) (begin : ℕ) (p : Plan) (ys : List Step) (checkpoints : List Checkpoint) (old : List Bool) (next : ℕ) (block : Repeat) (end : ℕ) (passed : Bool) (r : Replay)
    (e : Recurrence) (folding : IsFolding n coins begin p ys checkpoints old next block end passed r e) (spacing : ℕ) (g : Segment) (same : g.number ≡ e.number) (is : IsSegment spacing end r g) where
  abbrev z : Replay
  z = with_cursor ys (with_state passed r)

  abbrev c : Checkpoint
  c = is.checkpoint

  abbrev d : Checkpoint
  d = is.later

  repeated : folding.checkpoint ≡ c
  repeated = same_Some folding.checkpoint c (sym folding.here ∙ ap (slice_get r.saved.items) (sym same) ∙ is.here)

  following : IsRoundsAfter block r.step c
  following = subst (IsRoundsAfter block r.step) repeated folding.following

  alike : IsAlike n coins ys r e.frame c
  alike = subst (IsAlike n coins ys r e.frame) repeated folding.alike

  at : IsAtStep n coins ys z
  at = folding.may.way.stop.replay.at_step

  near : Near p.stride (begin ∷ checkpoint_steps r.saved.items ++ r.step ∷ [])
  near = folding.may.way.stop.replay.near

  order : c.step ≤ d.step
  order = is.order

  within : r.step + (d.step - c.step) ≤ end
  within = let le = is.within in let steps = is.steps in omega (arith, le, steps)

  part_again : IsPartAgain n coins ys r c d
  part_again = record {
    within = at.within;
    few = folding.may.few;
    fits = folding.may.fits;
    output = at.run.output;
    has_pivots = at.has_pivots;
    checkpoint = at-number (IsCheckpoint n coins ys) r.saved.items g.number c is.here folding.may.way.stop.replay.checkpoints;
    later = at-number (IsCheckpoint n coins ys) r.saved.items (g.number + 1) d is.there folding.may.way.stop.replay.checkpoints;
    order = order;
    before = near-at p.stride begin r.step (g.number + 1) r.saved.items d near is.there;
    same_steps =
        same-later ys block folding.may.is_repeat c.step r.step following.rounds (d.step - c.step) following.first following.whole
        (let in_block = folding.may.is_end.in_block in omega (arith, in_block, within));
  }

  spans : g ≡ span n coins ys r g.number c d part_again
  spans = λ i. record { number = g.number; steps = is.steps i; from = is.from i; to = is.to i }

  -- where it comes to, it goes on from again

  module _ (s : Replay) (state : TableauState) (v : Option PropagationState) (come : Comes n coins ys r s c d state v) where
    abbrev arrived : Replay
    arrived = record r {
      tableau = state;
      outputs = s.outputs;
      pivots = record r.pivots { strings = s.pivots.strings };
      step = s.step;
      applied = s.applied;
      by_frame = s.by_frame;
      cursor = record { all = ys; left = drop s.step ys };
    }

    steps_now : take r.step ys ++ take (d.step - c.step) (drop c.step ys) ≡ take s.step ys
    steps_now = sym (later-steps n coins ys c.step d.step r.step r.pivots.window order part_again.before part_again.same_steps) ∙ ap (λ k. take k ys) (sym come.step)

    inside : s.step ≤ p.total
    inside = let le = within in let in_steps = folding.may.is_end.in_steps in let step = come.step in omega (arith, le, in_steps, step)

    at_step : IsAtStep n coins ys arrived
    at_step = record {
      qubits = come.qubits;
      string = at.string;
      all = refl;
      left = refl;
      within = let total = folding.may.total in omega (arith, inside, total);
      run = record {
        group = come.group;
        output =
            come.output
            ∙ ap (λ o. joined o (outputs n coins (take (d.step - c.step) (drop c.step ys)) (point_after n coins (take r.step ys) origin))) at.run.output
            ∙ sym (outputs-append n coins (take r.step ys) (take (d.step - c.step) (drop c.step ys)) origin)
            ∙ ap (λ zs. outputs n coins zs origin) steps_now;
      };
      scratch = at.scratch;
      has_pivots = subst (λ zs. KeepsPivotList n coins zs s.pivots.strings s.outputs.free.items r.pivots.window) steps_now come.has_pivots;
    }

    stopped : IsAtStop n coins begin p ys checkpoints old next arrived
    stopped =
        on-stop n coins begin p ys checkpoints old coins next s.step (option_map (step_among_new p) (slice_get checkpoints next)) z arrived folding.may.way refl
        (subst (λ m. IsAtStep m coins ys arrived) (sym at.qubits) at_step) refl
        (let counted = come.counted in let step = come.step in omega (arith, counted, step, order)) refl (let step = come.step in omega (arith, step)) inside
        (let step = come.step in omega (arith, step, near-next p.stride begin r.step g.number r.saved.items c d near is.here (ap (slice_get r.saved.items) (sym (add-one g.number)) ∙ is.there))) refl
        (position-before (λ k. s.step ≤ k) (slice_get checkpoints next) (step_among_new p) (recurrence (slice_get checkpoints next) folding.may.is_end.before))
      where
        recurrence : (o : Option Checkpoint) → IfSome o (λ f. end ≤ step_among_new p f) → IfSome o (λ f. s.step ≤ step_among_new p f)
        recurrence None h = tt
        recurrence (Some f) h = let le = within in let step = come.step in omega (arith, h, le, step)

    state_now : last_state r.tableau s.saved.items ≡ state
    state_now = ap (last_state r.tableau) come.saved ∙ last-pushed r.tableau r.saved.items (record { step = s.step; lengths = lengths_of (output_of s.outputs); tableau = state })

    there : with_cursor ys (with_state true s) ≡ record arrived { saved = s.saved }
    there = ap (λ x. with_cursor ys (with_state true x)) come.rest ∙ (λ i. record arrived { tableau = state_now i; saved = s.saved })

    folded-on : IsFolding n coins begin p ys checkpoints old next block end true s (record { number = g.number + 1; frame = v })
    folded-on = record {
      may =
          subst (MayRecur n coins begin p ys checkpoints old next block end) (sym there)
          (record {
            way = with-saved n coins begin p ys checkpoints old next arrived s stopped come.saved;
            is_repeat = folding.may.is_repeat;
            is_end = folding.may.is_end;
            total = folding.may.total;
            few = folding.may.few;
            fits = folding.may.fits;
          });
      checkpoint = d;
      here =
          ap (λ l. slice_get l (g.number + 1)) come.saved
          ∙ get-append r.saved.items _ (g.number + 1) (slice_get_within r.saved.items (g.number + 1) d is.there)
          ∙ is.there;
      following = record {
        first = let first = following.first in omega (arith, first, order);
        before = let recurrence = following.before in let step = come.step in omega (arith, recurrence, step, order);
        rounds = following.rounds;
        whole = let whole = following.whole in let step = come.step in omega (arith, whole, step, order);
      };
      alike = subst (λ x. IsAlike n coins ys x v d) (sym come.rest) come.alike;
    }

  -- so it goes on, whichever it is

  pub may-go-over : (w : PropagationState) → e.frame ≡ Some w → MayGoOver n ys r w g
  may-go-over w frame = subst (MayGoOver n ys r w) (sym spans) (go-over n coins ys r g.number c d part_again w (subst (λ f. IsAlike n coins ys r f c) frame alike) is.there)

  pub goes-on-repeated : (s : Replay) → e.frame ≡ None → s ≡ record r { outputs = s.outputs; step = s.step; by_frame = s.by_frame; saved = s.saved }
      → IsSomeAnd (slice_get r.saved.items (g.number + 1)) (HasRepeated g r s)
      → IsFolding n coins begin p ys checkpoints old next block end true s (record { number = g.number + 1; frame = None })
  goes-on-repeated s frame rest gave =
      folded-on s d.tableau None
      (repeated-comes n coins ys r g.number c d part_again s rest (subst (λ f. IsAlike n coins ys r f c) frame alike)
      (subst (λ x. HasRepeated x r s d) spans (subst (λ o. IsSomeAnd o (HasRepeated g r s)) is.there gave)))

  pub goes-on-by_frame : (s : Replay) (w v : PropagationState) → e.frame ≡ Some w → s ≡ with_folded r s
      → IsSomeAnd (slice_get r.saved.items (g.number + 1)) (HasPropagated coins g r s w v)
      → IsFolding n coins begin p ys checkpoints old next block end true s (record { number = g.number + 1; frame = Some v })
  goes-on-by_frame s w v frame rest gave =
      let given : HasPropagated coins g r s w v d = subst (λ o. IsSomeAnd o (HasPropagated coins g r s w v)) is.there gave in
      let gave_span = subst (λ x. HasPropagated coins x r s w v d) spans given in
      folded-on s gave_span.state (Some v) (by_frame-comes n coins ys r g.number c d part_again w (subst (λ f. IsAlike n coins ys r f c) frame alike) s v rest gave_span)
