-- Following an edit: where a replay of the new steps begins, which old checkpoints it may meet, and what is stored of its end.
use Rattle.stab_session.proofs.Names.{◌≡◌, ℕ, ◌+◌, ◌-◌, ◌^◌, ◌<◌, ◌≤◌, reverse, refl, sym, ◌∙◌, ap, subst, Bool, List, [], ◌∷◌, ◌++◌, length, take, drop, get_or, All, Option, Some, None, arith, IfSome, take-map, length-drop, get_or-drop, All-weaker, All-take, All-nil, get_or_from_slice_get, slice_get_within, slice_get-map, IfSome_then, TableauState, Step, Checkpoint, Replay, Plan, End, Last, Joined, Recording, Span, Prepared, Rest, ones, RunOutput, origin, joined, outputs, replicate, I, program_state, output_of, Near, IsSpaced, last_of, front_of, rest_of, IsRunFromStart, IsCheckpoint, checkpoint_steps, all_saved, PivotsState, IsRecording, IsSameRecording, IsSpan, KeepsPivotList, IsSpliced, IsReplay, Ascending, Begins, IsRest, IsOldRest, IsPrepared, IsCommitted, IsTableauAfter, checkpoints_after, front-output}
use Rattle.std.specs.Prelude.{IsSomeAnd, option_map, slice_get}
use Rattle.stab_recording.proofs.RecordedReplayLemmas.{has_pivots-front}
use Rattle.stab_recording.proofs.PointLemmas.{take-same, checkpoint-before, begun-from-start}
use Rattle.stab_session.proofs.SpacingLemmas.{IsBefore, before-near, all-following, ascending-following, spaced-front}

-- lists and their elements

pub at-get : {X : Type 0} (P : X → Type 0) (xs : List X) (k : ℕ) (x : X) → All P xs → slice_get xs k ≡ Some x → P x
at-get P xs k x all e = subst P (get_or_from_slice_get xs k x x e) (all k x (slice_get_within xs k x e))

pub some-at : {X : Type 0} (P : X → Type 0) (xs : List X) (k : ℕ) (x : X) → slice_get xs k ≡ Some x → IfSome (slice_get xs k) P → P x
some-at P xs k x e h = subst (λ o. IfSome o P) e h

-- and the other way round
pub at-some : {X : Type 0} (P : X → Type 0) (xs : List X) (k : ℕ) (x : X) → slice_get xs k ≡ Some x → P x → IfSome (slice_get xs k) P
at-some P xs k x e p = subst (λ o. IfSome o P) (sym e) p

pub if-some : {X : Type 0} (P : X → Type 0) (o : Option X) → ((x : X) → o ≡ Some x → P x) → IfSome o P
if-some P None each = tt
if-some P (Some x) each = each x refl

pub some-and : {X : Type 0} (P : X → Type 0) (o : Option X) → IsSomeAnd o P → (x : X) × (o ≡ Some x) × P x
some-and P None h = absurd h
some-and P (Some x) h = (x, refl, h)

-- what holds of all elements from one on holds of a later one
pub from-drop : {X : Type 0} (P : X → Type 0) (xs : List X) (e k : ℕ) → e ≤ k → All P (drop e xs) → IfSome (slice_get xs k) P
from-drop P xs e k le all = if-some P (slice_get xs k) (λ x is.
    let within : k < length xs = slice_get_within xs k x is in
    subst P (get_or-drop e xs (k - e) x ∙ ap (λ j. get_or xs j x) (omega arith) ∙ get_or_from_slice_get xs k x x is)
    (all (k - e) x (omega (arith, length-drop e xs, within))))

-- the same recording

old-rest-same : (a b : Recording) (o : RunOutput) (strings : PivotsState) (step number : ℕ) (new : RunOutput) (new_strings : PivotsState) (rest : Rest) (c : Checkpoint)
    → IsSameRecording a b → IsOldRest a o strings step number new new_strings rest c → IsOldRest b o strings step number new new_strings rest c
old-rest-same a b o strings step number new new_strings rest c same is = record {
  old = is.old;
  is = is.is;
  from = is.from;
  meeting = is.meeting;
  states = is.states;
  letters = is.letters ∙ ap (λ (t : TableauState). replicate t.qubits I) same.tableau;
  output = is.output ∙ ap (λ given. joined o (rest_of c.lengths given)) same.output;
  strings = subst (λ x. x) (λ i. IsSpliced strings (same.strings i) (ones (take c.lengths.free (same.output i).free)) (ones new.free) new_strings) is.strings;
}

rest-same : (a b : Recording) (t : TableauState) (o : RunOutput) (strings : PivotsState) (step : ℕ) (end : End) (new : RunOutput) (new_strings : PivotsState) (rest : Rest)
    → IsSameRecording a b → IsRest a t o strings step end new new_strings rest → IsRest b t o strings step end new new_strings rest
rest-same a b t o strings step Last new new_strings rest same h = h
rest-same a b t o strings step (Joined number) new new_strings rest same h =
    IfSome_then (slice_get b.checkpoints.items number)
    (subst (λ cs. IfSome (slice_get cs number) (IsOldRest a o strings step number new new_strings rest)) same.checkpoints h)
    (λ c is. old-rest-same a b o strings step number new new_strings rest c same is)

pub prepared-same : (a b : Recording) (r : Replay) (count : ℕ) (end : End) (p : Prepared) → IsSameRecording a b → IsPrepared a r count end p → IsPrepared b r count end p
prepared-same a b r count end p same h = record {
  all = h.all;
  rest = rest-same a b r.tableau (output_of r.outputs) r.pivots.strings r.step end (output_of p.outputs) h.all p.rest same h.rest;
  strings = h.strings;
  window = h.window;
  observables = h.observables;
  saved = h.saved;
}

pub committed-same : (a b : Recording) (p : Prepared) (before K : ℕ) (new : Recording) → IsSameRecording a b → IsCommitted a p before K new → IsCommitted b p before K new
committed-same a b p before K new same h = record {
  tableau = subst (λ t. IsTableauAfter p.rest t new.tableau) same.tableau h.tableau;
  output = h.output;
  observables = h.observables;
  strings = h.strings;
  window = h.window;
  checkpoints = h.checkpoints ∙ ap (λ cs. all_saved K (checkpoints_after p.rest cs) (all_saved K (reverse p.saved.items) (take before cs))) same.checkpoints;
}

module _ (n : ℕ) (coins : ℕ → Bool) (K : ℕ) (xs : List Step) (count : ℕ) (old : Recording) (preserved : IsRecording n coins K xs count old)
    (ys : List Step) (s : Span) (span : IsSpan xs ys s) where
  -- where it begins

  pub before-first : (b : ℕ) → b ≤ length old.checkpoints.items → All (λ c. c.step < s.first + 1) (take b old.checkpoints.items)
      → IfSome (slice_get old.checkpoints.items b) (λ c. s.first + 1 ≤ c.step) → IsBefore K (length xs) s.first b old.checkpoints.items
  before-first b within front following =
      before-near K (length xs) s.first b old.checkpoints.items preserved.spaced (let o = span.old_order in let w = span.old_within in omega arith) within front following

  checkpoint-of-new : (c : Checkpoint) → c.step ≤ s.first → IsCheckpoint n coins xs c → IsCheckpoint n coins ys c
  checkpoint-of-new c le h = checkpoint-before n coins xs ys s.first c span.before le (let o = span.new_order in let w = span.new_within in omega arith) h

  pub begun : (b : ℕ) (c : Checkpoint) (r : Replay) → slice_get old.checkpoints.items b ≡ Some c → c.step ≤ s.first → Begins ys old c r
      → IsReplay n coins K r.step ys r
  begun b c r here le begins = record {
    at_step = record {
      qubits = ap (λ (t : TableauState). t.qubits) begins.tableau ∙ is.qubits;
      string = begins.string ∙ preserved.qubits;
      all = begins.all;
      left = begins.left ∙ ap (λ k. drop k ys) (sym begins.step);
      within = let w = is.within in omega (arith, begins.step);
      run =
          subst (λ k. IsRunFromStart n coins (take k ys) (program_state r.tableau (output_of r.outputs))) (sym begins.step)
          (begun-from-start n coins xs ys c r.tableau (output_of r.outputs) is (take-same c.step s.first xs ys le span.before) begins.tableau
          (begins.output ∙ ap (front_of c.lengths) preserved.run.output));
      scratch = begins.scratch ∙ preserved.qubits;
      has_pivots =
          subst (λ zs. KeepsPivotList n coins zs r.pivots.strings r.outputs.free.items r.pivots.window)
          (take-same c.step s.first xs ys le span.before ∙ ap (λ k. take k ys) (sym begins.step))
          (subst (KeepsPivotList n coins (take c.step xs) r.pivots.strings r.outputs.free.items) (sym begins.window)
          (has_pivots-front n coins xs old.strings old.outputs.free.items old.window preserved.has_pivots (ap (λ (o : RunOutput). o.free) preserved.run.output) c.step r.pivots.strings
          r.outputs.free.items randomness begins.strings));
    };
    checkpoints = subst (All (IsCheckpoint n coins ys)) (sym begins.saved) (All-nil (IsCheckpoint n coins ys));
    near = subst (λ cs. Near K (r.step ∷ checkpoint_steps cs ++ r.step ∷ [])) (sym begins.saved) (omega arith, omega arith, tt);
  }
    where
      is : IsCheckpoint n coins ys c
      is = checkpoint-of-new c le (at-get (IsCheckpoint n coins xs) old.checkpoints.items b c preserved.checkpoints here)

      was : IsCheckpoint n coins xs c
      was = at-get (IsCheckpoint n coins xs) old.checkpoints.items b c preserved.checkpoints here

      randomness : r.outputs.free.items ≡ (outputs n coins (take c.step xs) origin).free
      randomness =
          ap (λ (o : RunOutput). o.free) begins.output
          ∙ (λ i. take (was.lengths i).free (preserved.run.output i).free)
          ∙ ap (λ (o : RunOutput). o.free) (front-output n coins xs c.step)

  -- which old checkpoints it may meet

  pub same-rest : length ys ≡ s.new_end + (length xs - s.old_end)
  same-rest = let a = span.old_within in let b = span.new_within in omega (arith, ap length span.following, length-drop s.old_end xs, length-drop s.new_end ys)

  pub next-following : (e next : ℕ) → e ≤ next → IfSome (slice_get old.checkpoints.items e) (λ c. s.old_end ≤ c.step)
      → IfSome (slice_get old.checkpoints.items next) (λ c. s.old_end ≤ c.step)
  next-following e next le following =
      from-drop (λ c. s.old_end ≤ c.step) old.checkpoints.items e next le
      (All-weaker (λ c. (s.old_end ≤ c.step) × (c.step ≤ length xs)) (λ c. s.old_end ≤ c.step) (λ c p. p.0) (drop e old.checkpoints.items)
      (all-following K (length xs) s.old_end e old.checkpoints.items preserved.spaced.near following))

  pub all-next : (next : ℕ) → IfSome (slice_get old.checkpoints.items next) (λ c. s.old_end ≤ c.step) → All (λ c. s.old_end ≤ c.step) (drop next old.checkpoints.items)
  all-next next following =
      All-weaker (λ c. (s.old_end ≤ c.step) × (c.step ≤ length xs)) (λ c. s.old_end ≤ c.step) (λ c p. p.0) (drop next old.checkpoints.items)
      (all-following K (length xs) s.old_end next old.checkpoints.items preserved.spaced.near following)

  pub all-ascending : (p : Plan) (step : ℕ) → p.old_end ≡ s.old_end → p.new_end ≡ s.new_end → p.total ≡ length ys → length ys < 2 ^ 64
      → IfSome (slice_get old.checkpoints.items p.next) (λ c. s.old_end ≤ c.step) → step ≤ s.first → Ascending p step (drop p.next old.checkpoints.items)
  all-ascending p step old_end new_end total few following le =
      ascending-following p K (length xs) step p.next old.checkpoints.items preserved.spaced.near
      (subst (λ e. IfSome (slice_get old.checkpoints.items p.next) (λ c. e ≤ c.step)) (sym old_end) following)
      (let w = span.old_within in omega (arith, old_end))
      (omega (arith, old_end, new_end, total, same-rest))
      (omega (arith, total))
      (let o = span.new_order in omega (arith, new_end))

  pub all-qubits : (m : ℕ) → m ≡ n → All (λ c. c.tableau.qubits ≡ m) old.checkpoints.items
  all-qubits m is = All-weaker (IsCheckpoint n coins xs) (λ c. c.tableau.qubits ≡ m) (λ c h. h.qubits ∙ sym is) old.checkpoints.items preserved.checkpoints

  -- what is stored of its end

  pub front-checkpoints : (m : ℕ) → All (λ c. c.step < s.first + 1) (take m old.checkpoints.items) → All (IsCheckpoint n coins ys) (take m old.checkpoints.items)
  front-checkpoints m front = λ k d lt.
      checkpoint-of-new (get_or (take m old.checkpoints.items) k d) (let l = front k d lt in omega arith)
      (All-take (IsCheckpoint n coins xs) m old.checkpoints.items preserved.checkpoints k d lt)

  pub front-spaced : (m : ℕ) (b : IsBefore K (length xs) s.first m old.checkpoints.items)
      → IsSpaced K b.checkpoint.step (checkpoint_steps (take m old.checkpoints.items)) × (last_of 0 (checkpoint_steps (take m old.checkpoints.items)) ≡ b.checkpoint.step)
  front-spaced m b =
      subst (λ steps. IsSpaced K b.checkpoint.step steps × (last_of 0 steps ≡ b.checkpoint.step)) same
      (spaced-front K (length xs) (checkpoint_steps old.checkpoints.items) (m - 1) b.checkpoint.step preserved.spaced here)
    where
      same : take (m - 1 + 1) (checkpoint_steps old.checkpoints.items) ≡ checkpoint_steps (take m old.checkpoints.items)
      same = ap (λ k. take k (checkpoint_steps old.checkpoints.items)) (let o = b.some in omega arith) ∙ take-map (λ c. c.step) m old.checkpoints.items

      here : slice_get (checkpoint_steps old.checkpoints.items) (m - 1) ≡ Some b.checkpoint.step
      here = slice_get-map (λ c. c.step) old.checkpoints.items (m - 1) ∙ ap (option_map (λ c. c.step)) b.here
