-- Replays: a run that goes on from a checkpoint of an earlier one, what it asks of coins, and where it meets another checkpoint.
use Rattle.stab_recording.proofs.Names.{◌≡◌, ◌≢◌, ℕ, zero, suc, ◌+◌, ◌-◌, ◌<◌, ◌≤◌, refl, sym, ◌∙◌, ap, subst, Bool, ◌⊎◌, inl, inr, List, [], ◌∷◌, ◌++◌, All, IsSomeAnd, Option, None, Some, slice_get, length, take, drop, arith, option_map, take-append-drop, drop-drop, map-append, All-push, cases_lt, IfSome_then, take-add, TableauState, Step, Lengths, Checkpoint, Replay, Plan, Between, RunOutput, origin, all_coins_of, point_after, outputs, AgreeAt, ProgramState, IsAt, IsRun, program_state, output_of, Near, last_of, lengths_of, IsRunFromStart, IsCheckpoint, checkpoint_steps, KeepsTrue, LooksWithin, KeepsPivotList, AreOnQubits, RecordsNoLess, IsAtStep, Ascending, MeetsAt, IsPlacedAt, Misses, EndsSoon, step_among_new, spacing_of, checkpoint_of, IsAtStop, IsOnWay, StopsAt, IsArrival, Meets, randomness-is-coins, records-are-records, coins-append}
use Rattle.std.proofs.Common.{IfSome}
use Rattle.stab_recording.specs.RecordedSteps.{HasRecorded}
use Rattle.stab_recording.proofs.RecordedReplayLemmas.{has_pivots-on}
use Rattle.stab_recording.proofs.PointLemmas.{resumed, shows-from-start}

-- the coins that steps use up from one step to another are, with those after the other, all after the one
pub coins-cut : (i j : ℕ) (ys xs : List Step) → i ≤ j → xs ≡ drop i ys
    → all_coins_of (take (j - i) xs) + all_coins_of (drop j ys) ≡ all_coins_of (drop i ys)
coins-cut i j ys xs le left =
    (λ k. all_coins_of (take (j - i) (left k)) + all_coins_of (following k))
    ∙ sym (coins-append (take (j - i) (drop i ys)) (drop (j - i) (drop i ys)))
    ∙ ap all_coins_of (take-append-drop (j - i) (drop i ys))
  where
    following : drop j ys ≡ drop (j - i) (drop i ys)
    following = ap (λ k. drop k ys) (omega arith) ∙ sym (drop-drop (j - i) i ys)

-- a run on from a step

-- it comes to the other
pub run-on : (n : ℕ) (coins : ℕ → Bool) (ys : List Step) (old new : Replay) → IsAtStep n coins ys old → old.step ≤ new.step → new.step ≤ length ys
    → new.tableau.qubits ≡ old.tableau.qubits → AreOnQubits n new.string new.pivots → new.cursor.all ≡ old.cursor.all → RecordsNoLess old.pivots new.pivots → {applied later asked after : ℕ}
    → HasRecorded n coins (new.step - old.step) old.cursor new.cursor old.pivots new.pivots (program_state old.tableau (output_of old.outputs)) (program_state new.tableau (output_of new.outputs))
    applied later asked after → IsAtStep n coins ys new
run-on n coins ys old new h order within qubits sized all no_less recorded = record {
  qubits = qubits ∙ h.qubits;
  string = sized.string;
  all = all ∙ h.all;
  left = recorded.left ∙ ap (drop (new.step - old.step)) h.left ∙ drop-drop (new.step - old.step) old.step ys ∙ ap (λ k. drop k ys) further;
  within = within;
  run =
      subst (λ xs. IsRunFromStart n coins xs now) (sym (take-add old.step (new.step - old.step) ys) ∙ ap (λ k. take k ys) further)
      (resumed n coins (take old.step ys) (take (new.step - old.step) (drop old.step ys)) before now h.run
      (subst (λ xs. IsRun n coins (take (new.step - old.step) xs) before now) h.left recorded.done.pivots.run));
  scratch = sized.scratch;
  has_pivots =
      subst (λ xs. KeepsPivotList n coins xs new.pivots.strings new.outputs.free.items new.pivots.window) (sym (take-add old.step (new.step - old.step) ys) ∙ ap (λ k. take k ys) further)
      (has_pivots-on n coins (take old.step ys) (take (new.step - old.step) (drop old.step ys)) old.pivots.strings new.pivots.strings before now old.pivots.window new.pivots.window h.has_pivots
      (shows-from-start n coins (take old.step ys) before h.run) sized.strings no_less.most no_less.raised
      (subst (λ xs. All (LooksWithin new.pivots.window) (take (new.step - old.step) xs)) h.left recorded.done.pivots.within)
      (subst (λ xs. KeepsTrue n coins (take (new.step - old.step) xs) old.pivots.strings new.pivots.strings before now) h.left recorded.done.pivots.has_pivots));
}
  where
    before : ProgramState
    before = program_state old.tableau (output_of old.outputs)

    now : ProgramState
    now = program_state new.tableau (output_of new.outputs)

    further : old.step + (new.step - old.step) ≡ new.step
    further = omega arith

-- checkpoints saved on the way

checkpoint-saved : (n : ℕ) (coins : ℕ → Bool) (ys : List Step) (r : Replay) → IsAtStep n coins ys r → IsCheckpoint n coins ys (checkpoint_of r)
checkpoint-saved n coins ys r h = record {
  within = h.within;
  qubits = h.qubits;
  group = h.run.group;
  lengths = ap lengths_of h.run.output;
}

near-end : (K a e d : ℕ) (xs : List ℕ) → Near K (a ∷ xs ++ d ∷ []) → last_of a xs ≤ e → e ≤ last_of a xs + K → Near K (a ∷ xs ++ e ∷ [])
near-end K a e d [] h le near = (le, near, tt)
near-end K a e d (b ∷ xs) h le near = (h.0, h.1, near-end K b e d xs h.2 le near)

last-more : (a e : ℕ) (xs : List ℕ) → last_of a (xs ++ e ∷ []) ≡ e
last-more a e [] = refl
last-more a e (b ∷ xs) = last-more b e xs

near-more : (K a e : ℕ) (xs : List ℕ) → Near K (a ∷ xs ++ e ∷ []) → Near K (a ∷ (xs ++ e ∷ []) ++ e ∷ [])
near-more K a e [] h = (h.0, h.1, (omega arith, omega arith, tt))
near-more K a e (b ∷ xs) h = (h.0, h.1, near-more K b e xs h.2)

-- if a run agrees with an old one at a checkpoint, it meets that checkpoint

agree-meets : (n window : ℕ) (coins : ℕ → Bool) (xs zs : List Step) (c : Checkpoint) (t : TableauState) (o : RunOutput) (records free : List Bool) → IsRunFromStart n coins zs (program_state t o)
    → IsCheckpoint n coins xs c → take c.lengths.records records ≡ (outputs n coins (take c.step xs) origin).records
    → AgreeAt n (point_after n coins (take c.step xs) origin) (point_after n coins zs origin) → Meets n window t o records free c
agree-meets n window coins xs zs c t o records free run h preserved agree = record {
  group = λ p size. run.group p size ∙ sym (agree.group p size) ∙ sym (h.group p size);
  coin =
      inl (now.coin
      ∙ sym agree.coin
      ∙ sym (randomness-is-coins n coins (take c.step xs))
      ∙ sym (ap (λ (l : Lengths). l.free) h.lengths));
  records = ap (λ bits. drop (length bits - window) bits) (same ∙ sym preserved);
}
  where
    now : IsAt n (program_state t o) (point_after n coins zs origin)
    now = shows-from-start n coins zs (program_state t o) run

    same : o.records ≡ (outputs n coins (take c.step xs) origin).records
    same = now.records ∙ sym agree.records ∙ sym (records-are-records n coins (take c.step xs))

-- a replay on its way

-- where the next checkpoint is

-- a replay at a step is not after the step of the next checkpoint
next-following : (p : Plan) (step k : ℕ) (cs : List Checkpoint) → Ascending p step (drop k cs) → IfSome (option_map (step_among_new p) (slice_get cs k)) (λ q. step ≤ q)
next-following p step zero [] h = tt
next-following p step (suc k) [] h = tt
next-following p step zero (c ∷ cs) h = h.0
next-following p step (suc k) (c ∷ cs) h = next-following p step k cs h

pub position-following : (p : Plan) (step k : ℕ) (cs : List Checkpoint) (position : Option ℕ) → position ≡ option_map (step_among_new p) (slice_get cs k) → Ascending p step (drop k cs)
    → IfSome position (λ q. step ≤ q)
position-following p step k cs position e h = subst (λ o. IfSome o (λ q. step ≤ q)) (sym e) (next-following p step k cs h)

-- and may stop there at the latest
pub ascending-stop : (p : Plan) (step stop k : ℕ) (cs : List Checkpoint) → Ascending p step (drop k cs) → stop ≤ p.total
    → IfSome (option_map (step_among_new p) (slice_get cs k)) (λ q. stop ≤ q) → Ascending p stop (drop k cs)
ascending-stop p step stop zero [] h within before = within
ascending-stop p step stop (suc k) [] h within before = within
ascending-stop p step stop zero (c ∷ cs) h within before = (before, h.1)
ascending-stop p step stop (suc k) (c ∷ cs) h within before = ascending-stop p step stop k cs h within before

-- nor is it after those of later ones
later-positions : (p : Plan) (step k : ℕ) (cs : List Checkpoint) → Ascending p step cs → IfSome (slice_get cs k) (λ c. step ≤ step_among_new p c)
later-positions p step zero [] h = tt
later-positions p step (suc k) [] h = tt
later-positions p step zero (c ∷ cs) h = h.0
later-positions p step (suc k) (c ∷ cs) h =
    IfSome_then (slice_get cs k) (later-positions p (step_among_new p c) k cs h.1) (λ d le. let first = h.0 in omega (arith, first, le))

all-later : (p : Plan) (step next k : ℕ) (cs : List Checkpoint) → Ascending p step (drop next cs) → next ≤ k
    → IfSome (slice_get cs k) (λ c. step ≤ step_among_new p c)
all-later p step zero k cs h le = later-positions p step k cs h
all-later p step (suc next) zero cs h le = absurd (omega arith)
all-later p step (suc next) (suc k) [] h le = tt
all-later p step (suc next) (suc k) (c ∷ cs) h le = all-later p step next k cs h (omega arith)

-- after the step of the next checkpoint the one after it comes next
later-within : (checkpoints : List Checkpoint) (k : ℕ) (P : Checkpoint → Type 0) → IsSomeAnd (slice_get checkpoints k) P → k < length checkpoints
later-within [] k P h = absurd h
later-within (c ∷ cs) zero P h = omega arith
later-within (c ∷ cs) (suc k) P h = let le = later-within cs k P h in omega arith

pub later-ascending : (p : Plan) (step k : ℕ) (cs : List Checkpoint) → Ascending p step (drop k cs) → IsPlacedAt p cs k step → Ascending p step (drop (k + 1) cs)
later-ascending p step zero [] h position = absurd position
later-ascending p step (suc k) [] h position = absurd position
later-ascending p step zero (c ∷ cs) h position = subst (λ m. Ascending p m cs) position h.1
later-ascending p step (suc k) (c ∷ cs) h position =
    let e : suc (k + 1) ≡ suc k + 1 = omega arith in
    subst (λ m. Ascending p step (drop m (c ∷ cs))) e (later-ascending p step k cs h position)

if-some : {X : Type 0} (o : Option X) (P : X → Type 0) → IsSomeAnd o P → IfSome o P
if-some None P h = tt
if-some (Some x) P h = h

module _ (n : ℕ) (coins : ℕ → Bool) (begin : ℕ) (p : Plan) (ys : List Step) (checkpoints : List Checkpoint) (old : List Bool) where
  -- at the next stop
  pub on-stop : (others : ℕ → Bool) (next stop : ℕ) (position : Option ℕ) (r s : Replay) → IsOnWay n coins begin p ys checkpoints old next r → others ≡ coins
      → IsAtStep r.tableau.qubits others r.cursor.all s → s.saved.items ≡ r.saved.items
      → (s.applied + s.by_frame) + r.step ≡ (r.applied + r.by_frame) + stop → s.step ≡ stop
      → r.step ≤ stop → stop ≤ p.total → stop ≤ r.step + p.stride → position ≡ option_map (step_among_new p) (slice_get checkpoints next) → IfSome position (λ q. stop ≤ q)
      → IsAtStop n coins begin p ys checkpoints old next s
  on-stop others next stop position r s h same_coins at saved counted step order within near position_is before = record {
    replay = record {
      at_step =
          subst (λ m. IsAtStep m coins ys s) was.qubits
          (subst (λ xs. IsAtStep r.tableau.qubits coins xs s) was.all (subst (λ c. IsAtStep r.tableau.qubits c r.cursor.all s) same_coins at));
      checkpoints = subst (All (IsCheckpoint n coins ys)) (sym saved) h.stop.replay.checkpoints;
      near =
          subst (λ cs. Near p.stride (begin ∷ checkpoint_steps cs ++ s.step ∷ [])) (sym saved)
          (near-end p.stride begin s.step r.step (checkpoint_steps r.saved.items) h.stop.replay.near (let e = h.last in omega arith) (let e = h.last in omega arith));
    };
    counted = let e = h.stop.counted in omega arith;
    order = h.stop.order;
    within = h.stop.within;
    ascending =
        subst (λ k. Ascending p k (drop next checkpoints)) (sym step)
        (ascending-stop p r.step stop next checkpoints h.stop.ascending within (subst (λ o. IfSome o (λ q. stop ≤ q)) position_is before));
    missed = h.stop.missed;
  }
    where
      was : IsAtStep n coins ys r
      was = h.stop.replay.at_step

  -- if it does not meet a checkpoint at its step, the runs do not agree there
  misses : (r : Replay) (free : List Bool) (c : Checkpoint) → IsAtStep n coins ys r → step_among_new p c ≡ r.step → (MeetsAt n p r old free c → ⊥) → Misses n coins p ys old c
  misses r free c h position distinct xs is_checkpoint preserved agree =
      distinct (
        position,
        agree-meets n p.window coins xs (take r.step ys) c r.tableau (output_of r.outputs) old free h.run is_checkpoint preserved
            (subst (λ k. AgreeAt n (point_after n coins (take c.step xs) origin) (point_after n coins (take k ys) origin)) position agree),
      )

  missed : (r : Replay) (free : List Bool) (o : Option Checkpoint) → IsAtStep n coins ys r → IfSome o (λ c. step_among_new p c ≡ r.step)
      → IfSome o (λ c. MeetsAt n p r old free c → ⊥) → IfSome o (Misses n coins p ys old)
  missed r free None h position distinct = tt
  missed r free (Some c) h position distinct = misses r free c h position distinct

  -- so that one was missed as those before it were
  all-missed : (next : ℕ) (r : Replay) → IsAtStop n coins begin p ys checkpoints old next r → IfSome (slice_get checkpoints next) (Misses n coins p ys old)
      → (number : ℕ) → p.next ≤ number → number < next + 1 → IfSome (slice_get checkpoints number) (Misses n coins p ys old)
  all-missed next r h distinct number from before =
      elim (cases_lt number next) [
        | inl lt ↦ h.missed number from lt
        | inr le ↦ subst (λ k. IfSome (slice_get checkpoints k) (Misses n coins p ys old)) (omega (arith, le, before)) distinct
      ]

  -- and wherever it ends, it missed each checkpoint that is before its step
  pub ends-soon : (next : ℕ) (r : Replay) → IsAtStop n coins begin p ys checkpoints old next r → EndsSoon n coins p ys checkpoints old r.step
  ends-soon next r h number from =
      elim (cases_lt number next) [
        | inl lt ↦ IfSome_then (slice_get checkpoints number) (h.missed number from lt) (λ c missed before. missed)
        | inr le ↦ IfSome_then (slice_get checkpoints number) (all-later p r.step next number checkpoints h.ascending le) (λ c later before. absurd (omega (arith, later, before)))
      ]

  -- before it the replay goes on, if it passed a checkpoint with the one after it next
  pub past : (next : ℕ) (r : Replay) → IsAtStop n coins begin p ys checkpoints old next r → IsPlacedAt p checkpoints next r.step
      → IfSome (slice_get checkpoints next) (Misses n coins p ys old) → IsAtStop n coins begin p ys checkpoints old (next + 1) r
  past next r h placed distinct = record {
    replay = h.replay;
    counted = h.counted;
    order = let le = h.order in omega arith;
    within = let le = later-within checkpoints next (λ c. step_among_new p c ≡ r.step) placed in omega arith;
    ascending = later-ascending p r.step next checkpoints h.ascending placed;
    missed = all-missed next r h distinct;
  }

  -- with a checkpoint saved at its step
  pub with-saved : (next : ℕ) (r s : Replay) → IsAtStop n coins begin p ys checkpoints old next r → s.saved.items ≡ r.saved.items ++ checkpoint_of r ∷ []
      → IsOnWay n coins begin p ys checkpoints old next (record r { saved = s.saved })
  with-saved next r s h saved = record {
    stop = record {
      replay = record {
        at_step = record {
          qubits = h.replay.at_step.qubits;
          string = h.replay.at_step.string;
          all = h.replay.at_step.all;
          left = h.replay.at_step.left;
          within = h.replay.at_step.within;
          run = h.replay.at_step.run;
          scratch = h.replay.at_step.scratch;
          has_pivots = h.replay.at_step.has_pivots;
        };
        checkpoints =
            subst (All (IsCheckpoint n coins ys)) (sym saved)
            (All-push (IsCheckpoint n coins ys) r.saved.items (checkpoint_of r) h.replay.checkpoints (checkpoint-saved n coins ys r h.replay.at_step));
        near =
            subst (λ ks. Near p.stride (begin ∷ ks ++ r.step ∷ [])) (sym steps)
            (near-more p.stride begin r.step (checkpoint_steps r.saved.items) h.replay.near);
      };
      counted = h.counted;
      order = h.order;
      within = h.within;
      ascending = h.ascending;
      missed = h.missed;
    };
    last = ap (last_of begin) steps ∙ last-more begin r.step (checkpoint_steps r.saved.items);
  }
    where
      steps : checkpoint_steps s.saved.items ≡ checkpoint_steps r.saved.items ++ r.step ∷ []
      steps = ap checkpoint_steps saved ∙ map-append (λ (c : Checkpoint). c.step) r.saved.items (checkpoint_of r ∷ [])

  pub on-further : (free : List Bool) (next later : ℕ) (r s : Replay) → IsAtStop n coins begin p ys checkpoints old next r → IsArrival n p r checkpoints old free next (Between later)
      → s ≡ record r { saved = s.saved } → s.saved.items ≡ r.saved.items ++ checkpoint_of r ∷ [] → IsOnWay n coins begin p ys checkpoints old later s
  on-further free next later r s h arrival unchanged saved = subst (IsOnWay n coins begin p ys checkpoints old later) (sym unchanged) (with-saved later r s there saved)
    where
      there : IsAtStop n coins begin p ys checkpoints old later r
      there =
          elim arrival.2 [
            | inl same ↦ subst (λ k. IsAtStop n coins begin p ys checkpoints old k r) (sym same.0) h
            | inr placed ↦ subst (λ k. IsAtStop n coins begin p ys checkpoints old k r) (sym placed.0)
                (past next r h placed.1
                (missed r free (slice_get checkpoints next) h.replay.at_step (if-some (slice_get checkpoints next) (λ c. step_among_new p c ≡ r.step) placed.1) arrival.1))
          ]

-- if it goes on it went a spacing, or passed the checkpoint

not-there : (p : Plan) (checkpoints : List Checkpoint) (next step : ℕ) → step ≢ p.total → (IsPlacedAt p checkpoints next step → ⊥) → (step ≡ p.total) ⊎ IsPlacedAt p checkpoints next step → ⊥
not-there p checkpoints next step further unplaced at =
    elim at [
      | inl e ↦ further e
      | inr e ↦ unplaced e
    ]

pub went-on : (n : ℕ) (p : Plan) (checkpoints : List Checkpoint) (old free : List Bool) (next later from : ℕ) (r : Replay) → StopsAt p checkpoints next from r.step
    → IsArrival n p r checkpoints old free next (Between later) → ((later ≡ next) × (from + spacing_of p.stride ≤ r.step)) ⊎ ((later ≡ next + 1) × (next < length checkpoints))
went-on n p checkpoints old free next later from r stops arrival =
    elim arrival.2 [
      | inl same ↦
          elim stops [
            | inl far ↦ inl (same.0, far)
            | inr at ↦ absurd (not-there p checkpoints next r.step arrival.0 same.1 at)
          ]
      | inr placed ↦ inr (placed.0, later-within checkpoints next (λ c. step_among_new p c ≡ r.step) placed.1)
    ]

-- and fewer steps or fewer checkpoints are left
pub fewer-left : (n : ℕ) (p : Plan) (checkpoints : List Checkpoint) (old free : List Bool) (first next later from : ℕ) (r : Replay) → 1 ≤ p.stride → from ≤ r.step → r.step ≤ p.total
    → first ≤ next → next ≤ length checkpoints → StopsAt p checkpoints next from r.step → IsArrival n p r checkpoints old free next (Between later)
    → (p.total - r.step) + (length checkpoints - later) < (p.total - from) + (length checkpoints - first)
fewer-left n p checkpoints old free first next later from r stride further within order among stops arrival =
    elim (went-on n p checkpoints old free next later from r stops arrival) [
      | inl far ↦ let same = far.0 in let more = far.1 in omega (arith, same, more, stride, within, order, among)
      | inr passed ↦ let one = passed.0 in let lt = passed.1 in omega (arith, one, lt, further, within, order)
    ]

-- however it went on

pub went-so : {n m : ℕ} {coins others : ℕ → Bool} {ys zs : List Step} (begin : ℕ) (p : Plan) (checkpoints : List Checkpoint) (old : List Bool) (next later : ℕ) (r s : Replay) → m ≡ n → others ≡ coins
    → zs ≡ ys → (IsOnWay m others begin p zs checkpoints old next r → IsAtStop m others begin p zs checkpoints old later s) → IsOnWay n coins begin p ys checkpoints old next r
    → IsAtStop n coins begin p ys checkpoints old later s
went-so begin p checkpoints old next later r s qubits coins all =
    subst (λ t. t) (λ i. IsOnWay (qubits i) (coins i) begin p (all i) checkpoints old next r → IsAtStop (qubits i) (coins i) begin p (all i) checkpoints old later s)
