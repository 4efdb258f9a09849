-- Runs: replays with no older run go on, repeat rounds, and forget checkpoints.
use Rattle.stab_recording.proofs.Names.{None, unroll, check_within, AreRepeats, check-fits, Items, ◌≡◌, ℕ, zero, suc, ◌+◌, ◌*◌, ◌≤◌, refl, sym, ◌∙◌, ap, subst, Bool, List, [], ◌∷◌, ◌++◌, All, length, take, arith, All-take, take_all, Step, origin, outputs, output_of, KeepsPivotList, most_steps, Repeat, IsRepeat, StepFits, Checkpoint, IsCheckpoint, checkpoint_steps, Near, Replay, IsAtStep, checkpoint_of, MayRecur, IsOnWay, plan_of_run, IsOwnRun}
use Rattle.stab_items.specs.Steps.{HasDistinctQubits}
use Rattle.stab_recording.specs.inner.Runs.{MayRunAll, MayRunBlock}
use Rattle.stab_recording.proofs.ProgressLemmas.{runnable-named, steps-named}
use Rattle.stab_recording.proofs.ReplayLemmas.{with-saved}

-- checkpoints may lie as far from each other as there are steps

near-on : (K a d e : ℕ) (xs : List ℕ) → Near K (a ∷ xs ++ d ∷ []) → d ≤ e → e ≤ K → Near K (a ∷ xs ++ e ∷ [])
near-on K a d e [] h le most = (let first = h.0 in omega (arith, first, le), omega (arith, most), tt)
near-on K a d e (b ∷ xs) h le most = (h.0, h.1, near-on K b d e xs h.2 le most)

near-order : (K a e : ℕ) (cs : List Checkpoint) → Near K (a ∷ checkpoint_steps cs ++ e ∷ []) → a ≤ e
near-order K a e [] h = h.0
near-order K a e (c ∷ cs) h = let le = near-order K c.step e cs h.2 in let first = h.0 in omega (arith, first, le)

near-front : (K a e k : ℕ) (cs : List Checkpoint) → Near K (a ∷ checkpoint_steps cs ++ e ∷ []) → e ≤ K → Near K (a ∷ checkpoint_steps (take k cs) ++ e ∷ [])
near-front K a e zero cs h most = (near-order K a e cs h, omega (arith, most), tt)
near-front K a e (suc k) [] h most = h
near-front K a e (suc k) (c ∷ cs) h most = (h.0, h.1, near-front K c.step e k cs h.2 most)

module _ (n : ℕ) (coins : ℕ → Bool) (ys : List Step) where
  -- some steps further
  pub own-on : (r s : Replay) → IsOwnRun n coins ys r → IsAtStep n coins ys s → s.saved.items ≡ r.saved.items → (s.applied + s.by_frame) + r.step ≡ (r.applied + r.by_frame) + s.step
      → r.step ≤ s.step → IsOwnRun n coins ys s
  own-on r s own at saved counted order = record {
    replay = record {
      at_step = at;
      checkpoints = subst (All (IsCheckpoint n coins ys)) (sym saved) own.replay.checkpoints;
      near =
          subst (λ cs. Near (length ys) (0 ∷ checkpoint_steps cs ++ s.step ∷ [])) (sym saved)
          (near-on (length ys) 0 r.step s.step (checkpoint_steps r.saved.items) own.replay.near order at.within);
    };
    counted = let before = own.counted in omega (arith, before, counted);
    order = omega arith;
    within = omega arith;
    ascending = at.within;
    missed = own.missed;
  }

  -- with fewer checkpoints
  pub own-front : (k : ℕ) (r s : Replay) → IsOwnRun n coins ys r → s ≡ record r { saved = s.saved } → s.saved.items ≡ take k r.saved.items → IsOwnRun n coins ys s
  own-front k r s own same saved =
      subst (IsOwnRun n coins ys) (sym same)
      (record {
        replay = record {
          at_step = record {
            qubits = own.replay.at_step.qubits;
            string = own.replay.at_step.string;
            all = own.replay.at_step.all;
            left = own.replay.at_step.left;
            within = own.replay.at_step.within;
            run = own.replay.at_step.run;
            scratch = own.replay.at_step.scratch;
            has_pivots = own.replay.at_step.has_pivots;
          };
          checkpoints = subst (All (IsCheckpoint n coins ys)) (sym saved) (All-take (IsCheckpoint n coins ys) k r.saved.items own.replay.checkpoints);
          near =
              subst (λ cs. Near (length ys) (0 ∷ checkpoint_steps cs ++ r.step ∷ [])) (sym saved)
              (near-front (length ys) 0 r.step k r.saved.items own.replay.near own.replay.at_step.within);
        };
        counted = own.counted;
        order = own.order;
        within = own.within;
        ascending = own.ascending;
        missed = own.missed;
      })

  -- with a checkpoint saved it may go on in a block by what it gave there
  pub own-may : (block : Repeat) (end : ℕ) (r s : Replay) → IsOwnRun n coins ys r → s ≡ record r { saved = s.saved } → s.saved.items ≡ r.saved.items ++ checkpoint_of r ∷ []
      → IsRepeat ys block → end ≤ block.first + block.rounds * block.length → length ys ≤ most_steps → All (StepFits n) ys
      → MayRecur n coins 0 (plan_of_run (length ys)) ys [] [] 0 block end s
  own-may block end r s own same saved is_repeat in_block few fits = record {
    way = subst (IsOnWay n coins 0 (plan_of_run (length ys)) ys [] [] 0) (sym same) (with-saved n coins 0 (plan_of_run (length ys)) ys [] [] 0 r s own saved);
    is_repeat = is_repeat;
    is_end = record {
      in_block = in_block;
      in_steps = let le = is_repeat.inside in omega (arith, in_block, le);
      before = tt;
    };
    total = refl;
    few = few;
    fits = fits;
  }

-- all steps of a circuit

pub may-run-all : (n : ℕ) (coins : ℕ → Bool) (items : Items) (repeats : List Repeat) (r : Replay) → check_within n items ≡ None → AreRepeats 0 (unroll items) repeats → All HasDistinctQubits r.cursor.all
    → IsOwnRun n coins (unroll items) r → MayRunAll coins items repeats r
may-run-all n coins items repeats r checked repeated distinct own =
    let qubits = own.replay.at_step.qubits in
    let all = own.replay.at_step.all in
    record {
      steps = sym all;
      checked = subst (λ m. check_within m items ≡ None) (sym qubits) checked;
      fits = subst (λ m. All (StepFits m) r.cursor.all) (sym qubits) (check-fits n items r.cursor.all checked all distinct);
      repeated = subst (λ ys. AreRepeats 0 ys repeats) (sym all) repeated;
      own = subst (λ x. x) (λ i. IsOwnRun (sym qubits i) coins (sym all i) r) own;
    }

pub ran-all : (n : ℕ) (coins : ℕ → Bool) (ys : List Step) (r s : Replay) → IsOwnRun n coins ys r → IsOwnRun r.tableau.qubits coins r.cursor.all s → s.step ≡ length r.cursor.all
    → IsOwnRun n coins ys s × (s.step ≡ length ys)
ran-all n coins ys r s own ran end =
    let qubits = own.replay.at_step.qubits in
    let all = own.replay.at_step.all in
    (subst (λ x. x) (λ i. IsOwnRun (qubits i) coins (all i) s) ran, end ∙ ap length all)

-- by a replay's own names and by others
pub own-named : {m n : ℕ} {others coins : ℕ → Bool} {zs ys : List Step} (r : Replay) → m ≡ n → others ≡ coins → zs ≡ ys → IsOwnRun m others zs r → IsOwnRun n coins ys r
own-named r qubits coins all = subst (λ x. x) (λ i. IsOwnRun (qubits i) (coins i) (all i) r)

-- further on in the same circuit
pub may-run-block : {coins others : ℕ → Bool} (items : Items) (block : Repeat) (r s : Replay) → s.tableau.qubits ≡ r.tableau.qubits → others ≡ coins → s.cursor.all ≡ r.cursor.all
    → IsOwnRun r.tableau.qubits coins r.cursor.all s → MayRunBlock coins items block r → MayRunBlock others items block s
may-run-block items block r s qubits same all own may = record {
  has_steps = steps-named (sym all) may.has_steps;
  runnable = runnable-named (sym qubits) (sym all) may.runnable;
  is_repeat = subst (λ ys. IsRepeat ys block) (sym all) may.is_repeat;
  own = own-named s (sym qubits) (sym same) (sym all) own;
}

-- after the last step

pub own-output : (n : ℕ) (coins : ℕ → Bool) (ys : List Step) (r : Replay) → IsOwnRun n coins ys r → r.step ≡ length ys → output_of r.outputs ≡ outputs n coins ys origin
own-output n coins ys r own end =
    own.replay.at_step.run.output ∙ ap (λ xs. outputs n coins xs origin) (take_all r.step ys (omega (arith, end)))

pub own-pivots : (n : ℕ) (coins : ℕ → Bool) (ys : List Step) (r : Replay) → IsOwnRun n coins ys r → r.step ≡ length ys
    → KeepsPivotList n coins ys r.pivots.strings r.outputs.free.items r.pivots.window
own-pivots n coins ys r own end =
    subst (λ xs. KeepsPivotList n coins xs r.pivots.strings r.outputs.free.items r.pivots.window) (take_all r.step ys (omega (arith, end))) own.replay.at_step.has_pivots
