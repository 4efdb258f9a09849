-- Progress: calls that take a replay further, one after another, and what they cost.
use Rattle.stab_recording.proofs.Names.{◌≡◌, ℕ, ◌+◌, ◌-◌, ◌≤◌, refl, ◌∙◌, ap, subst, Bool, List, length, take, drop, arith, length-take, length-drop, Step, Items, ones, all_coins_of, coins-few, IsAtStep, Replay}
use Rattle.stab_recording.specs.FollowedRuns.{Costs, HasSteps}
use Rattle.stab_recording.specs.inner.Progress.{AreRunnable, HasCarriedOut, IsFurther}
use Rattle.stab_recording.proofs.ReplayLemmas.{coins-cut}

-- none

pub further-none : (a : ℕ) (r : Replay) → IsFurther a a r r
further-none a r = record {
  all = refl;
  qubits = refl;
  step = omega arith;
  window = omega arith;
  most = omega arith;
  asked = omega arith;
}

pub costs-none : (a : ℕ) (r : Replay) → Costs a a r r
costs-none a r = record {
  counted = omega arith;
  asks = omega arith;
  asks_random = omega arith;
}

-- one more

pub further-on : (a b c : ℕ) (r s t : Replay) → IsFurther a b r s → IsFurther b c s t → IsFurther a c r t
further-on a b c r s t h k = record {
  all = k.all ∙ h.all;
  qubits = k.qubits ∙ h.qubits;
  step = omega (arith, h.step, k.step);
  window = omega (arith, h.window, k.window);
  most = omega (arith, h.most, k.most);
  asked = omega (arith, h.asked, k.asked, ap (λ xs. all_coins_of (drop t.step xs)) h.all, ap (λ xs. all_coins_of (drop s.step xs)) h.all);
}

pub costs-on : (a b c : ℕ) (r s t : Replay) → Costs a b r s → Costs b c s t → Costs a c r t
costs-on a b c r s t h k = record {
  counted = omega (arith, h.counted, k.counted);
  asks = omega (arith, h.asks, k.asks);
  asks_random = omega (arith, h.asks_random, k.asks_random);
}

-- and others that change nothing of what is counted

pub further-named : (a b : ℕ) (r s t : Replay) → IsFurther a b r s → t.cursor.all ≡ r.cursor.all → t.tableau.qubits ≡ r.tableau.qubits → t.step ≡ s.step → t.pivots ≡ s.pivots
    → IsFurther a b r t
further-named a b r s t h all qubits step pivots = record {
  all = all;
  qubits = qubits;
  step = omega (arith, h.step, step);
  window = let same : t.pivots.window ≡ s.pivots.window = λ i. (pivots i).window in omega (arith, h.window, same);
  most = let same : t.pivots.strings.most ≡ s.pivots.strings.most = λ i. (pivots i).strings.most in omega (arith, h.most, same);
  asked = omega (arith, h.asked, ap (λ k. all_coins_of (drop k r.cursor.all)) step);
}

pub costs-named : (a b : ℕ) (r s t : Replay) → Costs a b r s → t.step ≡ s.step → t.applied ≡ s.applied → t.by_frame ≡ s.by_frame → t.outputs ≡ s.outputs → Costs a b r t
costs-named a b r s t h step applied by_frame outputs = record {
  counted = omega (arith, h.counted, step, applied, by_frame);
  asks = omega (arith, h.asks, applied);
  asks_random = let same : ones t.outputs.free.items ≡ ones s.outputs.free.items = λ i. ones (outputs i).free.items in omega (arith, h.asks_random, same);
}

pub further-saved : (a b : ℕ) (r s t : Replay) → IsFurther a b r s → t ≡ record s { saved = t.saved } → IsFurther a b r t
further-saved a b r s t h same =
    further-named a b r s t h ((λ i. (same i).cursor.all) ∙ h.all) ((λ i. (same i).tableau.qubits) ∙ h.qubits) (λ i. (same i).step) (λ i. (same i).pivots)

pub costs-saved : (a b : ℕ) (r s t : Replay) → Costs a b r s → t ≡ record s { saved = t.saved } → Costs a b r t
costs-saved a b r s t h same = costs-named a b r s t h (λ i. (same i).step) (λ i. (same i).applied) (λ i. (same i).by_frame) (λ i. (same i).outputs)

-- one that carries out steps

pub further-by-steps : (a b : ℕ) (r s : Replay) → s.cursor.all ≡ r.cursor.all → s.tableau.qubits ≡ r.tableau.qubits → r.step ≤ s.step → r.pivots.window ≤ s.pivots.window
    → s.pivots.strings.most ≡ r.pivots.strings.most → r.cursor.left ≡ drop r.step r.cursor.all → b ≤ a + all_coins_of (take (s.step - r.step) r.cursor.left) → IsFurther a b r s
further-by-steps a b r s all qubits step window most left asks = record {
  all = all;
  qubits = qubits;
  step = step;
  window = window;
  most = omega (arith, most);
  asked = omega (arith, asks, coins-cut r.step s.step r.cursor.all r.cursor.left step left);
}

pub costs-by-steps : (a b : ℕ) (r s : Replay) → r.step ≤ s.step → s.step ≤ length r.cursor.all → r.cursor.left ≡ drop r.step r.cursor.all
    → s.applied ≡ r.applied + length (take (s.step - r.step) r.cursor.left) → s.by_frame ≡ r.by_frame → b ≤ a + all_coins_of (take (s.step - r.step) r.cursor.left)
    → b + ones r.outputs.free.items ≤ a + ones s.outputs.free.items → Costs a b r s
costs-by-steps a b r s order within left applied by_frame asks asks_random =
    let count : length (take (s.step - r.step) r.cursor.left) ≡ s.step - r.step =
    omega (arith, length-take (s.step - r.step) r.cursor.left, ap length left, length-drop r.step r.cursor.all, order, within) in
    record {
      counted = omega (arith, applied, by_frame, count, order);
      asks = omega (arith, asks, applied, count, coins-few (s.step - r.step) r.cursor.left);
      asks_random = asks_random;
    }

pub carried-on : {m n : ℕ} {others coins : ℕ → Bool} (r s t : Replay) → m ≡ n → others ≡ coins → HasCarriedOut n coins r s → HasCarriedOut m others s t → HasCarriedOut n coins r t
carried-on r s t qubits same h k = record {
  at_step = subst (λ x. x) (λ i. IsAtStep (qubits i) (same i) (h.at_step.all i) t) k.at_step;
  saved = k.saved ∙ h.saved;
  by_frame = k.by_frame ∙ h.by_frame;
}

-- the same steps, by other names

pub runnable-named : {m n : ℕ} {zs ys : List Step} → m ≡ n → zs ≡ ys → AreRunnable m zs → AreRunnable n ys
runnable-named qubits all = subst (λ x. x) (λ i. AreRunnable (qubits i) (all i))

pub steps-named : {circuit : Items} {zs ys : List Step} → zs ≡ ys → HasSteps circuit zs → HasSteps circuit ys
steps-named all h = record { steps = h.steps ∙ all; checked = h.checked }
