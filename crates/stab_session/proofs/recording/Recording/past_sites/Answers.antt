use Rattle.stab_session.proofs.Names.{◌≡◌, ℕ, Bool, List, ◌+◌, ◌-◌, ◌≤◌, refl, sym, ◌∙◌, ap, subst, arith, Some, length, drop, take, All, replicate, IfSome, drop-drop, length-replicate, length-take, length-drop, All-drop, All-take, I, Step, unroll, circuit_items, HasDistinctQubits, Lengths, Checkpoint, IsCheckpoint, pivot_at, PropagationState, IsPlaced, ones, Point, RunOutput, nothing, outputs, lengths_of, StepFits, check-fits, check-whole, check-steps, longer, AreBelow, IsFrameBetween, IsBeforeSites}
use Rattle.std.specs.Prelude.{slice_get}
use Rattle.stab_session.proofs.ConjugatingLemmas.{checkpoint-is, checkpoint-before, checkpoint-within, checkpoint-below, from-within, from-few, following-qubits}
use Rattle.stab_session.proofs.recording.Recording.past_sites.Goals as goal
use Rattle.stab_session.proofs.recording.Recording.past_sites.Goals.{After-index-checkpoint, In_ok-propagation}

few : (c : After-index-checkpoint) → length (unroll (circuit_items c.args.circuit.now)) ≤ 1048576
few c = check-steps (circuit_items c.args.circuit.now) (check-whole c.args.self.now.tableau.qubits (circuit_items c.args.circuit.now) c.requires.checked)

here : (c : After-index-checkpoint) → slice_get c.args.self.now.checkpoints.items (c.args.before - 1) ≡ Some c.index-checkpoint.result.now
here c = let f = c.requires.follows.2 in checkpoint-is f.count f.preserved f.span (few c) c.requires.counted.first c.index-checkpoint.result.now c.index-checkpoint.ensures

-- the lengths are those that the steps give at any point
counts : (first : ℕ) (d : Checkpoint) (left ys : List Step) (from : Lengths) → left ≡ drop d.step ys → (k : ℕ) (others : ℕ → Bool) (a : Point)
    → from ≡ longer d.lengths (lengths_of (outputs k others (take (first - d.step) left) a)) → from ≡ longer d.lengths (lengths_of (outputs k others (take (first - d.step) (drop d.step ys)) a))
counts first d left ys from is k others a value = value ∙ ap (λ zs. longer d.lengths (lengths_of (outputs k others (take (first - d.step) zs) a))) is

letters-long : (n len : ℕ) (w : PropagationState) → len ≡ n → {flips : RunOutput} {coin number : ℕ} → w ≡ record { letters = replicate len I; flips = flips; coin = coin; number = number }
    → length w.letters ≡ n
letters-long n len w size is = ap (λ (u : PropagationState). length u.letters) is ∙ length-replicate len I ∙ size

-- after the checkpoint's step the cursor goes on to the first of the span
first-left : (first step : ℕ) (left following ys : List Step) → step ≤ first → left ≡ drop step ys → following ≡ drop (first - step) left → following ≡ drop first ys
first-left first step left following ys le is went =
    went
    ∙ ap (drop (first - step)) is
    ∙ drop-drop (first - step) step ys
    ∙ ap (λ k. drop k ys) {x = step + (first - step)} {y = first} (omega (arith, le))

pub at-requires-clause-in_range : goal.at-requires-clause-in_range
at-requires-clause-in_range c =
    let f = c.requires.follows.2 in checkpoint-within f.count f.preserved f.span (few c) c.requires.counted.first c.index-checkpoint.result.now (here c)

pub overflow_sub-span : goal.overflow_sub-span
overflow_sub-span c =
    let at = (goal.at.overflow_sub-span c).After-index-checkpoint in
    let f = c.requires.follows.2 in
    checkpoint-before f.count f.preserved f.span (few at) c.requires.counted.first c.index-checkpoint.result.now (here at)

pub lengths_after-from-requires : goal.lengths_after-from-requires
lengths_after-from-requires c =
    let at = (goal.at.lengths_after-from-requires c).After-index-checkpoint in
    let f = c.requires.follows.2 in
    record {
      few =
          subst (λ zs. AreBelow 9223372036854775808 (length zs) c.index-checkpoint.result.now.lengths) (sym c.in_ok-cursor.ensures.steps)
          (checkpoint-below f.count f.preserved f.span (few at) c.requires.counted.first c.index-checkpoint.result.now (here at));
    }

pub new-requires : goal.new-requires
new-requires c =
    let at = (goal.at.new-requires c).After-index-checkpoint in
    let f = c.requires.follows.2 in
    record {
      in_range =
          subst (λ bits. c.lengths_after-from.result.free ≤ length bits) (sym c.as_slice-free.ensures.value)
          (from-within f.count f.preserved f.span (few at) c.requires.counted.first c.index-checkpoint.result.now (here at) c.lengths_after-from.result
          (λ k others a. counts c.args.span.first c.index-checkpoint.result.now c.in_ok-cursor.cursor.left (unroll (circuit_items c.args.circuit.now)) c.lengths_after-from.result c.in_ok-cursor.ensures.steps k others a
          (c.lengths_after-from.ensures.value k others a)));
    }

-- the steps that are left where the frame begins
left : (c : In_ok-propagation) → c.index-checkpoint.result.now.step ≤ c.args.span.first → c.lengths_after-from.new.cursor.left ≡ drop c.args.span.first (unroll (circuit_items c.args.circuit.now))
left c le =
    first-left c.args.span.first c.index-checkpoint.result.now.step c.in_ok-cursor.cursor.left c.lengths_after-from.new.cursor.left (unroll (circuit_items c.args.circuit.now)) le
    c.in_ok-cursor.ensures.steps c.lengths_after-from.ensures.left

at-first : (c : After-index-checkpoint) → c.index-checkpoint.result.now.step ≤ c.args.span.first
at-first c = let f = c.requires.follows.2 in checkpoint-before f.count f.preserved f.span (few c) c.requires.counted.first c.index-checkpoint.result.now (here c)

long : (c : In_ok-propagation) → length c.in_ok-propagation.propagation.letters ≡ c.args.self.now.tableau.qubits
long c = letters-long c.args.self.now.tableau.qubits c.len.result c.in_ok-propagation.propagation c.len.ensures.value c.in_ok-propagation.ensures.value

pub propagate_sites-requires-clause-may : goal.propagate_sites-requires-clause-may
propagate_sites-requires-clause-may c =
    let at = goal.at.propagate_sites-requires-clause-may c in
    let f = c.requires.follows.2 in
    let ys = unroll (circuit_items c.args.circuit.now) in
    let n = c.args.self.now.tableau.qubits in
    let size = long at.In_ok-propagation in
    let small = few at.After-index-checkpoint in
    let rest = left at.In_ok-propagation (at-first at.After-index-checkpoint) in
    let is = c.in_ok-propagation.ensures.value in
    let distinct : All HasDistinctQubits ys = subst (All HasDistinctQubits) c.in_ok-cursor.ensures.all c.in_ok-cursor.ensures.distinct in
    record {
      same_length = f.preserved.has_pivots.size ∙ sym size;
      fits =
          subst (λ k. All (StepFits k) c.lengths_after-from.new.cursor.left) (sym size)
          (subst (All (StepFits n)) (sym rest) (All-drop (StepFits n) c.args.span.first ys (check-fits n (circuit_items c.args.circuit.now) ys c.requires.checked refl distinct)));
      placed = subst (IsPlaced c.as_slice-free.result.now) (sym is) refl;
      few =
          omega (
            arith,
            from-few f.count f.preserved f.span small c.requires.counted.first c.index-checkpoint.result.now (here at.After-index-checkpoint) c.lengths_after-from.result
                (λ k others a. counts c.args.span.first c.index-checkpoint.result.now c.in_ok-cursor.cursor.left ys c.lengths_after-from.result c.in_ok-cursor.ensures.steps k others a
                (c.lengths_after-from.ensures.value k others a)) c.args.span.first,
            ap (λ (w : PropagationState). w.coin) is,
            ap length rest,
          );
      few_passed = omega (arith, ap length rest, length-drop c.args.span.first ys, small, c.requires.none_propagated);
    }

-- no more steps are counted than there are from the first site on
most-counted : (c : In_ok-propagation) → (first : ℕ) → c.lengths_after-from.new.cursor.left ≡ drop first (unroll (circuit_items c.args.circuit.now)) → (by_frame : ℕ)
    → by_frame ≤ c.args.by_frame.now + length c.lengths_after-from.new.cursor.left → by_frame ≤ length (unroll (circuit_items c.args.circuit.now)) - first
most-counted c first rest by_frame le = omega (arith, le, ap length rest, length-drop first (unroll (circuit_items c.args.circuit.now)), c.requires.none_propagated)

pub returns-in_err-went-clause-most : goal.returns-in_err-went-clause-most
returns-in_err-went-clause-most c =
    let at = goal.at.returns-in_err-went-clause-most c in
    most-counted at.In_ok-propagation c.args.span.first (left at.In_ok-propagation (at-first at.After-index-checkpoint)) c.propagate_sites.new.by_frame c.propagate_sites.ensures.most

pub returns-then-not-went-clause-most : goal.returns-then-not-went-clause-most
returns-then-not-went-clause-most c =
    let at = goal.at.returns-then-not-went-clause-most c in
    most-counted at.In_ok-propagation c.args.span.first (left at.In_ok-propagation (at-first at.After-index-checkpoint)) c.propagate_sites.new.by_frame c.propagate_sites.ensures.most

pub returns-clause-most : goal.returns-clause-most
returns-clause-most c =
    let at = goal.at.returns-clause-most c in
    most-counted at.In_ok-propagation c.args.span.first (left at.In_ok-propagation (at-first at.After-index-checkpoint)) c.propagate_sites.new.by_frame c.propagate_sites.ensures.most

-- the checkpoints that are within the span
within : (back cs : List Checkpoint) (before inside : ℕ) (some all : List Checkpoint) → some ≡ take (inside - before) back → back ≡ drop before all → all ≡ cs
    → some ≡ take (inside - before) (drop before cs)
within back cs before inside some all is following same = is ∙ ap (take (inside - before)) (following ∙ ap (drop before) same)

pub propagate_sites-requires-clause-same_qubits : goal.propagate_sites-requires-clause-same_qubits
propagate_sites-requires-clause-same_qubits c =
    let at = goal.at.propagate_sites-requires-clause-same_qubits c in
    let f = c.requires.follows.2 in
    let cs = c.args.self.now.checkpoints.items in
    subst (All (λ d. d.tableau.qubits ≡ length c.in_ok-propagation.propagation.letters))
    (sym (within c.split_at.result.1.now cs c.args.before c.args.inside c.split_at-2.result.0.now c.as_slice.result.now c.split_at-2.ensures.front c.split_at.ensures.back c.as_slice.ensures.value))
    (All-take (λ d. d.tableau.qubits ≡ length c.in_ok-propagation.propagation.letters) (c.args.inside - c.args.before) (drop c.args.before cs)
    (following-qubits f.count f.preserved f.span c.args.before (length c.in_ok-propagation.propagation.letters) (long at.In_ok-propagation)))

pub returns-clause-passed : goal.returns-clause-passed
returns-clause-passed c =
    let at = goal.at.returns-clause-passed c in
    let n = c.args.self.now.tableau.qubits in
    let ys = unroll (circuit_items c.args.circuit.now) in
    let cs = c.args.self.now.checkpoints.items in
    let from = c.lengths_after-from.result in
    let propagation = c.in_ok-propagation.propagation in
    let strings = c.args.self.now.strings.strings in
    let went = c.in_ok-went.ensures in
    let did = c.if-not-went.false in
    let size : length propagation.letters ≡ n = long at.In_ok-propagation in
    let all : c.lengths_after-from.new.cursor.all ≡ ys = c.lengths_after-from.ensures.all ∙ c.in_ok-cursor.ensures.all in
    let rest : c.lengths_after-from.new.cursor.left ≡ drop c.args.span.first ys = left at.In_ok-propagation (at-first at.After-index-checkpoint) in
    let randomness : c.as_slice-free.result.now ≡ c.args.self.now.outputs.free.items = c.as_slice-free.ensures.value in
    let some : c.split_at-2.result.0.now ≡ take (c.args.inside - c.args.before) (drop c.args.before cs) =
    within c.split_at.result.1.now cs c.args.before c.args.inside c.split_at-2.result.0.now c.as_slice.result.now c.split_at-2.ensures.front c.split_at.ensures.back c.as_slice.ensures.value in
    record {
      from_is =
          subst (λ o. IfSome o (λ d. (k : ℕ) (others : ℕ → Bool) (a : Point) → from ≡ longer d.lengths (lengths_of (outputs k others (take (c.args.span.first - d.step) (drop d.step ys)) a))))
          (sym (here at.After-index-checkpoint))
          (λ k others a. counts c.args.span.first c.index-checkpoint.result.now c.in_ok-cursor.cursor.left ys from c.in_ok-cursor.ensures.steps k others a (c.lengths_after-from.ensures.value k others a));
      start = propagation;
      begins =
          subst (λ x. x)
          (λ i. propagation ≡ record { letters = replicate (c.len.ensures.value i) I; flips = nothing; coin = from.free; number = ones (take from.free (randomness i)) })
          c.in_ok-propagation.ensures.value;
      letters = went.length ∙ size;
      placed = subst (λ bits. IsPlaced bits c.propagate_sites.new.propagation) randomness went.placed;
      few = omega (arith, went.coin did, ap (λ (w : PropagationState). w.coin) c.in_ok-propagation.ensures.value, ap length rest);
      count =
          omega (
            arith,
            went.count did,
            ap length some,
            length-take (c.args.inside - c.args.before) (drop c.args.before cs),
            length-drop c.args.before cs,
            c.requires.counted.order,
            c.requires.counted.within,
          );
      between = λ coins xs base front b.
          subst (λ x. x) (λ i. IsFrameBetween (size i) coins xs (all i) (pivot_at strings (randomness i)) (randomness i) base front c.args.span.old_end c.args.span.new_end c.propagate_sites.new.propagation)
          (went.between did coins xs base front c.args.span refl
          (subst (λ x. x)
          (λ i. IsBeforeSites (sym size i) coins xs (sym all i) (pivot_at strings (sym randomness i)) (sym randomness i) base front c.args.span c.args.change.now (sym rest i) propagation) b));
      are_checkpoints = λ coins xs base front b are.
          subst (λ x. x) (λ i. All (IsCheckpoint (size i) coins (all i)) c.propagate_sites.new.passed.items)
          (went.checkpoints did coins xs base front c.args.span refl
          (subst (λ x. x)
          (λ i. IsBeforeSites (sym size i) coins xs (sym all i) (pivot_at strings (sym randomness i)) (sym randomness i) base front c.args.span c.args.change.now (sym rest i) propagation) b)
          (subst (λ x. x) (λ i. All (IsCheckpoint (sym size i) coins xs) (sym some i)) are));
    }
