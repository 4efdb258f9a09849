use Rattle.stab_session.proofs.Names.{IsPlaced, ◌≡◌, ℕ, ◌+◌, ◌<◌, refl, sym, ◌∙◌, ap, subst, Bool, List, length, drop, get_or, All, arith, length-drop, length-take, All-nil, All-take, All-drop, Step, Span, RunOutput, StepFits, pivot_at, PropagationState, IsCheckpoint, IsFrameBetween, IsBeforePiece, IsBeforeSites}
use Rattle.stab_session.proofs.PastSiteLemmas.{IsUnderWay, under-way-first, under-way-last, under-way-gates, under-way-next}
use Rattle.stab_session.proofs.past_sites.propagate_sites.Goals as goal
use Rattle.stab_session.proofs.past_sites.propagate_sites.Goals.{After-saturating_add-new-in-loop-gap}

pub loop-gap-init : goal.loop-gap-init
loop-gap-init c =
    let n = length c.args.propagation.now.letters in
    let pivots = pivot_at c.args.strings.now.strings c.args.free.now in
    record {
      all = refl;
      fits = c.requires.may.fits;
      size = refl;
      placed = c.requires.may.placed;
      coin = omega arith;
      counted = omega arith;
      within = omega (arith, ap length c.requires.nothing);
      under_way = λ coins xs base front s first b.
          subst (λ k. IsUnderWay n coins xs c.args.cursor.now.all pivots c.args.free.now base front s c.args.change.now b.differ.differ.old_gates b.differ.differ.new_gates 0 k k
          c.args.cursor.now.left c.args.propagation.now) first (under-way-first b);
      are_checkpoints = λ coins xs base front s first b are.
          subst (All (IsCheckpoint n coins c.args.cursor.now.all)) (sym c.requires.nothing) (All-nil (IsCheckpoint n coins c.args.cursor.now.all));
    }

-- no more steps are counted than there are

pub propagate_piece-requires-clause-may : goal.propagate_piece-requires-clause-may
propagate_piece-requires-clause-may c =
    let inv = c.loop-gap.invariant in
    let n = length c.args.propagation.now.letters in
    let size = c.multiply.ensures.length ∙ inv.size in
    let skipped = c.skip_steps.ensures.left c.if-not-skip_steps.false in
    record {
      same_length = c.requires.may.same_length ∙ sym size;
      fits = subst (λ m. All (StepFits m) c.skip_steps.new.cursor.left) (sym size) (subst (All (StepFits n)) (sym skipped) (All-drop (StepFits n) c.args.change.now.new c.loop-gap.cursor.left inv.fits));
      placed = subst (IsPlaced c.args.free.now) (sym c.multiply.ensures.value) inv.placed;
      few = omega (arith, ap length skipped, length-drop c.args.change.now.new c.loop-gap.cursor.left, ap (λ (w : PropagationState). w.coin) c.multiply.ensures.value, inv.coin, c.requires.may.few);
      few_passed = omega (arith, ap length skipped, length-drop c.args.change.now.new c.loop-gap.cursor.left, inv.counted, c.requires.may.few_passed);
    }

pub returns-in_err-propagate_piece-clause-most : goal.returns-in_err-propagate_piece-clause-most
returns-in_err-propagate_piece-clause-most c =
    omega (arith, c.propagate_piece.ensures.most, ap length (c.skip_steps.ensures.left c.if-not-skip_steps.false), length-drop c.args.change.now.new c.loop-gap.cursor.left, c.loop-gap.invariant.counted)

pub returns-then-not-branch-clause-most : goal.returns-then-not-branch-clause-most
returns-then-not-branch-clause-most c =
    omega (arith, c.propagate_piece.ensures.most, ap length (c.skip_steps.ensures.left c.if-not-skip_steps.false), length-drop c.args.change.now.new c.loop-gap.cursor.left, c.loop-gap.invariant.counted)

-- at a site

abbrev gap : After-saturating_add-new-in-loop-gap → ℕ
gap c = get_or c.as_slice-gap-items.result.now c.loop-gap.gap-index 0

gap-is : (c : After-saturating_add-new-in-loop-gap) → gap c ≡ get_or c.args.change.now.gaps.items c.loop-gap.gap-index 0
gap-is c = ap (λ gaps. get_or gaps c.loop-gap.gap-index 0) c.as_slice-gap-items.ensures.value

there : (c : After-saturating_add-new-in-loop-gap) → c.loop-gap.gap-index < length c.args.change.now.gaps.items
there c = omega (arith, c.loop-gap-test.true, ap length c.as_slice-gap-items.ensures.value)

size : (c : After-saturating_add-new-in-loop-gap) → length c.multiply.new.self.letters ≡ length c.args.propagation.now.letters
size c = c.multiply.ensures.length ∙ c.loop-gap.invariant.size

all : (c : After-saturating_add-new-in-loop-gap) → c.skip_steps.new.cursor.all ≡ c.args.cursor.now.all
all c = c.skip_steps.ensures.all ∙ c.loop-gap.invariant.all

-- after its gates the frame is before the piece there
before : (c : After-saturating_add-new-in-loop-gap) (coins : ℕ → Bool) (xs : List Step) (base : ℕ) (front : RunOutput) (s : Span) → s.first ≡ c.args.first
    → IsBeforeSites (length c.args.propagation.now.letters) coins xs c.args.cursor.now.all (pivot_at c.args.strings.now.strings c.args.free.now) c.args.free.now base front s c.args.change.now
    c.args.cursor.now.left c.args.propagation.now
    → IsBeforePiece (length c.multiply.new.self.letters) coins xs c.skip_steps.new.cursor.all (pivot_at c.args.strings.now.strings c.args.free.now) c.args.free.now base front
    c.saturating_add-old.result c.saturating_add-new.result (gap c) c.skip_steps.new.cursor.left c.multiply.new.self
before c coins xs base front s first b =
    subst (λ x. x)
    (λ i. IsBeforePiece (sym (size c) i) coins xs (sym (all c) i) (pivot_at c.args.strings.now.strings c.args.free.now) c.args.free.now base front
    c.saturating_add-old.result c.saturating_add-new.result (gap c) c.skip_steps.new.cursor.left c.multiply.new.self)
    (under-way-gates b.differ c.loop-gap.gap-index (gap c) (there c) (gap-is c) (c.loop-gap.invariant.under_way coins xs base front s first b)
    c.saturating_add-old.result c.saturating_add-new.result (omega (arith, c.saturating_add-old.ensures)) (omega (arith, c.saturating_add-new.ensures))
    c.skip_steps.new.cursor.left c.multiply.new.self (c.skip_steps.ensures.left c.if-not-skip_steps.false) c.multiply.ensures.value)

pub loop-gap-preserved : goal.loop-gap-preserved
loop-gap-preserved c =
    let inv = c.loop-gap.invariant in
    let piece = c.in_ok-propagate_piece.ensures in
    let gave = piece.passed c.if-not-branch.false in
    let n = length c.args.propagation.now.letters in
    let skipped = c.skip_steps.ensures.left c.if-not-skip_steps.false in
    let some = c.checkpoints_until-here.ensures.value in
    let checkpoints = c.args.checkpoints.now in
    record {
      all = piece.all ∙ all c;
      fits =
          subst (All (StepFits n)) (sym (gave.left_is ∙ ap (drop (gap c)) skipped))
          (All-drop (StepFits n) (gap c) (drop c.args.change.now.new c.loop-gap.cursor.left) (All-drop (StepFits n) c.args.change.now.new c.loop-gap.cursor.left inv.fits));
      size = piece.length ∙ size c;
      placed = piece.placed;
      coin =
          omega (
            arith,
            gave.coin,
            ap (λ (w : PropagationState). w.coin) c.multiply.ensures.value,
            ap length skipped,
            length-drop c.args.change.now.new c.loop-gap.cursor.left,
            inv.coin,
          );
      counted = omega (arith, gave.counted, ap length skipped, length-drop c.args.change.now.new c.loop-gap.cursor.left, inv.counted);
      within =
          omega (
            arith,
            gave.count,
            ap length some.1,
            length-take some.0 (drop c.len.result checkpoints),
            length-drop c.len.result checkpoints,
            c.len.ensures,
            c.loop-gap.passed.ok.0,
            inv.within,
          );
      under_way = λ coins xs base front s first b.
          under-way-next b.differ c.loop-gap.gap-index (gap c) (there c) (gap-is c) (inv.under_way coins xs base front s first b)
          c.saturating_add-old.result c.saturating_add-new.result (omega (arith, c.saturating_add-old.ensures)) (omega (arith, c.saturating_add-new.ensures))
          c.saturating_add-old-in-loop-gap.result c.saturating_add-new-in-loop-gap.result c.skip_steps.new.cursor.left c.propagate_piece.new.cursor.left c.propagate_piece.new.propagation skipped gave.left_is
          (omega (arith, c.saturating_add-old-in-loop-gap.ensures)) (omega (arith, c.saturating_add-new-in-loop-gap.ensures))
          (subst (λ x. x)
          (λ i. IsFrameBetween (size c i) coins xs (all c i) (pivot_at c.args.strings.now.strings c.args.free.now) c.args.free.now base front
          (c.saturating_add-old.result + gap c) (c.saturating_add-new.result + gap c) c.propagate_piece.new.propagation)
          (gave.between coins xs base front (before c coins xs base front s first b)));
      are_checkpoints = λ coins xs base front s first b are.
          subst (λ x. x) (λ i. All (IsCheckpoint (size c i) coins (all c i)) c.propagate_piece.new.passed.items)
          (gave.are_checkpoints coins xs base front (before c coins xs base front s first b)
          (subst (λ k. All (IsCheckpoint k coins xs) c.checkpoints_until-here.result.now) (sym (size c))
          (subst (All (IsCheckpoint n coins xs)) (sym some.1)
          (All-take (IsCheckpoint n coins xs) some.0 (drop c.len.result checkpoints) (All-drop (IsCheckpoint n coins xs) c.len.result checkpoints are))))
          (subst (λ x. x) (λ i. All (IsCheckpoint (sym (size c) i) coins (sym (all c) i)) c.loop-gap.passed.items) (inv.are_checkpoints coins xs base front s first b are)));
    }

pub returns-clause-between : goal.returns-clause-between
returns-clause-between c = λ did coins xs base front s first b.
    let inv = c.loop-gap.invariant in
    under-way-last b.differ c.loop-gap.gap-index (omega (arith, c.loop-gap-test.false, ap length c.as_slice-gap-items.ensures.value)) (inv.under_way coins xs base front s first b)
