-- What a propagated frame says: from what was made of a recording to the run of the new steps.
use Rattle.stab_session.proofs.Names.{◌≡◌, ℕ, ◌+◌, ◌-◌, ◌^◌, ◌<◌, ◌≤◌, refl, sym, ◌∙◌, ap, subst, Bool, List, [], ◌∷◌, ◌++◌, length, take, drop, All, Option, Some, None, arith, IfSome, All-append, All-drop, All-take, Letter, Step, Span, Lengths, ones, RunOutput, origin, joined, point_after, outputs, lengths_of, front_of, rest_of, StepFits, output_of, flipped_output, unflipped, pivot_at, Checkpoint, IsCheckpoint, checkpoint_steps, Near, last_of, moved, moved_lengths, HasAtMost, outputs-short, length-take, KeepsPivotList, DifferByPaulis, DifferAtSites, IsFrameBetween, IsBeforeSites, PauliChange, Recording, PastSites, Conjugating, Followed, IsRecording, IsSpan, Follows, IsCheckpointCount, conjugated_end, StaysNear, IsPastSites, IsConjugating, IsTakenOver, HasConjugated, span_meeting, checkpoints_conjugated, no_lengths}
use Rattle.std.specs.Prelude.{slice_get}
use Rattle.stab_session.proofs.FrameBetweenLemmas.{between-first}
use Rattle.stab_session.proofs.PauliSpanLemmas.{span-near, span-true, span-true-all, span-randomness}
use Rattle.stab_session.proofs.PropagatedRunLemmas.{IsPropagatedRun, rest, run-lengths, run-output, run-unflagged, run-has_pivots}
use Rattle.stab_session.proofs.RestLemmas.{IsPropagatedRest, rest-group}
use Rattle.stab_session.proofs.PropagatedCheckpointLemmas.{rest-checkpoints, rest-agrees, rest-differs}
use Rattle.stab_session.proofs.FollowLemmas.{some-at}
use Rattle.stab_session.proofs.FlipSignLemmas.{DeterminesRun, AreInside, has-conjugated}
use Rattle.stab_session.proofs.ConjugateSpacingLemmas.{in-order, stays-following}
use Rattle.stab_session.proofs.ConjugatingLemmas.{before, from-is}

-- lists that stay as long as they are
stay-long : (k : ℕ) (o : RunOutput) → k < 2 ^ 64 → HasAtMost k o → moved_lengths no_lengths no_lengths (lengths_of o) ≡ lengths_of o
stay-long k o few short = λ i. record {
  records = stay (length o.records) (let h = short.records in omega (arith, h, few)) i;
  free = stay (length o.free) (let h = short.free in omega (arith, h, few)) i;
  detectors = stay (length o.detectors) (let h = short.detectors in omega (arith, h, few)) i;
  additions = stay (length o.additions) (let h = short.additions in omega (arith, h, few)) i;
}
  where
    stay : (x : ℕ) → x < 2 ^ 64 → moved 0 0 x ≡ x
    stay x lt = omega (arith, lt)

module _ {coins : ℕ → Bool} {K : ℕ} {xs ys : List Step} {s : Span} {change : PauliChange} {old : Recording} {m j : ℕ} (count : ℕ) (preserved : IsRecording old.tableau.qubits coins K xs count old)
    (span : IsSpan xs ys s) (few : length ys ≤ 1048576) (counted : IsCheckpointCount (s.first + 1) old.checkpoints.items m)
    (differ : DifferByPaulis old.tableau.qubits xs ys s change.string.letters change.old change.new change.gaps.items) (fits : All (StepFits old.tableau.qubits) ys)
    (following : IfSome (slice_get old.checkpoints.items j) (λ c. s.old_end ≤ c.step)) (p : PastSites) (passed : IsPastSites ys s m j change old p.from p.propagation p.checkpoints.items)
    (t : Conjugating) (conjugating : IsConjugating ys s j p old t) where
  abbrev n : ℕ
  n = old.tableau.qubits

  abbrev free : List Bool
  free = old.outputs.free.items

  abbrev pivots : ℕ → Option (List Letter)
  pivots = pivot_at old.strings.strings free

  abbrev front : RunOutput
  front = outputs n coins (take s.first xs) origin

  abbrev base : ℕ
  base = length (point_after n coins (take s.first xs) origin).records

  from_is : p.from ≡ lengths_of front
  from_is =
      from-is count preserved span few counted (before count preserved span few counted).checkpoint (before count preserved span few counted).here p.from
      (some-at _ old.checkpoints.items (m - 1) (before count preserved span few counted).checkpoint (before count preserved span few counted).here passed.from_is)

  at_sites : DifferAtSites n xs ys s change
  at_sites = record {
    old_order = span.old_order;
    new_order = span.new_order;
    old_within = span.old_within;
    new_within = span.new_within;
    old_few = preserved.few;
    new_few = few;
    following = span.following;
    differ = differ;
  }

  begins : IsBeforeSites n coins xs ys pivots free base (unflipped front) s change (drop s.first ys) passed.start
  begins = record {
    left_is = refl;
    differ = at_sites;
    between =
        between-first n coins xs ys pivots free s.first (ones (take p.from.free free)) p.from passed.start preserved.fits fits (let o = span.old_order in let w = span.old_within in omega arith)
        (let o = span.new_order in let w = span.new_within in omega arith) span.before from_is passed.begins
        (span-true span.old_order span.new_order differ span.before span.following coins pivots preserved.fits fits preserved.has_pivots.are_true)
        (span-randomness span.old_order span.new_order differ span.before span.following coins pivots preserved.fits fits
        ∙ (λ i. drop (ap (λ (l : Lengths). l.free) (sym from_is) i) (ap (λ (o : RunOutput). o.free) (sym preserved.run.output) i)));
  }

  between : IsFrameBetween n coins xs ys pivots free base (unflipped front) s.old_end s.new_end p.propagation
  between = passed.between coins xs base (unflipped front) begins

  run : IsPropagatedRun n coins xs ys (drop s.new_end ys) s.old_end s.new_end old.strings free old.window (drop j old.checkpoints.items) t.rest.conjugated.items
      (output_of old.outputs) p.from p.propagation t.rest.propagation
  run = record {
    old_after = span.following;
    new_after = refl;
    first = s.first;
    begins = span.old_order;
    from_is = from_is;
    between = between;
    are_true = span-true-all span.old_order span.new_order differ span.before span.following coins pivots preserved.fits fits preserved.has_pivots.are_true;
    near = span-near span.old_order span.new_order differ span.before span.following old.window preserved.has_pivots.near;
    output = preserved.run.output;
    randomness = refl;
    has_pivots = preserved.has_pivots;
    are_checkpoints = All-drop (IsCheckpoint n coins xs) j old.checkpoints.items preserved.checkpoints;
    order = in-order K (length xs) s.old_end j old.checkpoints.items preserved.spaced.near span.old_within following;
    advanced = conjugating.advanced;
  }

  abbrev runs : RunOutput
  runs = outputs n coins ys origin

  output_is : runs ≡ joined (front_of p.from (output_of old.outputs)) (flipped_output (rest_of p.from (output_of old.outputs)) t.rest.propagation.flips)
  output_is =
      run-output n coins xs ys (drop s.new_end ys) s.old_end s.new_end old.strings free old.window (drop j old.checkpoints.items) t.rest.conjugated.items
      (output_of old.outputs) p.from p.propagation t.rest.propagation run

  advanced : IsPropagatedRest n coins xs ys (drop s.new_end ys) s.old_end s.new_end old.strings free base old.window (drop j old.checkpoints.items) t.rest.conjugated.items p.propagation t.rest.propagation
  unfolding run
  advanced =
      rest n coins xs ys (drop s.new_end ys) s.old_end s.new_end old.strings free old.window (drop j old.checkpoints.items) t.rest.conjugated.items (output_of old.outputs) p.from p.propagation t.rest.propagation run

  at-most : (zs : List Step) → length zs ≤ length ys → HasAtMost (length ys) (outputs n coins zs origin)
  at-most zs le =
      let short = outputs-short n coins zs origin in
      record {
        records = let h = short.records in omega (arith, h, le);
        free = let h = short.free in omega (arith, h, le);
        outcomes = let h = short.outcomes in omega (arith, h, le);
        detectors = let h = short.detectors in omega (arith, h, le);
        additions = let h = short.additions in omega (arith, h, le);
      }

  checkpoints : All (IsCheckpoint n coins ys) (p.checkpoints.items ++ checkpoints_conjugated s t.rest.conjugated.items (drop j old.checkpoints.items))
  checkpoints =
      All-append (IsCheckpoint n coins ys) p.checkpoints.items (checkpoints_conjugated s t.rest.conjugated.items (drop j old.checkpoints.items))
      (passed.are_checkpoints coins xs base (unflipped front) begins
      (All-take (IsCheckpoint n coins xs) (j - m) (drop m old.checkpoints.items) (All-drop (IsCheckpoint n coins xs) m old.checkpoints.items preserved.checkpoints)))
      (rest-checkpoints advanced (span_meeting s) refl refl (omega (arith, few))
      (λ c following is. (λ i. moved_lengths no_lengths no_lengths (run-lengths n coins xs ys (drop s.new_end ys) s.old_end s.new_end old.strings free old.window (drop j old.checkpoints.items) t.rest.conjugated.items
      (output_of old.outputs) p.from p.propagation t.rest.propagation run c following is i))
      ∙ stay-long (length ys) (outputs n coins (take (s.new_end + (c.step - s.old_end)) ys) origin) (omega (arith, few))
      (at-most (take (s.new_end + (c.step - s.old_end)) ys) (omega (arith, length-take (s.new_end + (c.step - s.old_end)) ys)))))

  pub determines-run : DeterminesRun n coins xs ys s (drop j old.checkpoints.items) (output_of old.outputs) old.strings old.window t.from t.rest.propagation t.passed.items t.rest.conjugated.items
  determines-run = record {
    output =
        output_is
        ∙ ap (joined (front_of p.from (output_of old.outputs)))
        (run-unflagged n coins xs ys (drop s.new_end ys) s.old_end s.new_end old.strings free old.window (drop j old.checkpoints.items) t.rest.conjugated.items
        (output_of old.outputs) p.from p.propagation t.rest.propagation run (rest_of p.from (output_of old.outputs)))
        ∙ ap (λ l. joined (front_of l (output_of old.outputs)) (flipped_output (rest_of l (output_of old.outputs)) (record t.rest.propagation.flips { free = [] }))) (sym conjugating.from);
    group = rest-group advanced;
    moved_checkpoints =
        subst (λ cs. All (IsCheckpoint n coins ys) (cs ++ checkpoints_conjugated s t.rest.conjugated.items (drop j old.checkpoints.items))) (sym conjugating.passed) checkpoints;
    has_pivots =
        subst (λ (o : RunOutput). KeepsPivotList n coins ys old.strings o.free old.window) (sym output_is)
        (run-has_pivots n coins xs ys (drop s.new_end ys) s.old_end s.new_end old.strings free old.window (drop j old.checkpoints.items) t.rest.conjugated.items
        (output_of old.outputs) p.from p.propagation t.rest.propagation run);
    distinct = rest-differs advanced;
    agree = rest-agrees advanced;
  }

-- the end that a frame goes to is after the span
pub end-following : (s : Span) (total : ℕ) (o : Option Checkpoint) → s.new_end ≤ total → total ≤ 1048576 → s.new_end ≤ conjugated_end s total o
end-following s total None within few = within
end-following s total (Some c) within few = omega (arith, within, few)

-- so the run was conjugated
pub has-conjugated-here : {coins : ℕ → Bool} {K : ℕ} {ys : List Step} {s : Span} {change : PauliChange} {old : Recording} {m j : ℕ} (f : Follows old.tableau.qubits coins K ys s (Some change) old)
    → length ys ≤ 1048576 → IsCheckpointCount (s.first + 1) old.checkpoints.items m → AreInside s old.checkpoints.items m j → (c : Checkpoint) → slice_get old.checkpoints.items (m - 1) ≡ Some c
    → (p : PastSites) → IsPastSites ys s m j change old p.from p.propagation p.checkpoints.items → (last : ℕ) → Near K (c.step ∷ checkpoint_steps p.checkpoints.items)
    → last_of c.step (checkpoint_steps p.checkpoints.items) ≡ last → StaysNear K s (length ys) last (slice_get old.checkpoints.items j)
    → (t : Conjugating) → IsConjugating ys s j p old t → (new : Recording) → IsTakenOver old m K t new → All (StepFits old.tableau.qubits) ys → (g : Followed)
    → (g.applied + g.by_frame) + c.step ≡ conjugated_end s (length ys) (slice_get old.checkpoints.items (j + length t.rest.conjugated.items))
    → HasConjugated old.tableau.qubits coins K ys (length old.observables.items) s old g new
has-conjugated-here {coins} {K} {ys} {s} {change} {old} {m} {j} f few counted inside c here p passed last close last_is stays t conjugating new put fits g took =
    let determines = determines-run f.count f.preserved f.span few counted f.differ fits (stays-following K s (length ys) last (slice_get old.checkpoints.items j) stays) p passed t conjugating in
    let first : Checkpoint = (before f.count f.preserved f.span few counted).checkpoint in
    let same : c ≡ first = (let e : Some c ≡ Some first = sym here ∙ (before f.count f.preserved f.span few counted).here in cc) in
    has-conjugated f.count f.preserved f.span few m j counted inside t determines conjugating.number conjugating.meeting last stays new put
    (subst (λ x. x) (λ i. Near K ((same i).step ∷ checkpoint_steps (sym conjugating.passed i))) close)
    ((λ i. last_of (sym same i).step (checkpoint_steps (conjugating.passed i))) ∙ last_is)
    fits g
    (subst (λ o. IfSome o (λ (d : Checkpoint). (g.applied + g.by_frame) + d.step ≡ conjugated_end s (length ys) (slice_get old.checkpoints.items (j + length t.rest.conjugated.items)))) (sym here) took)
