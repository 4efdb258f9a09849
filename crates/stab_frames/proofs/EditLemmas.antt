-- Edits that replace Pauli gates by others: the run of the edited circuit is the old one, flipped.
use Rattle.stab_frames.proofs.Names.{◌≡◌, ℕ, ◌<◌, refl, ◌∙◌, ap, Bool, List, [], ◌∷◌, ◌++◌, map, All-nil, All-cons, All-head, All-tail, All-append, Letter, Step, one, gate_of, RunOutput, origin, nothing, joined, point_after, outputs, StepFits, lengths_of, Matches, flipped_output, unflipped, identity_frame, same_coins, coins_changed, frame_over, flips_over, edit_frame, IsFlippedRun, FrontsFlip, FrontsGoOn, FrontsTakePaulis, PauliFronts, PauliEditsFlip, CoinsFlip, CheckpointsTakeFrames}
use Rattle.std.specs.Prelude.{All}
use Rattle.stab_frames.proofs.FlipLemmas.{length-flipped, length-flipped_additions}
use Rattle.stab_frames.proofs.StartLemmas.{by_frame-same}
use Rattle.stab_frames.proofs.TableauLemmas.{conjugated-group}
use Rattle.stab_frames.proofs.TwoCircuitLemmas.{fronts-outputs, fronts-matches, fronts-by_frame, paulis-front, paulis-given, paulis-match, gates-by_frame, gates-given, gates-match, records-flipped, randomness-flipped, detectors-flipped, observables-flipped}

pub gates-fit : (n : ℕ) (l : Letter) (qs : List ℕ) → All (λ q. q < n) qs → All (StepFits n) (map (one (gate_of l)) qs)
gates-fit n l [] fits = All-nil (StepFits n)
gates-fit n l (q ∷ qs) fits =
    All-cons (StepFits n) (one (gate_of l) q) (map (one (gate_of l)) qs) (All-head (λ q. q < n) q qs fits) (gates-fit n l qs (All-tail (λ q. q < n) q qs fits))

pub flipped-run : (n : ℕ) (coins others : ℕ → Bool) (xs ys : List Step) (flips : RunOutput)
    → outputs n others ys origin ≡ flipped_output (outputs n coins xs origin) flips
    → Matches (outputs n coins xs origin) flips → IsFlippedRun n coins others xs ys flips
flipped-run n coins others xs ys flips given matches = record {
  records = λ k. records-flipped n coins others xs ys k flips given matches;
  free = λ k. randomness-flipped n coins others xs ys k flips given matches;
  detectors = λ k. detectors-flipped n coins others xs ys k flips given matches;
  observables = λ k. observables-flipped n coins others xs ys k flips given matches;
}

pub fronts-flip : FrontsFlip
fronts-flip n coins pivots us vs xs f flips fits later fronts enough = (
  flipped-run n coins (coins_changed coins pivots.changes) (us ++ xs) (vs ++ xs) (joined flips (flips_over n pivots xs (point_after n coins us origin).coin f))
      (fronts-outputs n coins pivots us vs xs f flips fits later fronts enough)
      (fronts-matches n coins pivots us vs xs f flips fits later fronts enough),
  fronts-by_frame n coins pivots us vs xs f flips fits later fronts enough,
)

pub fronts-go-on : FrontsGoOn
fronts-go-on n coins pivots us vs xs f flips fits later fronts enough = record {
  by_frame = fronts-by_frame n coins pivots us vs xs f flips fits later fronts enough;
  given = fronts-outputs n coins pivots us vs xs f flips fits later fronts enough;
  matches = fronts-matches n coins pivots us vs xs f flips fits later fronts enough;
}

-- Pauli gates

pub fronts-take-paulis : FrontsTakePaulis
fronts-take-paulis n coins others us vs f flips l m qs rs left right fronts = record {
  by_frame = gates-by_frame n coins others us vs f flips l m qs rs left right fronts;
  given = gates-given n coins others us vs f flips l m qs rs left right fronts;
  matches = gates-match n coins others us vs f flips l m qs rs left right fronts;
}

pub pauli-fronts : PauliFronts
pauli-fronts n coins front l m qs rs left right = record {
  by_frame = paulis-front n coins l m qs rs left right front;
  given = paulis-given n coins l m qs rs front;
  matches = paulis-match n coins l qs front;
}

pub paulis-flip : PauliEditsFlip
paulis-flip n coins strings front back l m qs rs fits later left right enough =
    (fronts-flip n coins (same_coins strings) (front ++ map (one (gate_of l)) qs) (front ++ map (one (gate_of m)) rs) back
    (edit_frame n coins front l qs m rs) (unflipped (outputs n coins front origin))
    (All-append (StepFits n) front (map (one (gate_of l)) qs) fits (gates-fit n l qs left)) later
    (pauli-fronts n coins front l m qs rs left right) enough).0

-- coins

pub coins-flip : CoinsFlip
coins-flip n coins pivots xs fits enough =
    (fronts-flip n coins pivots [] [] xs (identity_frame n 0) nothing (All-nil (StepFits n)) fits
    (record { by_frame = by_frame-same n origin; given = refl; matches = record { records = refl; free = refl; outcomes = refl; detectors = refl; observables = refl } })
    enough).0

-- copies

pub same-lengths : (o flips : RunOutput) → lengths_of (flipped_output o flips) ≡ lengths_of o
same-lengths o flips = λ i. record {
  records = length-flipped o.records flips.records i;
  free = length-flipped o.free flips.free i;
  detectors = length-flipped o.detectors flips.detectors i;
  additions = length-flipped_additions o.additions flips.additions i;
}

pub copies-conjugate : CheckpointsTakeFrames
copies-conjugate n coins pivots us vs xs f flips fits later fronts enough t rows same = (
  conjugated-group n (frame_over n pivots xs (point_after n coins us origin).coin f) (point_after n coins (us ++ xs) origin)
      (point_after n (coins_changed coins pivots.changes) (vs ++ xs) origin) (fronts-by_frame n coins pivots us vs xs f flips fits later fronts enough) t rows same,
  ap lengths_of (fronts-outputs n coins pivots us vs xs f flips fits later fronts enough)
      ∙ same-lengths (outputs n coins (us ++ xs) origin) (joined flips (flips_over n pivots xs (point_after n coins us origin).coin f)),
)
