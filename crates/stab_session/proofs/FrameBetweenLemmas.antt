-- A frame between two runs: it passes steps that both have, past Pauli gates that are in the one or the other, and conjugates checkpoints.
use Rattle.stab_session.proofs.Names.{◌≡◌, ℕ, ◌+◌, ◌≤◌, refl, sym, ◌∙◌, ap, subst, Bool, false, List, ◌++◌, append-nil, All, length, map, take, drop, replicate, Option, arith, drop-drop, drop_at, take_at, take-append-drop, length-append, length-drop, replicate-append-replicate, All-take, All-drop, take-add, Letter, I, with_sign, strings_anticommute, string_product, TableauState, stabilises, member, IsConjugated, Step, one, Lengths, gate_of, Point, RunOutput, nothing, origin, joined, point_after, outputs, all_coins_of, StepFits, lengths_of, after-append, outputs-append, joined-assoc, joined-nothing, randomness-is-coins, coins-are, flipped_output, unflipped, Matches, PointsDifferBy, frame_of, identity_frame, AreFronts, frame_over, flips_over, AreTrue, same_coins, letters_on, AreEnough, PropagationState, frame_at, PropagatesOver, fronts-go-on, fronts-take-paulis, same-lengths, gates-fit, unflipped-output, unflipped-matches, by_frame-same, by_frame-paulis, by_frame-exchanged, true-rest, Checkpoint, IsCheckpoint, AreEnoughBy, ArePaulis, IsFrameBetween}
use Rattle.stab_recording.proofs.FlippedLemmas.{flips-random}
use Rattle.stab_recording.proofs.RestPropagatedLemmas.{randomness-counted, rest-randomness}
use Rattle.stab_session.proofs.SamePivotsLemmas.{IsReached, reached-on, pivots-distinct, randomness-distinct, gates-random}

-- the steps of a run up to a step are some, if this many of those after another step are

steps-on : (i m : ℕ) (xs zs : List Step) → take m (drop i xs) ≡ zs → take (i + m) xs ≡ take i xs ++ zs
steps-on i m xs zs is = take-add i m xs ∙ ap (λ ws. take i xs ++ ws) is

point-on : (n : ℕ) (coins : ℕ → Bool) (i m : ℕ) (xs zs : List Step) → take m (drop i xs) ≡ zs
    → point_after n coins (take (i + m) xs) origin ≡ point_after n coins zs (point_after n coins (take i xs) origin)
point-on n coins i m xs zs is = ap (λ ws. point_after n coins ws origin) (steps-on i m xs zs is) ∙ after-append n coins (take i xs) zs origin

module _ {n : ℕ} {coins : ℕ → Bool} {xs ys : List Step} {strings : ℕ → Option (List Letter)} {free : List Bool} {base : ℕ} {front : RunOutput} {old new : ℕ} {w : PropagationState}
    (b : IsFrameBetween n coins xs ys strings free base front old new w) where
  abbrev here : Point
  here = point_after n coins (take old xs) origin

  reached : IsReached n coins here
  reached = record { steps = take old xs; fit = All-take (StepFits n) old xs b.old_fit; is = refl }

  -- it passes steps that both have
  module _ (m : ℕ) (v : PropagationState) (shared : take m (drop old xs) ≡ take m (drop new ys)) (old_within : old + m ≤ length xs) (new_within : new + m ≤ length ys)
      (propagated : PropagatesOver n strings (take m (drop new ys)) w v) (enough : AreEnoughBy n strings free (drop new ys) m w) where
    abbrev piece : List Step
    piece = take m (drop new ys)

    piece_fits : All (StepFits n) piece
    piece_fits = All-take (StepFits n) m (drop new ys) (All-drop (StepFits n) new ys b.new_fit)

    determined : AreEnough n coins (same_coins strings) piece (frame_at base w) here
    determined = enough coins here base (sym b.coin) b.are_true b.randomness

    frames : frame_over n (same_coins strings) piece here.coin (frame_at base w) ≡ frame_at base v
    frames = (λ i. frame_over n (same_coins strings) piece (sym b.coin i) (frame_at base w)) ∙ sym (propagated.frame base)

    flips : joined (joined front w.flips) (flips_over n (same_coins strings) piece here.coin (frame_at base w)) ≡ joined front v.flips
    flips =
        (λ i. joined (joined front w.flips) (flips_over n (same_coins strings) piece (sym b.coin i) (frame_at base w)))
        ∙ joined-assoc front w.flips (flips_over n (same_coins strings) piece w.coin (frame_at base w))
        ∙ ap (joined front) (sym (propagated.flips base))

    point : point_after n coins (take (old + m) xs) origin ≡ point_after n coins piece here
    point = point-on n coins old m xs piece shared

    rest : drop (new + m) ys ≡ drop m (drop new ys)
    rest = sym (drop-drop m new ys)

    pub between-steps : IsFrameBetween n coins xs ys strings free base front (old + m) (new + m) v
    between-steps = record {
      old_fit = b.old_fit;
      new_fit = b.new_fit;
      old_within = old_within;
      new_within = new_within;
      fronts =
          subst (λ x. x)
          (λ i. AreFronts n coins coins (sym (steps-on old m xs piece shared) i) (sym (steps-on new m ys piece refl) i) (frames i) (flips i))
          (fronts-go-on n coins (same_coins strings) (take old xs) (take new ys) piece (frame_at base w) (joined front w.flips) (All-take (StepFits n) old xs b.old_fit) piece_fits b.fronts determined);
      coin =
          propagated.coin
          ∙ ap (λ c. c + all_coins_of piece) b.coin
          ∙ sym (coins-are n coins piece here)
          ∙ ap (λ (p : Point). p.coin) (sym point);
      are_true =
          subst (λ x. x) (λ i. AreTrue n coins strings (sym rest i) (sym point i))
          (true-rest n coins strings piece (drop m (drop new ys)) here
          (subst (λ zs. AreTrue n coins strings zs here) (sym (take-append-drop m (drop new ys))) b.are_true));
      randomness =
          (λ i. (outputs n coins (rest i) (point i)).free)
          ∙ rest-randomness (outputs n coins piece here).free (outputs n coins (drop m (drop new ys)) (point_after n coins piece here)).free free w.coin (all_coins_of piece) v.coin
          (sym (ap (λ (o : RunOutput). o.free) (outputs-append n coins piece (drop m (drop new ys)) here))
          ∙ ap (λ zs. (outputs n coins zs here).free) (take-append-drop m (drop new ys))
          ∙ b.randomness)
          (randomness-counted n coins piece here) propagated.coin;
      flagged = b.flagged + all_coins_of piece;
      unflagged =
          ap (λ (o : RunOutput). o.free) (propagated.flips base)
          ∙ (λ i. b.unflagged i ++ flips-random n (same_coins strings) piece w.coin (frame_at base w) i)
          ∙ replicate-append-replicate b.flagged (all_coins_of piece) false;
    }

  -- and past Pauli gates in the one and the other, which multiply their letters onto it
  module _ (l m : Letter) (qs rs : List ℕ) (olds news : List Step) (string : List Letter) (old_are : ArePaulis n l qs olds) (new_are : ArePaulis n m rs news)
      (product : string ≡ string_product (letters_on n l qs) (letters_on n m rs)) (old_rest new_rest : List Step)
      (old_is : drop old xs ≡ olds ++ old_rest) (new_is : drop new ys ≡ news ++ new_rest) where
    old_next : take (length olds) (drop old xs) ≡ map (one (gate_of l)) qs
    old_next = ap (take (length olds)) old_is ∙ take_at olds old_rest (length olds) refl ∙ old_are.steps

    new_next : take (length news) (drop new ys) ≡ map (one (gate_of m)) rs
    new_next = ap (take (length news)) new_is ∙ take_at news new_rest (length news) refl ∙ new_are.steps

    rest_is : drop (new + length news) ys ≡ new_rest
    rest_is = sym (drop-drop (length news) new ys) ∙ ap (drop (length news)) new_is ∙ drop_at news new_rest (length news) refl

    there : point_after n coins (take (old + length olds) xs) origin ≡ point_after n coins (map (one (gate_of l)) qs) here
    there = point-on n coins old (length olds) xs (map (one (gate_of l)) qs) old_next

    new_there : drop new ys ≡ map (one (gate_of m)) rs ++ new_rest
    new_there = new_is ∙ ap (λ zs. zs ++ new_rest) new_are.steps

    rest_fits : All (StepFits n) new_rest
    rest_fits = subst (All (StepFits n)) rest_is (All-drop (StepFits n) (new + length news) ys b.new_fit)

    distinct : PointsDifferBy n (frame_of (string_product (letters_on n m rs) (letters_on n l qs)) (length here.records)) (point_after n coins (map (one (gate_of m)) rs) here) (point_after n coins (map (one (gate_of l)) qs) here)
    distinct = by_frame-exchanged n coins m l rs qs new_are.fit old_are.fit here

    following : IsReached n coins (point_after n coins (map (one (gate_of m)) rs) here)
    following = reached-on n coins here (map (one (gate_of m)) rs) (gates-fit n m rs new_are.fit) reached

    pub between-gates : IsFrameBetween n coins xs ys strings free base front (old + length olds) (new + length news) (record w { letters = string_product w.letters string })
    between-gates = record {
      old_fit = b.old_fit;
      new_fit = b.new_fit;
      old_within = omega (arith, b.old_within, length-drop old xs, ap length old_is, length-append olds old_rest);
      new_within = omega (arith, b.new_within, length-drop new ys, ap length new_is, length-append news new_rest);
      fronts =
          subst (λ x. x)
          (λ i. AreFronts n coins coins (sym (steps-on old (length olds) xs (map (one (gate_of l)) qs) old_next) i) (sym (steps-on new (length news) ys (map (one (gate_of m)) rs) new_next) i)
          (frame_at base (record w { letters = string_product w.letters (sym product i) })) (joined front w.flips))
          (fronts-take-paulis n coins coins (take old xs) (take new ys) (frame_at base w) (joined front w.flips) l m qs rs old_are.fit new_are.fit b.fronts);
      coin =
          b.coin
          ∙ sym (let same = by_frame-paulis n coins l qs old_are.fit here in same.coin)
          ∙ ap (λ (p : Point). p.coin) (sym there);
      are_true =
          subst (λ x. x) (λ i. AreTrue n coins strings (sym rest_is i) (sym there i))
          (pivots-distinct n coins (point_after n coins (map (one (gate_of m)) rs) here) (point_after n coins (map (one (gate_of l)) qs) here) _ new_rest rest_fits following distinct strings
          (true-rest n coins strings (map (one (gate_of m)) rs) new_rest here
          (subst (λ zs. AreTrue n coins strings zs here) new_there b.are_true)));
      randomness =
          (λ i. (outputs n coins (rest_is i) (there i)).free)
          ∙ randomness-distinct n coins (point_after n coins (map (one (gate_of m)) rs) here) (point_after n coins (map (one (gate_of l)) qs) here) _ new_rest rest_fits following distinct
          ∙ sym (gates-random n coins m rs new_rest here)
          ∙ ap (λ zs. (outputs n coins zs here).free) (sym new_there)
          ∙ b.randomness;
      flagged = b.flagged;
      unflagged = b.unflagged;
    }

  -- a checkpoint of the old run, conjugated, is one of the new run
  pub between-checkpoint : (c : Checkpoint) (t : TableauState) → c.step ≡ old → IsCheckpoint n coins xs c → t.qubits ≡ c.tableau.qubits
      → IsConjugated n w.letters (stabilises c.tableau) (stabilises t) → IsCheckpoint n coins ys (record { step = new; lengths = c.lengths; tableau = t })
  between-checkpoint c t at is qubits conjugates = record {
    within = b.new_within;
    qubits = qubits ∙ is.qubits;
    group = λ p size.
        conjugates p size
        ∙ is.group (with_sign (strings_anticommute w.letters p.letters) p) size
        ∙ ap (λ k. member (point_after n coins (take k xs) origin).trace (with_sign (strings_anticommute w.letters p.letters) p)) at
        ∙ sym (let distinct = b.fronts.by_frame in distinct.group p size);
    lengths =
        is.lengths
        ∙ ap (λ k. lengths_of (outputs n coins (take k xs) origin)) at
        ∙ sym (ap lengths_of b.fronts.given ∙ same-lengths (outputs n coins (take old xs) origin) (joined front w.flips));
  }

-- it begins after steps that both have

pub between-first : (n : ℕ) (coins : ℕ → Bool) (xs ys : List Step) (strings : ℕ → Option (List Letter)) (free : List Bool) (first number : ℕ) (from : Lengths) (w : PropagationState)
    → All (StepFits n) xs → All (StepFits n) ys → first ≤ length xs → first ≤ length ys → take first xs ≡ take first ys → from ≡ lengths_of (outputs n coins (take first xs) origin)
    → w ≡ record { letters = replicate n I; flips = nothing; coin = from.free; number = number }
    → AreTrue n coins strings (drop first ys) (point_after n coins (take first xs) origin)
    → (outputs n coins (drop first ys) (point_after n coins (take first xs) origin)).free ≡ drop from.free free
    → IsFrameBetween n coins xs ys strings free (length (point_after n coins (take first xs) origin).records) (unflipped (outputs n coins (take first xs) origin)) first first w
between-first n coins xs ys strings free first number from w old_fit new_fit old_within new_within same from_is begun are_true randomness = record {
  old_fit = old_fit;
  new_fit = new_fit;
  old_within = old_within;
  new_within = new_within;
  fronts = record {
    by_frame =
        subst (λ x. x) (λ i. PointsDifferBy n (frames i) (point_after n coins (take first xs) origin) (point_after n coins (same i) origin))
        (by_frame-same n (point_after n coins (take first xs) origin));
    given =
        ap (λ zs. outputs n coins zs origin) (sym same)
        ∙ sym (unflipped-output (outputs n coins (take first xs) origin))
        ∙ ap (flipped_output (outputs n coins (take first xs) origin)) none;
    matches = subst (λ x. x) (λ i. Matches (outputs n coins (take first xs) origin) (none i)) (unflipped-matches (outputs n coins (take first xs) origin));
  };
  coin = coin ∙ ap (λ (l : Lengths). l.free) from_is ∙ randomness-is-coins n coins (take first xs);
  are_true = are_true;
  randomness = randomness ∙ ap (λ c. drop c free) (sym coin);
  flagged = 0;
  unflagged = ap (λ (v : PropagationState). v.flips.free) begun;
}
  where
    coin : w.coin ≡ from.free
    coin = ap (λ (v : PropagationState). v.coin) begun

    none : unflipped (outputs n coins (take first xs) origin) ≡ joined (unflipped (outputs n coins (take first xs) origin)) w.flips
    none =
        sym (joined-nothing (unflipped (outputs n coins (take first xs) origin)))
        ∙ ap (joined (unflipped (outputs n coins (take first xs) origin))) (ap (λ (v : PropagationState). v.flips) (sym begun))

    frames : identity_frame n (length (point_after n coins (take first xs) origin).records) ≡ frame_at (length (point_after n coins (take first xs) origin).records) w
    frames = λ i. record {
      letters = ap (λ (v : PropagationState). v.letters) (sym begun) i;
      flips =
          (sym (append-nil (replicate (length (point_after n coins (take first xs) origin).records) false))
          ∙ ap (λ (v : PropagationState). replicate (length (point_after n coins (take first xs) origin).records) false ++ v.flips.records) (sym begun)) i;
    }
