-- Steps that come again with other coins: the numbers of coins may be shifted, and what was recorded of the steps serves again.
use Rattle.stab_frames.proofs.Names.{◌≡◌, ℕ, zero, suc, ◌+◌, refl, sym, ◌∙◌, ap, subst, Bool, false, ◌||◌, List, [], ◌∷◌, ◌++◌, take, drop, All, replicate, nat_lt, arith, IfSome, list_any, All-take, IfSome_then, Letter, I, ◌⊕◌, Signed, with_sign, strings_anticommute, member, IsPivot, IsConjugated, Step, one, two, controlled, collapse, product, detector, observable, makes, records_of, lookbacks, looks_too_far, looked_up, measured_by, Point, RunOutput, joined, given, trace_after, coins_of, all_coins_of, next_point, point_after, outputs, StepFits, AgreeBack, with_coin, or-left, or-right, same-future-back, flipped_output, Frame, PointsDifferBy, RunPivots, coins_changed, frame_over, flips_over, AreEnough, IsTrueAt, AreTrue, coins_from, pivots_between, HasGoneOver, DiffersBack, ArePropagatedOver, StepsComePropagated}
use Rattle.std.proofs.Common.{Option}
use Rattle.stab_frames.proofs.SignLemmas.{sign-twice}
use Rattle.stab_frames.proofs.PropagatedPointLemmas.{conjugated-blank}
use Rattle.stab_frames.proofs.StepLemmas.{over-by_frame}
use Rattle.stab_frames.proofs.TwoCircuitLemmas.{group-after}
use Rattle.stab_frames.proofs.PivotLemmas.{enough-before}

-- coins with other numbers

module _ (n d : ℕ) (coins : ℕ → Bool) where
  given-shifted : (x : Step) (p : Point) → given n (coins_from d coins) x p ≡ given n coins x (with_coin (d + p.coin) p)
  given-shifted (one g q) p = refl
  given-shifted (two g q r) p = refl
  given-shifted (controlled l k q) p = refl
  given-shifted (collapse l q recorded inverted resets) p = refl
  given-shifted (product factors inverted) p = refl
  given-shifted (detector ks) p = refl
  given-shifted (observable j ks) p = refl

  trace-shifted : (x : Step) (p : Point) → trace_after n (coins_from d coins) x p ≡ trace_after n coins x (with_coin (d + p.coin) p)
  trace-shifted (one g q) p = refl
  trace-shifted (two g q r) p = refl
  trace-shifted (controlled l k q) p = refl
  trace-shifted (collapse l q recorded inverted resets) p = refl
  trace-shifted (product factors inverted) p = refl
  trace-shifted (detector ks) p = refl
  trace-shifted (observable j ks) p = refl

  coin-shifted : (c e : ℕ) → d + (c + e) ≡ (d + c) + e
  coin-shifted c e = omega arith

  next-shifted : (x : Step) (p : Point)
      → with_coin (d + (p.coin + coins_of x)) (next_point n (coins_from d coins) x p) ≡ next_point n coins x (with_coin (d + p.coin) p)
  next-shifted x p = λ i. record {
    trace = trace-shifted x p i;
    coin = coin-shifted p.coin (coins_of x) i;
    records = p.records ++ (given-shifted x p i).records;
  }

  outputs-shifted : (xs : List Step) (p : Point) → outputs n (coins_from d coins) xs p ≡ outputs n coins xs (with_coin (d + p.coin) p)
  outputs-shifted [] p = refl
  outputs-shifted (x ∷ xs) p = λ i.
      joined (given-shifted x p i)
      ((outputs-shifted xs (next_point n (coins_from d coins) x p) ∙ ap (outputs n coins xs) (next-shifted x p)) i)

  after-shifted : (xs : List Step) (p : Point)
      → with_coin (d + (point_after n (coins_from d coins) xs p).coin) (point_after n (coins_from d coins) xs p)
      ≡ point_after n coins xs (with_coin (d + p.coin) p)
  after-shifted [] p = refl
  after-shifted (x ∷ xs) p = after-shifted xs (next_point n (coins_from d coins) x p) ∙ ap (point_after n coins xs) (next-shifted x p)

-- from a point whose coin has the number k among these
module _ (n d k : ℕ) (coins : ℕ → Bool) (xs : List Step) (p : Point) (at : d + k ≡ p.coin) where
  pub outputs-from : outputs n (coins_from d coins) xs (with_coin k p) ≡ outputs n coins xs p
  outputs-from = outputs-shifted n d coins xs (with_coin k p) ∙ ap (λ c. outputs n coins xs (with_coin c p)) at

  pub after-from : with_coin (d + (point_after n (coins_from d coins) xs (with_coin k p)).coin) (point_after n (coins_from d coins) xs (with_coin k p))
      ≡ point_after n coins xs p
  after-from = after-shifted n d coins xs (with_coin k p) ∙ ap (λ c. point_after n coins xs (with_coin c p)) at

-- strings that exchange outcomes in the one state do so in the other

pub pivot-conjugated : (n : ℕ) (g : List Letter) (u v : Signed → Bool) → IsConjugated n g u v → (m : Signed) (s : List Letter) → IsPivot n u m s → IsPivot n v m s
pivot-conjugated n g u v conjugated m s e =
    let p : Signed = record { negative = e.negative; letters = s } in
    record {
      size = e.size;
      negative = strings_anticommute g s ⊕ e.negative;
      stabilises = conjugated (with_sign (strings_anticommute g s) p) e.size ∙ ap u (sign-twice (strings_anticommute g s) p) ∙ e.stabilises;
      anticommutes = e.anticommutes;
    }

pub true-conjugated-at : (n : ℕ) (strings : ℕ → Option (List Letter)) (x : Step) (a b : Point) (g : List Letter) → IsConjugated n g (member a.trace) (member b.trace)
    → b.coin ≡ a.coin → IsTrueAt n strings x a → IsTrueAt n strings x b
true-conjugated-at n strings x a b g conjugated coin is =
    IfSome_then (measured_by n x) is (λ m held.
    subst (λ t. IfSome (strings t) (λ s. IsPivot n (member b.trace) m s)) (sym coin)
    (IfSome_then (strings a.coin) held (λ s e. pivot-conjugated n g (member a.trace) (member b.trace) conjugated m s e)))

pub true-conjugated : (n : ℕ) (coins : ℕ → Bool) (strings : ℕ → Option (List Letter)) (xs : List Step) (a b : Point) → b.coin ≡ a.coin → ArePropagatedOver n coins xs a b
    → AreTrue n coins strings xs a → AreTrue n coins strings xs b
true-conjugated n coins strings [] a b coin conjugated is = tt
true-conjugated n coins strings (x ∷ xs) a b coin conjugated is = (
  true-conjugated-at n strings x a b (conjugated 0).0 (conjugated 0).1 coin is.0,
  true-conjugated n coins strings xs (next_point n coins x a) (next_point n coins x b) (ap (λ t. t + coins_of x) coin) (λ m. conjugated (suc m)) is.1,
)

-- the first of steps that look back this far look back this far

pub looks-front : (m k : ℕ) (xs : List Step) → looks_too_far m xs ≡ false → looks_too_far m (take k xs) ≡ false
looks-front m zero xs near = refl
looks-front m (suc k) [] near = refl
looks-front m (suc k) (x ∷ xs) near =
    both-false (list_any (nat_lt m) (lookbacks x)) (looks_too_far (m + makes x) (take k xs))
    (or-left (list_any (nat_lt m) (lookbacks x)) (looks_too_far (m + makes x) xs) near)
    (looks-front (m + makes x) k xs (or-right (list_any (nat_lt m) (lookbacks x)) (looks_too_far (m + makes x) xs) near))
  where
    both-false : (a b : Bool) → a ≡ false → b ≡ false → (a || b) ≡ false
    both-false a b e f = grind arith

-- points that agree as far back as steps look differ by no letter after the first of these
pub back-conjugated : (n m : ℕ) (coins : ℕ → Bool) (xs : List Step) (a b : Point) → looks_too_far m xs ≡ false → AgreeBack n m a b → ArePropagatedOver n coins xs a b
back-conjugated n m coins xs a b near agree k = (
  replicate n I,
  (λ p size.
      sym ((same-future-back n coins m (take k xs) a b (looks-front m k xs near) agree).1.group p size)
      ∙ conjugated-blank n (member (point_after n coins (take k xs) a).trace) p size),
)

-- two points that agree except for the coin's number agree with any
pub agree-coin : (n m c k : ℕ) (a b : Point) → AgreeBack n m (with_coin c a) b → AgreeBack n m (with_coin k a) (with_coin k b)
agree-coin n m c k a b agree = record { group = agree.group; coin = refl; records = agree.records }

-- a run that passed steps from a point passes them from one where it was seen, with the coins that it had
pub gone-over-seen : (n m k da : ℕ) (coins : ℕ → Bool) (strings : ℕ → Option (List Letter)) (free bits : List Bool) (xs : List Step) (a seen : Point)
    → looks_too_far m xs ≡ false → da + k ≡ a.coin → AgreeBack n m (with_coin seen.coin a) seen
    → AreTrue n (coins_from da coins) strings xs (with_coin k a)
    → (outputs n coins xs a).free ≡ take (all_coins_of xs) (drop k free)
    → (outputs n coins xs a).outcomes ≡ bits
    → HasGoneOver n (coins_from da coins) strings free bits xs k (with_coin k seen)
gone-over-seen n m k da coins strings free bits xs a seen near at agree is randomness outcomes = record {
  coin = refl;
  are_true = true-conjugated n (coins_from da coins) strings xs (with_coin k a) (with_coin k seen) refl (back-conjugated n m (coins_from da coins) xs (with_coin k a) (with_coin k seen) near same) is;
  randomness = ap (λ (o : RunOutput). o.free) given-seen ∙ randomness;
  outcomes = ap (λ (o : RunOutput). o.outcomes) given-seen ∙ outcomes;
}
  where
    same : AgreeBack n m (with_coin k a) (with_coin k seen)
    same = agree-coin n m seen.coin k a seen agree

    given-seen : outputs n (coins_from da coins) xs (with_coin k seen) ≡ outputs n coins xs a
    given-seen = sym (same-future-back n (coins_from da coins) m xs (with_coin k a) (with_coin k seen) near same).0 ∙ outputs-from n da k coins xs a at

-- the pivots of the one run for the other change the one's coins into the other's
changed-between : (strings : ℕ → Option (List Letter)) (coins others : ℕ → Bool) → coins_changed coins (pivots_between strings coins others).changes ≡ others
changed-between strings coins others = λ i t. twice (others t) (coins t) i
  where
    twice : (b c : Bool) → (b ⊕ c) ⊕ c ≡ b
    twice b c = grind arith

-- the steps, from two points that differ by a frame from one another, if the one was seen

module _ (n m k da db : ℕ) (coins : ℕ → Bool) (strings : ℕ → Option (List Letter)) (f : Frame) (a b : Point)
    (at : da + k ≡ a.coin) (there : db + k ≡ b.coin) (differs : DiffersBack n m f a b) where
  abbrev pivots : RunPivots
  pivots = pivots_between strings (coins_from da coins) (coins_from db coins)

  module _ (xs : List Step) (fits : All (StepFits n) xs) (near : looks_too_far m xs ≡ false)
      (enough : AreEnough n (coins_from da coins) pivots xs f (with_coin k differs.seen)) where
    -- where the steps end from the point that was seen
    abbrev following : Point
    following = point_after n (coins_from da coins) xs (with_coin k differs.seen)

    abbrev next : Frame
    next = frame_over n pivots xs k f

    over : (outputs n (coins_from db coins) xs (with_coin k b)
        ≡ flipped_output (outputs n (coins_from da coins) xs (with_coin k differs.seen)) (flips_over n pivots xs k f))
        × PointsDifferBy n next following (point_after n (coins_from db coins) xs (with_coin k b))
    over =
        subst (λ others. (outputs n others xs (with_coin k b)
        ≡ flipped_output (outputs n (coins_from da coins) xs (with_coin k differs.seen)) (flips_over n pivots xs k f))
        × PointsDifferBy n next following (point_after n others xs (with_coin k b)))
        (changed-between strings (coins_from da coins) (coins_from db coins))
        (over-by_frame n (coins_from da coins) pivots xs f (with_coin k differs.seen) (with_coin k b) fits differs.group enough
        (record { size = differs.by_frame.size; group = differs.by_frame.group; coin = refl; count = differs.by_frame.count; records = differs.by_frame.records }))

    back : (outputs n coins xs a ≡ outputs n coins xs (with_coin a.coin differs.seen))
        × AgreeBack n (m + records_of xs) (point_after n coins xs a) (point_after n coins xs (with_coin a.coin differs.seen))
    back = same-future-back n coins m xs a (with_coin a.coin differs.seen) near (agree-coin n m differs.seen.coin a.coin a differs.seen differs.agree)

    given-conjugated : outputs n coins xs b ≡ flipped_output (outputs n coins xs a) (flips_over n pivots xs k f)
    given-conjugated =
        sym (outputs-from n db k coins xs b there)
        ∙ over.0
        ∙ ap (λ o. flipped_output o (flips_over n pivots xs k f)) (outputs-from n da k coins xs (with_coin a.coin differs.seen) at ∙ sym back.0)

    following-seen : with_coin (da + following.coin) following ≡ point_after n coins xs (with_coin a.coin differs.seen)
    following-seen = after-from n da k coins xs (with_coin a.coin differs.seen) at

    following-differs : DiffersBack n m next (point_after n coins xs a) (point_after n coins xs b)
    following-differs = record {
      seen = with_coin (point_after n coins xs b).coin following;
      group = group-after n (coins_from da coins) xs (with_coin k differs.seen) fits differs.group;
      agree = record {
        group = λ p size. back.1.group p size ∙ ap (λ (q : Point). member q.trace p) (sym following-seen);
        coin = refl;
        records = λ j le. back.1.records j (omega (arith, le)) ∙ ap (λ (q : Point). looked_up q.records j) (sym following-seen);
      };
      by_frame =
          subst (λ (c : Point). PointsDifferBy n next (with_coin c.coin following) c) (after-from n db k coins xs b there)
          (record { size = over.1.size; group = over.1.group; coin = refl; count = over.1.count; records = over.1.records });
    }

  following-conjugated : (xs : List Step) → All (StepFits n) xs → looks_too_far m xs ≡ false
      → AreEnough n (coins_from da coins) pivots xs f (with_coin k differs.seen) → ArePropagatedOver n coins xs a b
  following-conjugated xs fits near enough j =
      let differ = following-differs (take j xs) (All-take (StepFits n) j xs fits) (looks-front m j xs near)
      (enough-before n (coins_from da coins) pivots j xs f (with_coin k differs.seen) enough) in (
        (frame_over n pivots (take j xs) k f).letters,
        (λ p size. differ.by_frame.group p size ∙ sym (differ.agree.group (with_sign (strings_anticommute (frame_over n pivots (take j xs) k f).letters p.letters) p) size)),
      )

pub come-conjugated : StepsComePropagated
come-conjugated n m k da db coins strings xs f a b fits near at there differs enough = (
  given-conjugated n m k da db coins strings f a b at there differs xs fits near enough,
  following-differs n m k da db coins strings f a b at there differs xs fits near enough,
  following-conjugated n m k da db coins strings f a b at there differs xs fits near enough,
)
