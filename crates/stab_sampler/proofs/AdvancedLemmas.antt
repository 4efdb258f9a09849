-- Advanced lanes: lanes that are again as they were at a checkpoint go over the rounds that are left as they went over those since.
use Rattle.stab_sampler.proofs.Names.{◌≡◌, ℕ, ◌+◌, ◌-◌, ◌*◌, ◌<◌, ◌≤◌, refl, sym, ◌∙◌, ap, subst, List, ◌++◌, length, take, arith, take_at, Letter, Step, rounds, Repeat, round_of, IsRepeat, Lengths, joined-assoc, looked_up, RunOutput, joined, all_coins_of, rest_of, output_copies, after_rounds, more-rounds, coins-append, rounds-rounds, rounds-within, RunPivots, frame_over, flips_over, frame-append, flips-append, Difference, frame_of_difference, next_coin, DiffersAlong, no_difference, IsStoredAfter, [], drop, drop_at, drop_all, lengths_of, without_outcomes}
use Rattle.stab_sampler.proofs.FollowLemmas.{follows-append}
use Rattle.stab_sampler.proofs.FoldLemmas.{HasNone, follows-again}

-- the last of some steps, by all of them and the first
follows-rest : (n : ℕ) (pivots : RunPivots) (xs ys : List Step) (a b c : Difference) → DiffersAlong n pivots (xs ++ ys) a c → DiffersAlong n pivots xs a b → DiffersAlong n pivots ys b c
follows-rest n pivots xs ys a b c whole first = record {
  frame =
      whole.frame
      ∙ frame-append n pivots xs ys (next_coin a) (frame_of_difference a)
      ∙ (λ i. frame_over n pivots ys (sym first.coin i) (sym first.frame i));
  flips =
      whole.flips
      ∙ ap (λ o. joined a.flips (without_outcomes o)) (flips-append n pivots xs ys (next_coin a) (frame_of_difference a))
      ∙ sym (joined-assoc a.flips (without_outcomes (flips_over n pivots xs (next_coin a) (frame_of_difference a)))
      (without_outcomes (flips_over n pivots ys (next_coin a + all_coins_of xs) (frame_over n pivots xs (next_coin a) (frame_of_difference a)))))
      ∙ (λ i. joined (sym first.flips i) (without_outcomes (flips_over n pivots ys (sym first.coin i) (sym first.frame i))));
  coin = omega (arith, whole.coin, first.coin, coins-append xs ys);
}

-- what comes after what was given, if no outcomes are stored
rest-preserved : (a b : RunOutput) → a.outcomes ≡ [] → rest_of (lengths_of a) (joined a (without_outcomes b)) ≡ without_outcomes b
rest-preserved a b none = λ i. record {
  records = drop_at a.records b.records (length a.records) refl i;
  free = drop_at a.free b.free (length a.free) refl i;
  outcomes = (ap (λ bits. drop (length a.free) (bits ++ [])) none ∙ drop_all (length a.free) [] (omega arith)) i;
  detectors = drop_at a.detectors b.detectors (length a.detectors) refl i;
  additions = drop_at a.additions b.additions (length a.additions) refl i;
}

-- a lane with a checkpoint after some rounds, and is again as it was then

module _ (n : ℕ) (pivots : RunPivots) (steps : List Step) (r : Repeat) (is : IsRepeat steps r) (early done times : ℕ) (later : early < done)
    (within : done + times * (done - early) ≤ r.rounds) (letters : List Letter) (lengths : Lengths)
    (checkpoint : IsStoredAfter n pivots (take (after_rounds r early) steps) letters lengths) (now : Difference)
    (advanced : DiffersAlong n pivots (take (after_rounds r done) steps) (no_difference n) now) (same : letters ≡ now.letters)
    (back : (k : ℕ) → k ≤ r.window → looked_up (take lengths.records now.flips.records) k ≡ looked_up now.flips.records k) where
  abbrev first : List Step
  first = take (after_rounds r early) steps

  abbrev since : List Step
  since = rounds (done - early) (round_of r steps)

  abbrev before : Difference
  before = checkpoint.before

  steps_now : take (after_rounds r done) steps ≡ first ++ since
  steps_now =
      ap (λ k. take (after_rounds r k) steps) {x = done} {y = early + (done - early)} (omega (arith, later))
      ∙ more-rounds steps r is early (done - early) (omega (arith, later, within))

  passed : DiffersAlong n pivots since before now
  passed = follows-rest n pivots first since (no_difference n) before now (subst (λ xs. DiffersAlong n pivots xs (no_difference n) now) steps_now advanced) checkpoint.advanced

  rest_is : rest_of lengths now.flips ≡ without_outcomes (flips_over n pivots since (next_coin before) (frame_of_difference before))
  rest_is =
      (λ i. rest_of (checkpoint.long i) (passed.flips i))
      ∙ rest-preserved before.flips (flips_over n pivots since (next_coin before) (frame_of_difference before)) (ap (λ (o : RunOutput). o.outcomes) checkpoint.advanced.flips)

  records_then : take lengths.records now.flips.records ≡ before.flips.records
  records_then =
      ap (λ (l : Lengths). take l.records now.flips.records) checkpoint.long
      ∙ ap (λ (o : RunOutput). take (length before.flips.records) o.records) passed.flips
      ∙ take_at before.flips.records (flips_over n pivots since (next_coin before) (frame_of_difference before)).records (length before.flips.records) refl

  alike_back : (k : ℕ) → k ≤ r.window → looked_up before.flips.records k ≡ looked_up now.flips.records k
  alike_back k le = ap (λ bits. looked_up bits k) (sym records_then) ∙ back k le

  coin_then : lengths.free ≡ next_coin before
  coin_then = ap (λ (l : Lengths). l.free) checkpoint.long

  pub advanced-again : (coins : ℕ) (new : Difference) → coins ≡ next_coin now - lengths.free → HasNone pivots lengths.free (coins * (times + 1))
      → new ≡ record { letters = now.letters; flips = joined now.flips (output_copies times (rest_of lengths now.flips)) }
      → DiffersAlong n pivots (take (after_rounds r (done + times * (done - early))) steps) (no_difference n) new
  advanced-again coins new counted none is_new =
      subst (λ xs. DiffersAlong n pivots xs (no_difference n) new) (sym steps_then)
      (follows-append n pivots (take (after_rounds r done) steps) (rounds times since) (no_difference n) now new advanced
      (subst (DiffersAlong n pivots (rounds times since) now) (sym made)
      (follows-again n r.window pivots since before now (rounds-within r.window (done - early) (round_of r steps) is.within) passed
      (sym checkpoint.same ∙ same) alike_back none_then times now
      (record { letters = sym (sym checkpoint.same ∙ same); flips = λ k le. sym (alike_back k le) }) none_now)))
    where
      coins_are : coins ≡ all_coins_of since
      coins_are = omega (arith, counted, coin_then, passed.coin)

      whole : (c t : ℕ) → c * (t + 1) ≡ c + t * c
      whole c t = omega arith

      none_then : HasNone pivots (next_coin before) (all_coins_of since)
      none_then t lt =
          ap (λ c. pivots.strings (c + t)) (sym coin_then)
          ∙ none t (omega (arith, lt, coins_are, whole coins times))

      none_now : HasNone pivots (next_coin now) (times * all_coins_of since)
      none_now t lt =
          ap pivots.strings {x = next_coin now + t} {y = lengths.free + (all_coins_of since + t)} (omega (arith, passed.coin, coin_then))
          ∙ none (all_coins_of since + t) (omega (arith, lt, coins_are, whole coins times, ap (λ c. times * c) coins_are))

      made : new ≡ record { letters = now.letters; flips = joined now.flips (output_copies times (without_outcomes (flips_over n pivots since (next_coin before) (frame_of_difference before)))) }
      made = is_new ∙ ap (λ o. record { letters = now.letters; flips = joined now.flips (output_copies times o) }) rest_is

      steps_then : take (after_rounds r (done + times * (done - early))) steps ≡ take (after_rounds r done) steps ++ rounds times since
      steps_then =
          more-rounds steps r is done (times * (done - early)) within
          ∙ ap (λ xs. take (after_rounds r done) steps ++ xs) (sym (rounds-rounds times (done - early) (round_of r steps)))
