-- Seen points: where steps lead from a point with other numbers of records and coins.
use Rattle.stab_recording.proofs.Names.{◌≡◌, ℕ, ◌+◌, refl, sym, ◌∙◌, ap, Bool, false, inl, inr, List, arith, member, Step, records_of, looks_too_far, looked_up, Point, all_coins_of, point_after, AgreeBack, with_coin, same-future-back, fixed-future, MayHaveCoin}

-- where the first of some steps end from a point that was seen so

pub seen-later : (n window : ℕ) (coins : ℕ → Bool) (xs : List Step) (a seen : Point) → looks_too_far window xs ≡ false → MayHaveCoin n coins xs a seen.coin
    → AgreeBack n window (with_coin seen.coin a) seen
    → AgreeBack n window (with_coin (point_after n coins xs seen).coin (point_after n coins xs a)) (point_after n coins xs seen)
seen-later n window coins xs a seen near may_have agree = record {
  group = λ p size. ap (λ (q : Point). member q.trace p) (sym there.1) ∙ later.group p size;
  coin = refl;
  records = λ k le. ap (λ (q : Point). looked_up q.records k) (sym there.1) ∙ later.records k (omega (arith, le));
}
  where
    later : AgreeBack n (window + records_of xs) (point_after n coins xs (with_coin seen.coin a)) (point_after n coins xs seen)
    later = (same-future-back n coins window xs (with_coin seen.coin a) seen near agree).1

    at-coin : MayHaveCoin n coins xs a seen.coin → (c : ℕ) × (point_after n coins xs (with_coin seen.coin a) ≡ with_coin c (point_after n coins xs a))
    at-coin (inl same) = ((point_after n coins xs a).coin, λ i. point_after n coins xs (with_coin (sym same i) a))
    at-coin (inr none) = (seen.coin + all_coins_of xs, (fixed-future n coins seen.coin xs a none).1)

    there : (c : ℕ) × (point_after n coins xs (with_coin seen.coin a) ≡ with_coin c (point_after n coins xs a))
    there = at-coin may_have
