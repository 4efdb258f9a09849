-- Futures of points that agree as far back as steps look.
use Rattle.stab_run.proofs.Names.{◌≡◌, ℕ, ◌+◌, ◌≤◌, refl, sym, ◌∙◌, ap, subst, Bool, true, false, List, [], ◌∷◌, ◌++◌, length, nat_lt, arith, list_any, length-append, Step, one, two, controlled, collapse, product, detector, observable, makes, records_of, lookbacks, looks_too_far, looked_up, Point, RunOutput, joined, given, coins_of, next_point, point_after, outputs, AgreeBack, SameFutureBack}
use Rattle.stab_run.proofs.FutureLemmas.{given-same, trace-same}
use Rattle.stab_run.proofs.LookbackLemmas.{looked_up-more, parity-same, or-left, or-right}

made : (n : ℕ) (coins : ℕ → Bool) (a : Point) (x : Step) → length (given n coins x a).records ≡ makes x
made n coins a (one g q) = refl
made n coins a (two g q r) = refl
made n coins a (controlled l k q) = refl
made n coins a (collapse l q true inverted resets) = refl
made n coins a (collapse l q false inverted resets) = refl
made n coins a (product factors inverted) = refl
made n coins a (detector ks) = refl
made n coins a (observable j ks) = refl

-- how many records steps make
pub records-made : (n : ℕ) (coins : ℕ → Bool) (xs : List Step) (a : Point) → length (outputs n coins xs a).records ≡ records_of xs
records-made n coins [] a = refl
records-made n coins (x ∷ xs) a =
    length-append (given n coins x a).records (outputs n coins xs (next_point n coins x a)).records
    ∙ (λ i. made n coins a x i + records-made n coins xs (next_point n coins x a) i)

module _ (n m : ℕ) (coins : ℕ → Bool) (a b : Point) (same : AgreeBack n m a b) (x : Step) (near : list_any (nat_lt m) (lookbacks x) ≡ false) where
  given-back : given n coins x a ≡ given n coins x b
  given-back = given-same n coins a b same.group same.coin x (parity-same m a.records b.records same.records (lookbacks x) near)

  pub next-back : AgreeBack n (m + makes x) (next_point n coins x a) (next_point n coins x b)
  next-back = record {
    group = trace-same n coins a b same.group same.coin x (parity-same m a.records b.records same.records (lookbacks x) near);
    coin = ap (λ t. t + coins_of x) same.coin;
    records = λ k le.
        ap (λ (o : RunOutput). looked_up (a.records ++ o.records) k) given-back
        ∙ looked_up-more m a.records b.records (given n coins x b).records same.records k (subst (λ c. k ≤ m + c) (sym (made n coins b x)) le);
  }

pub same-future-back : SameFutureBack
same-future-back n coins m [] a b near same = (refl, subst (λ k. AgreeBack n k a b) (omega arith) same)
same-future-back n coins m (x ∷ xs) a b near same =
    let here : list_any (nat_lt m) (lookbacks x) ≡ false = or-left (list_any (nat_lt m) (lookbacks x)) (looks_too_far (m + makes x) xs) near in
    let later = same-future-back n coins (m + makes x) xs (next_point n coins x a) (next_point n coins x b)
    (or-right (list_any (nat_lt m) (lookbacks x)) (looks_too_far (m + makes x) xs) near)
    (next-back n m coins a b same x here) in (
      (λ i. joined (given-back n m coins a b same x here i) (later.0 i)),
      subst (λ k. AgreeBack n k (point_after n coins xs (next_point n coins x a)) (point_after n coins xs (next_point n coins x b))) (omega arith) later.1,
    )
