-- Futures: points with the same members and number of the next coin give the same by every step that reads the same of their records.
use Rattle.stab_run.proofs.Names.{◌≡◌, ℕ, ◌+◌, refl, sym, ◌∙◌, ap, subst, Bool, true, false, ◌&&◌, List, [], ◌∷◌, ◌++◌, length, Letter, ◌⊕◌, Signed, single, parity-false, Event, projected, member, is_random, SameGroup, length-one_letter, same-applied, same-applied_pair, same-projected, same-outcome, same-random, Step, one, two, controlled, collapse, product, detector, observable, lookbacks, looked_up, parity, when, string_of, gate_of, flip_of, applied_where, outcome_at, Point, nothing, joined, given, trace_after, coins_of, next_point, AgreeAt, SameFuture}
use Rattle.stab_run.proofs.ProductLemmas.{length-string_of}

module _ (n : ℕ) (coins : ℕ → Bool) (a b : Point) (group : SameGroup n (member a.trace) (member b.trace)) (coin : a.coin ≡ b.coin) where
  outcome-same : (p : Signed) → length p.letters ≡ n → outcome_at coins p a.trace a.coin ≡ outcome_at coins p b.trace b.coin
  outcome-same p size =
      same-outcome n (member a.trace) (member b.trace) p size group (coins a.coin) ∙ ap (λ t. outcome_at coins p b.trace t) coin

  random-same : (p : Signed) → length p.letters ≡ n → is_random a.trace p ≡ is_random b.trace p
  random-same p size = same-random n (member a.trace) (member b.trace) p size group

  projected-same : (p : Signed) → length p.letters ≡ n
      → SameGroup n (member (projected p (outcome_at coins p a.trace a.coin) ∷ a.trace)) (member (projected p (outcome_at coins p b.trace b.coin) ∷ b.trace))
  projected-same p size =
      subst (λ o. SameGroup n (member (projected p (outcome_at coins p a.trace a.coin) ∷ a.trace)) (member (projected p o ∷ b.trace)))
      (outcome-same p size)
      (same-projected n (member a.trace) (member b.trace) p (outcome_at coins p a.trace a.coin) size group)

  applied-same : (bit other : Bool) → bit ≡ other → (l : Letter) (q : ℕ) (s t : List Event) → SameGroup n (member s) (member t)
      → SameGroup n (member (applied_where bit l q s)) (member (applied_where other l q t))
  applied-same true other is l q s t e = subst (λ o. SameGroup n (member (applied_where true l q s)) (member (applied_where o l q t))) is (same-applied n (member s) (member t) (gate_of l) q e)
  applied-same false other is l q s t e = subst (λ o. SameGroup n (member s) (member (applied_where o l q t))) is e

  pub given-same : (x : Step) → parity a.records (lookbacks x) ≡ parity b.records (lookbacks x) → given n coins x a ≡ given n coins x b
  given-same (one g q) read = refl
  given-same (two g q r) read = refl
  given-same (controlled l k q) read = refl
  given-same (collapse l q recorded inverted resets) read = λ i. record nothing {
    records = when recorded (inverted ⊕ outcome-same (single n q l) (length-one_letter n q l) i);
    free = random-same (single n q l) (length-one_letter n q l) i ∷ [];
    outcomes = outcome-same (single n q l) (length-one_letter n q l) i ∷ [];
  }
  given-same (product factors inverted) read = λ i. record nothing {
    records = (inverted ⊕ outcome-same (string_of n factors) (length-string_of n factors) i) ∷ [];
    free = random-same (string_of n factors) (length-string_of n factors) i ∷ [];
    outcomes = outcome-same (string_of n factors) (length-string_of n factors) i ∷ [];
  }
  given-same (detector ks) read = λ i. record nothing { detectors = read i ∷ [] }
  given-same (observable j ks) read = λ i. record nothing { additions = record { observable = j; bit = read i } ∷ [] }

  pub trace-same : (x : Step) → parity a.records (lookbacks x) ≡ parity b.records (lookbacks x) → SameGroup n (member (trace_after n coins x a)) (member (trace_after n coins x b))
  trace-same (one g q) read = same-applied n (member a.trace) (member b.trace) g q group
  trace-same (two g q r) read = same-applied_pair n (member a.trace) (member b.trace) g q r group
  trace-same (controlled l k q) read = applied-same _ _ (sym (parity-false (looked_up a.records k)) ∙ read ∙ parity-false (looked_up b.records k)) l q a.trace b.trace group
  trace-same (collapse l q recorded inverted resets) read =
      applied-same _ _ (ap (λ o. resets && o) (outcome-same (single n q l) (length-one_letter n q l))) (flip_of l) q _ _
      (projected-same (single n q l) (length-one_letter n q l))
  trace-same (product factors inverted) read = projected-same (string_of n factors) (length-string_of n factors)
  trace-same (detector ks) read = group
  trace-same (observable j ks) read = group

next-same : (n : ℕ) (coins : ℕ → Bool) (a b : Point) → AgreeAt n a b → (x : Step) → AgreeAt n (next_point n coins x a) (next_point n coins x b)
next-same n coins a b same x = record {
  group = trace-same n coins a b same.group same.coin x (ap (λ r. parity r (lookbacks x)) same.records);
  coin = ap (λ t. t + coins_of x) same.coin;
  records = λ i. same.records i ++ (given-same n coins a b same.group same.coin x (ap (λ r. parity r (lookbacks x)) same.records) i).records;
}

pub same-future : SameFuture
same-future n coins [] a b same = (refl, same)
same-future n coins (x ∷ xs) a b same =
    let later = same-future n coins xs (next_point n coins x a) (next_point n coins x b) (next-same n coins a b same x) in
    ((λ i. joined (given-same n coins a b same.group same.coin x (ap (λ r. parity r (lookbacks x)) same.records) i) (later.0 i)), later.1)
