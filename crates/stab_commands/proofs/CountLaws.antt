-- Laws of counts: what steps are counted to make is what any run of them makes.
use Rattle.stab_commands.proofs.Names.{◌≡◌, refl, sym, subst, ◌∙◌, ℕ, ◌+◌, Bool, true, false, List, [], ◌∷◌, ◌++◌, length, slice_index_or, arith, length-append, length-replicate, length-set, ◌⊕◌, single, Items, Step, one, two, controlled, collapse, product, detector, observable, unroll, makes, records_of, observables_of, detectors_of, detectors_in, all_coins_of, coins_of, parity, State, start, string_of, outcome_at, effect, run, run_of, numbers_of, IsCountedBy}
use Rattle.stab_items.proofs.CountLemmas.{detectors_more}

-- a run has come from another by this many records, detectors and coins more
record Grows (before after : State) (r d k : ℕ) : Type 0 where
  pub records : length after.records ≡ length before.records + r
  pub detectors : length after.detectors ≡ length before.detectors + d
  pub coins : after.coin ≡ before.coin + k
  pub observables : length after.observables ≡ length before.observables

-- one more in a list
one_more : {A : Type 0} (xs : List A) (x : A) → length (xs ++ x ∷ []) ≡ length xs + 1
one_more xs x = length-append xs (x ∷ [])

-- none more
none_more : (n : ℕ) → n ≡ n + 0
none_more n = omega arith

-- this many from scratch
from_none : (n : ℕ) → 0 + n ≡ n
from_none n = omega arith

-- what a step makes
step_grows : (n : ℕ) (coins : ℕ → Bool) (x : Step) (s : State) → Grows s (effect n coins x s) (makes x) (detectors_in x) (coins_of x)
step_grows n coins (one g q) s = record { records = none_more _; detectors = none_more _; coins = none_more _; observables = refl }
step_grows n coins (two g a b) s = record { records = none_more _; detectors = none_more _; coins = none_more _; observables = refl }
step_grows n coins (controlled l k q) s = record { records = none_more _; detectors = none_more _; coins = none_more _; observables = refl }
step_grows n coins (collapse l q true inverted resets) s = record {
  records = one_more s.records (inverted ⊕ outcome_at coins (single n q l) s.trace s.coin);
  detectors = none_more _;
  coins = refl;
  observables = refl;
}
step_grows n coins (collapse l q false inverted resets) s = record { records = length-append s.records []; detectors = none_more _; coins = refl; observables = refl }
step_grows n coins (product factors inverted) s = record {
  records = one_more s.records (inverted ⊕ outcome_at coins (string_of n factors) s.trace s.coin);
  detectors = none_more _;
  coins = refl;
  observables = refl;
}
step_grows n coins (detector ks) s = record { records = none_more _; detectors = one_more s.detectors (parity s.records ks); coins = none_more _; observables = refl }
step_grows n coins (observable j ks) s = record {
  records = none_more _;
  detectors = none_more _;
  coins = none_more _;
  observables = length-set s.observables j (parity s.records ks ⊕ slice_index_or s.observables j false);
}

-- what one step and then others make
grows_on : (a b c : State) (r r' d d' k k' : ℕ) → Grows a b r d k → Grows b c r' d' k' → Grows a c (r + r') (d + d') (k + k')
grows_on a b c r r' d d' k k' here later = record {
  records = omega (arith, here.records, later.records);
  detectors = omega (arith, here.detectors, later.detectors);
  coins = omega (arith, here.coins, later.coins);
  observables = later.observables ∙ here.observables;
}

-- what steps make
run_grows : (n : ℕ) (coins : ℕ → Bool) (xs : List Step) (s : State) → Grows s (run n coins xs s) (records_of xs) (detectors_of xs) (all_coins_of xs)
run_grows n coins [] s = record { records = none_more _; detectors = none_more _; coins = none_more _; observables = refl }
run_grows n coins (x ∷ xs) s =
    let later = run n coins xs (effect n coins x s) in
    subst (λ d. Grows s later (makes x + records_of xs) d (coins_of x + all_coins_of xs)) (sym (detectors_more x xs))
    (grows_on s (effect n coins x s) later (makes x) (records_of xs) (detectors_in x) (detectors_of xs) (coins_of x) (all_coins_of xs) (step_grows n coins x s) (run_grows n coins xs (effect n coins x s)))

-- the numbers of a circuit are those of any run of it
pub numbers_of_runs : (n : ℕ) (coins : ℕ → Bool) (items : Items) → IsCountedBy (numbers_of items) (run_of n coins items)
unfolding run_of
numbers_of_runs n coins items =
    let all = run_grows n coins (unroll items) (start (observables_of items)) in
    record { records = all.records ∙ from_none _; detectors = all.detectors ∙ from_none _; coins = all.coins ∙ from_none _; observables = all.observables ∙ length-replicate (observables_of items) false }
