-- Coins: how many of their numbers steps use up.
use Rattle.stab_run.proofs.Names.{◌≡◌, ℕ, ◌+◌, ◌≤◌, Bool, List, [], ◌∷◌, ◌++◌, length, take, arith, length-take, Step, one, two, controlled, collapse, product, detector, observable, Point, coins_of, all_coins_of, next_point, point_after}

pub coins-one : (x : Step) → coins_of x ≤ 1
coins-one (one g q) = omega arith
coins-one (two g a b) = omega arith
coins-one (controlled l k q) = omega arith
coins-one (collapse l q recorded inverted resets) = omega arith
coins-one (product factors inverted) = omega arith
coins-one (detector ks) = omega arith
coins-one (observable j ks) = omega arith

pub coins-steps : (xs : List Step) → all_coins_of xs ≤ length xs
coins-steps [] = omega arith
coins-steps (x ∷ xs) = omega (arith, coins-one x, coins-steps xs)

pub coins-few : (k : ℕ) (xs : List Step) → all_coins_of (take k xs) ≤ k
coins-few k xs = omega (arith, coins-steps (take k xs), length-take k xs)

pub coins-append : (xs ys : List Step) → all_coins_of (xs ++ ys) ≡ all_coins_of xs + all_coins_of ys
coins-append [] ys = omega arith
coins-append (x ∷ xs) ys = omega (arith, coins-append xs ys)

pub coins-are : (n : ℕ) (coins : ℕ → Bool) (xs : List Step) (a : Point) → (point_after n coins xs a).coin ≡ a.coin + all_coins_of xs
coins-are n coins [] a = omega arith
coins-are n coins (x ∷ xs) a = omega (arith, coins-are n coins xs (next_point n coins x a))
