-- Points: the randomness and records after steps, and what steps give in two parts.
use Rattle.stab_run.proofs.Names.{◌≡◌, ℕ, ◌+◌, ◌≤◌, refl, sym, ◌∙◌, ap, subst, Bool, true, false, List, [], ◌∷◌, ◌++◌, append_assoc, append-nil, length, take, drop, arith, length-append, take-append-drop, take_at, drop_at, Step, one, two, controlled, collapse, product, detector, observable, Point, RunOutput, origin, joined, given, coins_of, next_point, point_after, outputs, lengths_of, front_of, rest_of}
use Rattle.stab_run.proofs.RunLemmas.{outputs-append}

-- the randomness and records after some steps

pub randomness-given : (n : ℕ) (coins : ℕ → Bool) (x : Step) (p : Point) → length (given n coins x p).free ≡ coins_of x
randomness-given n coins (one g q) p = refl
randomness-given n coins (two g a b) p = refl
randomness-given n coins (controlled l k q) p = refl
randomness-given n coins (collapse l q recorded inverted resets) p = refl
randomness-given n coins (product factors inverted) p = refl
randomness-given n coins (detector ks) p = refl
randomness-given n coins (observable j ks) p = refl

pub randomness-counted : (n : ℕ) (coins : ℕ → Bool) (xs : List Step) (p : Point) → (point_after n coins xs p).coin ≡ p.coin + length (outputs n coins xs p).free
randomness-counted n coins [] p = omega arith
randomness-counted n coins (x ∷ xs) p =
    let next = next_point n coins x p in
    let later : (point_after n coins xs next).coin ≡ (p.coin + coins_of x) + length (outputs n coins xs next).free = randomness-counted n coins xs next in
    omega (arith, later, randomness-given n coins x p, length-append (given n coins x p).free (outputs n coins xs next).free)

pub records-gathered : (n : ℕ) (coins : ℕ → Bool) (xs : List Step) (p : Point) → (point_after n coins xs p).records ≡ p.records ++ (outputs n coins xs p).records
records-gathered n coins [] p = sym (append-nil p.records)
records-gathered n coins (x ∷ xs) p =
    records-gathered n coins xs (next_point n coins x p)
    ∙ append_assoc p.records (given n coins x p).records (outputs n coins xs (next_point n coins x p)).records

pub randomness-is-coins : (n : ℕ) (coins : ℕ → Bool) (xs : List Step) → length (outputs n coins xs origin).free ≡ (point_after n coins xs origin).coin
randomness-is-coins n coins xs = omega (arith, randomness-counted n coins xs origin)

pub records-are-records : (n : ℕ) (coins : ℕ → Bool) (xs : List Step) → (outputs n coins xs origin).records ≡ (point_after n coins xs origin).records
records-are-records n coins xs = sym (records-gathered n coins xs origin)

-- an outcome for each flag

outcomes-given : (n : ℕ) (coins : ℕ → Bool) (x : Step) (p : Point) → length (given n coins x p).outcomes ≡ length (given n coins x p).free
outcomes-given n coins (one g q) p = refl
outcomes-given n coins (two g a b) p = refl
outcomes-given n coins (controlled l k q) p = refl
outcomes-given n coins (collapse l q recorded inverted resets) p = refl
outcomes-given n coins (product factors inverted) p = refl
outcomes-given n coins (detector ks) p = refl
outcomes-given n coins (observable j ks) p = refl

pub outcomes-counted : (n : ℕ) (coins : ℕ → Bool) (xs : List Step) (p : Point) → length (outputs n coins xs p).outcomes ≡ length (outputs n coins xs p).free
outcomes-counted n coins [] p = refl
outcomes-counted n coins (x ∷ xs) p =
    let later = outputs n coins xs (next_point n coins x p) in
    length-append (given n coins x p).outcomes later.outcomes
    ∙ (λ i. outcomes-given n coins x p i + outcomes-counted n coins xs (next_point n coins x p) i)
    ∙ sym (length-append (given n coins x p).free later.free)

-- what is given in two parts

pub front-joined : (a b : RunOutput) → length a.outcomes ≡ length a.free → front_of (lengths_of a) (joined a b) ≡ a
front-joined a b each = λ i. record {
  records = take_at a.records b.records (length a.records) refl i;
  free = take_at a.free b.free (length a.free) refl i;
  outcomes = take_at a.outcomes b.outcomes (length a.free) each i;
  detectors = take_at a.detectors b.detectors (length a.detectors) refl i;
  additions = take_at a.additions b.additions (length a.additions) refl i;
}

pub rest-joined : (a b : RunOutput) → length a.outcomes ≡ length a.free → rest_of (lengths_of a) (joined a b) ≡ b
rest-joined a b each = λ i. record {
  records = drop_at a.records b.records (length a.records) refl i;
  free = drop_at a.free b.free (length a.free) refl i;
  outcomes = drop_at a.outcomes b.outcomes (length a.free) each i;
  detectors = drop_at a.detectors b.detectors (length a.detectors) refl i;
  additions = drop_at a.additions b.additions (length a.additions) refl i;
}

pub cut : (n : ℕ) (coins : ℕ → Bool) (xs : List Step) (i : ℕ)
    → outputs n coins xs origin ≡ joined (outputs n coins (take i xs) origin) (outputs n coins (drop i xs) (point_after n coins (take i xs) origin))
cut n coins xs i = ap (λ ys. outputs n coins ys origin) (sym (take-append-drop i xs)) ∙ outputs-append n coins (take i xs) (drop i xs) origin

pub front-output : (n : ℕ) (coins : ℕ → Bool) (xs : List Step) (i : ℕ)
    → front_of (lengths_of (outputs n coins (take i xs) origin)) (outputs n coins xs origin) ≡ outputs n coins (take i xs) origin
front-output n coins xs i =
    let a = outputs n coins (take i xs) origin in
    let b = outputs n coins (drop i xs) (point_after n coins (take i xs) origin) in
    ap (front_of (lengths_of a)) (cut n coins xs i) ∙ front-joined a b (outcomes-counted n coins (take i xs) origin)

pub rest-output : (n : ℕ) (coins : ℕ → Bool) (xs : List Step) (i : ℕ)
    → rest_of (lengths_of (outputs n coins (take i xs) origin)) (outputs n coins xs origin) ≡ outputs n coins (drop i xs) (point_after n coins (take i xs) origin)
rest-output n coins xs i =
    let a = outputs n coins (take i xs) origin in
    let b = outputs n coins (drop i xs) (point_after n coins (take i xs) origin) in
    ap (rest_of (lengths_of a)) (cut n coins xs i) ∙ rest-joined a b (outcomes-counted n coins (take i xs) origin)

-- each list of an output has at most this many elements
pub record HasAtMost (k : ℕ) (o : RunOutput) : Type 0 where
  pub records : length o.records ≤ k
  pub free : length o.free ≤ k
  pub outcomes : length o.outcomes ≤ k
  pub detectors : length o.detectors ≤ k
  pub additions : length o.additions ≤ k

given-short : (n : ℕ) (coins : ℕ → Bool) (x : Step) (p : Point) → HasAtMost 1 (given n coins x p)
given-short n coins (one g q) p = record { records = omega arith; free = omega arith; outcomes = omega arith; detectors = omega arith; additions = omega arith }
given-short n coins (two g a b) p = record { records = omega arith; free = omega arith; outcomes = omega arith; detectors = omega arith; additions = omega arith }
given-short n coins (controlled l k q) p = record { records = omega arith; free = omega arith; outcomes = omega arith; detectors = omega arith; additions = omega arith }
given-short n coins (collapse l q true inverted resets) p = record { records = omega arith; free = omega arith; outcomes = omega arith; detectors = omega arith; additions = omega arith }
given-short n coins (collapse l q false inverted resets) p = record { records = omega arith; free = omega arith; outcomes = omega arith; detectors = omega arith; additions = omega arith }
given-short n coins (product factors inverted) p = record { records = omega arith; free = omega arith; outcomes = omega arith; detectors = omega arith; additions = omega arith }
given-short n coins (detector ks) p = record { records = omega arith; free = omega arith; outcomes = omega arith; detectors = omega arith; additions = omega arith }
given-short n coins (observable j ks) p = record { records = omega arith; free = omega arith; outcomes = omega arith; detectors = omega arith; additions = omega arith }

append-short : {X : Type 0} (xs ys : List X) (k : ℕ) → length xs ≤ 1 → length ys ≤ k → length (xs ++ ys) ≤ k + 1
append-short xs ys k a b = omega (arith, length-append xs ys)

joined-short : (k : ℕ) (a b : RunOutput) → HasAtMost 1 a → HasAtMost k b → HasAtMost (k + 1) (joined a b)
joined-short k a b s t = record {
  records = append-short a.records b.records k s.records t.records;
  free = append-short a.free b.free k s.free t.free;
  outcomes = append-short a.outcomes b.outcomes k s.outcomes t.outcomes;
  detectors = append-short a.detectors b.detectors k s.detectors t.detectors;
  additions = append-short a.additions b.additions k s.additions t.additions;
}

pub outputs-short : (n : ℕ) (coins : ℕ → Bool) (xs : List Step) (p : Point) → HasAtMost (length xs) (outputs n coins xs p)
outputs-short n coins [] p = record { records = omega arith; free = omega arith; outcomes = omega arith; detectors = omega arith; additions = omega arith }
outputs-short n coins (x ∷ xs) p =
    let next = next_point n coins x p in
    subst (λ k. HasAtMost k (outputs n coins (x ∷ xs) p)) (omega arith)
    (joined-short (length xs) (given n coins x p) (outputs n coins xs next) (given-short n coins x p) (outputs-short n coins xs next))
