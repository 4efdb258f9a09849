-- Edges: ascending rows that flip at most two detectors, and their nodes.
use Rattle.stab_search.proofs.Names.{◌≡◌, ℕ, ◌+◌, ◌≤◌, ◌<◌, ◌⊎◌, inl, inr, refl, sym, ◌∙◌, ap, arith, Bool, true, false, List, [], ◌∷◌, length, get_or, min, ne_eqb, ◌==◌, eqb-true, eq-eqb, cases_eq, cases_lt, ◌⊕◌, parity-false, AscendsFrom, IsAscending, odd, IsGraphlike, has, IsEdge}
use Rattle.stab_search.proofs.ListLemmas.{has-here, has-there}
use Rattle.stab_parities.proofs.AscendingLemmas.{odd-below, named-ascending}

-- a list without detectors
abbrev NamesNone : ℕ → List ℕ → Type 0
NamesNone detectors is = (d : ℕ) → d < detectors → odd d is ≡ false

-- an ascending list whose first number is no detector
names-none : (detectors m : ℕ) (is : List ℕ) → AscendsFrom m is → (0 < length is → detectors ≤ get_or is 0 0) → NamesNone detectors is
names-none detectors m [] a first d lt = refl
names-none detectors m (x ∷ xs) a first d lt = odd-below x (x ∷ xs) d (omega arith, a.1) (let h = first (omega arith) in omega arith)

-- the third number of a list is no detector
abbrev ThirdBeyond : ℕ → List ℕ → Type 0
ThirdBeyond detectors is = 2 < length is → detectors ≤ get_or is 2 0

one-of_two : (a b c : Bool) → c ≡ false → a ⊕ (b ⊕ c) ≡ true → (a ≡ true) ⊎ (b ≡ true)
one-of_two true b c none e = inl refl
one-of_two false b c none e = inr (sym (parity-false b) ∙ ap (λ x. b ⊕ x) (sym none) ∙ e)

pub graphlike-beyond : (detectors : ℕ) (is : List ℕ) → IsAscending is → ThirdBeyond detectors is → IsGraphlike detectors is
graphlike-beyond detectors [] a beyond = (0, 0, λ d lt e. inl (absurd (cc)))
graphlike-beyond detectors (x ∷ []) a beyond =
    (x, x, λ d lt e. inl (sym (eqb-true x d (sym (parity-false (x == d)) ∙ e))))
graphlike-beyond detectors (x ∷ y ∷ rest) a beyond = (x, y, λ d lt e. by_number d (one-of_two (x == d) (y == d) (odd d rest) (none d lt) e))
  where
    none : NamesNone detectors rest
    none = names-none detectors (y + 1) rest a.1.1 (λ some. beyond (omega arith))

    by_number : (d : ℕ) → ((x == d) ≡ true) ⊎ ((y == d) ≡ true) → (d ≡ x) ⊎ (d ≡ y)
    by_number d (inl e) = inl (sym (eqb-true x d e))
    by_number d (inr e) = inr (sym (eqb-true y d e))

-- three numbers are not among two
three-of_two : (x y z a b : ℕ) → x < y → y < z → (x ≡ a) ⊎ (x ≡ b) → (y ≡ a) ⊎ (y ≡ b) → (z ≡ a) ⊎ (z ≡ b) → ⊥
three-of_two x y z a b xy yz (inl p) (inl q) r = omega arith
three-of_two x y z a b xy yz (inr p) (inr q) r = omega arith
three-of_two x y z a b xy yz (inl p) (inr q) (inl r) = omega arith
three-of_two x y z a b xy yz (inl p) (inr q) (inr r) = omega arith
three-of_two x y z a b xy yz (inr p) (inl q) (inl r) = omega arith
three-of_two x y z a b xy yz (inr p) (inl q) (inr r) = omega arith

pub not-graphlike : (detectors : ℕ) (is : List ℕ) → IsAscending is → 2 < length is → get_or is 2 0 < detectors → IsGraphlike detectors is → ⊥
not-graphlike detectors [] a more less graphlike = omega arith
not-graphlike detectors (x ∷ []) a more less graphlike = omega arith
not-graphlike detectors (x ∷ y ∷ []) a more less graphlike = omega arith
not-graphlike detectors (x ∷ y ∷ z ∷ rest) a more less graphlike =
    let xy = a.1.0 in
    let yz = a.1.1.0 in
    three-of_two x y z graphlike.0 graphlike.1 (omega arith) (omega arith)
    (graphlike.2 x (omega arith) (flips x (has-here x (y ∷ z ∷ rest))))
    (graphlike.2 y (omega arith) (flips y (has-there y x (y ∷ z ∷ rest) (has-here y (z ∷ rest)))))
    (graphlike.2 z less (flips z (has-there z x (y ∷ z ∷ rest) (has-there z y (z ∷ rest) (has-here z rest)))))
  where
    flips : (d : ℕ) → has d (x ∷ y ∷ z ∷ rest) ≡ true → odd d (x ∷ y ∷ z ∷ rest) ≡ true
    flips d there = sym (named-ascending (x ∷ y ∷ z ∷ rest) d a) ∙ there

third-beyond : (detectors : ℕ) (is : List ℕ) → IsAscending is → IsGraphlike detectors is → ThirdBeyond detectors is
third-beyond detectors is a graphlike more = by_position (cases_lt (get_or is 2 0) detectors)
  where
    by_position : (get_or is 2 0 < detectors) ⊎ (detectors ≤ get_or is 2 0) → detectors ≤ get_or is 2 0
    by_position (inl less) = absurd (not-graphlike detectors is a more less graphlike)
    by_position (inr le) = le

-- the node of a number is that number, if it is a detector
node-same : (x detectors d : ℕ) → d < detectors → (min x detectors == d) ≡ (x == d)
node-same x detectors d lt = by_position (cases_eq x d)
  where
    by_position : (x ≡ d) ⊎ (x ≡ d → ⊥) → (min x detectors == d) ≡ (x == d)
    by_position (inl same) = eq-eqb (min x detectors) d (omega arith) ∙ sym (eq-eqb x d same)
    by_position (inr other) = ne_eqb (min x detectors) d (λ e. other (omega arith)) ∙ sym (ne_eqb x d other)

no-node : (detectors d : ℕ) → d < detectors → (min detectors detectors == d) ≡ false
no-node detectors d lt = node-same detectors detectors d lt ∙ ne_eqb detectors d (λ e. omega arith)

nodes-same : (detectors : ℕ) (is : List ℕ) → IsAscending is → ThirdBeyond detectors is → (d : ℕ) → d < detectors
    → odd d is ≡ (min (get_or is 0 detectors) detectors == d) ⊕ (min (get_or is 1 detectors) detectors == d)
nodes-same detectors [] a beyond d lt =
    sym (ap (λ b. b ⊕ (min detectors detectors == d)) (no-node detectors d lt) ∙ no-node detectors d lt)
nodes-same detectors (x ∷ []) a beyond d lt =
    sym (ap (λ b. b ⊕ (min detectors detectors == d)) (node-same x detectors d lt) ∙ ap (λ b. (x == d) ⊕ b) (no-node detectors d lt))
nodes-same detectors (x ∷ y ∷ rest) a beyond d lt =
    ap (λ b. (x == d) ⊕ ((y == d) ⊕ b)) (names-none detectors (y + 1) rest a.1.1 (λ some. beyond (omega arith)) d lt)
    ∙ ap (λ b. (x == d) ⊕ b) (parity-false (y == d))
    ∙ sym (ap (λ b. b ⊕ (min y detectors == d)) (node-same x detectors d lt) ∙ ap (λ b. (x == d) ⊕ b) (node-same y detectors d lt))

pub edge-is : (detectors : ℕ) (is : List ℕ) (u v : ℕ) → IsAscending is → IsGraphlike detectors is
    → u ≡ min (get_or is 0 detectors) detectors → v ≡ min (get_or is 1 detectors) detectors → IsEdge detectors is (record { first = u; second = v })
edge-is detectors is u v a graphlike first second = record {
  first = omega arith;
  second = omega arith;
  same = λ d lt.
      nodes-same detectors is a (third-beyond detectors is a graphlike) d lt
      ∙ sym (ap (λ k. (k == d) ⊕ (v == d)) first ∙ ap (λ k. (min (get_or is 0 detectors) detectors == d) ⊕ (k == d)) second);
}
