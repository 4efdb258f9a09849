-- Same pivots: what was recorded of a run is true of it with steps that differ from its own by Pauli gates, and its randomness is the same.
use Rattle.stab_session.proofs.Names.{◌≡◌, ℕ, ◌<◌, refl, sym, ◌∙◌, ap, subst, Bool, List, [], ◌∷◌, ◌++◌, append_assoc, All, map, take, Option, All-nil, All-cons, All-head, All-tail, All-append, All-take, Letter, member, IsStabiliserGroup, Step, one, gate_of, Point, RunOutput, origin, next_point, point_after, outputs, all_coins_of, StepFits, after-append, outputs-append, flipped, Frame, PointsDifferBy, same_coins, AreRight, AreEnough, AreTrue, gates-fit, group-origin, gates-give-nothing, right-enough, enough-before, run-pivots, by_frame-exchanged, over-by_frame, true-append, true-front, true-rest, true-conjugated, interleaved}
use Rattle.stab_recording.proofs.FlippedLemmas.{flips-random, flipped-zeros}

-- what all of some steps have, those after the first have

pub all-rest : {X : Type 0} (P : X → Type 0) (xs ys : List X) → All P (xs ++ ys) → All P ys
all-rest P [] ys all = all
all-rest P (x ∷ xs) ys all = all-rest P xs ys (All-tail P x (xs ++ ys) all)

pub all-front : {X : Type 0} (P : X → Type 0) (xs ys : List X) → All P (xs ++ ys) → All P xs
all-front P [] ys all = All-nil P
all-front P (x ∷ xs) ys all = All-cons P x xs (All-head P x (xs ++ ys) all) (all-front P xs ys (All-tail P x (xs ++ ys) all))

right-rest : (n : ℕ) (coins : ℕ → Bool) (strings : ℕ → Option (List Letter)) (xs ys : List Step) (a : Point) → AreRight n coins strings (xs ++ ys) a
    → AreRight n coins strings ys (point_after n coins xs a)
right-rest n coins strings [] ys a are = are
right-rest n coins strings (x ∷ xs) ys a are = right-rest n coins strings xs ys (next_point n coins x a) are.1

-- some steps go from the start to a point
pub record IsReached (n : ℕ) (coins : ℕ → Bool) (a : Point) : Type 0 where
  pub steps : List Step
  pub fit : All (StepFits n) steps
  pub is : a ≡ point_after n coins steps origin

pub reached-on : (n : ℕ) (coins : ℕ → Bool) (a : Point) (xs : List Step) → All (StepFits n) xs → IsReached n coins a → IsReached n coins (point_after n coins xs a)
reached-on n coins a xs fits r = record {
  steps = r.steps ++ xs;
  fit = All-append (StepFits n) r.steps xs r.fit fits;
  is = ap (point_after n coins xs) r.is ∙ sym (after-append n coins r.steps xs origin);
}

-- after points that differ by a frame

module _ (n : ℕ) (coins : ℕ → Bool) (a b : Point) (f : Frame) (zs : List Step) (fits : All (StepFits n) zs) (r : IsReached n coins a) (distinct : PointsDifferBy n f a b) where
  has_pivots : (pivots : ℕ → Option (List Letter)) × AreRight n coins pivots (r.steps ++ zs) origin
  has_pivots = run-pivots n coins (r.steps ++ zs) (All-append (StepFits n) r.steps zs r.fit fits)

  enough : AreEnough n coins (same_coins has_pivots.0) zs f a
  enough =
      right-enough n coins (same_coins has_pivots.0) zs f a
      (subst (AreRight n coins has_pivots.0 zs) (sym r.is) (right-rest n coins has_pivots.0 r.steps zs origin has_pivots.1))

  group : IsStabiliserGroup n (member a.trace)
  group = subst (λ (p : Point). IsStabiliserGroup n (member p.trace)) (sym r.is) (group-origin n coins r.steps r.fit)

  pub pivots-distinct : (strings : ℕ → Option (List Letter)) → AreTrue n coins strings zs a → AreTrue n coins strings zs b
  pivots-distinct strings are =
      true-conjugated n coins strings zs a b distinct.coin
      (λ m. (_, (over-by_frame n coins (same_coins has_pivots.0) (take m zs) f a b (All-take (StepFits n) m zs fits) group (enough-before n coins (same_coins has_pivots.0) m zs f a enough) distinct).1.group))
      are

  pub randomness-distinct : (outputs n coins zs b).free ≡ (outputs n coins zs a).free
  randomness-distinct =
      ap (λ (o : RunOutput). o.free) (over-by_frame n coins (same_coins has_pivots.0) zs f a b fits group enough distinct).0
      ∙ ap (flipped (outputs n coins zs a).free) (flips-random n (same_coins has_pivots.0) zs a.coin f)
      ∙ flipped-zeros (outputs n coins zs a).free (all_coins_of zs)

-- Pauli gates measure nothing, and give nothing

pub gates-are-true : (n : ℕ) (coins : ℕ → Bool) (strings : ℕ → Option (List Letter)) (l : Letter) (qs : List ℕ) (a : Point) → AreTrue n coins strings (map (one (gate_of l)) qs) a
gates-are-true n coins strings l [] a = tt
gates-are-true n coins strings l (q ∷ qs) a = (tt, gates-are-true n coins strings l qs (next_point n coins (one (gate_of l) q) a))

pub gates-random : (n : ℕ) (coins : ℕ → Bool) (l : Letter) (qs : List ℕ) (zs : List Step) (a : Point)
    → (outputs n coins (map (one (gate_of l)) qs ++ zs) a).free ≡ (outputs n coins zs (point_after n coins (map (one (gate_of l)) qs) a)).free
gates-random n coins l qs zs a =
    ap (λ (o : RunOutput). o.free) (outputs-append n coins (map (one (gate_of l)) qs) zs a)
    ∙ ap (λ (o : RunOutput). o.free ++ (outputs n coins zs (point_after n coins (map (one (gate_of l)) qs) a)).free) (gates-give-nothing n coins l qs a)

-- from a point on, pivots that are true with the one steps are so with the others, and the randomness is the same
pub record AreSamePivots (n : ℕ) (coins : ℕ → Bool) (strings : ℕ → Option (List Letter)) (zs ws : List Step) (a : Point) : Type 0 where
  pub are_true : AreTrue n coins strings zs a → AreTrue n coins strings ws a
  pub randomness : (outputs n coins ws a).free ≡ (outputs n coins zs a).free

piece-same : (n : ℕ) (coins : ℕ → Bool) (strings : ℕ → Option (List Letter)) (xs zs ws : List Step) (a : Point)
    → AreSamePivots n coins strings zs ws (point_after n coins xs a) → AreSamePivots n coins strings (xs ++ zs) (xs ++ ws) a
piece-same n coins strings xs zs ws a same = record {
  are_true = λ are. true-append n coins strings xs ws a (true-front n coins strings xs zs a are) (same.are_true (true-rest n coins strings xs zs a are));
  randomness =
      ap (λ (o : RunOutput). o.free) (outputs-append n coins xs ws a)
      ∙ ap (λ bits. (outputs n coins xs a).free ++ bits) same.randomness
      ∙ sym (ap (λ (o : RunOutput). o.free) (outputs-append n coins xs zs a));
}

module _ (n : ℕ) (coins : ℕ → Bool) (strings : ℕ → Option (List Letter)) (l m : Letter) (qs rs : List ℕ) (left : All (λ q. q < n) qs) (right : All (λ q. q < n) rs) where
  -- gates instead of others
  pub gates-same : (zs ws : List Step) (a : Point) → All (StepFits n) ws → IsReached n coins a → AreSamePivots n coins strings zs ws (point_after n coins (map (one (gate_of l)) qs) a)
      → AreSamePivots n coins strings (map (one (gate_of l)) qs ++ zs) (map (one (gate_of m)) rs ++ ws) a
  gates-same zs ws a fits r same = record {
    are_true = λ are.
        true-append n coins strings (map (one (gate_of m)) rs) ws a (gates-are-true n coins strings m rs a)
        (pivots-distinct n coins (point_after n coins (map (one (gate_of l)) qs) a) (point_after n coins (map (one (gate_of m)) rs) a) _ ws fits there
        (by_frame-exchanged n coins l m qs rs left right a) strings
        (same.are_true (true-rest n coins strings (map (one (gate_of l)) qs) zs a are)));
    randomness =
        gates-random n coins m rs ws a
        ∙ randomness-distinct n coins (point_after n coins (map (one (gate_of l)) qs) a) (point_after n coins (map (one (gate_of m)) rs) a) _ ws fits there
        (by_frame-exchanged n coins l m qs rs left right a)
        ∙ same.randomness
        ∙ sym (gates-random n coins l qs zs a);
  }
    where
      there : IsReached n coins (point_after n coins (map (one (gate_of l)) qs) a)
      there = reached-on n coins a (map (one (gate_of l)) qs) (gates-fit n l qs left) r

  -- and so before each of some pieces
  pub interleaved-same : (pieces : List (List Step)) (back : List Step) (a : Point) → All (StepFits n) (interleaved (map (one (gate_of m)) rs) pieces ++ back) → IsReached n coins a
      → AreSamePivots n coins strings (interleaved (map (one (gate_of l)) qs) pieces ++ back) (interleaved (map (one (gate_of m)) rs) pieces ++ back) a
  interleaved-same [] back a fits r = record { are_true = λ are. are; randomness = refl }
  interleaved-same (p ∷ ps) back a fits r =
      subst (λ x. x)
      (λ i. AreSamePivots n coins strings (sym (distinct (map (one (gate_of l)) qs) (interleaved (map (one (gate_of l)) qs) ps)) i) (sym (distinct (map (one (gate_of m)) rs) (interleaved (map (one (gate_of m)) rs) ps)) i) a)
      (gates-same (p ++ (interleaved (map (one (gate_of l)) qs) ps ++ back)) (p ++ (interleaved (map (one (gate_of m)) rs) ps ++ back)) a later r
      (piece-same n coins strings p (interleaved (map (one (gate_of l)) qs) ps ++ back) (interleaved (map (one (gate_of m)) rs) ps ++ back) (point_after n coins (map (one (gate_of l)) qs) a)
      (interleaved-same ps back (point_after n coins p (point_after n coins (map (one (gate_of l)) qs) a)) (all-rest (StepFits n) p (interleaved (map (one (gate_of m)) rs) ps ++ back) later)
      (reached-on n coins (point_after n coins (map (one (gate_of l)) qs) a) p (all-front (StepFits n) p (interleaved (map (one (gate_of m)) rs) ps ++ back) later)
      (reached-on n coins a (map (one (gate_of l)) qs) (gates-fit n l qs left) r)))))
    where
      distinct : (gates more : List Step) → gates ++ (p ++ more) ++ back ≡ gates ++ (p ++ (more ++ back))
      distinct gates more = append_assoc gates (p ++ more) back ∙ ap (λ l. gates ++ l) (append_assoc p more back)

      later : All (StepFits n) (p ++ (interleaved (map (one (gate_of m)) rs) ps ++ back))
      later =
          all-rest (StepFits n) (map (one (gate_of m)) rs) (p ++ (interleaved (map (one (gate_of m)) rs) ps ++ back))
          (subst (All (StepFits n)) (distinct (map (one (gate_of m)) rs) (interleaved (map (one (gate_of m)) rs) ps)) fits)
