-- Fronts: steps one after another on the way of a string make two runs differ by it, also once what a reset leaves is left out.
use Rattle.stab_ways.proofs.Names.{◌≡◌, ℕ, ◌<◌, refl, sym, ◌∙◌, ap, subst, Bool, true, false, not, ◌&&◌, ◌||◌, List, [], ◌∷◌, ◌++◌, length, All, append_assoc, append-nil, All-nil, All-cons, All-head, All-tail, All-append, Letter, Signed, single, with_sign, anticommute, identity, product-self, strings_anticommute-self, length-string_product, length-one_letter, Event, projected, member, IsStabiliserGroup, Step, one, two, controlled, collapse, product, detector, observable, letter_product, letter_at, acts, flip_of, applied_where, outcome_at, Point, RunOutput, origin, nothing, joined, joined-assoc, joined-nothing, point_after, after-append, StepFits, Frame, times_where, RunPivots, no_strings, coins_changed, frame_after, flips_given, IsEnoughAt, AreFronts, group-origin, fronts-go-on, conjugated-over, conjugated-comm, conjugated-stabiliser, sign-twice, back-letter, by_letters, reset_leaves, step_leaves, way_after, way_over, way_flips}
use Rattle.stab_ways.proofs.FixedLemmas.{fixed-after, fixed-given}
use Rattle.stab_ways.proofs.EnoughLemmas.{Differ, here-enough, later}

-- a string that was measured stabilises, with the sign of its outcome

or-true : (b : Bool) → (b || true) ≡ true
or-true true = refl
or-true false = refl

measured-stabilises : (n : ℕ) (t : List Event) → IsStabiliserGroup n (member t) → (s : Signed) → length s.letters ≡ n → (o : Bool)
    → member (projected s o ∷ t) (with_sign o s) ≡ true
measured-stabilises n t group s size o =
    (λ i. not (strings_anticommute-self s.letters i)
    && (member t (with_sign o s) || (ap (member t) (product-self (with_sign o s) ∙ ap identity size) ∙ group.has_identity) i))
    ∙ or-true (member t (with_sign o s))

-- and so it does after a reset, with one sign

pub record Stabilises (t : List Event) (s : Signed) : Type 0 where
  pub negative : Bool
  pub is : member t (record { negative = negative; letters = s.letters }) ≡ true

module _ (n : ℕ) (t : List Event) (group : IsStabiliserGroup n (member t)) (l : Letter) (q : ℕ) (lt : q < n) where
  abbrev s : Signed
  s = single n q l

  abbrev distinct : Bool
  distinct = anticommute (single n q (flip_of l)) s

  reset-stabilises : (bit : Bool) → Stabilises (applied_where bit (flip_of l) q (projected s bit ∷ t)) s
  reset-stabilises false = record { negative = false; is = measured-stabilises n t group s (length-one_letter n q l) false }
  reset-stabilises true = record {
    negative = (with_sign distinct (with_sign true s)).negative;
    is = ap (member (projected s true ∷ t))
        (back-letter n q (flip_of l) (with_sign distinct (with_sign true s)) (length-one_letter n q l) lt ∙ sign-twice distinct (with_sign true s))
        ∙ measured-stabilises n t group s (length-one_letter n q l) true;
  }

module _ (n : ℕ) (coins changes : ℕ → Bool) where
  abbrev others : ℕ → Bool
  others = coins_changed coins changes

  abbrev pivots : RunPivots
  pivots = no_strings changes

  -- a stabiliser may be left out
  left-out : (us vs : List Step) (f : Frame) (flips : RunOutput) → All (StepFits n) us → (s : Signed) → length s.letters ≡ n
      → Stabilises (point_after n coins us origin).trace s → AreFronts n coins others us vs f flips → (b : Bool)
      → AreFronts n coins others us vs (record f { letters = times_where b s.letters f.letters }) flips
  left-out us vs f flips fits s size is fronts false = fronts
  left-out us vs f flips fits s size is fronts true =
      let u = member (point_after n coins us origin).trace in
      let v = member (point_after n others vs origin).trace in record {
        by_frame = record {
          size = length-string_product n f.letters s.letters fronts.by_frame.size size;
          group = conjugated-comm n s.letters f.letters u v
              (conjugated-over n s.letters f.letters u u v (conjugated-stabiliser n s.letters u (group-origin n coins us fits) size is.negative is.is) fronts.by_frame.group);
          coin = fronts.by_frame.coin;
          count = fronts.by_frame.count;
          records = fronts.by_frame.records;
        };
        given = fronts.given;
        matches = fronts.matches;
      }

  -- after a reset
  reset-left : (us vs : List Step) (l : Letter) (q : ℕ) (recorded inverted : Bool) (f : Frame) (flips : RunOutput) → All (StepFits n) us → q < n → (resets : Bool)
      → AreFronts n coins others (us ++ collapse l q recorded inverted resets ∷ []) vs f flips
      → AreFronts n coins others (us ++ collapse l q recorded inverted resets ∷ []) vs (record f { letters = reset_leaves n resets l q f.letters }) flips
  reset-left us vs l q recorded inverted f flips fits lt false fronts = fronts
  reset-left us vs l q recorded inverted f flips fits lt true fronts =
      let x = collapse l q recorded inverted true in
      let a = point_after n coins us origin in
      left-out (us ++ x ∷ []) vs f flips (All-append (StepFits n) us (x ∷ []) fits (All-cons (StepFits n) x [] lt (All-nil (StepFits n)))) (single n q l) (length-one_letter n q l)
      (subst (λ (p : Point). Stabilises p.trace (single n q l)) (sym (after-append n coins us (x ∷ []) origin))
      (reset-stabilises n a.trace (group-origin n coins us fits) l q lt (outcome_at coins (single n q l) a.trace a.coin)))
      fronts (not (acts (letter_product (letter_at f.letters q) l)))

  step-left : (us vs : List Step) (x : Step) (f : Frame) (flips : RunOutput) → All (StepFits n) us → StepFits n x
      → AreFronts n coins others (us ++ x ∷ []) vs f flips → AreFronts n coins others (us ++ x ∷ []) vs (record f { letters = step_leaves n x f.letters }) flips
  step-left us vs (one g q) f flips fits fit fronts = fronts
  step-left us vs (two g a b) f flips fits fit fronts = fronts
  step-left us vs (controlled l k q) f flips fits fit fronts = fronts
  step-left us vs (collapse l q recorded inverted resets) f flips fits fit fronts = reset-left us vs l q recorded inverted f flips fits fit resets fronts
  step-left us vs (product factors inverted) f flips fits fit fronts = fronts
  step-left us vs (detector ks) f flips fits fit fronts = fronts
  step-left us vs (observable j ks) f flips fits fit fronts = fronts

  -- one step
  step-fronts : (us vs : List Step) (x : Step) (f : Frame) (flips : RunOutput) → All (StepFits n) us → StepFits n x → AreFronts n coins others us vs f flips
      → IsEnoughAt n pivots x f.letters (point_after n coins us origin)
      → AreFronts n coins others (us ++ x ∷ []) (vs ++ x ∷ []) (way_after n x f) (joined flips (flips_given n by_letters x 0 f))
  step-fronts us vs x f flips fits fit fronts enough =
      let c = (point_after n coins us origin).coin in
      let went = fronts-go-on n coins pivots us vs (x ∷ []) f flips fits (All-cons (StepFits n) x [] fit (All-nil (StepFits n))) fronts (enough, tt) in
      step-left us (vs ++ x ∷ []) x (frame_after n by_letters x 0 f) (joined flips (flips_given n by_letters x 0 f)) fits fit
      (subst (λ o. AreFronts n coins others (us ++ x ∷ []) (vs ++ x ∷ []) (frame_after n by_letters x 0 f) (joined flips o))
      (ap (λ o. joined o nothing) (fixed-given n pivots (λ t. refl) x c 0 f) ∙ joined-nothing (flips_given n by_letters x 0 f))
      (subst (λ g. AreFronts n coins others (us ++ x ∷ []) (vs ++ x ∷ []) g (joined flips (joined (flips_given n pivots x c f) nothing)))
      (fixed-after n pivots (λ t. refl) x c 0 f) went))

  -- and steps one after another
  pub fronts-way : (xs us vs : List Step) (f : Frame) (flips : RunOutput) → All (StepFits n) us → All (StepFits n) xs → AreFronts n coins others us vs f flips
      → Differ n coins changes xs f (point_after n coins us origin)
      → AreFronts n coins others (us ++ xs) (vs ++ xs) (way_over n xs f) (joined flips (way_flips n xs f))
  fronts-way [] us vs f flips fits fit fronts differ =
      subst (AreFronts n coins others (us ++ []) (vs ++ []) f) (sym (joined-nothing flips))
      (subst (λ ws. AreFronts n coins others ws (vs ++ []) f flips) (sym (append-nil us))
      (subst (λ ws. AreFronts n coins others us ws f flips) (sym (append-nil vs)) fronts))
  fronts-way (x ∷ xs) us vs f flips fits fit fronts differ =
      let given = flips_given n by_letters x 0 f in
      let g = way_after n x f in
      let a = point_after n coins us origin in
      let here = All-head (StepFits n) x xs fit in
      let next = step-fronts us vs x f flips fits here fronts (here-enough n coins changes x xs f a differ) in
      let on = fronts-way xs (us ++ x ∷ []) (vs ++ x ∷ []) g (joined flips given)
      (All-append (StepFits n) us (x ∷ []) fits (All-cons (StepFits n) x [] here (All-nil (StepFits n)))) (All-tail (StepFits n) x xs fit) next
      (subst (Differ n coins changes xs g) (sym (after-append n coins us (x ∷ []) origin)) (later n coins changes x xs f a differ)) in
      subst (AreFronts n coins others (us ++ x ∷ xs) (vs ++ x ∷ xs) (way_over n xs g)) (joined-assoc flips given (way_flips n xs g))
      (subst (λ ws. AreFronts n coins others ws (vs ++ x ∷ xs) (way_over n xs g) (joined (joined flips given) (way_flips n xs g))) (append_assoc us (x ∷ []) xs)
      (subst (λ ws. AreFronts n coins others ((us ++ x ∷ []) ++ xs) ws (way_over n xs g) (joined (joined flips given) (way_flips n xs g))) (append_assoc vs (x ∷ []) xs) on))
