-- Together: what resets leave of a string after several steps is what they leave one by one.
use Rattle.stab_ways.proofs.Names.{◌≡◌, ℕ, ◌+◌, ◌<◌, ◌≤◌, refl, sym, ◌∙◌, ap, subst, Bool, true, false, not, ◌&&◌, List, [], ◌∷◌, ◌++◌, length, map, take, drop, take-append-drop, take-append_seam, append-nil, length-append, length-take, length-map, map-append, All, All-nil, All-cons, All-head, All-tail, All-take, arith, get_or, list_any, or-left, or-right, Letter, I, X, Y, Z, letter_product, letters_anticommute, single, strings_anticommute, strings_anticommute-comm, one_letter-anticommute, letter_at, acts, Gate, Axis, Measurement, MeasureTarget, ControlledPair, letter_of, Step, one, controlled_step, measured, detector, flip_of, joined, coins_of, StepFits, PropagationState, fits-mapped, map_more, Frame, times_where, letters_after, frame_after, frame_over, flips_given, flips_over, by_letters, reset_leaves, step_leaves, way_after, way_over, way_flips, EndsTogether, IsFront, has_letter_at, steps_leave}
use Rattle.stab_instructions.specs.declared.control.ControlledPair.TheVariants as pair
use Rattle.stab_instructions.specs.declared.axis.Axis.TheVariants as axis
use Rattle.stab_ways.proofs.FixedLemmas.{fixed-frame, fixed-flips}
use Rattle.stab_gates.proofs.LetterLemmas.{letters_anticommute-I}

module _ (n : ℕ) where
  -- one step
  pub together-one : (x : Step) (f : Frame) → EndsTogether n (x ∷ []) f
  together-one x f = record { letters = refl; flips = refl }

  -- steps of which none leaves anything out of a frame
  abbrev pub Quiet : List Step → Frame → Type 0
  Quiet [] f = Unit {0}
  Quiet (x ∷ xs) f = (step_leaves n x (letters_after n by_letters x 0 f) ≡ letters_after n by_letters x 0 f) × Quiet xs (frame_after n by_letters x 0 f)

  step-quiet : (x : Step) (f : Frame) → step_leaves n x (letters_after n by_letters x 0 f) ≡ letters_after n by_letters x 0 f
      → way_after n x f ≡ frame_after n by_letters x 0 f
  step-quiet x f e = ap (λ s. record { letters = s; flips = f.flips ++ (flips_given n by_letters x 0 f).records }) e

  way-quiet : (ys : List Step) (f : Frame) → Quiet ys f → way_over n ys f ≡ frame_over n by_letters ys 0 f
  way-quiet [] f quiet = refl
  way-quiet (x ∷ xs) f quiet =
      ap (way_over n xs) (step-quiet x f quiet.0)
      ∙ way-quiet xs (frame_after n by_letters x 0 f) quiet.1
      ∙ sym (fixed-frame n by_letters (λ t. refl) xs (0 + coins_of x) 0 (frame_after n by_letters x 0 f))

  flips-quiet : (ys : List Step) (f : Frame) → Quiet ys f → way_flips n ys f ≡ flips_over n by_letters ys 0 f
  flips-quiet [] f quiet = refl
  flips-quiet (x ∷ xs) f quiet =
      ap (joined (flips_given n by_letters x 0 f))
      (ap (way_flips n xs) (step-quiet x f quiet.0)
      ∙ flips-quiet xs (frame_after n by_letters x 0 f) quiet.1
      ∙ sym (fixed-flips n by_letters (λ t. refl) xs (0 + coins_of x) 0 (frame_after n by_letters x 0 f)))

  together-quiet : (ys : List Step) (f : Frame) → Quiet ys f → steps_leave n ys (frame_over n by_letters ys 0 f).letters ≡ (frame_over n by_letters ys 0 f).letters
      → EndsTogether n ys f
  together-quiet ys f quiet left = record {
    letters = ap (λ (g : Frame). g.letters) (way-quiet ys f quiet) ∙ sym left;
    flips = flips-quiet ys f quiet;
  }

  -- steps of which none leaves anything out at all
  abbrev pub LeavesAll : Step → Type 0
  LeavesAll x = (s : List Letter) → step_leaves n x s ≡ s

  pub leave-all : (ys : List Step) → All LeavesAll ys → (s : List Letter) → steps_leave n ys s ≡ s
  leave-all [] all s = refl
  leave-all (x ∷ xs) all s = ap (steps_leave n xs) (All-head LeavesAll x xs all s) ∙ leave-all xs (All-tail LeavesAll x xs all) s

  all-quiet : (ys : List Step) → All LeavesAll ys → (f : Frame) → Quiet ys f
  all-quiet [] all f = tt
  all-quiet (x ∷ xs) all f = (All-head LeavesAll x xs all (letters_after n by_letters x 0 f), all-quiet xs (All-tail LeavesAll x xs all) (frame_after n by_letters x 0 f))

  pub together-all : (ys : List Step) → All LeavesAll ys → (f : Frame) → EndsTogether n ys f
  together-all ys all f = together-quiet ys f (all-quiet ys all f) (leave-all ys all (frame_over n by_letters ys 0 f).letters)

  -- gates, pairs, detectors, and measurements that do not reset

  pub gates-leave : (g : Gate) (qs : List ℕ) → All LeavesAll (map (one g) qs)
  gates-leave g [] = All-nil LeavesAll
  gates-leave g (q ∷ qs) = All-cons LeavesAll (one g q) (map (one g) qs) (λ s. refl) (gates-leave g qs)

  pair-leaves : (a : Axis) (p : ControlledPair) → LeavesAll (controlled_step a p)
  pair-leaves a (pair.Qubits p) s = refl
  pair-leaves a (pair.Record q k) s = refl

  pub pairs-leave : (a : Axis) (ps : List ControlledPair) → All LeavesAll (map (controlled_step a) ps)
  pairs-leave a [] = All-nil LeavesAll
  pairs-leave a (p ∷ ps) = All-cons LeavesAll (controlled_step a p) (map (controlled_step a) ps) (pair-leaves a p) (pairs-leave a ps)

  pub detectors-leave : (ds : List (List ℕ)) → All LeavesAll (map detector ds)
  detectors-leave [] = All-nil LeavesAll
  detectors-leave (d ∷ ds) = All-cons LeavesAll (detector d) (map detector ds) (λ s. refl) (detectors-leave ds)

  measured-leaves : (m : Measurement) (t : MeasureTarget) → m.resets ≡ false → LeavesAll (measured m t)
  measured-leaves m t e s = ap (λ r. reset_leaves n r (letter_of m.axis) t.qubit s) e

  pub measurements-leave : (m : Measurement) (ts : List MeasureTarget) → m.resets ≡ false → All LeavesAll (map (measured m) ts)
  measurements-leave m [] e = All-nil LeavesAll
  measurements-leave m (t ∷ ts) e = All-cons LeavesAll (measured m t) (map (measured m) ts) (measured-leaves m t e) (measurements-leave m ts e)

  -- measurements of qubits without a letter

  no-letter : (l : Letter) → acts l ≡ false → l ≡ I
  no-letter I e = refl
  no-letter X e = cc
  no-letter Y e = cc
  no-letter Z e = cc

  basis-acts : (a : Axis) → acts (letter_of a) ≡ true
  basis-acts axis.X = refl
  basis-acts axis.Y = refl
  basis-acts axis.Z = refl

  both : (r : Bool) (b : Bool) → b ≡ true → (r && not b) ≡ false
  both true b e = ap not e
  both false b e = refl

  none-left : (r : Bool) (a : Axis) (q : ℕ) (s : List Letter) → letter_at s q ≡ I → reset_leaves n r (letter_of a) q s ≡ s
  none-left r a q s e =
      ap (λ b. times_where b (single n q (letter_of a)).letters s) (ap (λ x. r && not (acts (letter_product x (letter_of a)))) e ∙ both r (acts (letter_of a)) (basis-acts a))

  commutes-there : (l : Letter) (q : ℕ) (s : List Letter) → length s ≡ n → q < n → letter_at s q ≡ I → strings_anticommute s (single n q l).letters ≡ false
  commutes-there l q s size lt e =
      strings_anticommute-comm s (single n q l).letters ∙ one_letter-anticommute n q l s size lt ∙ ap (letters_anticommute l) e ∙ letters_anticommute-I l

  off : (r b : Bool) → b ≡ false → (r && b) ≡ false
  off true b e = e
  off false b e = refl

  same-after : (m : Measurement) (t : MeasureTarget) (c : ℕ) (f : Frame) → length f.letters ≡ n → t.qubit < n → letter_at f.letters t.qubit ≡ I
      → letters_after n by_letters (measured m t) c f ≡ f.letters
  same-after m t c f size lt e =
      ap (λ b. times_where b (single n t.qubit (flip_of (letter_of m.axis))).letters f.letters) (off m.resets _ (commutes-there (letter_of m.axis) t.qubit f.letters size lt e))

  abbrev AreRandom : List Letter → List MeasureTarget → Type 0
  AreRandom s ts = list_any (has_letter_at s) ts ≡ false

  random-quiet : (m : Measurement) (ts : List MeasureTarget) (f : Frame) → length f.letters ≡ n → All (λ t. t.qubit < n) ts → AreRandom f.letters ts
      → Quiet (map (measured m) ts) f × ((frame_over n by_letters (map (measured m) ts) 0 f).letters ≡ f.letters)
  random-quiet m [] f size fits free = (tt, refl)
  random-quiet m (t ∷ ts) f size fits free =
      let lt = All-head (λ (t : MeasureTarget). t.qubit < n) t ts fits in
      let e = no-letter (letter_at f.letters t.qubit) (or-left (has_letter_at f.letters t) (list_any (has_letter_at f.letters) ts) free) in
      let same = same-after m t 0 f size lt e in
      let g = frame_after n by_letters (measured m t) 0 f in
      let rest = random-quiet m ts g (ap length same ∙ size) (All-tail (λ (t : MeasureTarget). t.qubit < n) t ts fits)
      (subst (λ s. AreRandom s ts) (sym same) (or-right (has_letter_at f.letters t) (list_any (has_letter_at f.letters) ts) free)) in (
        (none-left m.resets m.axis t.qubit g.letters (ap (λ s. letter_at s t.qubit) same ∙ e), rest.0),
        ap (λ (h : Frame). h.letters) (fixed-frame n by_letters (λ t. refl) (map (measured m) ts) (0 + coins_of (measured m t)) 0 g) ∙ rest.1 ∙ same,
      )

  random-left : (m : Measurement) (ts : List MeasureTarget) (s : List Letter) → AreRandom s ts → steps_leave n (map (measured m) ts) s ≡ s
  random-left m [] s free = refl
  random-left m (t ∷ ts) s free =
      let e = no-letter (letter_at s t.qubit) (or-left (has_letter_at s t) (list_any (has_letter_at s) ts) free) in
      ap (steps_leave n (map (measured m) ts)) (none-left m.resets m.axis t.qubit s e) ∙ random-left m ts s (or-right (has_letter_at s t) (list_any (has_letter_at s) ts) free)

  pub together-random : (m : Measurement) (ts : List MeasureTarget) (f : Frame) → length f.letters ≡ n → All (λ t. t.qubit < n) ts → AreRandom f.letters ts
      → EndsTogether n (map (measured m) ts) f
  together-random m ts f size fits free =
      let quiet = random-quiet m ts f size fits free in
      together-quiet (map (measured m) ts) f quiet.0 (ap (steps_leave n (map (measured m) ts)) quiet.1 ∙ random-left m ts f.letters free ∙ sym quiet.1)

-- the first of steps, and of measurements

pub front-same : (xs : List Step) → 0 < length xs → IsFront xs xs
front-same xs some = ([], sym (append-nil xs), some)

pub front-short : (ys xs : List Step) → IsFront ys xs → length ys ≤ length xs
front-short ys xs front = omega (arith, ap length front.1, length-append ys front.0)

pub front-fits : (n : ℕ) (ys xs : List Step) → IsFront ys xs → All (StepFits n) xs → All (StepFits n) ys
front-fits n ys xs front fits =
    subst (All (StepFits n)) (take-append_seam ys front.0) (All-take (StepFits n) (length ys) (ys ++ front.0) (subst (All (StepFits n)) front.1 fits))

pub some-mapped : (m : Measurement) (ts : List MeasureTarget) → 0 < length ts → 0 < length (map (measured m) ts)
some-mapped m ts some = subst (λ j. 0 < j) (sym (length-map ts (measured m))) some

pub front-mapped : (m : Measurement) (ts : List MeasureTarget) (k : ℕ) → 0 < k → k ≤ length ts → IsFront (map (measured m) (take k ts)) (map (measured m) ts)
front-mapped m ts k some within = (
  map (measured m) (drop k ts),
  ap (map (measured m)) (sym (take-append-drop k ts)) ∙ map-append (measured m) (take k ts) (drop k ts),
  some-mapped m (take k ts) (omega (arith, length-take k ts, some, within)),
)

pub together-first : (n : ℕ) (m : Measurement) (ts : List MeasureTarget) (f : Frame) → EndsTogether n (map (measured m) (take 1 ts)) f
together-first n m [] f = record { letters = refl; flips = refl }
together-first n m (t ∷ ts) f = together-one n (measured m t) f

-- one target more

pub fits-target : (n m : ℕ) (how : Measurement) (ts : List MeasureTarget) (k : ℕ) (t : MeasureTarget) → All (StepFits n) (map (measured how) ts) → k < length ts → t ≡ get_or ts k t
    → m ≡ n → t.qubit < m
fits-target n m how ts k t fits lt is same = subst (λ (u : MeasureTarget). u.qubit < m) (sym is) (fits-mapped n m (measured how) ts k t fits lt same)

leave-append : (n : ℕ) (xs ys : List Step) (s : List Letter) → steps_leave n (xs ++ ys) s ≡ steps_leave n ys (steps_leave n xs s)
leave-append n [] ys s = refl
leave-append n (x ∷ xs) ys s = leave-append n xs ys (step_leaves n x s)

pub leave-more : (n m : ℕ) (how : Measurement) (ts : List MeasureTarget) (k : ℕ) (t : MeasureTarget) (start old new : PropagationState) → k < length ts → t ≡ get_or ts k t → m ≡ n
    → old ≡ record start { letters = steps_leave n (map (measured how) (take k ts)) start.letters } → new ≡ record old { letters = step_leaves m (measured how t) old.letters }
    → new ≡ record start { letters = steps_leave n (map (measured how) (take (k + 1) ts)) start.letters }
leave-more n m how ts k t start old new lt at same before is =
    is
    ∙ ap (λ j. record old { letters = step_leaves j (measured how t) old.letters }) same
    ∙ ap (λ (p : PropagationState). record p { letters = step_leaves n (measured how t) p.letters }) before
    ∙ ap (λ s. record start { letters = s })
    (sym (leave-append n (map (measured how) (take k ts)) (measured how t ∷ []) start.letters)
    ∙ ap (λ u. steps_leave n (map (measured how) (take k ts) ++ measured how u ∷ []) start.letters) at
    ∙ ap (λ xs. steps_leave n xs start.letters) (sym (map_more (measured how) ts k t lt)))
