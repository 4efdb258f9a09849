-- Alike ways: a string that comes to instructions as it came to them before goes the same way over them.
use Rattle.stab_ways.proofs.Names.{◌≡◌, ℕ, ◌+◌, ◌-◌, ◌<◌, ◌≤◌, refl, sym, ◌∙◌, ap, subst, Bool, true, false, List, [], ◌∷◌, ◌++◌, length, take, drop, map, All, nat_lt, arith, append-nil, length-append, map-append, take-append_seam, drop-append_seam, All-nil, All-cons, All-append, list_any, or-left, or-right, Option, Some, None, if◌then◌else◌, Letter, Step, makes, records_of, RunOutput, joined, all_coins_of, Frame, flips_given, PropagationState, frame_at, by_letters, step_leaves, way_after, way_over, way_flips, Part, Turn, placed, differ, listed_string, turns, passed, WalkState, walked}
use Rattle.stab_items.specs.Steps.{lookbacks, looks_too_far}
use Rattle.stab_run.specs.Records.{looked_up}
use Rattle.stab_run.specs.Cuts.{rest_of}
use Rattle.stab_run.proofs.CoinLemmas.{coins-steps}
use Rattle.stab_run.proofs.LookbackLemmas.{looked_up-more}
use Rattle.stab_run.proofs.PointLemmas.{rest-joined}
use Rattle.stab_frames.proofs.RepeatedStepLemmas.{looks-front}
use Rattle.stab_frames.proofs.AlikeLemmas.{AreAlike, letters-seen, given-seen, given-makes}
use Rattle.stab_ways.specs.declared.folds.Checkpoint.{Checkpoint}
use Rattle.stab_ways.specs.inner.Folds.{IsWalkStored, IsSince, WaitsLonger, IsWalkAgain, later, waits_after, again}
use Rattle.stab_ways.proofs.WalkedLemmas.{steps_in, walked-reported, walked-past}
use Rattle.stab_ways.proofs.ItemLemmas.{walked-steps}

-- over steps frames that these can't distinguish stay so

step-alike : (n m : ℕ) (x : Step) (f g : Frame) → list_any (nat_lt m) (lookbacks x) ≡ false → AreAlike m f g → AreAlike (m + makes x) (way_after n x f) (way_after n x g)
step-alike n m x f g near same = record {
  letters = ap (step_leaves n x) (letters-seen n m by_letters 0 f g same x near);
  flips = λ k le.
      ap (λ (o : RunOutput). looked_up (f.flips ++ o.records) k) (given-seen n m by_letters 0 f g same x near)
      ∙ looked_up-more m f.flips g.flips (flips_given n by_letters x 0 g).records same.flips k (subst (λ j. k ≤ m + j) (sym (given-makes n by_letters x 0 g)) le);
}

pub way-alike : (n m : ℕ) (xs : List Step) (f g : Frame) → looks_too_far m xs ≡ false → AreAlike m f g
    → (way_flips n xs f ≡ way_flips n xs g) × AreAlike (m + records_of xs) (way_over n xs f) (way_over n xs g)
way-alike n m [] f g near same = (refl, subst (λ k. AreAlike k f g) (omega arith) same)
way-alike n m (x ∷ xs) f g near same =
    let here : list_any (nat_lt m) (lookbacks x) ≡ false = or-left (list_any (nat_lt m) (lookbacks x)) (looks_too_far (m + makes x) xs) near in
    let rest = way-alike n (m + makes x) xs (way_after n x f) (way_after n x g)
    (or-right (list_any (nat_lt m) (lookbacks x)) (looks_too_far (m + makes x) xs) near) (step-alike n m x f g here same) in (
      (λ i. joined (given-seen n m by_letters 0 f g same x here i) (rest.0 i)),
      subst (λ k. AreAlike k (way_over n xs (way_after n x f)) (way_over n xs (way_after n x g))) (omega arith) rest.1,
    )

-- steps in two parts

looks-first : (m : ℕ) (xs ys : List Step) → looks_too_far m (xs ++ ys) ≡ false → looks_too_far m xs ≡ false
looks-first m xs ys near = subst (λ zs. looks_too_far m zs ≡ false) (take-append_seam xs ys) (looks-front m (length xs) (xs ++ ys) near)

looks-rest : (m : ℕ) (xs ys : List Step) → looks_too_far m (xs ++ ys) ≡ false → looks_too_far (m + records_of xs) ys ≡ false
looks-rest m [] ys near = subst (λ k. looks_too_far k ys ≡ false) (omega arith) near
looks-rest m (x ∷ xs) ys near =
    subst (λ k. looks_too_far k ys ≡ false) (omega arith)
    (looks-rest (m + makes x) xs ys (or-right (list_any (nat_lt m) (lookbacks x)) (looks_too_far (m + makes x) (xs ++ ys)) near))

-- and the same is listed over them, later

if-later : (b : Bool) (t d : ℕ) (letters : List Letter)
    → (if b then record { after = t + d; string = placed 0 letters } ∷ [] else []) ≡ map (later d) (if b then record { after = t; string = placed 0 letters } ∷ [] else [])
if-later true t d letters = refl
if-later false t d letters = refl

listed-later : (every tick : Bool) (t d : ℕ) (old new : List Letter) → listed_string every tick (t + d) old new ≡ map (later d) (listed_string every tick t old new)
listed-later true tick t d old new = if-later tick t d new
listed-later false tick t d old new = if-later (differ old new) t d new

turns-later : (every : Bool) (n m d t : ℕ) (f g : Frame) (parts : List Part) → looks_too_far m (steps_in parts) ≡ false → AreAlike m f g
    → turns every n (t + d) f parts ≡ map (later d) (turns every n t g parts)
turns-later every n m d t f g [] near same = refl
turns-later every n m d t f g (q ∷ parts) near same =
    let ys = q.steps in
    let over = way-alike n m ys f g (looks-first m ys (steps_in parts) near) same in
    let sum : (t + d) + length ys ≡ (t + length ys) + d = omega arith in
    (λ i. listed_string every q.tick (sum i) (same.letters i) (over.1.letters i) ++ turns every n (sum i) (way_over n ys f) parts)
    ∙ (λ i. listed-later every q.tick (t + length ys) d g.letters (way_over n ys g).letters i
    ++ turns-later every n (m + records_of ys) d (t + length ys) (way_over n ys f) (way_over n ys g) parts (looks-rest m ys (steps_in parts) near) over.1 i)
    ∙ sym (map-append (later d) (listed_string every q.tick (t + length ys) g.letters (way_over n ys g).letters) (turns every n (t + length ys) (way_over n ys g) parts))

-- what is listed comes no later than the last step

if-within : (b : Bool) (most t : ℕ) (letters : List Letter) → t ≤ most → All (λ (x : Turn). x.after ≤ most) (if b then record { after = t; string = placed 0 letters } ∷ [] else [])
if-within true most t letters le = All-cons (λ (x : Turn). x.after ≤ most) (record { after = t; string = placed 0 letters }) [] le (All-nil (λ (x : Turn). x.after ≤ most))
if-within false most t letters le = All-nil (λ (x : Turn). x.after ≤ most)

listed-within : (every tick : Bool) (most t : ℕ) (old new : List Letter) → t ≤ most → All (λ (x : Turn). x.after ≤ most) (listed_string every tick t old new)
listed-within true tick most t old new le = if-within tick most t new le
listed-within false tick most t old new le = if-within (differ old new) most t new le

turns-within : (every : Bool) (n most t : ℕ) (f : Frame) (parts : List Part) → t + length (steps_in parts) ≤ most → All (λ (x : Turn). x.after ≤ most) (turns every n t f parts)
turns-within every n most t f [] le = All-nil (λ (x : Turn). x.after ≤ most)
turns-within every n most t f (q ∷ parts) le =
    let ys = q.steps in
    All-append (λ (x : Turn). x.after ≤ most) (listed_string every q.tick (t + length ys) f.letters (way_over n ys f).letters) (turns every n (t + length ys) (way_over n ys f) parts)
    (listed-within every q.tick most (t + length ys) f.letters (way_over n ys f).letters (omega (arith, le, length-append ys (steps_in parts))))
    (turns-within every n most (t + length ys) (way_over n ys f) parts (omega (arith, le, length-append ys (steps_in parts))))

-- a string that is put in no sooner than after these steps
abbrev WaitsOn : ℕ → Option ℕ → Type 0
WaitsOn steps None = Unit {0}
WaitsOn steps (Some k) = steps < k

waits-on : (steps : ℕ) (waits : Option ℕ) → WaitsLonger steps waits → WaitsOn steps waits × WaitsOn steps (waits_after steps waits)
waits-on steps None longer = (tt, tt)
waits-on steps (Some k) longer = (omega (arith, longer), omega (arith, longer))

module _ (n : ℕ) (string : List Letter) (parts : List Part) where
  abbrev steps : List Step
  steps = steps_in parts

  -- what is listed over them, if it was put in
  abbrev listed_over : Option ℕ → Bool → ℕ → Frame → List Turn
  listed_over None every t f = turns every n t f parts
  listed_over (Some k) every t f = []

  abbrev walk_at : Bool → ℕ → Option ℕ → PropagationState → List Turn → WalkState
  walk_at every t waits p ts = record { every = every; steps = t; waits = waits; frame = p; turns = ts }

  abbrev gone : Bool → ℕ → Option ℕ → PropagationState → List Turn → WalkState
  gone every t waits p ts = walk_at every (t + length steps) (waits_after (length steps) waits) (passed n steps p) (ts ++ listed_over waits every t (frame_at 0 p))

  -- a walk over instructions without the string put in
  walked-on : (every : Bool) (t : ℕ) (waits : Option ℕ) (p : PropagationState) (ts : List Turn) → WaitsOn (length steps) waits
      → walked n string parts (walk_at every t waits p ts) ≡ gone every t waits p ts
  walked-on every t None p ts on = walked-reported every n string parts t p ts
  walked-on every t (Some k) p ts on =
      walked-past every n string ts k parts t p (record { past = omega (arith, on); fewer = λ some. on })
      ∙ (λ i. walk_at every (t + length steps) (Some (k - length steps)) (passed n steps p) (sym (append-nil ts) i))

  listed-again : (m : ℕ) (waits : Option ℕ) (every : Bool) (t : ℕ) (f g : Frame) → looks_too_far m steps ≡ false → AreAlike m f g
      → map (later (length steps)) (listed_over waits every t g) ≡ listed_over (waits_after (length steps) waits) every (t + length steps) f
  listed-again m None every t f g near same = sym (turns-later every n m (length steps) t f g parts near same)
  listed-again m (Some k) every t f g near same = refl

  listed-soon : (waits : Option ℕ) (every : Bool) (t : ℕ) (f : Frame) → All (λ (x : Turn). x.after ≤ t + length steps) (listed_over waits every t f)
  listed-soon None every t f = turns-within every n (t + length steps) t f parts (omega arith)
  listed-soon (Some k) every t f = All-nil (λ (x : Turn). x.after ≤ t + length steps)

  -- since a checkpoint, to which it has come again
  module _ (window : ℕ) (c : Checkpoint) (first w : WalkState) (near : looks_too_far window steps ≡ false) (preserved : IsWalkStored c first) (over : w ≡ walked n string parts first)
      (is : IsWalkAgain window c w) where
    since : w.steps - c.steps ≡ length steps
    since = omega (arith, ap (λ (v : WalkState). v.steps) over ∙ walked-steps n string parts first, preserved.steps)

    on : WaitsOn (length steps) first.waits × WaitsOn (length steps) (waits_after (length steps) first.waits)
    on = waits-on (length steps) first.waits (subst (λ d. WaitsLonger d first.waits) since (subst (WaitsLonger (w.steps - c.steps)) preserved.waits is.waits))

    went : w ≡ gone first.every first.steps first.waits first.frame first.turns
    went = over ∙ walked-on first.every first.steps first.waits first.frame first.turns on.0

    records : take c.lengths.records w.frame.flips.records ≡ first.frame.flips.records
    records =
        (λ i. take (preserved.lengths i).records (went i).frame.flips.records)
        ∙ take-append_seam first.frame.flips.records (way_flips n steps (frame_at 0 first.frame)).records

    alike : AreAlike window (frame_at 0 w.frame) (frame_at 0 first.frame)
    alike = record {
      letters = sym is.letters ∙ preserved.letters;
      flips = λ k le. sym (is.records k le) ∙ ap (λ bits. looked_up bits k) records;
    }

    over-again : (way_flips n steps (frame_at 0 w.frame) ≡ way_flips n steps (frame_at 0 first.frame))
        × AreAlike (window + records_of steps) (way_over n steps (frame_at 0 w.frame)) (way_over n steps (frame_at 0 first.frame))
    over-again = way-alike n window steps (frame_at 0 w.frame) (frame_at 0 first.frame) near alike

    rest : rest_of c.lengths w.frame.flips ≡ way_flips n steps (frame_at 0 w.frame)
    rest =
        (λ i. rest_of (preserved.lengths i) (went i).frame.flips)
        ∙ rest-joined first.frame.flips (way_flips n steps (frame_at 0 first.frame)) preserved.each
        ∙ sym over-again.0

    listed : drop c.turns w.turns ≡ listed_over first.waits first.every first.steps (frame_at 0 first.frame)
    listed = (λ i. drop (preserved.turns i) (went i).turns) ∙ drop-append_seam first.turns (listed_over first.waits first.every first.steps (frame_at 0 first.frame))

    coins : w.frame.coin ≡ first.frame.coin + all_coins_of steps
    coins = ap (λ (v : WalkState). v.frame.coin) went

    pub since-again : IsSince c w
    since-again = record {
      steps = omega (arith, preserved.steps, ap (λ (v : WalkState). v.steps) went);
      coin = omega (arith, coins, preserved.coin);
      coins = omega (arith, coins, preserved.coin, coins-steps steps, preserved.steps, ap (λ (v : WalkState). v.steps) went);
      within = subst (All (λ (x : Turn). x.after ≤ w.steps)) (sym listed)
          (subst (λ most. All (λ (x : Turn). x.after ≤ most) (listed_over first.waits first.every first.steps (frame_at 0 first.frame))) (sym (ap (λ (v : WalkState). v.steps) went))
          (listed-soon first.waits first.every first.steps (frame_at 0 first.frame)));
    }

    pub walked-again : again c w ≡ walked n string parts w
    walked-again =
        (λ i. walk_at w.every (w.steps + since i) (waits_after (since i) w.waits) (frame i) (w.turns ++ listed-now i))
        ∙ sym (walked-on w.every w.steps w.waits w.frame w.turns (subst (WaitsOn (length steps)) (sym (ap (λ (v : WalkState). v.waits) went)) on.1))
      where
        more : w.frame.coin + (w.frame.coin - c.coin) ≡ w.frame.coin + all_coins_of steps
        more = omega (arith, coins, preserved.coin)

        frame : record w.frame { flips = joined w.frame.flips (rest_of c.lengths w.frame.flips); coin = w.frame.coin + (w.frame.coin - c.coin) } ≡ passed n steps w.frame
        frame = λ i. record {
          letters = (ap (λ (v : WalkState). v.frame.letters) went ∙ sym over-again.1.letters) i;
          flips = joined w.frame.flips (rest i);
          coin = more i;
          number = w.frame.number;
        }

        listed-now : map (later (w.steps - c.steps)) (drop c.turns w.turns) ≡ listed_over w.waits w.every w.steps (frame_at 0 w.frame)
        listed-now =
            (λ i. map (later (since i)) (listed i))
            ∙ listed-again window first.waits first.every first.steps (frame_at 0 w.frame) (frame_at 0 first.frame) near alike
            ∙ (λ i. listed_over (sym went i).waits (sym went i).every (sym went i).steps (frame_at 0 w.frame))
