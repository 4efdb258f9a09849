-- Walked: instructions one after another on the way of a string, and what the walk comes to.
use Rattle.stab_ways.proofs.Names.{◌≡◌, ℕ, zero, suc, ◌+◌, ◌-◌, ◌<◌, ◌≤◌, refl, sym, ◌∙◌, ap, Bool, true, false, List, [], ◌∷◌, ◌++◌, length, take, drop, replicate, nat_le, lt-leb, leb-true, leb-false, arith, append_assoc, append-nil, length-append, length-take, length-drop, Some, None, if◌then◌else◌, flat_map, list_any, Letter, I, acts, string_product, string_product-self, Step, joined, joined-assoc, joined-nothing, all_coins_of, coins-append, Frame, flips_given, PropagationState, frame_at, by_letters, way_after, way_over, way_flips, Part, Turn, placed, changed_string, listed_string, turns, rest_of_instruction, parts_after, passed, WalkState, put_in, past_steps, reported, over_part, walked}
use Rattle.stab_ways.proofs.FixedLemmas.{way-more, flips-more}

-- a frame's flips are the records that it flipped

pub frame-flips : (n : ℕ) (xs : List Step) (f : Frame) → (way_over n xs f).flips ≡ f.flips ++ (way_flips n xs f).records
frame-flips n [] f = sym (append-nil f.flips)
frame-flips n (x ∷ xs) f =
    frame-flips n xs (way_after n x f) ∙ append_assoc f.flips (flips_given n by_letters x 0 f).records (way_flips n xs (way_after n x f)).records

pub frame-passed : (n : ℕ) (ys : List Step) (p : PropagationState) → frame_at 0 (passed n ys p) ≡ way_over n ys (frame_at 0 p)
frame-passed n ys p = λ i. record {
  letters = (way_over n ys (frame_at 0 p)).letters;
  flips = sym (frame-flips n ys (frame_at 0 p)) i;
}

pub passed-none : (n : ℕ) (p : PropagationState) → passed n [] p ≡ p
passed-none n p = λ i. record {
  letters = p.letters;
  flips = joined-nothing p.flips i;
  coin = none i;
  number = p.number;
}
  where
    none : p.coin + 0 ≡ p.coin
    none = omega arith

pub passed-more : (n : ℕ) (xs ys : List Step) (p : PropagationState) → passed n (xs ++ ys) p ≡ passed n ys (passed n xs p)
passed-more n xs ys p = λ i. record {
  letters = (ap (λ (f : Frame). f.letters) (way-more n xs ys (frame_at 0 p)) ∙ ap (λ f. (way_over n ys f).letters) (sym (frame-passed n xs p))) i;
  flips =
      (ap (joined p.flips) (flips-more n xs ys (frame_at 0 p))
      ∙ sym (joined-assoc p.flips (way_flips n xs (frame_at 0 p)) (way_flips n ys (way_over n xs (frame_at 0 p))))
      ∙ ap (λ f. joined (joined p.flips (way_flips n xs (frame_at 0 p))) (way_flips n ys f)) (sym (frame-passed n xs p))) i;
  coin = coins i;
  number = p.number;
}
  where
    coins : p.coin + all_coins_of (xs ++ ys) ≡ (p.coin + all_coins_of xs) + all_coins_of ys
    coins = omega (arith, coins-append xs ys)

-- a string does not differ from itself

acts-none : (n : ℕ) → list_any acts (replicate n I) ≡ false
acts-none zero = refl
acts-none (suc n) = acts-none n

pub changed_string-same : (t n : ℕ) (letters : List Letter) → length letters ≡ n → changed_string t letters letters ≡ []
changed_string-same t n letters size = ap (λ b. if b then record { after = t; string = placed 0 letters } ∷ [] else []) (ap (list_any acts) (string_product-self n letters size) ∙ acts-none n)

-- steps of instructions one after another

abbrev pub steps_in : List Part → List Step
steps_in parts = flat_map (λ (p : Part). p.steps) parts

pub walked-append : (n : ℕ) (string : List Letter) (parts more : List Part) (w : WalkState)
    → walked n string (parts ++ more) w ≡ walked n string more (walked n string parts w)
walked-append n string [] more w = refl
walked-append n string (q ∷ parts) more w = walked-append n string parts more (over_part n string q w.waits w)

-- with the string under way

abbrev pub under_way : Bool → ℕ → PropagationState → List Turn → WalkState
under_way every t p ts = record { every = every; steps = t; waits = None; frame = p; turns = ts }

pub walked-reported : (every : Bool) (n : ℕ) (string : List Letter) (parts : List Part) (t : ℕ) (p : PropagationState) (ts : List Turn)
    → walked n string parts (under_way every t p ts) ≡
    under_way every (t + length (steps_in parts)) (passed n (steps_in parts) p) (ts ++ turns every n t (frame_at 0 p) parts)
walked-reported every n string [] t p ts =
    let none : t ≡ t + 0 = omega arith in
    (λ i. under_way every (none i) (sym (passed-none n p) i) (sym (append-nil ts) i))
walked-reported every n string (q ∷ parts) t p ts =
    let ys = q.steps in
    let sum : (t + length ys) + length (steps_in parts) ≡ t + length (ys ++ steps_in parts) = omega (arith, length-append ys (steps_in parts)) in
    let here = listed_string every q.tick (t + length ys) p.letters (passed n ys p).letters in
    walked-reported every n string parts (t + length ys) (passed n ys p) (ts ++ here)
    ∙ (λ i. under_way every (sum i) (sym (passed-more n ys (steps_in parts) p) i)
    ((append_assoc ts here (turns every n (t + length ys) (frame_at 0 (passed n ys p)) parts)
    ∙ ap (λ f. ts ++ (here ++ turns every n (t + length ys) f parts)) (frame-passed n ys p)) i))

-- not yet put in

abbrev pub waiting : Bool → ℕ → ℕ → PropagationState → List Turn → WalkState
waiting every k t p ts = record { every = every; steps = t; waits = Some k; frame = p; turns = ts }

abbrev pub with_letters : List Letter → PropagationState → PropagationState
with_letters string p = record p { letters = string_product p.letters string }

-- lists in two parts

pub drop-into : (k : ℕ) (ys more : List Step) → k ≤ length ys → drop k (ys ++ more) ≡ drop k ys ++ more
drop-into zero ys more le = refl
drop-into (suc k) [] more le = absurd (omega (arith, le))
drop-into (suc k) (y ∷ ys) more le = drop-into k ys more (omega (arith, le))

pub take-into : (k : ℕ) (ys more : List Step) → k ≤ length ys → take k (ys ++ more) ≡ take k ys
take-into zero ys more le = refl
take-into (suc k) [] more le = absurd (omega (arith, le))
take-into (suc k) (y ∷ ys) more le = ap (λ zs. y ∷ zs) (take-into k ys more (omega (arith, le)))

pub drop-past : (k : ℕ) (ys more : List Step) → length ys ≤ k → drop k (ys ++ more) ≡ drop (k - length ys) more
drop-past k [] more le = let same : k ≡ k - 0 = omega arith in ap (λ m. drop m more) same
drop-past zero (y ∷ ys) more le = absurd (omega (arith, le))
drop-past (suc k) (y ∷ ys) more le =
    let less : k - length ys ≡ suc k - length (y ∷ ys) = omega arith in drop-past k ys more (omega (arith, le)) ∙ ap (λ m. drop m more) less

pub take-past : (k : ℕ) (ys more : List Step) → length ys ≤ k → take k (ys ++ more) ≡ ys ++ take (k - length ys) more
take-past k [] more le = let same : k ≡ k - 0 = omega arith in ap (λ m. take m more) same
take-past zero (y ∷ ys) more le = absurd (omega (arith, le))
take-past (suc k) (y ∷ ys) more le =
    let less : k - length ys ≡ suc k - length (y ∷ ys) = omega arith in
    ap (λ zs. y ∷ zs) (take-past k ys more (omega (arith, le)) ∙ ap (λ m. ys ++ take m more) less)

-- instructions that have a step are some

pub some-parts : (parts : List Part) → 0 < length (steps_in parts) → 0 < length parts
some-parts [] some = absurd (omega (arith, some))
some-parts (q ∷ parts) some = omega arith

pub no-parts : (parts : List Part) → length parts ≤ 0 → length (steps_in parts) ≤ 0
no-parts [] none = omega arith
no-parts (q ∷ parts) none = absurd (omega (arith, none))

-- a number of steps is past instructions: they have fewer steps in front of it, or are none
pub record IsPast (k : ℕ) (parts : List Part) : Type 0 where
  pub past : length (steps_in parts) ≤ k
  pub fewer : 0 < length parts → length (steps_in parts) < k

past-first : (k : ℕ) (q : Part) (parts : List Part) → IsPast k (q ∷ parts) → length q.steps < k
past-first k q parts is = omega (arith, is.fewer (omega arith), length-append q.steps (steps_in parts))

past-others : (k : ℕ) (q : Part) (parts : List Part) → IsPast k (q ∷ parts) → IsPast (k - length q.steps) parts
past-others k q parts is =
    let fewer : length (q.steps ++ steps_in parts) < k = is.fewer (omega arith) in record {
      past = omega (arith, fewer, length-append q.steps (steps_in parts));
      fewer = λ some. omega (arith, fewer, length-append q.steps (steps_in parts));
    }

-- what the walk comes to, if the string is put in at a step, and if it is not yet

module _ (every : Bool) (n : ℕ) (string : List Letter) (ts : List Turn) where
  abbrev pub put_at : ℕ → List Step → PropagationState → PropagationState
  put_at k xs p = with_letters string (passed n (take k xs) p)

  -- all of them passed, with these turns
  abbrev pub put_within : ℕ → List Step → ℕ → PropagationState → List Part → WalkState
  put_within k xs t p parts =
      under_way every (t + length xs) (passed n (drop k xs) (put_at k xs p)) (ts ++ turns every n (t + k) (frame_at 0 (put_at k xs p)) parts)

  abbrev pub passed_by : ℕ → List Part → ℕ → PropagationState → WalkState
  passed_by k parts t p = waiting every (k - length (steps_in parts)) (t + length (steps_in parts)) (passed n (steps_in parts) p) ts

  abbrev pub after : ℕ → Part → ℕ → PropagationState → Bool → WalkState
  after k q t p b = if b then reported n (rest_of_instruction k q) (put_in string (past_steps n (take k q.steps) (waiting every k t p ts)))
      else record (past_steps n q.steps (waiting every k t p ts)) { waits = Some (k - length q.steps) }

  abbrev pub left : ℕ → Part → List Part → Bool → List Part
  left k q parts b = if b then rest_of_instruction k q ∷ parts else parts_after (k - length q.steps) parts

  -- in this instruction
  put-here : (k : ℕ) (q : Part) (parts : List Part) (t : ℕ) (p : PropagationState) → k ≤ length q.steps
      → walked n string parts (reported n (rest_of_instruction k q) (put_in string (past_steps n (take k q.steps) (waiting every k t p ts)))) ≡
      put_within k (steps_in (q ∷ parts)) t p (rest_of_instruction k q ∷ parts)
  put-here k q parts t p le =
      let ys = q.steps in
      let cut : length (take k ys) ≡ k = omega (arith, length-take k ys, le) in
      let sum : (t + length (take k ys)) + length (drop k ys ++ steps_in parts) ≡ t + length (ys ++ steps_in parts) =
      omega (arith, cut, le, length-append (drop k ys) (steps_in parts), length-append ys (steps_in parts), length-drop k ys) in
      let front : take k ys ≡ take k (ys ++ steps_in parts) = sym (take-into k ys (steps_in parts) le) in
      let back : drop k ys ++ steps_in parts ≡ drop k (ys ++ steps_in parts) = sym (drop-into k ys (steps_in parts) le) in
      walked-reported every n string (rest_of_instruction k q ∷ parts) (t + length (take k ys)) (with_letters string (passed n (take k ys) p)) ts
      ∙ (λ i. under_way every (sum i) (passed n (back i) (with_letters string (passed n (front i) p)))
      (ts ++ turns every n (t + cut i) (frame_at 0 (with_letters string (passed n (front i) p))) (rest_of_instruction k q ∷ parts)))

  pub walked-put : (k : ℕ) (parts : List Part) (t : ℕ) (p : PropagationState) → 0 < length parts → k ≤ length (steps_in parts)
      → walked n string parts (waiting every k t p ts) ≡ put_within k (steps_in parts) t p (parts_after k parts)
  walked-put k [] t p some le = absurd (omega (arith, some))
  walked-put k (q ∷ parts) t p some le =
      by_position (nat_le k (length q.steps)) refl
      (λ past.
      let rest : k - length q.steps ≤ length (steps_in parts) = omega (arith, le, past, length-append q.steps (steps_in parts)) in
      walked-put (k - length q.steps) parts (t + length q.steps) (passed n q.steps p) (some-parts parts (omega (arith, past, rest))) rest)
    where
      by_position : (b : Bool) → nat_le k (length q.steps) ≡ b
          → (length q.steps < k → walked n string parts (waiting every (k - length q.steps) (t + length q.steps) (passed n q.steps p) ts) ≡
          put_within (k - length q.steps) (steps_in parts) (t + length q.steps) (passed n q.steps p) (parts_after (k - length q.steps) parts))
          → walked n string parts (after k q t p (nat_le k (length q.steps))) ≡
          put_within k (steps_in (q ∷ parts)) t p (left k q parts (nat_le k (length q.steps)))
      by_position true e later =
          ap (λ b. walked n string parts (after k q t p b)) e
          ∙ put-here k q parts t p (leb-true k (length q.steps) e)
          ∙ ap (λ b. put_within k (steps_in (q ∷ parts)) t p (left k q parts b)) (sym e)
      by_position false e later =
          let ys = q.steps in
          let less : length ys < k = leb-false k (length ys) e in
          let past : length ys ≤ k = omega (arith, less) in
          let sum : (t + length ys) + length (steps_in parts) ≡ t + length (ys ++ steps_in parts) = omega (arith, length-append ys (steps_in parts)) in
          let more : (t + length ys) + (k - length ys) ≡ t + k = omega (arith, past) in
          let back : drop (k - length ys) (steps_in parts) ≡ drop k (ys ++ steps_in parts) = sym (drop-past k ys (steps_in parts) past) in
          let front : passed n (take (k - length ys) (steps_in parts)) (passed n ys p) ≡ passed n (take k (ys ++ steps_in parts)) p =
          sym (ap (λ zs. passed n zs p) (take-past k ys (steps_in parts) past) ∙ passed-more n ys (take (k - length ys) (steps_in parts)) p) in
          ap (λ b. walked n string parts (after k q t p b)) e
          ∙ later less
          ∙ (λ i. under_way every (sum i) (passed n (back i) (with_letters string (front i)))
          (ts ++ turns every n (more i) (frame_at 0 (with_letters string (front i))) (left k q parts (sym e i))))

  pub walked-past : (k : ℕ) (parts : List Part) (t : ℕ) (p : PropagationState) → IsPast k parts
      → walked n string parts (waiting every k t p ts) ≡ passed_by k parts t p
  walked-past k [] t p is =
      let same : k ≡ k - 0 = omega arith in
      let none : t ≡ t + 0 = omega arith in
      (λ i. waiting every (same i) (none i) (sym (passed-none n p) i) ts)
  walked-past k (q ∷ parts) t p is =
      let ys = q.steps in
      let far : nat_le k (length ys) ≡ false = lt-leb k (length ys) (past-first k q parts is) in
      let sum : (t + length ys) + length (steps_in parts) ≡ t + length (ys ++ steps_in parts) = omega (arith, length-append ys (steps_in parts)) in
      let less : (k - length ys) - length (steps_in parts) ≡ k - length (ys ++ steps_in parts) = omega (arith, length-append ys (steps_in parts)) in
      ap (λ b. walked n string parts (after k q t p b)) far
      ∙ walked-past (k - length ys) parts (t + length ys) (passed n ys p) (past-others k q parts is)
      ∙ (λ i. waiting every (less i) (sum i) (sym (passed-more n ys (steps_in parts) p) i) ts)

-- nothing comes after all
pub none-after : (k : ℕ) (parts : List Part) → IsPast k parts → parts_after k parts ≡ []
none-after k [] is = refl
none-after k (q ∷ parts) is =
    let far : nat_le k (length q.steps) ≡ false = lt-leb k (length q.steps) (past-first k q parts is) in
    ap (λ (b : Bool). if b then rest_of_instruction k q ∷ parts else parts_after (k - length q.steps) parts) far
    ∙ none-after (k - length q.steps) parts (past-others k q parts is)
