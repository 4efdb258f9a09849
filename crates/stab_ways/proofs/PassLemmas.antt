-- Passed: what a frame is after steps that it goes over with no pivot known.
use Rattle.stab_ways.proofs.Names.{◌≡◌, ℕ, zero, suc, ◌+◌, ◌-◌, ◌<◌, ◌≤◌, refl, sym, ◌∙◌, ap, subst, false, List, [], ◌++◌, length, take, drop, get_or, arith, take-add, take-append_seam, take_all, drop-drop, None, Letter, Step, ones, coins-few, cases_lt, ◌⊎◌, inl, inr, joined, PropagationState, frame_at, IsPlaced, PropagatesOver, pivot_at, pivot-none, never, GoesOver, IsMissing, propagation-same, append_assoc, Frame, EndsTogether, IsFront, steps_leave, passed}
use Rattle.stab_frames.specs.RunPivots.{same_coins}
use Rattle.stab_ways.proofs.FixedLemmas.{fixed-frame, fixed-flips}
use Rattle.stab_ways.proofs.WalkedLemmas.{passed-more}

no-flag : (t : ℕ) → get_or [] t false ≡ false
no-flag zero = refl
no-flag (suc t) = refl

no-ones : (t : ℕ) → ones (take t []) ≡ 0
no-ones zero = refl
no-ones (suc t) = refl

pub none-placed : (p q : PropagationState) → q.number ≡ p.number → IsPlaced [] p → IsPlaced [] q
none-placed p q same placed = same ∙ placed ∙ no-ones p.coin ∙ sym (no-ones q.coin)

pub none-missing : (strings : List (List Letter)) (coin : ℕ) → IsMissing strings [] coin → ⊥
none-missing strings coin missing = omega (arith, missing, no-ones coin)

goes : (n : ℕ) (strings : List (List Letter)) (ys : List Step) (old mid new : PropagationState) → IsPlaced [] old → GoesOver n strings [] never ys old mid
    → EndsTogether n ys (frame_at 0 old) → new ≡ record mid { letters = steps_leave n ys mid.letters } → new ≡ passed n ys old
goes n strings ys old mid new placed over together is =
    let with : PropagatesOver n (pivot_at strings []) ys old mid = propagation-same n strings [] ys old mid over in
    let none : (t : ℕ) → pivot_at strings [] t ≡ None = λ t. pivot-none strings [] t (no-flag t) in
    is
    ∙ (λ i. record {
      letters = (ap (λ (f : Frame). steps_leave n ys f.letters) (with.frame 0 ∙ fixed-frame n (same_coins (pivot_at strings [])) none ys old.coin 0 (frame_at 0 old)) ∙ sym together.letters) i;
      flips = (with.flips 0 ∙ ap (joined old.flips) (fixed-flips n (same_coins (pivot_at strings [])) none ys old.coin 0 (frame_at 0 old) ∙ sym together.flips)) i;
      coin = with.coin i;
      number = (over.placed ∙ no-ones mid.coin ∙ sym (placed ∙ no-ones old.coin)) i;
    })

-- the steps of an instruction from one to another, and those that come next

part-next : (from position : ℕ) (xs ys rest : List Step) → from ≤ position → drop position xs ≡ ys ++ rest
    → take ((position + length ys) - from) (drop from xs) ≡ take (position - from) (drop from xs) ++ ys
part-next from position xs ys rest le e =
    let whole : (position + length ys) - from ≡ (position - from) + length ys = omega (arith, le) in
    let there : from + (position - from) ≡ position = omega (arith, le) in
    ap (λ m. take m (drop from xs)) whole
    ∙ take-add (position - from) (length ys) (drop from xs)
    ∙ ap (λ zs. take (position - from) (drop from xs) ++ take (length ys) zs) (drop-drop (position - from) from xs ∙ ap (λ m. drop m xs) there ∙ e)
    ∙ ap (λ zs. take (position - from) (drop from xs) ++ zs) (take-append_seam ys rest)

all-taken : (count : ℕ) (ys : List Step) → length ys ≤ count → take count ys ≡ ys
all-taken count ys le = take_all count ys le

pub passed-next : (n m from position count : ℕ) (strings : List (List Letter)) (xs ys rest : List Step) (start old mid new : PropagationState) → from ≤ position
    → drop position xs ≡ ys ++ rest → length ys ≤ count → m ≡ n → IsPlaced [] start → old ≡ passed n (take (position - from) (drop from xs)) start
    → GoesOver m strings [] never (take count ys) old mid → EndsTogether m ys (frame_at 0 old) → new ≡ record mid { letters = steps_leave m ys mid.letters }
    → new ≡ passed n (take ((position + length ys) - from) (drop from xs)) start
passed-next n m from position count strings xs ys rest start old mid new le e all same placed is over together left =
    goes n strings ys old mid new (none-placed start old (ap (λ p. p.number) is) placed)
    (subst (λ k. GoesOver k strings [] never ys old mid) same (subst (λ zs. GoesOver m strings [] never zs old mid) (all-taken count ys all) over))
    (subst (λ k. EndsTogether k ys (frame_at 0 old)) same together)
    (left ∙ ap (λ k. record mid { letters = steps_leave k ys mid.letters }) same)
    ∙ ap (passed n ys) is
    ∙ sym (passed-more n (take (position - from) (drop from xs)) ys start)
    ∙ ap (λ zs. passed n zs start) (sym (part-next from position xs ys rest le e))

-- steps that are the first of the next ones
pub front-next : (xs zs rest ys : List Step) → xs ≡ zs ++ rest → (front : IsFront ys zs) → xs ≡ ys ++ (front.0 ++ rest)
front-next xs zs rest ys e front = e ∙ ap (λ us. us ++ rest) front.1 ∙ append_assoc ys front.0 rest

pub whole : (went long : ℕ) → went ≤ long → (went < long → ⊥) → went ≡ long
whole went long le stops = by_size (cases_lt went long)
  where
    by_size : (went < long) ⊎ (long ≤ went) → went ≡ long
    by_size (inl less) = absurd (stops less)
    by_size (inr more) = omega (arith, le, more)

pub coin-bound : (n j : ℕ) (zs : List Step) (start p : PropagationState) → p ≡ passed n (take j zs) start → p.coin ≤ start.coin + j
coin-bound n j zs start p is = omega (arith, ap (λ (q : PropagationState). q.coin) is, coins-few j zs)
