-- Ends: what a walk over a whole circuit comes to, once the string is put in.
use Rattle.stab_ways.proofs.Names.{◌≡◌, ℕ, ◌+◌, ◌<◌, ◌≤◌, sym, ◌∙◌, ap, subst, Bool, List, [], length, take, drop, replicate, arith, ◌⊎◌, inl, inr, cases_lt, take_all, drop_all, Some, Letter, I, string_product, string_product-blank, Items, unroll, Step, records_of, nothing, joined, Frame, frame_of, identity_frame, PropagationState, frame_at, way_over, way_flips, frame_begun, string_after, string_flips, carried_parts, parts_after, string_turns, Turn, turns, passed, WalkState, put_in, ended, walked}
use Rattle.stab_ways.proofs.BlankLemmas.{blank-over}
use Rattle.stab_ways.proofs.WalkedLemmas.{frame-passed, passed-none, under_way, waiting, with_letters, IsPast, no-parts, put_at, walked-put, walked-past, none-after, steps_in}
use Rattle.stab_ways.proofs.ItemLemmas.{steps-unrolled}

-- where a walk begins
abbrev pub begin : ℕ → PropagationState
begin n = record { letters = replicate n I; flips = nothing; coin = 0; number = 0 }

-- the frame that begins
put-begins : (every : Bool) (n k : ℕ) (string : List Letter) (xs : List Step) → length string ≡ n → frame_at 0 (put_at every n string [] k xs (begin n)) ≡ frame_begun k string xs
put-begins every n k string xs size =
    ap (λ (f : Frame). record { letters = string_product f.letters string; flips = f.flips }) (frame-passed n (take k xs) (begin n) ∙ blank-over n (take k xs) 0 ∙ ap (identity_frame n) none)
    ∙ ap (λ s. frame_of s (records_of (take k xs))) (string_product-blank n string size)
  where
    none : 0 + records_of (take k xs) ≡ records_of (take k xs)
    none = omega arith

-- what a walk is to come to
pub record IsEnd (every : Bool) (n k : ℕ) (string : List Letter) (items : Items) (w : WalkState) : Type 0 where
  pub turns : w.turns ≡ string_turns every n k string items
  pub flips : w.frame.flips ≡ string_flips n k string (unroll items)
  pub left : w.frame.letters ≡ string_after n k string (unroll items) (length (unroll items))

module _ (every : Bool) (n k : ℕ) (string : List Letter) (items : Items) (size : length string ≡ n) where
  abbrev xs : List Step
  xs = unroll items

  abbrev put : PropagationState
  put = put_at every n string [] k xs (begin n)

  whole : (w : WalkState) → w ≡ under_way every (0 + length (steps_in (carried_parts items))) (passed n (drop k xs) put) (turns every n k (frame_at 0 put) (parts_after k (carried_parts items)))
      → IsEnd every n k string items w
  whole w is = record {
    turns = ap (λ (v : WalkState). v.turns) is ∙ ap (λ f. turns every n k f (parts_after k (carried_parts items))) begins;
    flips = ap (λ (v : WalkState). v.frame.flips) is ∙ ap (λ f. joined (way_flips n (take k xs) (identity_frame n 0)) (way_flips n (drop k xs) f)) begins;
    left = ap (λ (v : WalkState). v.frame.letters) is
        ∙ ap (λ f. (way_over n (drop k xs) f).letters) begins
        ∙ ap (λ ys. (way_over n (drop k ys) (frame_begun k string xs)).letters) (sym (take_all (length xs) xs (omega arith)));
  }
    where
      begins : frame_at 0 put ≡ frame_begun k string xs
      begins = put-begins every n k string xs size

  pub walk-ends : (w : WalkState) → w ≡ walked n string (carried_parts items) (waiting every k 0 (begin n) []) → IsEnd every n k string items (ended w.waits string w)
  walk-ends w is = by_position (cases_lt (length (steps_in (carried_parts items))) k)
    where
      same : steps_in (carried_parts items) ≡ xs
      same = steps-unrolled items

      from : 0 + k ≡ k
      from = omega arith

      by_within : 0 < length (carried_parts items) → k ≤ length (steps_in (carried_parts items)) → IsEnd every n k string items (ended w.waits string w)
      by_within some le =
          let shown = is ∙ walked-put every n string [] k (carried_parts items) 0 (begin n) some le in
          subst (λ o. IsEnd every n k string items (ended o string w)) (sym (ap (λ (v : WalkState). v.waits) shown))
          (whole w (shown ∙ (λ i. under_way every (0 + length (steps_in (carried_parts items))) (passed n (drop k (same i)) (put_at every n string [] k (same i) (begin n)))
          (turns every n (from i) (frame_at 0 (put_at every n string [] k (same i) (begin n))) (parts_after k (carried_parts items))))))

      by_past : IsPast k (carried_parts items) → IsEnd every n k string items (ended w.waits string w)
      by_past past =
          let shown = is ∙ walked-past every n string [] k (carried_parts items) 0 (begin n) past in
          let long : length xs ≤ k = omega (arith, past.past, ap length same) in
          let front : steps_in (carried_parts items) ≡ take k xs = same ∙ sym (take_all k xs long) in
          subst (λ o. IsEnd every n k string items (ended o string w)) (sym (ap (λ (v : WalkState). v.waits) shown))
          (whole (put_in string w)
          (ap (put_in string) shown
          ∙ (λ i. under_way every (0 + length (steps_in (carried_parts items)))
          ((sym (passed-none n (with_letters string (passed n (front i) (begin n)))) ∙ ap (λ ys. passed n ys (with_letters string (passed n (front i) (begin n)))) (sym (drop_all k xs long))) i)
          (ap (turns every n k (frame_at 0 put)) (sym (none-after k (carried_parts items) past)) i))))

      by_some : k ≤ length (steps_in (carried_parts items)) → (0 < length (carried_parts items)) ⊎ (length (carried_parts items) ≤ 0) → IsEnd every n k string items (ended w.waits string w)
      by_some le (inl some) = by_within some le
      by_some le (inr none) = by_past (record { past = omega (arith, no-parts (carried_parts items) none); fewer = λ some. absurd (omega (arith, some, none)) })

      by_position : (length (steps_in (carried_parts items)) < k) ⊎ (k ≤ length (steps_in (carried_parts items))) → IsEnd every n k string items (ended w.waits string w)
      by_position (inl lt) = by_past (record { past = omega (arith, lt); fewer = λ some. lt })
      by_position (inr le) = by_some le (cases_lt 0 (length (carried_parts items)))

-- the same, as the code shows it
pub walk-found : (every : Bool) (n m k : ℕ) (string : List Letter) (items given : Items) (p : PropagationState) (ts : List Turn) (w v : WalkState) → length string ≡ n → m ≡ n → p ≡ begin m
    → ts ≡ [] → given ≡ items → w ≡ walked n string (carried_parts given) (record { every = every; steps = 0; waits = Some k; frame = p; turns = ts }) → v ≡ ended w.waits string w
    → IsEnd every n k string items v
walk-found every n m k string items given p ts w v size same starts none is over ends =
    subst (IsEnd every n k string items) (sym ends)
    (walk-ends every n k string items size w
    (over ∙ (λ i. walked n string (carried_parts (is i)) (record { every = every; steps = 0; waits = Some k; frame = (starts ∙ ap begin same) i; turns = none i }))))
