-- Pivots stored: those of the random outcomes of a run, cut and put together as runs are.
use Rattle.stab_recording.proofs.Names.{◌≡◌, ℕ, zero, suc, ◌+◌, ◌-◌, ◌≤◌, min, refl, sym, ◌∙◌, ap, subst, Bool, true, false, inl, inr, List, [], ◌∷◌, ◌++◌, length, take, drop, All, get_or, nat_lt, arith, if◌then◌else◌, list_any, or_from, leb_tells, length-append, length-drop, length-take, take-length, take-append-drop, get_or-append-add, All-head, All-tail, All-append, All-drop, All-take, All-nil, Letter, Step, makes, lookbacks, looks_too_far, ones, RunOutput, origin, all_coins_of, point_after, outputs, ProgramState, IsAt, ones-append, randomness-is-coins, front-output, rest-output, coins-are, most_strings, PivotsState, IsNumbered, AreTrue, KeepsTrue, pivot_at, front_stored, cut_to, LooksWithin, MayHaveCoin, KeepsPivotList, IsSpliced, ArePropagatedOver, true-conjugated, true-append, true-front, true-rest, true-none}
use Rattle.std.proofs.Common.{nat_le}
use Rattle.std.specs.Prelude.{max}
use Rattle.stab_recording.proofs.CutLemmas.{ones-take}
use Rattle.stab_recording.proofs.PivotLemmas.{IsNoneOr, true-changed, pivot-front, pivot-left, pivot-beyond, true-left}
use Rattle.stab_items.proofs.LookLemmas.{near-more, within-more}
use Rattle.stab_frames.proofs.RandomLemmas.{pivot-none}

-- how far back steps look

pub near-enough : (m r : ℕ) (xs : List Step) → m ≤ r → All (LooksWithin m) xs → looks_too_far r xs ≡ false
near-enough m r [] le all = refl
near-enough m r (x ∷ xs) le all =
    or_from (list_any (nat_lt r) (lookbacks x)) (looks_too_far (r + makes x) xs)
    (near-more m r le (lookbacks x) (All-head (LooksWithin m) x xs all))
    (near-enough m (r + makes x) xs (omega arith) (All-tail (LooksWithin m) x xs all))

-- where others are put after them

module _ (s : PivotsState) (randomness : List Bool) (numbered : IsNumbered s randomness) (strings : List (List Letter)) (free : List Bool) (c : ℕ) where
  pivot-right : length randomness ≡ c → (t : ℕ) → c ≤ t
      → IsNoneOr (pivot_at (take s.most (s.strings ++ drop (ones (take c free)) strings)) (randomness ++ drop c free) t) (pivot_at strings free t)
  pivot-right same t le =
      subst (λ x. x) (λ i. IsNoneOr (pivot_at (take s.most (s.strings ++ drop (ones (take c free)) strings)) (randomness ++ drop c free) (from i)) (pivot_at strings free (on i)))
      (pivot-beyond s randomness numbered strings free c (t - c))
    where
      from : length randomness + (t - c) ≡ t
      from = omega (arith, same, le)

      on : c + (t - c) ≡ t
      on = omega (arith, le)

-- what a run of no steps records
pub has_pivots-nothing : (n : ℕ) (coins : ℕ → Bool) (s : PivotsState) (free : List Bool) (window : ℕ) → s ≡ record { qubits = n; most = most_strings n; strings = [] } → free ≡ []
    → KeepsPivotList n coins [] s free window
has_pivots-nothing n coins s free window is empty = record {
  size = ap (λ (t : PivotsState). t.qubits) is;
  numbered = omega (arith, ap (λ (t : PivotsState). length t.strings) is, ap ones empty);
  are_true = tt;
  near = All-nil (LooksWithin window);
}

-- the front of a run
module _ (n : ℕ) (coins : ℕ → Bool) (xs : List Step) (s : PivotsState) (free : List Bool) (window : ℕ) (has_pivots : KeepsPivotList n coins xs s free window)
    (randomness : free ≡ (outputs n coins xs origin).free) where
  front-coins : (i : ℕ) → length (outputs n coins (take i xs) origin).free ≡ all_coins_of (take i xs)
  front-coins i = randomness-is-coins n coins (take i xs) ∙ coins-are n coins (take i xs) origin ∙ omega arith

  front-randomness : (i : ℕ) → take (all_coins_of (take i xs)) free ≡ (outputs n coins (take i xs) origin).free
  front-randomness i =
      (λ j. take (sym (front-coins i) j) (randomness j))
      ∙ ap (λ (o : RunOutput). o.free) (front-output n coins xs i)

  pub has_pivots-front : (i : ℕ) (t : PivotsState) (bits : List Bool) → bits ≡ (outputs n coins (take i xs) origin).free → t ≡ front_stored (ones bits) s
      → KeepsPivotList n coins (take i xs) t bits window
  has_pivots-front i t bits is front = record {
    size = ap (λ (u : PivotsState). u.qubits) front ∙ has_pivots.size;
    numbered = numbered_front;
    are_true =
        true-changed n coins (pivot_at s.strings free) (pivot_at t.strings bits) (take i xs) origin
        (λ k le lt. subst (λ x. x) (λ j. IsNoneOr (pivot_at (sym (ap (λ (u : PivotsState). u.strings) front) j) (front_is j) k) (pivot_at s.strings free k))
        (pivot-front s.strings free (ones bits) (all_coins_of (take i xs)) k (omega (arith, lt))))
        (true-front n coins (pivot_at s.strings free) (take i xs) (drop i xs) origin
        (subst (λ zs. AreTrue n coins (pivot_at s.strings free) zs origin) (sym (take-append-drop i xs)) has_pivots.are_true));
    near = All-take (LooksWithin window) i xs has_pivots.near;
  }
    where
      front_is : take (all_coins_of (take i xs)) free ≡ bits
      front_is = front-randomness i ∙ sym is

      few : ones bits ≤ ones free
      few = omega (arith, ones-take (all_coins_of (take i xs)) free, ap ones front_is)

      long : length t.strings ≡ min (ones bits) (length s.strings)
      long = ap (λ (u : PivotsState). length u.strings) front ∙ length-min (ones bits) s.strings
        where
          length-min : (k : ℕ) (xs : List (List Letter)) → length (take k xs) ≡ min k (length xs)
          length-min zero xs = omega arith
          length-min (suc k) [] = omega arith
          length-min (suc k) (x ∷ xs) = omega (arith, length-min k xs)

      limit : (b : Bool) → nat_le (ones bits) (length s.strings) ≡ b → t.most ≡ (if b then max (most_strings s.qubits) (ones bits) else s.most)
      limit b e = ap (λ (u : PivotsState). u.most) front ∙ ap (λ c. if c then max (most_strings s.qubits) (ones bits) else s.most) e

      numbered_front : IsNumbered t bits
      numbered_front =
          elim (leb_tells (ones bits) (length s.strings)) [
            | inl h ↦
                let le = h.1 in
                omega (arith, long, limit true h.0, le)
            | inr h ↦
                let most : t.most ≡ s.most = limit false h.0 in
                let lt = h.1 in
                omega (arith, long, most, lt, has_pivots.numbered, few)
          ]

-- a run that goes on, and records its strings
pub has_pivots-on : (n : ℕ) (coins : ℕ → Bool) (xs zs : List Step) (s t : PivotsState) (old new : ProgramState) (before after : ℕ) → KeepsPivotList n coins xs s old.output.free before
    → IsAt n old (point_after n coins xs origin) → t.qubits ≡ n → t.most ≡ s.most → before ≤ after → All (LooksWithin after) zs
    → KeepsTrue n coins zs s t old new → KeepsPivotList n coins (xs ++ zs) t new.output.free after
has_pivots-on n coins xs zs s t old new before after has_pivots at size most raised near keeps = record {
  size = size;
  numbered = (keeps xs at has_pivots.numbered has_pivots.are_true).0;
  are_true = (keeps xs at has_pivots.numbered has_pivots.are_true).1;
  near = All-append (LooksWithin after) xs zs (within-more before after xs raised has_pivots.near) near;
}

-- if no coin decides there are no pivots

pub none-one : (bits : List Bool) (t : ℕ) → ones bits ≡ 0 → get_or bits t false ≡ false
none-one [] t none = refl
none-one (true ∷ bits) t none = absurd (omega (arith, none))
none-one (false ∷ bits) zero none = refl
none-one (false ∷ bits) (suc t) none = none-one bits t none

-- a run that goes on by steps which no coin decides records no more pivots
pub has_pivots-fixed : (n : ℕ) (coins : ℕ → Bool) (xs zs : List Step) (s : PivotsState) (randomness more : List Bool) (window : ℕ) → KeepsPivotList n coins xs s randomness window
    → randomness ≡ (outputs n coins xs origin).free → ones more ≡ 0 → All (LooksWithin window) zs → KeepsPivotList n coins (xs ++ zs) s (randomness ++ more) window
has_pivots-fixed n coins xs zs s randomness more window has_pivots is none near = record {
  size = has_pivots.size;
  numbered = omega (arith, has_pivots.numbered, ones-append randomness more, none);
  are_true = true-left n coins xs zs s.strings randomness more is (omega (arith, has_pivots.numbered)) has_pivots.are_true;
  near = All-append (LooksWithin window) xs zs has_pivots.near near;
}

-- a run with the rest of another after it, from points on that differ by letters alone, and in the number of the next coin if none
-- decides after
pub has_pivots-spliced : (n : ℕ) (coins : ℕ → Bool) (xs ys : List Step) (i k : ℕ) → drop i xs ≡ drop k ys
    → MayHaveCoin n coins (drop i xs) (point_after n coins (take i xs) origin) (point_after n coins (take k ys) origin).coin
    → ArePropagatedOver n coins (drop i xs) (point_after n coins (take i xs) origin) (point_after n coins (take k ys) origin)
    → (s t u : PivotsState) (free randomness all : List Bool) (c old_window window : ℕ)
    → KeepsPivotList n coins xs s free old_window → free ≡ (outputs n coins xs origin).free
    → KeepsPivotList n coins (take k ys) t randomness window → randomness ≡ (outputs n coins (take k ys) origin).free → old_window ≤ window
    → c ≡ (point_after n coins (take i xs) origin).coin
    → all ≡ randomness ++ drop c free → IsSpliced t s (ones (take c free)) (ones all) u
    → KeepsPivotList n coins ys u all window
has_pivots-spliced n coins xs ys i k same coin conjugated s t u free randomness all c old_window window old old_randomness has_pivots new_randomness raised at is spliced = record {
  size = spliced.size ∙ has_pivots.size;
  numbered = spliced.numbered (omega (arith, long, ap ones is, ones-append randomness (drop c free), ones-take c free, old.numbered, has_pivots.numbered));
  are_true =
      subst (λ zs. AreTrue n coins (pivot_at u.strings all) zs origin) (take-append-drop k ys)
      (true-append n coins (pivot_at u.strings all) (take k ys) (drop k ys) origin
      (true-changed n coins (pivot_at t.strings randomness) (pivot_at u.strings all) (take k ys) origin
      (λ m le lt. subst (λ x. x) (λ j. IsNoneOr (pivot_at (sym spliced.strings j) (sym is j) m) (pivot_at t.strings randomness m))
      (pivot-left t randomness has_pivots.numbered (drop (ones (take c free)) s.strings) (drop c free) m (omega (arith, lt, coins-are n coins (take k ys) origin, count))))
      has_pivots.are_true)
      (subst (λ zs. AreTrue n coins (pivot_at u.strings all) zs (point_after n coins (take k ys) origin)) same (true_after coin)));
  near =
      subst (All (LooksWithin window)) (take-append-drop k ys)
      (All-append (LooksWithin window) (take k ys) (drop k ys) has_pivots.near
      (subst (All (LooksWithin window)) same (All-drop (LooksWithin window) i xs (within-more old_window window xs raised old.near))));
}
  where
    count : length randomness ≡ (point_after n coins (take k ys) origin).coin
    count = ap length new_randomness ∙ randomness-is-coins n coins (take k ys)

    rest : drop c free ≡ (outputs n coins (drop i xs) (point_after n coins (take i xs) origin)).free
    rest =
        (λ j. drop ((at ∙ sym (randomness-is-coins n coins (take i xs))) j) (old_randomness j))
        ∙ ap (λ (o : RunOutput). o.free) (rest-output n coins xs i)

    true_after : MayHaveCoin n coins (drop i xs) (point_after n coins (take i xs) origin) (point_after n coins (take k ys) origin).coin
        → AreTrue n coins (pivot_at u.strings all) (drop i xs) (point_after n coins (take k ys) origin)
    true_after (inr none) =
        true-none n coins (pivot_at u.strings all) (drop i xs) (point_after n coins (take k ys) origin)
        (λ m le. ap (λ bits. pivot_at u.strings bits m) is
        ∙ pivot-none u.strings (randomness ++ drop c free) m (off m (omega (arith, le, count))))
      where
        off : (m : ℕ) → length randomness ≤ m → get_or (randomness ++ drop c free) m false ≡ false
        off m le =
            ap (λ k. get_or (randomness ++ drop c free) k false) {x = m} {y = length randomness + (m - length randomness)} (omega (arith, le))
            ∙ get_or-append-add randomness (drop c free) (m - length randomness) false
            ∙ none-one (drop c free) (m - length randomness) (ap ones rest ∙ none)
    true_after (inl same_coin) =
        true-changed n coins (pivot_at s.strings free) (pivot_at u.strings all) (drop i xs) (point_after n coins (take k ys) origin)
        (λ m le lt. subst (λ x. x) (λ j. IsNoneOr (pivot_at (sym spliced.strings j) (sym is j) m) (pivot_at s.strings free m))
        (pivot-right t randomness has_pivots.numbered s.strings free c (count ∙ sym same_coin ∙ sym at) m (omega (arith, le, same_coin, at))))
        (true-conjugated n coins (pivot_at s.strings free) (drop i xs) (point_after n coins (take i xs) origin) (point_after n coins (take k ys) origin) (sym same_coin) conjugated
        (true-rest n coins (pivot_at s.strings free) (take i xs) (drop i xs) origin
        (subst (λ zs. AreTrue n coins (pivot_at s.strings free) zs origin) (sym (take-append-drop i xs)) old.are_true)))

    long : length u.strings ≤ length t.strings + (length s.strings - ones (take c free))
    long = omega (arith, ap length spliced.strings, length-least t.most (t.strings ++ drop (ones (take c free)) s.strings), length-append t.strings (drop (ones (take c free)) s.strings), length-drop (ones (take c free)) s.strings)
      where
        length-least : (k : ℕ) (xs : List (List Letter)) → length (take k xs) ≤ length xs
        length-least zero xs = omega arith
        length-least (suc k) [] = omega arith
        length-least (suc k) (x ∷ xs) = let le = length-least k xs in omega arith

-- strings that are cut to the limit

pub has_pivots-cut : (n : ℕ) (coins : ℕ → Bool) (xs : List Step) (s t : PivotsState) (free : List Bool) (window : ℕ) → KeepsPivotList n coins xs s free window
    → free ≡ (outputs n coins xs origin).free → t ≡ cut_to (most_strings s.qubits) s → KeepsPivotList n coins xs t free window
has_pivots-cut n coins xs s t free window has_pivots randomness is = record {
  size = ap (λ (u : PivotsState). u.qubits) is ∙ has_pivots.size;
  numbered =
      omega (
        arith,
        ap (λ (u : PivotsState). u.most) is,
        ap (λ (u : PivotsState). length u.strings) is,
        length-take (most_strings s.qubits) s.strings,
        has_pivots.numbered,
      );
  are_true =
      true-changed n coins (pivot_at s.strings free) (pivot_at t.strings free) xs origin
      (λ k le lt. subst (λ x. x) (λ j. IsNoneOr (pivot_at (sym (ap (λ (u : PivotsState). u.strings) is) j) (whole j) k) (pivot_at s.strings free k))
      (pivot-front s.strings free (most_strings s.qubits) (length free) k (omega (arith, lt, count))))
      has_pivots.are_true;
  near = has_pivots.near;
}
  where
    whole : take (length free) free ≡ free
    whole = take-length free

    count : length free ≡ all_coins_of xs
    count = ap length randomness ∙ randomness-is-coins n coins xs ∙ coins-are n coins xs origin ∙ omega arith

pub cut-few : (n : ℕ) (s t : PivotsState) → s.qubits ≡ n → t ≡ cut_to (most_strings s.qubits) s → t.most ≤ most_strings n
cut-few n s t size is = omega (arith, ap (λ (u : PivotsState). u.most) is, ap most_strings size)
