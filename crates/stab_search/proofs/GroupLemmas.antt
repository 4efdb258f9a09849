-- Groups: errors that flip the same, taken together with their number as weight, have as many ways.
use Rattle.stab_search.proofs.Names.{◌≡◌, ℕ, zero, suc, ◌+◌, ◌*◌, ◌≤◌, ◌<◌, inl, inr, refl, sym, ◌∙◌, ap, subst, arith, List, [], ◌∷◌, ◌++◌, append-nil, append_assoc, length, length-append, drop, drop-cons, drop_of_length-le, get_or, set, ErrorTable, row, HasRow, HasBound, HasNoneBelow, ways, unit_weights, AreGroups, IsWeightAdded}
use Rattle.std.proofs.lemmas.List.{set-append_left, set-get_or}
use Rattle.std.proofs.Math.Nat.{add-mul, mul-zero}
use Rattle.stab_search.proofs.ChoiceLemmas.{completes-logical}
use Rattle.stab_search.proofs.DistinctLemmas.{bound-whole}
use Rattle.stab_search.proofs.WayLemmas.{linear, insert, no-ways, ways-alike, twice-alike}

-- groups of the first errors, with the others by themselves, have as many ways as all by themselves
pub record AreSoFar (t : ErrorTable) (n : ℕ) (rows : List (List ℕ)) (weights : List ℕ) : Type 0 where
  pub count : length weights ≡ length rows
  pub rows_of : (k : ℕ) → k < length (rows ++ drop n t.rows) → HasRow t.rows (row (rows ++ drop n t.rows) k)
  pub same : (size : ℕ) → HasNoneBelow t size
      → ways t.detectors (rows ++ drop n t.rows) (weights ++ unit_weights (drop n t.rows)) size [] ≡ ways t.detectors t.rows (unit_weights t.rows) size []

pub so-far_all : (t : ErrorTable) (n : ℕ) (rows : List (List ℕ)) (weights : List ℕ) → length t.rows ≤ n → AreSoFar t n rows weights → AreGroups t rows weights
so-far_all t n rows weights all so_far =
    let nothing : drop n t.rows ≡ [] = drop_of_length-le t.rows all in
    let same_rows : rows ++ drop n t.rows ≡ rows = ap (λ (xs : List (List ℕ)). rows ++ xs) nothing ∙ append-nil rows in
    let same_weights : weights ++ unit_weights (drop n t.rows) ≡ weights = ap (λ (xs : List (List ℕ)). weights ++ unit_weights xs) nothing ∙ append-nil weights in
    record {
      count = so_far.count;
      rows_of = subst (λ (xs : List (List ℕ)). (k : ℕ) → k < length xs → HasRow t.rows (row xs k)) same_rows so_far.rows_of;
      same = λ size none.
          ap (λ (xs : List (List ℕ)). ways t.detectors xs weights size []) (sym same_rows)
          ∙ ap (λ (ws : List ℕ). ways t.detectors (rows ++ drop n t.rows) ws size []) (sym same_weights)
          ∙ so_far.same size none;
    }

-- a row that is one of the first is the same with others after them
row-left : (rows : List (List ℕ)) (rest : List (List ℕ)) (k : ℕ) → k < length rows → row (rows ++ rest) k ≡ row rows k
row-left [] rest k lt = absurd (omega arith)
row-left (r ∷ rows) rest zero lt = refl
row-left (r ∷ rows) rest (suc k) lt = row-left rows rest k (omega arith)

weight-left : (weights others : List ℕ) (k : ℕ) → k < length weights → get_or (weights ++ others) k 0 ≡ get_or weights k 0
weight-left [] others k lt = absurd (omega arith)
weight-left (w ∷ weights) others zero lt = refl
weight-left (w ∷ weights) others (suc k) lt = weight-left weights others k (omega arith)

-- what holds of each row holds if one is left out
each-left_out : (P : List ℕ → Type 0) (rows : List (List ℕ)) (x : List ℕ) (rest : List (List ℕ))
    → ((k : ℕ) → k < length (rows ++ x ∷ rest) → P (row (rows ++ x ∷ rest) k)) → (k : ℕ) → k < length (rows ++ rest) → P (row (rows ++ rest) k)
each-left_out P [] x rest all k lt = all (suc k) (omega arith)
each-left_out P (r ∷ rows) x rest all zero lt = all zero (omega arith)
each-left_out P (r ∷ rows) x rest all (suc k) lt = each-left_out P rows x rest (λ j l. all (suc j) (omega arith)) k (omega arith)

length-ones : (rows : List (List ℕ)) → length (unit_weights rows) ≡ length rows
length-ones [] = refl
length-ones (r ∷ rows) = ap suc (length-ones rows)

-- an error that flips the same as a group before it: no least set has two of them

module _ (t : ErrorTable) (rows : List (List ℕ)) (weights : List ℕ) (count : length weights ≡ length rows)
    (rows_of : (k : ℕ) → k < length rows → HasRow t.rows (row rows k)) (k : ℕ) (lt : k < length rows) where
  abbrev part : ErrorTable
  part = record { detectors = t.detectors; rows = rows }

  abbrev others : List ℕ
  others = set weights k 0

  abbrev x : List ℕ
  x = row rows k

  length-set : (xs : List ℕ) (j a : ℕ) → length (set xs j a) ≡ length xs
  length-set [] j a = refl
  length-set (y ∷ ys) zero a = refl
  length-set (y ∷ ys) (suc j) a = ap suc (length-set ys j a)

  -- too few errors have no ways
  too-few : (size left : ℕ) → HasNoneBelow t size → left < size → ways t.detectors rows others left [] ≡ 0
  too-few size left none few =
      no-ways part others left [] (length-set weights k 0 ∙ count)
      (λ rest way.
      let bound : HasBound part size = bound-whole t.detectors rows t.rows rows_of size none in
      let more = bound rest (completes-logical part [] rest refl way.completes) in
      let long = way.count in
      absurd (omega arith))

  -- with one of them, none other of the group counts
  alone : (size left : ℕ) → HasNoneBelow t size → left + 1 ≡ size → ways t.detectors rows weights left (x ++ []) ≡ ways t.detectors rows others left (x ++ [])
  alone size zero none is = refl
  alone size (suc left) none is =
      let w = get_or weights k 0 in
      let few : ways t.detectors rows others left (x ++ (x ++ [])) ≡ 0 =
      ways-alike t.detectors rows others left (x ++ (x ++ [])) [] (twice-alike x []) ∙ too-few size left none (omega arith) in
      ap (λ (ws : List ℕ). ways t.detectors rows ws (suc left) (x ++ [])) (sym (set-get_or weights k 0))
      ∙ linear t.detectors rows weights k w left (x ++ []) lt count
      ∙ ap (λ n. ways t.detectors rows others (suc left) (x ++ []) + w * n) few
      ∙ nothing-more (ways t.detectors rows others (suc left) (x ++ [])) (w * 0) (mul-zero w)
    where
      nothing-more : (a n : ℕ) → n ≡ 0 → a + n ≡ a
      nothing-more a n none = omega arith

  pub heavier : (size left : ℕ) → HasNoneBelow t size → left + 1 ≡ size
      → ways t.detectors rows weights (suc left) [] + 1 * ways t.detectors rows weights left (x ++ []) ≡ ways t.detectors rows (set weights k (get_or weights k 0 + 1)) (suc left) []
  heavier size left none is =
      let w = get_or weights k 0 in
      let a = ways t.detectors rows others (suc left) [] in
      let b = ways t.detectors rows others left (x ++ []) in
      ap (λ n. ways t.detectors rows weights (suc left) [] + 1 * n) (alone size left none is)
      ∙ ap (λ (ws : List ℕ). ways t.detectors rows ws (suc left) [] + 1 * b) (sym (set-get_or weights k 0))
      ∙ ap (λ n. n + 1 * b) (linear t.detectors rows weights k w left [] lt count)
      ∙ sums a (w * b) (1 * b) ((w + 1) * b) (add-mul w 1 b)
      ∙ sym (linear t.detectors rows weights k (w + 1) left [] lt count)
    where
      sums : (a wb one both : ℕ) → both ≡ wb + one → (a + wb) + one ≡ a + both
      sums a wb one both e = omega arith

-- one more error among the groups

module _ (t : ErrorTable) (n : ℕ) (rows : List (List ℕ)) (weights : List ℕ) (lt : n < length t.rows) (so_far : AreSoFar t n rows weights) where
  abbrev rest : List (List ℕ)
  rest = drop (n + 1) t.rows

  abbrev new : List ℕ
  new = row t.rows n

  next : drop n t.rows ≡ new ∷ rest
  next = let after : suc n ≡ n + 1 = omega arith in drop-cons t.rows n [] lt ∙ ap (λ k. new ∷ drop k t.rows) after

  all_rows : (k : ℕ) → k < length (rows ++ new ∷ rest) → HasRow t.rows (row (rows ++ new ∷ rest) k)
  all_rows = subst (λ (xs : List (List ℕ)). (k : ℕ) → k < length (rows ++ xs) → HasRow t.rows (row (rows ++ xs) k)) next so_far.rows_of

  all_same : (size : ℕ) → HasNoneBelow t size → ways t.detectors (rows ++ new ∷ rest) (weights ++ 1 ∷ unit_weights rest) size [] ≡ ways t.detectors t.rows (unit_weights t.rows) size []
  all_same size none =
      subst (λ (xs : List (List ℕ)). ways t.detectors (rows ++ xs) (weights ++ unit_weights xs) size [] ≡ ways t.detectors t.rows (unit_weights t.rows) size []) next (so_far.same size none)

  so-far_new : (more : List (List ℕ)) (heavy : List ℕ) → more ≡ rows ++ new ∷ [] → heavy ≡ weights ++ 1 ∷ [] → AreSoFar t (n + 1) more heavy
  so-far_new more heavy is are =
      let same_rows : more ++ rest ≡ rows ++ new ∷ rest = ap (λ (xs : List (List ℕ)). xs ++ rest) is ∙ append_assoc rows (new ∷ []) rest in
      let same_weights : heavy ++ unit_weights rest ≡ weights ++ 1 ∷ unit_weights rest = ap (λ (ws : List ℕ). ws ++ unit_weights rest) are ∙ append_assoc weights (1 ∷ []) (unit_weights rest) in
      let few = so_far.count in
      let long = ap length is ∙ length-append rows (new ∷ []) in
      let heavy_long = ap length are ∙ length-append weights (1 ∷ []) in
      record {
        count = omega arith;
        rows_of = subst (λ (xs : List (List ℕ)). (k : ℕ) → k < length xs → HasRow t.rows (row xs k)) (sym same_rows) all_rows;
        same = λ size none.
            ap (λ (xs : List (List ℕ)). ways t.detectors xs (heavy ++ unit_weights rest) size []) same_rows
            ∙ ap (λ (ws : List ℕ). ways t.detectors (rows ++ new ∷ rest) ws size []) same_weights
            ∙ all_same size none;
      }

  so-far_same : (more : List (List ℕ)) (heavy : List ℕ) (k : ℕ) → more ≡ rows → k < length rows → row rows k ≡ new
      → heavy ≡ set weights k (get_or weights k 0 + 1) → AreSoFar t (n + 1) more heavy
  so-far_same more heavy k is inside alike are =
      subst (λ (xs : List (List ℕ)). AreSoFar t (n + 1) xs heavy) (sym is)
      (subst (λ (ws : List ℕ). AreSoFar t (n + 1) rows ws) (sym are)
      (record { count = length-set-of weights k (get_or weights k 0 + 1) ∙ so_far.count; rows_of = fewer; same = λ size none. by_size size none }))
    where
      length-set-of : (xs : List ℕ) (j a : ℕ) → length (set xs j a) ≡ length xs
      length-set-of [] j a = refl
      length-set-of (y ∷ ys) zero a = refl
      length-set-of (y ∷ ys) (suc j) a = ap suc (length-set-of ys j a)

      fewer : (j : ℕ) → j < length (rows ++ rest) → HasRow t.rows (row (rows ++ rest) j)
      fewer = each-left_out (HasRow t.rows) rows new rest all_rows

      by_size : (size : ℕ) → HasNoneBelow t size
          → ways t.detectors (rows ++ rest) (set weights k (get_or weights k 0 + 1) ++ unit_weights rest) size [] ≡ ways t.detectors t.rows (unit_weights t.rows) size []
      by_size zero none = all_same zero none
      by_size (suc left) none =
          let all = rows ++ rest in
          let heavy_all = weights ++ unit_weights rest in
          let whole : length heavy_all ≡ length all =
          (let a = length-append weights (unit_weights rest) in let b = length-append rows rest in let c = length-ones rest in let d = so_far.count in omega arith) in
          let within : k < length all = (let b = length-append rows rest in omega arith) in
          let count = so_far.count in
          let there : k < length weights = omega arith in
          let same_row : row all k ≡ new = row-left rows rest k inside ∙ alike in
          let heavier_all : set heavy_all k (get_or heavy_all k 0 + 1) ≡ set weights k (get_or weights k 0 + 1) ++ unit_weights rest =
          ap (λ w. set heavy_all k (w + 1)) (weight-left weights (unit_weights rest) k there) ∙ set-append_left weights (unit_weights rest) k (get_or weights k 0 + 1) there in
          ap (λ (ws : List ℕ). ways t.detectors all ws (suc left) []) (sym heavier_all)
          ∙ sym (heavier t all heavy_all whole fewer k within (suc left) left none (omega arith))
          ∙ ap (λ (xs : List ℕ). ways t.detectors all heavy_all (suc left) [] + 1 * ways t.detectors all heavy_all left (xs ++ [])) same_row
          ∙ sym (insert t.detectors rows weights new 1 rest (unit_weights rest) left [] so_far.count)
          ∙ all_same (suc left) none

  pub so-far_more : (numbers : List ℕ) (more : List (List ℕ)) (heavy : List ℕ) → numbers ≡ new → IsWeightAdded numbers rows weights more heavy → AreSoFar t (n + 1) more heavy
  so-far_more numbers more heavy is (inl alone) =
      so-far_new more heavy (alone.0 ∙ ap (λ (xs : List ℕ). rows ++ xs ∷ []) is) alone.1
  so-far_more numbers more heavy is (inr same) =
      so-far_same more heavy same.1.0 same.0 same.1.1.0 (same.1.1.1.0 ∙ is) same.1.1.1.1
