-- Runs that come again: if a run is as it was before, and no coin decided since, the same steps give the same.
use Rattle.stab_recording.proofs.Names.{◌≡◌, ℕ, zero, suc, ◌+◌, ◌-◌, ◌*◌, ◌<◌, ◌≤◌, sym, ◌∙◌, ap, subst, Bool, false, inl, inr, List, [], ◌∷◌, ◌++◌, length, take, drop, get_or, arith, take-add, add-mul, mul-le-mul_right, cases_lt, length-drop, take-append-drop, take-append-le, drop-append-le, take-take, drop_at, Step, rounds, looks_too_far, Repeat, round_of, IsRepeat, AreRepeats, ones, Point, origin, point_after, outputs, lengths_of, front_of, rest_of, AgreeBack, with_coin, after-append, outputs-append, fixed-future, same-future-back, front-output, outcomes-counted, rest-joined, rounds-append, length-rounds, between}
use Rattle.std.proofs.Math.Seq.{drop-drop, length-take-le}
use Rattle.stab_recording.proofs.CutLemmas.{ones-take}
use Rattle.stab_recording.proofs.SeenLemmas.{seen-later}

-- steps in a block, some whole rounds later

-- a part of a list that ends before another list is put after it
part-left : {X : Type 0} (m x : ℕ) (xs zs : List X) → x + m ≤ length xs → take m (drop x (xs ++ zs)) ≡ take m (drop x xs)
part-left m x xs zs le = ap (take m) (drop-append-le x xs zs (omega (arith, le))) ∙ take-append-le m (drop x xs) zs (omega (arith, le, length-drop x xs))

few-rounds : (q k l : ℕ) → 0 < l → q * l ≤ k * l → q ≤ k
few-rounds q k l some le =
    elim (cases_lt k q) [
      | inl lt ↦ let one : k + 1 ≤ q = omega (arith, lt) in let more = mul-le-mul_right l one in absurd (omega (arith, more, le, some, add-mul k 1 l))
      | inr fewer ↦ fewer
    ]

module _ (ys : List Step) (block : Repeat) (is : IsRepeat ys block) where
  abbrev L : ℕ
  L = block.length

  abbrev round : List Step
  round = round_of block ys

  abbrev following : List Step
  following = drop block.first ys

  sized : (i : ℕ) → length (rounds i round) ≡ i * L
  sized i = length-rounds i round ∙ ap (λ n. i * n) (length-take-le L following (omega (arith, length-drop block.first ys, is.inside, one)))
    where
      one : L ≤ block.rounds * L
      one = let many : 1 ≤ block.rounds = omega (arith, is.many) in let le = mul-le-mul_right L many in omega arith

  whole : following ≡ rounds block.rounds round ++ drop (block.rounds * L) following
  whole = sym (take-append-drop (block.rounds * L) following) ∙ ap (λ l. l ++ drop (block.rounds * L) following) is.again

  in-rounds : (x m : ℕ) → x + m ≤ block.rounds * L → take m (drop x following) ≡ take m (drop x (rounds block.rounds round))
  in-rounds x m le =
      ap (λ l. take m (drop x l)) whole
      ∙ part-left m x (rounds block.rounds round) (drop (block.rounds * L) following) (omega (arith, le, sized block.rounds))

  rounds-later : (x q m : ℕ) → (x + q * L) + m ≤ block.rounds * L → q ≤ block.rounds → take m (drop x following) ≡ take m (drop (x + q * L) following)
  rounds-later x q m le few =
      in-rounds x m (omega (arith, le))
      ∙ ap (λ l. take m (drop x l)) (ap (λ k. rounds k round) {x = block.rounds} {y = rest + q} (omega (arith, few)) ∙ rounds-append rest q round)
      ∙ part-left m x (rounds rest round) (rounds q round) (omega (arith, le, sized rest, split))
      ∙ sym (in-rounds (x + q * L) m le
      ∙ ap (λ l. take m (drop (x + q * L) l)) (ap (λ k. rounds k round) {x = block.rounds} {y = q + rest} (omega (arith, few)) ∙ rounds-append q rest round)
      ∙ ap (λ k. take m (drop k (rounds q round ++ rounds rest round))) {x = x + q * L} {y = q * L + x} (omega arith)
      ∙ ap (take m) (sym (drop-drop x (q * L) (rounds q round ++ rounds rest round)) ∙ ap (drop x) (drop_at (rounds q round) (rounds rest round) (q * L) (sized q))))
    where
      rest : ℕ
      rest = block.rounds - q

      split : q * L + rest * L ≡ block.rounds * L
      split = sym (add-mul q rest L) ∙ ap (λ k. k * L) {x = q + rest} {y = block.rounds} (omega (arith, few))

  -- the steps from one in the block are those from the same position of a later round
  pub same-later : (i k q m : ℕ) → block.first ≤ i → k ≡ i + q * L → k + m ≤ block.first + block.rounds * L → take m (drop i ys) ≡ take m (drop k ys)
  same-later i k q m from later within =
      ap (take m) (position i from)
      ∙ rounds-later (i - block.first) q m (omega (arith, from, later, within)) (few-rounds q block.rounds L is.some (omega (arith, from, later, within)))
      ∙ ap (λ x. take m (drop x following)) {x = (i - block.first) + q * L} {y = k - block.first} (omega (arith, from, later))
      ∙ sym (ap (take m) (position k (omega (arith, from, later))))
    where
      position : (j : ℕ) → block.first ≤ j → drop j ys ≡ drop (j - block.first) following
      position j le = ap (λ x. drop x ys) {x = j} {y = block.first + (j - block.first)} (omega (arith, le)) ∙ sym (drop-drop (j - block.first) block.first ys)

-- what a run gave up to an earlier step

pub front-at : (n : ℕ) (coins : ℕ → Bool) (ys : List Step) (i k : ℕ) → i ≤ k
    → front_of (lengths_of (outputs n coins (take i ys) origin)) (outputs n coins (take k ys) origin) ≡ outputs n coins (take i ys) origin
front-at n coins ys i k le =
    ap (λ xs. front_of (lengths_of (outputs n coins xs origin)) (outputs n coins (take k ys) origin)) (sym (take-take i k ys le))
    ∙ front-output n coins (take k ys) i
    ∙ ap (λ xs. outputs n coins xs origin) (take-take i k ys le)

-- bits of which none is 1 after some

pub ones-part : (a b : ℕ) (bits : List Bool) → ones (drop a (take b bits)) ≤ ones (drop a bits)
ones-part zero b bits = omega (arith, ones-take b bits)
ones-part (suc a) zero bits = omega arith
ones-part (suc a) (suc b) [] = omega arith
ones-part (suc a) (suc b) (bit ∷ bits) = ones-part a b bits

-- from step i to step j a run did what it does again from step k on

module _ (n : ℕ) (coins : ℕ → Bool) (ys : List Step) (i j k window : ℕ) (order : i ≤ j) (before : j ≤ k)
    (same : take (j - i) (drop i ys) ≡ take (j - i) (drop k ys)) where
  abbrev pub part : List Step
  part = take (j - i) (drop i ys)

  abbrev pub then : Point
  then = point_after n coins (take i ys) origin

  abbrev pub now : Point
  now = point_after n coins (take k ys) origin

  pub first-steps : take j ys ≡ take i ys ++ part
  first-steps = ap (λ l. take l ys) {x = j} {y = i + (j - i)} (omega (arith, order)) ∙ take-add i (j - i) ys

  pub later-steps : take (k + (j - i)) ys ≡ take k ys ++ part
  later-steps = take-add k (j - i) ys ∙ ap (λ l. take k ys ++ l) (sym same)

  pub first-point : point_after n coins (take j ys) origin ≡ point_after n coins part then
  first-point = ap (λ xs. point_after n coins xs origin) first-steps ∙ after-append n coins (take i ys) part origin

  pub later-point : point_after n coins (take (k + (j - i)) ys) origin ≡ point_after n coins part now
  later-point = ap (λ xs. point_after n coins xs origin) later-steps ∙ after-append n coins (take k ys) part origin

  pub part-is : between (lengths_of (outputs n coins (take i ys) origin)) (lengths_of (outputs n coins (take j ys) origin)) (outputs n coins (take k ys) origin) ≡ outputs n coins part then
  part-is =
      ap (rest_of (lengths_of (outputs n coins (take i ys) origin))) (front-at n coins ys j k before
      ∙ ap (λ xs. outputs n coins xs origin) first-steps
      ∙ outputs-append n coins (take i ys) part origin)
      ∙ rest-joined (outputs n coins (take i ys) origin) (outputs n coins part then) (outcomes-counted n coins (take i ys) origin)

  module _ (near : looks_too_far window part ≡ false) (fixed : ones (outputs n coins part then).free ≡ 0) (agree : AgreeBack n window (with_coin now.coin then) now) where
    pub same-given : outputs n coins part now ≡ outputs n coins part then
    same-given =
        sym (same-future-back n coins window part (with_coin now.coin then) now near agree).0
        ∙ (fixed-future n coins now.coin part then fixed).0

    pub agrees-again : AgreeBack n window (with_coin (point_after n coins (take (k + (j - i)) ys) origin).coin (point_after n coins (take j ys) origin))
        (point_after n coins (take (k + (j - i)) ys) origin)
    agrees-again =
        subst (λ x. x) (λ t. AgreeBack n window (with_coin (sym later-point t).coin (sym first-point t)) (sym later-point t))
        (seen-later n window coins part then now near (inr fixed) agree)

-- each of some repeats is one

pub repeat-at : (from : ℕ) (steps : List Step) (rs : List Repeat) (i : ℕ) (d : Repeat) → i < length rs → AreRepeats from steps rs → IsRepeat steps (get_or rs i d)
repeat-at from steps [] i d lt are = absurd (omega (arith, lt))
repeat-at from steps (r ∷ rs) zero d lt are = are.1
repeat-at from steps (r ∷ rs) (suc i) d lt are = repeat-at (r.first + r.rounds * r.length) steps rs i d (omega (arith, lt)) are.2
