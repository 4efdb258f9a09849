-- What the pass does not find deterministic: a member of the group that anticommutes with the region shows coins that give the other bit.
use Rattle.stab_regions.proofs.Names.{◌≡◌, ℕ, ◌+◌, ◌<◌, refl, sym, ◌∙◌, ap, subst, arith, Bool, true, false, not, ◌&&◌, List, [], ◌∷◌, ◌++◌, append-nil, length, add-zero, length-replicate, All-head, All-tail, not-false, Letter, I, ◌⊕◌, Signed, identity, single, minus, with_sign, anticommute, parity-false, parity-twice, strings_anticommute-self, product-self, anticommute-comm, Event, projected, diagonal, member, outcome, IsStabiliserGroup, length-one_letter, group-member, anticommuting-member, not-true, not_both, test_right, Step, one, two, controlled, collapse, product, detector, observable, length-string_of, good-next, IsGood, sign-sign, back-letter, looked_up, parity, when, string_of, gate_of, flip_of, collapsed, outcome_at, Point, origin, trace_after, coins_of, all_coins_of, next_point, StepFits, Region, region_of, region_through, keeps_region, keep_region, is_deterministic, SingleErrorFrame, all_flipped_coins, flipped_from, bit_asked, with_single_error, flipped_with, RandomBits, ◌↔◌}
use Rattle.std.proofs.Common.{All}
use Rattle.stab_regions.proofs.SignLemmas.{member-where}
use Rattle.stab_regions.proofs.LookLemmas.{look-nothing, parity-none}
use Rattle.stab_regions.proofs.ReadLemmas.{size-through}
use Rattle.stab_regions.proofs.DeterministicLemmas.{good-origin, deterministic-bits}
use Rattle.stab_regions.proofs.FramePointLemmas.{IsMoved}
use Rattle.stab_regions.proofs.TouchLemmas.{touches, FlipsCoins, coins-flip, flipped-before, touched-bit}
use Rattle.stab_gates.proofs.ParityLemmas.{parity-not_right}

-- the frame of a string alone
abbrev pub frame_of : Signed → SingleErrorFrame
frame_of q = record { string = q; flips = [] }

touches-alone : (q : Signed) (r : Region) → touches (frame_of q) r ≡ anticommute q r.string
touches-alone q r = ap (λ b. anticommute q r.string ⊕ b) (parity-none r.looks) ∙ parity-false (anticommute q r.string)

-- a member flips no signs of its group
member-flips_none : (n : ℕ) (t : List Event) → IsGood n t → (q : Signed) → length q.letters ≡ n → member t q ≡ true → (s : Signed) → length s.letters ≡ n
    → member t s ≡ member t (with_sign (anticommute q s) s)
member-flips_none n t good q lq in_group s ls = by_side (anticommute q s) refl
  where
    group : IsStabiliserGroup n (member t)
    group = group-member n t good.fits good.sound

    distinct : (z : Signed) → length z.letters ≡ n → anticommute q z ≡ true → member t z ≡ false
    distinct z lz e = not-true (member t z) (λ h. not_both (anticommute q z) (group.commuting q z lq lz in_group h) e)

    by_side : (a : Bool) → anticommute q s ≡ a → member t s ≡ member t (with_sign (anticommute q s) s)
    by_side false e = ap (λ b. member t (with_sign b s)) (sym e)
    by_side true e = distinct s ls e ∙ sym (ap (λ b. member t (with_sign b s)) e ∙ distinct (minus s) ls e)

same-records : (records : List Bool) (k : ℕ) → looked_up records k ≡ looked_up records k ⊕ looked_up [] k
same-records records k = sym (ap (λ b. looked_up records k ⊕ b) (look-nothing k) ∙ parity-false (looked_up records k))

-- a string of which what a step measures is a member after it

own-product : (n : ℕ) (m : Signed) (t : List Event) (o : Bool) → IsGood n t → length m.letters ≡ n → member (projected m o ∷ t) (with_sign o m) ≡ true
own-product n m t o good lm =
    test_right (anticommute m (with_sign o m)) _ _ (strings_anticommute-self m.letters)
    (ap (member t) (product-self (with_sign o m) ∙ ap identity lm) ∙ (group-member n t good.fits good.sound).has_identity)

abbrev After : ℕ → (ℕ → Bool) → Step → Point → Region → Type 0
After n coins x p r = (q : Signed) × (length q.letters ≡ n) × (member (trace_after n coins x p) q ≡ true) × (anticommute q r.string ≡ true)

following : (n : ℕ) (coins : ℕ → Bool) (x : Step) (p : Point) (r : Region) → StepFits n x → IsGood n p.trace → keeps_region n x r ≡ false → After n coins x p r
following n coins (one g q) p r fits good e = absurd (not_both true e refl)
following n coins (two g a b) p r fits good e = absurd (not_both true e refl)
following n coins (controlled l k q) p r fits good e = absurd (not_both true e refl)
following n coins (collapse l q recorded inverted resets) p r fits good e = (
  with_sign (flip ⊕ o) m,
  lm,
  member-where n q (flip_of l) (resets && o) (projected m o ∷ p.trace) _ lm fits
      ∙ ap (member (projected m o ∷ p.trace)) (sign-sign flip (flip ⊕ o) m ∙ ap (λ b. with_sign b m) (parity-twice flip o))
      ∙ own-product n m p.trace o good lm,
  not-false _ e,
)
  where
    m : Signed
    m = single n q l

    lm : length m.letters ≡ n
    lm = length-one_letter n q l

    o : Bool
    o = outcome_at coins m p.trace p.coin

    flip : Bool
    flip = (resets && o) && anticommute (single n q (flip_of l)) m
following n coins (product factors inverted) p r fits good e = (
  with_sign (outcome_at coins (string_of n factors) p.trace p.coin) (string_of n factors),
  length-string_of n factors,
  own-product n (string_of n factors) p.trace (outcome_at coins (string_of n factors) p.trace p.coin) good (length-string_of n factors),
  not-false _ e,
)
following n coins (detector ks) p r fits good e = absurd (not_both true e refl)
following n coins (observable j ks) p r fits good e = absurd (not_both true e refl)

-- coins after those of a step make no difference to it

pub next-same : (n : ℕ) (coins others : ℕ → Bool) (x : Step) (p : Point) → ((t : ℕ) → t < p.coin + coins_of x → others t ≡ coins t)
    → next_point n others x p ≡ next_point n coins x p
next-same n coins others (one g q) p same = refl
next-same n coins others (two g a b) p same = refl
next-same n coins others (controlled l k q) p same = refl
next-same n coins others (collapse l q recorded inverted resets) p same = λ i. record {
  trace = collapsed n l q resets (outcome p.trace (single n q l) (here i)) p.trace;
  coin = p.coin + 1;
  records = p.records ++ when recorded (inverted ⊕ outcome p.trace (single n q l) (here i));
}
  where
    here : others p.coin ≡ coins p.coin
    here = same p.coin (omega arith)
next-same n coins others (product factors inverted) p same = λ i. record {
  trace = projected (string_of n factors) (outcome p.trace (string_of n factors) (here i)) ∷ p.trace;
  coin = p.coin + 1;
  records = p.records ++ (inverted ⊕ outcome p.trace (string_of n factors) (here i)) ∷ [];
}
  where
    here : others p.coin ≡ coins p.coin
    here = same p.coin (omega arith)
next-same n coins others (detector ks) p same = refl
next-same n coins others (observable j ks) p same = refl

odd : (a b : Bool) → b ≡ true → a ⊕ b ≡ not a
odd a b e = grind arith

module _ (n : ℕ) (asked : Step → List ℕ) (ks : List ℕ) (coins : ℕ → Bool) where
  abbrev at : List Step → Region
  at xs = region_through n asked xs (region_of n ks)

  -- coins that are the same below a number, by which the bit is the other
  abbrev OtherBit : List Step → Point → Type 0
  OtherBit xs p = (others : ℕ → Bool) × ((t : ℕ) → t < p.coin → others t ≡ coins t) × (bit_asked n others asked xs ks p ≡ not (bit_asked n coins asked xs ks p))

  other-by_member : (xs : List Step) (p : Point) (q : Signed) → All (StepFits n) xs → IsGood n p.trace → length q.letters ≡ n → member p.trace q ≡ true
      → anticommute q (at xs).string ≡ true → OtherBit xs p
  other-by_member xs p q fits good lq in_group distinct = (
    flipped_from p.coin (all_flipped_coins n xs (frame_of q)) coins,
    flipped-before p.coin (all_flipped_coins n xs (frame_of q)) coins,
    touched-bit n coins (flipped_from p.coin (all_flipped_coins n xs (frame_of q)) coins) asked ks xs (frame_of q) p p fits lq good
        (record { group = member-flips_none n p.trace good q lq in_group; coin = refl; records = same-records p.records })
        (coins-flip p.coin (all_flipped_coins n xs (frame_of q)) coins)
        ∙ odd (bit_asked n coins asked xs ks p) (touches (frame_of q) (at xs)) (touches-alone q (at xs) ∙ distinct),
  )

  other-following : (x : Step) (xs : List Step) (p : Point) → OtherBit xs (next_point n coins x p) → OtherBit (x ∷ xs) p
  other-following x xs p other = (
    other.0,
    (λ t lt. other.1 t (omega arith)),
    ap (λ z. parity p.records (asked x) ⊕ bit_asked n other.0 asked xs ks z) (next-same n coins other.0 x p other.1)
        ∙ ap (λ b. parity p.records (asked x) ⊕ b) other.2
        ∙ parity-not_right (parity p.records (asked x)) (bit_asked n coins asked xs ks (next_point n coins x p)),
  )

  first_lost : (a b : Bool) → (a && b) ≡ false → b ≡ true → a ≡ false
  first_lost a b e f = grind arith

  unstored : (xs : List Step) (p : Point) → All (StepFits n) xs → IsGood n p.trace → keep_region n asked xs (region_of n ks) ≡ false → OtherBit xs p
  unstored [] p fits good e = absurd (not_both true e refl)
  unstored (x ∷ xs) p fits good e =
      other-following x xs p
      (by_rest (keep_region n asked xs (region_of n ks)) refl
      (unstored xs (next_point n coins x p) (All-tail (StepFits n) x xs fits) (good-next n coins x p here good)))
    where
      here : StepFits n x
      here = All-head (StepFits n) x xs fits

      by_rest : (b : Bool) → keep_region n asked xs (region_of n ks) ≡ b → (keep_region n asked xs (region_of n ks) ≡ false → OtherBit xs (next_point n coins x p))
          → OtherBit xs (next_point n coins x p)
      by_rest false f later = later f
      by_rest true f later =
          let q = following n coins x p (at xs) here good (first_lost _ _ e f) in
          other-by_member xs (next_point n coins x p) q.0 (All-tail (StepFits n) x xs fits) (good-next n coins x p here good) q.1 q.2 q.3

  not_at_zeros : (xs : List Step) → All (StepFits n) xs → diagonal (at xs).string.letters ≡ false → OtherBit xs origin
  not_at_zeros xs fits e =
      let q = anticommuting-member n [] tt tt (at xs).string (size-through n asked xs (region_of n ks) (length-replicate n I)) (none _ _ e) (none _ _ e) in
      other-by_member xs origin q.0 fits (good-origin n) q.1 q.2 (anticommute-comm q.0 (at xs).string ∙ q.3)
    where
      none : (a b : Bool) → b ≡ false → (not a && b) ≡ false
      none a b e = grind arith

  pub other-bit : (xs : List Step) → All (StepFits n) xs → is_deterministic n asked xs ks ≡ false → OtherBit xs origin
  other-bit xs fits random = by_preserved (keep_region n asked xs (region_of n ks)) refl
    where
      by_preserved : (b : Bool) → keep_region n asked xs (region_of n ks) ≡ b → OtherBit xs origin
      by_preserved false e = unstored xs origin fits (good-origin n) e
      by_preserved true e = not_at_zeros xs fits (second_lost _ _ random e)
        where
          second_lost : (a b : Bool) → (a && b) ≡ false → a ≡ true → b ≡ false
          second_lost a b e f = grind arith

pub random-bits : RandomBits
random-bits n asked xs ks fits random coins =
    let other = other-bit n asked ks coins xs fits random in
    (other.0, other.2)

-- so it finds deterministic exactly what is the same bit for all random bits
pub deterministic-where-the-same : (n : ℕ) (asked : Step → List ℕ) (xs : List Step) (ks : List ℕ) → All (StepFits n) xs
    → (is_deterministic n asked xs ks ≡ true) ↔ ((coins others : ℕ → Bool) → bit_asked n others asked xs ks origin ≡ bit_asked n coins asked xs ks origin)
deterministic-where-the-same n asked xs ks fits = (
  λ deterministic coins others. deterministic-bits n others asked xs ks fits deterministic ∙ sym (deterministic-bits n coins asked xs ks fits deterministic),
  λ same. by_side (is_deterministic n asked xs ks) refl same,
)
  where
    clash : (a : Bool) → a ≡ not a → ⊥
    clash a e = grind arith

    by_side : (b : Bool) → is_deterministic n asked xs ks ≡ b → ((coins others : ℕ → Bool) → bit_asked n others asked xs ks origin ≡ bit_asked n coins asked xs ks origin)
        → is_deterministic n asked xs ks ≡ true
    by_side true e same = e
    by_side false e same =
        let other = random-bits n asked xs ks fits e (λ t. false) in
        absurd (clash _ (sym (same (λ t. false) other.0) ∙ other.1))

-- an inserted letter, with its coins

-- whether it anticommutes with the region there
abbrev pub flips_asked : ℕ → (Step → List ℕ) → Letter → ℕ → List Step → List ℕ → Bool
flips_asked n asked l q back ks = anticommute (single n q l) (region_through n asked back (region_of n ks)).string

module _ (n : ℕ) (coins others : ℕ → Bool) (asked : Step → List ℕ) (ks : List ℕ) (back : List Step) (l : Letter) (q : ℕ) (lt : q < n)
    (fits_back : All (StepFits n) back) (plain : asked (one (gate_of l) q) ≡ []) where
  abbrev letter_frame : SingleErrorFrame
  letter_frame = frame_of (single n q l)

  with-letter : (p : Point) → IsMoved n letter_frame p (next_point n others (one (gate_of l) q) p)
  with-letter p = record {
    group = λ s ls. ap (member p.trace) (back-letter n q l s ls lt);
    coin = add-zero p.coin;
    records = λ k. ap (λ r. looked_up r k) (append-nil p.records) ∙ same-records p.records k;
  }

  with-single_error : (front : List Step) (p : Point) → All (StepFits n) front → IsGood n p.trace → ((t : ℕ) → t < p.coin + all_coins_of front → others t ≡ coins t)
      → FlipsCoins (p.coin + all_coins_of front) (all_flipped_coins n back letter_frame) coins others
      → bit_asked n others asked (with_single_error front l q back) ks p ≡ bit_asked n coins asked (front ++ back) ks p ⊕ flips_asked n asked l q back ks
  with-single_error [] p fits good same flips =
      ap (λ js. parity p.records js ⊕ bit_asked n others asked back ks (next_point n others (one (gate_of l) q) p)) plain
      ∙ touched-bit n coins others asked ks back letter_frame p (next_point n others (one (gate_of l) q) p) fits_back (length-one_letter n q l) good (with-letter p)
      (subst (λ c. FlipsCoins c (all_flipped_coins n back letter_frame) coins others) (add-zero p.coin) flips)
      ∙ ap (λ b. bit_asked n coins asked back ks p ⊕ b) (touches-alone (single n q l) (region_through n asked back (region_of n ks)))
  with-single_error (x ∷ front) p fits good same flips =
      ap (λ z. parity p.records (asked x) ⊕ bit_asked n others asked (with_single_error front l q back) ks z) (next-same n coins others x p (λ t less. same t (omega arith)))
      ∙ ap (λ b. parity p.records (asked x) ⊕ b)
      (with-single_error front (next_point n coins x p) (All-tail (StepFits n) x front fits) (good-next n coins x p (All-head (StepFits n) x front fits) good)
      (λ t less. same t (omega arith))
      (subst (λ c. FlipsCoins c (all_flipped_coins n back letter_frame) coins others) (omega arith) flips))
      ∙ assoc (parity p.records (asked x)) (bit_asked n coins asked (front ++ back) ks (next_point n coins x p)) (flips_asked n asked l q back ks)
    where
      assoc : (a b c : Bool) → a ⊕ (b ⊕ c) ≡ (a ⊕ b) ⊕ c
      assoc a b c = grind arith

-- whatever is asked for, the letter flips it if and only if it anticommutes with the region there, if the coins are flipped with it
pub single_errors-flip-with-their-coins : (n : ℕ) (coins : ℕ → Bool) (front back : List Step) (l : Letter) (q : ℕ) → q < n → All (StepFits n) front → All (StepFits n) back
    → (asked : Step → List ℕ) (ks : List ℕ) → asked (one (gate_of l) q) ≡ []
    → bit_asked n (flipped_with n front l q back coins) asked (with_single_error front l q back) ks origin
    ≡ bit_asked n coins asked (front ++ back) ks origin ⊕ flips_asked n asked l q back ks
single_errors-flip-with-their-coins n coins front back l q lt ff fb asked ks plain =
    let bits : List Bool = all_flipped_coins n back (frame_of (single n q l)) in
    with-single_error n coins (flipped_with n front l q back coins) asked ks back l q lt fb plain front origin ff (good-origin n)
    (λ t less. flipped-before (all_coins_of front) bits coins t (omega arith))
    (subst (λ c. FlipsCoins c bits coins (flipped_with n front l q back coins)) (omega arith) (coins-flip (all_coins_of front) bits coins))
