-- Moved points: points that differ by a frame come, by flipped coins, to points that differ by the frame after the steps.
use Rattle.stab_regions.proofs.Names.{◌≡◌, ◌≢◌, ℕ, ◌+◌, ◌<◌, refl, sym, ◌∙◌, ap, arith, Bool, true, false, not, ◌&&◌, ◌||◌, List, [], ◌∷◌, ◌++◌, append-nil, length, if◌then◌else◌, Letter, ◌⊕◌, Signed, single, minus, with_sign, anticommute, times, parity-assoc, parity-false, signed_path, anticommute-product, anticommute-comm, length-product, Gate, PairGate, inverse, image, image_pair, back, back_pair, Event, applied, applied_pair, projected, member, outcome, IsStabiliserGroup, length-one_letter, IsSymmetry-image, IsSymmetry-pair, image-length, pair-length, image-back, pair-undone, anticommute-product_right, group-member, Step, one, two, controlled, collapse, product, detector, observable, length-string_of, IsGood, sign-sign, looked_up, when, string_of, flip_of, applied_where, outcome_at, Point, next_point, StepFits, product_where, SingleErrorFrame, single_error_frame_after, IsConjugated}
use Rattle.stab_regions.proofs.SignLemmas.{image-sign, pair-sign, product-signs, member-where}
use Rattle.stab_regions.proofs.LookLemmas.{look-flipped}
use Rattle.stab_regions.proofs.ReadLemmas.{length-times}
use Rattle.stab_frames.proofs.FlipLemmas.{and-parity}
use Rattle.stab_frames.proofs.MeasuredLemmas.{opposite}

-- what a string anticommutes with after a gate

pub moved-gate : (n q : ℕ) (g : Gate) (f s : Signed) → length f.letters ≡ n → length s.letters ≡ n → anticommute (image g q f) s ≡ anticommute f (back g q s)
moved-gate n q g f s lf ls =
    ap (anticommute (image g q f)) (sym (image-back g q s))
    ∙ (IsSymmetry-image n g q).keeps_parity f (back g q s) lf (image-length (inverse g) q s ∙ ls)

pub moved-pair : (n a b : ℕ) (g : PairGate) → a < n → b < n → b ≢ a → (f s : Signed) → length f.letters ≡ n → length s.letters ≡ n
    → anticommute (image_pair g a b f) s ≡ anticommute f (back_pair g a b s)
moved-pair n a b g lt_a lt_b distinct f s lf ls =
    ap (anticommute (image_pair g a b f)) (sym (pair-undone g a b s (omega (arith, ls)) (omega (arith, ls)) distinct))
    ∙ (IsSymmetry-pair n g a b lt_a lt_b distinct).keeps_parity f (image_pair g a b s) lf (pair-length g a b s ∙ ls)

pub anticommute-times : (bit : Bool) (m f s : Signed) → anticommute (product_where bit m f) s ≡ (bit && anticommute m s) ⊕ anticommute f s
anticommute-times true m f s = anticommute-product m f s
anticommute-times false m f s = refl

pub anticommute-times_right : (bit : Bool) (f m s : Signed) → anticommute f (product_where bit m s) ≡ (bit && anticommute f m) ⊕ anticommute f s
anticommute-times_right true f m s = anticommute-product_right f m s
anticommute-times_right false f m s = refl

pub size-after : (n : ℕ) (x : Step) (f : SingleErrorFrame) → length f.string.letters ≡ n → length (single_error_frame_after n x f).string.letters ≡ n
size-after n (one g q) f long = image-length g q f.string ∙ long
size-after n (two g a b) f long = pair-length g a b f.string ∙ long
size-after n (controlled l k q) f long = length-times n _ (single n q l) f.string (length-one_letter n q l) long
size-after n (collapse l q recorded inverted resets) f long = length-times n _ (single n q (flip_of l)) f.string (length-one_letter n q (flip_of l)) long
size-after n (product factors inverted) f long = long
size-after n (detector ks) f long = long
size-after n (observable j ks) f long = long

-- groups that are conjugated by a string

module _ (n : ℕ) (f : Signed) (lf : length f.letters ≡ n) (t u : List Event) (moved : IsConjugated n f.letters (member t) (member u)) where
  conjugated-gate : (g : Gate) (q : ℕ) → IsConjugated n (image g q f).letters (member (applied g q ∷ t)) (member (applied g q ∷ u))
  conjugated-gate g q s ls =
      moved (back g q s) (image-length (inverse g) q s ∙ ls)
      ∙ ap (λ b. member t (with_sign b (back g q s))) (sym (moved-gate n q g f s lf ls))
      ∙ ap (member t) (sym (image-sign (inverse g) q (anticommute (image g q f) s) s))

  conjugated-pair : (g : PairGate) (a b : ℕ) → a < n → b < n → b ≢ a
      → IsConjugated n (image_pair g a b f).letters (member (applied_pair g a b ∷ t)) (member (applied_pair g a b ∷ u))
  conjugated-pair g a b lt_a lt_b distinct s ls =
      moved (back_pair g a b s) (pair-length g a b s ∙ ls)
      ∙ ap (λ c. member t (with_sign c (back_pair g a b s))) (sym (moved-pair n a b g lt_a lt_b distinct f s lf ls))
      ∙ ap (member t) (sym (pair-sign g a b (anticommute (image_pair g a b f) s) s))

  conjugated-where : (l : Letter) (q : ℕ) (bit other flip : Bool) → q < n → other ≡ bit ⊕ flip
      → IsConjugated n (product_where flip (single n q l) f).letters (member (applied_where bit l q t)) (member (applied_where other l q u))
  conjugated-where l q bit other flip lt e s ls =
      member-where n q l other u s ls lt
      ∙ moved _ ls
      ∙ ap (member t)
      (sign-sign _ _ s
      ∙ ap (λ x. with_sign x s)
      (ap (λ o. anticommute f s ⊕ (o && anticommute (single n q l) s)) e
      ∙ signs (anticommute f s) bit flip (anticommute (single n q l) s)
      ∙ ap (λ x. (bit && anticommute (single n q l) s) ⊕ x) (sym (anticommute-times flip (single n q l) f s)))
      ∙ sym (sign-sign _ _ s))
      ∙ sym (member-where n q l bit t _ ls lt)
    where
      signs : (c b i a : Bool) → c ⊕ ((b ⊕ i) && a) ≡ (b && a) ⊕ ((i && a) ⊕ c)
      signs c b i a = grind arith

  conjugated-projected : (m : Signed) (o other : Bool) → length m.letters ≡ n → other ≡ o ⊕ anticommute m f
      → IsConjugated n f.letters (member (projected m o ∷ t)) (member (projected m other ∷ u))
  conjugated-projected m o other lm e s ls = by_side (anticommute m s) refl
    where
      signs : (fm fs o : Bool) → (fm ⊕ fs) ⊕ (o ⊕ fm) ≡ o ⊕ fs
      signs fm fs o = grind arith

      beside : anticommute m s ≡ false
          → with_sign (anticommute f (times (with_sign other m) s)) (times (with_sign other m) s) ≡ times (with_sign o m) (with_sign (anticommute f s) s)
      beside distinct =
          (λ i. with_sign (anticommute-product_right f (with_sign other m) s i) (product-signs other false m s distinct i))
          ∙ sign-sign _ _ (times m s)
          ∙ ap (λ x. with_sign x (times m s))
          (ap (λ x. (anticommute f m ⊕ anticommute f s) ⊕ x) (parity-false other ∙ e ∙ ap (λ x. o ⊕ x) (anticommute-comm m f))
          ∙ signs (anticommute f m) (anticommute f s) o)
          ∙ sym (product-signs o (anticommute f s) m s distinct)

      by_side : (a : Bool) → anticommute m s ≡ a
          → (not (anticommute m s) && (member u s || member u (times (with_sign other m) s)))
          ≡ (not (anticommute m s) && (member t (with_sign (anticommute f s) s) || member t (times (with_sign o m) (with_sign (anticommute f s) s))))
      by_side true distinct =
          ap (λ a. not a && (member u s || member u (times (with_sign other m) s))) distinct
          ∙ sym (ap (λ a. not a && (member t (with_sign (anticommute f s) s) || member t (times (with_sign o m) (with_sign (anticommute f s) s)))) distinct)
      by_side false distinct =
          λ i. not (anticommute m s) && (moved s ls i || (moved (times (with_sign other m) s) (length-product n (with_sign other m) s lm ls) ∙ ap (member t) (beside distinct)) i)

-- outcomes differ if the string anticommutes with what is measured, and a coin that decides is flipped with them

outcome-flipped : (n : ℕ) (f m : Signed) (t u : List Event) → IsGood n t → IsConjugated n f.letters (member t) (member u) → length m.letters ≡ n → (c : Bool)
    → outcome u m (c ⊕ anticommute m f) ≡ outcome t m c ⊕ anticommute m f
outcome-flipped n f m t u good moved lm c = by_side (anticommute m f) refl
  where
    twice : (x : Bool) → not (not x) ≡ x
    twice x = grind arith

    plain : (a : Bool) → anticommute m f ≡ a → member u m ≡ member t (with_sign a m)
    plain a e = moved m lm ∙ ap (λ x. member t (with_sign x m)) (anticommute-comm f m ∙ e)

    other : (a : Bool) → anticommute m f ≡ a → member u (minus m) ≡ member t (with_sign a (minus m))
    other a e = moved (minus m) lm ∙ ap (λ x. member t (with_sign x (minus m))) (anticommute-comm f m ∙ e)

    by_side : (a : Bool) → anticommute m f ≡ a → outcome u m (c ⊕ anticommute m f) ≡ outcome t m c ⊕ anticommute m f
    by_side false e =
        (λ i. if plain false e i then false else (if other false e i then true else (ap (λ x. c ⊕ x) e ∙ parity-false c) i))
        ∙ sym (ap (λ x. outcome t m c ⊕ x) e ∙ parity-false (outcome t m c))
    by_side true e =
        (λ i. if plain true e i then false else (if (other true e ∙ ap (member t) (signed_path _ _ (twice m.negative) refl)) i then true else (ap (λ x. c ⊕ x) e ∙ odd c) i))
        ∙ opposite (member t m) (member t (minus m)) c (group.one_sign m lm)
        ∙ sym (ap (λ x. outcome t m c ⊕ x) e ∙ odd (outcome t m c))
      where
        odd : (x : Bool) → x ⊕ true ≡ not x
        odd x = grind arith

        group : IsStabiliserGroup n (member t)
        group = group-member n t good.fits good.sound

-- a step

-- a point differs from another by a frame: the groups are conjugated by its string, and records differ where the frame flips them
pub record IsMoved (n : ℕ) (f : SingleErrorFrame) (p moved : Point) : Type 0 where
  pub group : IsConjugated n f.string.letters (member p.trace) (member moved.trace)
  pub coin : moved.coin ≡ p.coin
  pub records : (k : ℕ) → looked_up moved.records k ≡ looked_up p.records k ⊕ looked_up f.flips k

-- the step's coin, if it has one, is flipped as the frame says
abbrev pub FlipsCoin : ℕ → Step → SingleErrorFrame → ℕ → (ℕ → Bool) → (ℕ → Bool) → Type 0
FlipsCoin n (one g q) f t coins others = Unit {0}
FlipsCoin n (two g a b) f t coins others = Unit {0}
FlipsCoin n (controlled l k q) f t coins others = Unit {0}
FlipsCoin n (collapse l q recorded inverted resets) f t coins others = others t ≡ coins t ⊕ anticommute (single n q l) f.string
FlipsCoin n (product factors inverted) f t coins others = others t ≡ coins t ⊕ anticommute (string_of n factors) f.string
FlipsCoin n (detector ks) f t coins others = Unit {0}
FlipsCoin n (observable j ks) f t coins others = Unit {0}

module _ (n : ℕ) (coins others : ℕ → Bool) (f : SingleErrorFrame) (long : length f.string.letters ≡ n) (p moved : Point) (good : IsGood n p.trace) (is : IsMoved n f p moved) where
  outcome-moved : (m : Signed) → length m.letters ≡ n → others p.coin ≡ coins p.coin ⊕ anticommute m f.string
      → outcome_at others m moved.trace moved.coin ≡ outcome_at coins m p.trace p.coin ⊕ anticommute m f.string
  outcome-moved m lm e =
      ap (λ t. outcome moved.trace m (others t)) is.coin
      ∙ ap (outcome moved.trace m) e
      ∙ outcome-flipped n f.string m p.trace moved.trace good is.group lm (coins p.coin)

  -- no record is made
  records-same : (k : ℕ) → looked_up (moved.records ++ []) k ≡ looked_up (p.records ++ []) k ⊕ looked_up f.flips k
  records-same k =
      ap (λ r. looked_up r k) (append-nil moved.records) ∙ is.records k
      ∙ ap (λ r. looked_up r k ⊕ looked_up f.flips k) (sym (append-nil p.records))

  records-when : (recorded inverted a o other : Bool) → other ≡ o ⊕ a → (k : ℕ)
      → looked_up (moved.records ++ when recorded (inverted ⊕ other)) k ≡ looked_up (p.records ++ when recorded (inverted ⊕ o)) k ⊕ looked_up (f.flips ++ when recorded a) k
  records-when true inverted a o other e k =
      look-flipped moved.records p.records f.flips (inverted ⊕ other) (inverted ⊕ o) a is.records
      (ap (λ x. inverted ⊕ x) e ∙ sym (parity-assoc inverted o a)) k
  records-when false inverted a o other e k = records-same k ∙ ap (λ r. looked_up (p.records ++ []) k ⊕ looked_up r k) (sym (append-nil f.flips))

  pub moved-next : (x : Step) → StepFits n x → FlipsCoin n x f p.coin coins others
      → IsMoved n (single_error_frame_after n x f) (next_point n coins x p) (next_point n others x moved)
  moved-next (one g q) fits flip = record {
    group = conjugated-gate n f.string long p.trace moved.trace is.group g q;
    coin = ap (λ t. t + 0) is.coin;
    records = records-same;
  }
  moved-next (two g a b) fits flip = record {
    group = conjugated-pair n f.string long p.trace moved.trace is.group g a b fits.0 fits.1 fits.2;
    coin = ap (λ t. t + 0) is.coin;
    records = records-same;
  }
  moved-next (controlled l k q) fits flip = record {
    group = conjugated-where n f.string long p.trace moved.trace is.group l q (looked_up p.records k) (looked_up moved.records k) (looked_up f.flips k) fits (is.records k);
    coin = ap (λ t. t + 0) is.coin;
    records = records-same;
  }
  moved-next (collapse l q recorded inverted resets) fits flip = record {
    group =
        conjugated-where n f.string long _ _
        (conjugated-projected n f.string long p.trace moved.trace is.group (single n q l) _ _ (length-one_letter n q l) flipped)
        (flip_of l) q _ _ (resets && anticommute (single n q l) f.string) fits (ap (λ o. resets && o) flipped ∙ and-parity resets _ _);
    coin = ap (λ t. t + 1) is.coin;
    records = records-when recorded inverted (anticommute (single n q l) f.string) _ _ flipped;
  }
    where
      flipped : outcome_at others (single n q l) moved.trace moved.coin ≡ outcome_at coins (single n q l) p.trace p.coin ⊕ anticommute (single n q l) f.string
      flipped = outcome-moved (single n q l) (length-one_letter n q l) flip
  moved-next (product factors inverted) fits flip = record {
    group = conjugated-projected n f.string long p.trace moved.trace is.group (string_of n factors) _ _ (length-string_of n factors) flipped;
    coin = ap (λ t. t + 1) is.coin;
    records = records-when true inverted (anticommute (string_of n factors) f.string) _ _ flipped;
  }
    where
      flipped : outcome_at others (string_of n factors) moved.trace moved.coin ≡ outcome_at coins (string_of n factors) p.trace p.coin ⊕ anticommute (string_of n factors) f.string
      flipped = outcome-moved (string_of n factors) (length-string_of n factors) flip
  moved-next (detector ks) fits flip = record { group = is.group; coin = ap (λ t. t + 0) is.coin; records = records-same }
  moved-next (observable j ks) fits flip = record { group = is.group; coin = ap (λ t. t + 0) is.coin; records = records-same }
