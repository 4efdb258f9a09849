-- What a frame makes of what a region asks for is the same before a step and after it, so a bit that is asked for at the end is
-- flipped if the frame touches the region, once the coins are flipped with the frame.
use Rattle.stab_regions.proofs.Names.{◌≡◌, ℕ, ◌+◌, ◌-◌, ◌<◌, refl, sym, ◌∙◌, ap, subst, arith, Bool, true, false, ◌&&◌, List, [], ◌∷◌, ◌++◌, length, add-zero, le-ltb, lt-ltb, if◌then◌else◌, slice_index_or, length-replicate, get_or-append-add, All-head, All-tail, I, ◌⊕◌, Signed, single, anticommute, with_sign, parity-false, parity-mid, strings_anticommute-blank_right, anticommute-comm, Step, one, two, controlled, collapse, product, detector, observable, good-next, IsGood, looked_up, parity, string_of, flip_of, Point, coins_of, next_point, StepFits, Region, region_of, names_newest, earlier, region_before, with_looks, region_through, SingleErrorFrame, single_error_frame_after, flipped_coins, all_flipped_coins, flipped_from, bit_asked, nat_lt}
use Rattle.std.proofs.Common.{All}
use Rattle.stab_regions.proofs.LookLemmas.{parity-append, parity-where, parity-when, parity-flipped}
use Rattle.stab_regions.proofs.ReadLemmas.{size-through}
use Rattle.stab_regions.proofs.FramePointLemmas.{IsMoved, moved-gate, moved-pair, anticommute-times, anticommute-times_right, size-after, FlipsCoin, moved-next}
use Rattle.stab_regions.proofs.SignLemmas.{parity-left}

-- what a frame makes of the bit that a region asks for
abbrev pub touches : SingleErrorFrame → Region → Bool
touches f r = anticommute f.string r.string ⊕ parity f.flips r.looks

-- a step

feedback : (i a c p : Bool) → ((i && a) ⊕ c) ⊕ p ≡ c ⊕ ((a && i) ⊕ p)
feedback i a c p = grind arith

measured : (e a g c w p : Bool) → (((e && a) && g) ⊕ c) ⊕ ((w && a) ⊕ p) ≡ (((w ⊕ (e && g)) && a) ⊕ c) ⊕ p
measured e a g c w p = grind arith

plain : (a c w p : Bool) → c ⊕ ((w && a) ⊕ p) ≡ (((w ⊕ false) && a) ⊕ c) ⊕ p
plain a c w p = grind arith

pub touches-next : (n : ℕ) (x : Step) (f : SingleErrorFrame) (r : Region) → StepFits n x → length f.string.letters ≡ n → length r.string.letters ≡ n
    → touches (single_error_frame_after n x f) r ≡ touches f (region_before n x r)
touches-next n (one g q) f r fits lf lr = ap (λ b. b ⊕ parity f.flips r.looks) (moved-gate n q g f.string r.string lf lr)
touches-next n (two g a b) f r fits lf lr = ap (λ c. c ⊕ parity f.flips r.looks) (moved-pair n a b g fits.0 fits.1 fits.2 f.string r.string lf lr)
touches-next n (controlled l k q) f r fits lf lr =
    ap (λ b. b ⊕ parity f.flips r.looks) (anticommute-times (looked_up f.flips k) (single n q l) f.string r.string)
    ∙ feedback (looked_up f.flips k) (anticommute (single n q l) r.string) (anticommute f.string r.string) (parity f.flips r.looks)
    ∙ ap (λ b. anticommute f.string r.string ⊕ b) (sym (parity-where f.flips (anticommute (single n q l) r.string) k r.looks))
touches-next n (collapse l q recorded inverted resets) f r fits lf lr =
    (λ i. anticommute-times (resets && anticommute m f.string) (single n q (flip_of l)) f.string r.string i
    ⊕ parity-when f.flips recorded (anticommute m f.string) r.looks i)
    ∙ measured resets (anticommute m f.string) (anticommute (single n q (flip_of l)) r.string) (anticommute f.string r.string) (recorded && names_newest r.looks) rest
    ∙ ap (λ b. (((((recorded && names_newest r.looks) ⊕ corrected) && b)) ⊕ anticommute f.string r.string) ⊕ rest) (anticommute-comm m f.string)
    ∙ ap (λ b. b ⊕ rest) (sym (anticommute-times_right ((recorded && names_newest r.looks) ⊕ corrected) f.string m (with_sign ((recorded && names_newest r.looks) && inverted) r.string)))
  where
    m : Signed
    m = single n q l

    corrected : Bool
    corrected = resets && anticommute (single n q (flip_of l)) r.string

    rest : Bool
    rest = parity f.flips (if recorded then earlier r.looks else r.looks)
touches-next n (product factors inverted) f r fits lf lr =
    ap (λ b. anticommute f.string r.string ⊕ b) (parity-when f.flips true (anticommute m f.string) r.looks)
    ∙ plain (anticommute m f.string) (anticommute f.string r.string) (names_newest r.looks) rest
    ∙ ap (λ b. ((((names_newest r.looks) ⊕ false) && b) ⊕ anticommute f.string r.string) ⊕ rest) (anticommute-comm m f.string)
    ∙ ap (λ b. b ⊕ rest) (sym (anticommute-times_right (names_newest r.looks ⊕ false) f.string m (with_sign (names_newest r.looks && inverted) r.string)))
  where
    m : Signed
    m = string_of n factors

    rest : Bool
    rest = parity f.flips (earlier r.looks)
touches-next n (detector ks) f r fits lf lr = refl
touches-next n (observable j ks) f r fits lf lr = refl

-- coins that are flipped from a number on

abbrev pub FlipsCoins : ℕ → List Bool → (ℕ → Bool) → (ℕ → Bool) → Type 0
FlipsCoins from bits coins others = (t : ℕ) → others (from + t) ≡ coins (from + t) ⊕ slice_index_or bits t false

pub coins-flip : (from : ℕ) (bits : List Bool) (coins : ℕ → Bool) → FlipsCoins from bits coins (flipped_from from bits coins)
coins-flip from bits coins t =
    ap (λ b. coins (from + t) ⊕ (if b then false else slice_index_or bits ((from + t) - from) false)) (le-ltb (from + t) from (omega arith))
    ∙ ap (λ i. coins (from + t) ⊕ slice_index_or bits i false) (omega arith)

pub flipped-before : (from : ℕ) (bits : List Bool) (coins : ℕ → Bool) (t : ℕ) → t < from → flipped_from from bits coins t ≡ coins t
flipped-before from bits coins t lt =
    ap (λ b. coins t ⊕ (if b then false else slice_index_or bits (t - from) false)) (lt-ltb t from lt) ∙ parity-false (coins t)

-- flipped again, they are as before
pub flipped-twice : (from : ℕ) (bits : List Bool) (coins : ℕ → Bool) → flipped_from from bits (flipped_from from bits coins) ≡ coins
flipped-twice from bits coins = λ i. λ t. twice (coins t) (if nat_lt t from then false else slice_index_or bits (t - from) false) i
  where
    twice : (a b : Bool) → (a ⊕ b) ⊕ b ≡ a
    twice a b = grind arith

-- the coins of a step, and those after it

pub length-flipped : (n : ℕ) (x : Step) (f : SingleErrorFrame) → length (flipped_coins n x f) ≡ coins_of x
length-flipped n (one g q) f = refl
length-flipped n (two g a b) f = refl
length-flipped n (controlled l k q) f = refl
length-flipped n (collapse l q recorded inverted resets) f = refl
length-flipped n (product factors inverted) f = refl
length-flipped n (detector ks) f = refl
length-flipped n (observable j ks) f = refl

module _ (n : ℕ) (coins others : ℕ → Bool) where
  first-flipped : (from : ℕ) (a : Bool) (bits : List Bool) → FlipsCoins from (a ∷ bits) coins others → others from ≡ coins from ⊕ a
  first-flipped from a bits flips =
      ap others (sym (add-zero from)) ∙ flips 0 ∙ ap (λ t. coins t ⊕ a) (add-zero from)

  flips-here : (x : Step) (f : SingleErrorFrame) (from : ℕ) (bits : List Bool) → FlipsCoins from (flipped_coins n x f ++ bits) coins others → FlipsCoin n x f from coins others
  flips-here (one g q) f from bits flips = tt
  flips-here (two g a b) f from bits flips = tt
  flips-here (controlled l k q) f from bits flips = tt
  flips-here (collapse l q recorded inverted resets) f from bits flips = first-flipped from _ bits flips
  flips-here (product factors inverted) f from bits flips = first-flipped from _ bits flips
  flips-here (detector ks) f from bits flips = tt
  flips-here (observable j ks) f from bits flips = tt

  flips-following : (from : ℕ) (front bits : List Bool) → FlipsCoins from (front ++ bits) coins others → FlipsCoins (from + length front) bits coins others
  flips-following from front bits flips t =
      ap others (omega arith) ∙ flips (length front + t)
      ∙ (λ i. coins (site i) ⊕ get_or-append-add front bits t false i)
    where
      site : from + (length front + t) ≡ (from + length front) + t
      site = omega arith

  -- the bit that is asked for
  pub touched-bit : (asked : Step → List ℕ) (ks : List ℕ) (xs : List Step) (f : SingleErrorFrame) (p moved : Point) → All (StepFits n) xs → length f.string.letters ≡ n
      → IsGood n p.trace → IsMoved n f p moved → FlipsCoins p.coin (all_flipped_coins n xs f) coins others
      → bit_asked n others asked xs ks moved ≡ bit_asked n coins asked xs ks p ⊕ touches f (region_through n asked xs (region_of n ks))
  touched-bit asked ks [] f p moved fits lf good is flips =
      parity-flipped moved.records p.records f.flips is.records ks
      ∙ ap (λ b. parity p.records ks ⊕ (b ⊕ parity f.flips ks)) (sym (strings_anticommute-blank_right n f.string.letters))
  touched-bit asked ks (x ∷ xs) f p moved fits lf good is flips =
      (λ i. parity-flipped moved.records p.records f.flips is.records (asked x) i
      ⊕ touched-bit asked ks xs (single_error_frame_after n x f) (next_point n coins x p) (next_point n others x moved) (All-tail (StepFits n) x xs fits) (size-after n x f lf)
      (good-next n coins x p here good)
      (moved-next n coins others f lf p moved good is x here (flips-here x f p.coin (all_flipped_coins n xs (single_error_frame_after n x f)) flips)) later i)
      ∙ parity-mid (parity p.records (asked x)) (parity f.flips (asked x)) (bit_asked n coins asked xs ks (next_point n coins x p)) (touches (single_error_frame_after n x f) r)
      ∙ ap (λ b. (parity p.records (asked x) ⊕ bit_asked n coins asked xs ks (next_point n coins x p)) ⊕ b) whole
    where
      r : Region
      r = region_through n asked xs (region_of n ks)

      here : StepFits n x
      here = All-head (StepFits n) x xs fits

      later : FlipsCoins (p.coin + coins_of x) (all_flipped_coins n xs (single_error_frame_after n x f)) coins others
      later =
          subst (λ c. FlipsCoins (p.coin + c) (all_flipped_coins n xs (single_error_frame_after n x f)) coins others) (length-flipped n x f)
          (flips-following p.coin (flipped_coins n x f) (all_flipped_coins n xs (single_error_frame_after n x f)) flips)

      whole : parity f.flips (asked x) ⊕ touches (single_error_frame_after n x f) r ≡ touches f (with_looks (asked x) (region_before n x r))
      whole =
          ap (λ b. parity f.flips (asked x) ⊕ b) (touches-next n x f r here lf (size-through n asked xs (region_of n ks) (length-replicate n I)))
          ∙ parity-left (parity f.flips (asked x)) (anticommute f.string (region_before n x r).string) (parity f.flips (region_before n x r).looks)
          ∙ ap (λ b. anticommute f.string (region_before n x r).string ⊕ b) (sym (parity-append f.flips (asked x) (region_before n x r).looks))
