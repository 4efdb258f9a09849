-- Frames added: what two frames flip together is what each flips, added.
use Rattle.stab_frames.proofs.Names.{◌≡◌, ℕ, ◌+◌, refl, sym, ◌∙◌, ap, Bool, true, false, ◌&&◌, List, [], ◌∷◌, ◌++◌, length, Option, Some, None, length-append, All-head, All-tail, Letter, ◌⊕◌, Signed, single, strings_anticommute, string_product, parity-comm, parity-mid, string_product-assoc, string_product-comm, string_product-self, string_product-blank_right, length-string_product, strings_anticommute-product, length-one_letter, IsSymmetry-image, IsSymmetry-pair, image-length, pair-length, Step, one, two, controlled, collapse, product, detector, observable, looked_up, when, string_of, flip_of, RunOutput, nothing, joined, coins_of, origin, given, StepFits, flipped, flipped_output, Matches, plus, Frame, frame_product, times_where, RunPivots, pivots_of, flipped_by, letters_by, flips_outcome, letters_measured, letters_after, flips_given, frame_after, frame_over, flips_over, AreStrings, FramesAdd}
use Rattle.stab_frames.proofs.PropagatedPointLemmas.{length-times}
use Rattle.stab_frames.proofs.FlipLemmas.{matches-between, looked_up-flipped, parity-flipped, flipped-append, flipped-joined, and-parity}
use Rattle.stab_frames.proofs.StepLemmas.{given-matches}

-- strings of letters

module _ (n : ℕ) (s f g : List Letter) (ls : length s ≡ n) (lf : length f ≡ n) (lg : length g ≡ n) where
  -- (f s) g is (f g) s
  past : string_product (string_product f s) g ≡ string_product (string_product f g) s
  past =
      string_product-assoc f s g ∙ ap (string_product f) (string_product-comm s g) ∙ sym (string_product-assoc f g s)

  -- (f s) (g s) is f g
  twice : string_product (string_product f s) (string_product g s) ≡ string_product f g
  twice =
      sym (string_product-assoc (string_product f s) g s)
      ∙ ap (λ w. string_product w s) past
      ∙ string_product-assoc (string_product f g) s s
      ∙ ap (string_product (string_product f g)) (string_product-self n s ls)
      ∙ string_product-blank_right n (string_product f g) (length-string_product n f g lf lg)

  times-add : (x y : Bool) → times_where (x ⊕ y) s (string_product f g) ≡ string_product (times_where x s f) (times_where y s g)
  times-add false false = refl
  times-add false true = string_product-assoc f g s
  times-add true false = sym past
  times-add true true = sym twice

-- measurements

outcome-add : (pivot : Option (List Letter)) (x y : Bool) (m : Signed) (f g : List Letter)
    → flipped_by pivot (x ⊕ y) m (string_product f g) ≡ flipped_by pivot x m f ⊕ flipped_by pivot y m g
outcome-add None x y m f g = strings_anticommute-product f g m.letters
outcome-add (Some s) x y m f g = refl

measured-add : (n : ℕ) (pivot : Option (List Letter)) → ((s : List Letter) → pivot ≡ Some s → length s ≡ n) → (x y : Bool) (m : Signed) (f g : List Letter)
    → length f ≡ n → length g ≡ n → letters_by pivot (x ⊕ y) m (string_product f g) ≡ string_product (letters_by pivot x m f) (letters_by pivot y m g)
measured-add n None strings x y m f g lf lg = refl
measured-add n (Some s) strings x y m f g lf lg =
    ap (λ b. times_where b s (string_product f g))
    (ap (λ b. (x ⊕ y) ⊕ b) (strings_anticommute-product f g m.letters) ∙ parity-mid x y (strings_anticommute f m.letters) (strings_anticommute g m.letters))
    ∙ times-add n s f g (strings s refl) lf lg (x ⊕ strings_anticommute f m.letters) (y ⊕ strings_anticommute g m.letters)

measured-length : (n : ℕ) (pivot : Option (List Letter)) → ((s : List Letter) → pivot ≡ Some s → length s ≡ n) → (x : Bool) (m : Signed) (f : List Letter)
    → length f ≡ n → length (letters_by pivot x m f) ≡ n
measured-length n None strings x m f lf = lf
measured-length n (Some s) strings x m f lf = length-times n (x ⊕ strings_anticommute f m.letters) s f (strings s refl) lf

when-add : (recorded x y : Bool) → when recorded (x ⊕ y) ≡ flipped (when recorded x) (when recorded y)
when-add true x y = ap (λ b. b ∷ []) (parity-comm x y)
when-add false x y = refl

-- one step

letters-length : (n : ℕ) (pivots : RunPivots) → AreStrings n pivots.strings → (x : Step) (c : ℕ) (h : Frame) → length h.letters ≡ n → length (letters_after n pivots x c h) ≡ n
letters-length n pivots strings (one d q) c h l = image-length d q (plus h.letters) ∙ l
letters-length n pivots strings (two d p q) c h l = pair-length d p q (plus h.letters) ∙ l
letters-length n pivots strings (controlled m k q) c h l = length-times n (looked_up h.flips k) (single n q m).letters h.letters (length-one_letter n q m) l
letters-length n pivots strings (collapse m q recorded inverted resets) c h l =
    length-times n (resets && flips_outcome pivots c (single n q m) h.letters) (single n q (flip_of m)).letters (letters_measured pivots c (single n q m) h.letters)
    (length-one_letter n q (flip_of m)) (measured-length n (pivots.strings c) (strings c) (pivots.changes c) (single n q m) h.letters l)
letters-length n pivots strings (product factors inverted) c h l = measured-length n (pivots.strings c) (strings c) (pivots.changes c) (string_of n factors) h.letters l
letters-length n pivots strings (detector ks) c h l = l
letters-length n pivots strings (observable j ks) c h l = l

module _ (n : ℕ) (strings : ℕ → Option (List Letter)) (x y : ℕ → Bool) (sized : AreStrings n strings) (c : ℕ) (f g : Frame)
    (lf : length f.letters ≡ n) (lg : length g.letters ≡ n) (same : length g.flips ≡ length f.flips) where
  -- pivots for the one frame, for the other, and for both
  abbrev left : RunPivots
  left = pivots_of strings x

  abbrev right : RunPivots
  right = pivots_of strings y

  abbrev sum : RunPivots
  sum = pivots_of strings (λ t. x t ⊕ y t)

  looked-add : (k : ℕ) → looked_up (flipped f.flips g.flips) k ≡ looked_up f.flips k ⊕ looked_up g.flips k
  looked-add k = looked_up-flipped f.flips g.flips same k ∙ parity-comm (looked_up g.flips k) (looked_up f.flips k)

  reset-add : (m : Signed) (l : Letter) (q : ℕ) (resets : Bool)
      → times_where (resets && flips_outcome sum c m (string_product f.letters g.letters)) (single n q l).letters (letters_measured sum c m (string_product f.letters g.letters))
      ≡ string_product
      (times_where (resets && flips_outcome left c m f.letters) (single n q l).letters (letters_measured left c m f.letters))
      (times_where (resets && flips_outcome right c m g.letters) (single n q l).letters (letters_measured right c m g.letters))
  reset-add m l q resets =
      (λ i. times_where
      ((ap (λ b. resets && b) (outcome-add (strings c) (x c) (y c) m f.letters g.letters)
      ∙ and-parity resets (flips_outcome left c m f.letters) (flips_outcome right c m g.letters)) i)
      (single n q l).letters
      (measured-add n (strings c) (sized c) (x c) (y c) m f.letters g.letters lf lg i))
      ∙ times-add n (single n q l).letters (letters_measured left c m f.letters) (letters_measured right c m g.letters) (length-one_letter n q l)
      (measured-length n (strings c) (sized c) (x c) m f.letters lf) (measured-length n (strings c) (sized c) (y c) m g.letters lg)
      (resets && flips_outcome left c m f.letters) (resets && flips_outcome right c m g.letters)

  letters-add : (z : Step) → StepFits n z → letters_after n sum z c (frame_product f g) ≡ string_product (letters_after n left z c f) (letters_after n right z c g)
  letters-add (one h q) fits = ap (λ (p : Signed). p.letters) ((IsSymmetry-image n h q).keeps_product (plus f.letters) (plus g.letters) lf lg)
  letters-add (two h p q) fits = ap (λ (p : Signed). p.letters) ((IsSymmetry-pair n h p q fits.0 fits.1 fits.2).keeps_product (plus f.letters) (plus g.letters) lf lg)
  letters-add (controlled l k q) fits =
      ap (λ b. times_where b (single n q l).letters (string_product f.letters g.letters)) (looked-add k)
      ∙ times-add n (single n q l).letters f.letters g.letters (length-one_letter n q l) lf lg (looked_up f.flips k) (looked_up g.flips k)
  letters-add (collapse l q recorded inverted resets) fits = reset-add (single n q l) (flip_of l) q resets
  letters-add (product factors inverted) fits = measured-add n (strings c) (sized c) (x c) (y c) (string_of n factors) f.letters g.letters lf lg
  letters-add (detector ks) fits = refl
  letters-add (observable j ks) fits = refl

  given-add : (z : Step) → flips_given n sum z c (frame_product f g) ≡ flipped_output (flips_given n left z c f) (flips_given n right z c g)
  given-add (one h q) = refl
  given-add (two h p q) = refl
  given-add (controlled l k q) = refl
  given-add (collapse l q recorded inverted resets) = λ i. record nothing {
    records =
        (ap (when recorded) (outcome-add (strings c) (x c) (y c) (single n q l) f.letters g.letters)
        ∙ when-add recorded (flips_outcome left c (single n q l) f.letters) (flips_outcome right c (single n q l) g.letters)) i;
    free = false ∷ [];
    outcomes =
        (outcome-add (strings c) (x c) (y c) (single n q l) f.letters g.letters
        ∙ parity-comm (flips_outcome left c (single n q l) f.letters) (flips_outcome right c (single n q l) g.letters)) i ∷ [];
  }
  given-add (product factors inverted) = λ i. record nothing {
    records =
        (outcome-add (strings c) (x c) (y c) (string_of n factors) f.letters g.letters
        ∙ parity-comm (flips_outcome left c (string_of n factors) f.letters) (flips_outcome right c (string_of n factors) g.letters)) i ∷ [];
    free = false ∷ [];
    outcomes =
        (outcome-add (strings c) (x c) (y c) (string_of n factors) f.letters g.letters
        ∙ parity-comm (flips_outcome left c (string_of n factors) f.letters) (flips_outcome right c (string_of n factors) g.letters)) i ∷ [];
  }
  given-add (detector ks) = λ i. record nothing { detectors = parity-flipped f.flips g.flips same ks i ∷ [] }
  given-add (observable j ks) = λ i. record nothing { additions = record { observable = j; bit = parity-flipped f.flips g.flips same ks i } ∷ [] }

  given-match : (z : Step) → Matches (flips_given n left z c f) (flips_given n right z c g)
  given-match z = matches-between (given n (λ t. false) z origin) (flips_given n left z c f) (flips_given n right z c g)
      (given-matches n (λ t. false) left z origin c f) (given-matches n (λ t. false) right z origin c g)

  after-add : (z : Step) → StepFits n z → frame_after n sum z c (frame_product f g) ≡ frame_product (frame_after n left z c f) (frame_after n right z c g)
  after-add z fits = λ i. record {
    letters = letters-add z fits i;
    flips =
        (ap (λ (o : RunOutput). flipped f.flips g.flips ++ o.records) (given-add z)
        ∙ sym (flipped-append f.flips (flips_given n left z c f).records g.flips (flips_given n right z c g).records same)) i;
  }

  after-same : (z : Step) → length (frame_after n right z c g).flips ≡ length (frame_after n left z c f).flips
  after-same z =
      length-append g.flips (flips_given n right z c g).records
      ∙ (λ i. same i + (given-match z).records i)
      ∙ sym (length-append f.flips (flips_given n left z c f).records)

-- steps
pub frames-add : FramesAdd
frames-add n strings x y [] c f g fits sized lf lg same = (refl, refl)
frames-add n strings x y (z ∷ zs) c f g fits sized lf lg same =
    let left : RunPivots = pivots_of strings x in
    let right : RunPivots = pivots_of strings y in
    let sum : RunPivots = pivots_of strings (λ t. x t ⊕ y t) in
    let here : StepFits n z = All-head (StepFits n) z zs fits in
    let later = frames-add n strings x y zs (c + coins_of z) (frame_after n left z c f) (frame_after n right z c g) (All-tail (StepFits n) z zs fits) sized
    (letters-length n left sized z c f lf) (letters-length n right sized z c g lg)
    (after-same n strings x y sized c f g lf lg same z) in
    let next = after-add n strings x y sized c f g lf lg same z here in (
      (λ i. joined (given-add n strings x y sized c f g lf lg same z i) ((ap (flips_over n sum zs (c + coins_of z)) next ∙ later.0) i))
          ∙ sym (flipped-joined (flips_given n left z c f) (flips_over n left zs (c + coins_of z) (frame_after n left z c f))
          (flips_given n right z c g) (flips_over n right zs (c + coins_of z) (frame_after n right z c g)) (given-match n strings x y sized c f g lf lg same z)),
      ap (frame_over n sum zs (c + coins_of z)) next ∙ later.1,
    )
