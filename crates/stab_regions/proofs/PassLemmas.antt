-- Passes: what a letter in front of a step flips, said by letters after it.
use Rattle.stab_regions.proofs.Names.{◌≡◌, ◌≢◌, ℕ, ◌<◌, ◌≤◌, refl, sym, ap, ◌∙◌, arith, Bool, true, false, not, ◌&&◌, List, [], ◌∷◌, length, set, get_or-set_same, get_or-set_other, length-set, parity-false, Letter, I, ◌⊕◌, letters_anticommute, Factor, letter_of, is_on, names_twice, Signed, single, with_sign, anticommute, Gate, PairGate, letter_image, letter_at, inverse, pair_letters, back, length-one_letter, here_one_letter, off_one_letter, one_letter-anticommute, length-replicate, replicate, or-left, Step, one, two, controlled, collapse, product, detector, observable, detectors_of, string_of, length-string_of, flip_of, Region, names_newest, region_before, parity_region, parity_preserved, parity_flips, detectors_before, nat_lt, X, Y, Z, strings_anticommute-blank_right}
use Rattle.stab_regions.proofs.FramePointLemmas.{moved-gate, moved-pair, anticommute-times_right}
use Rattle.stab_regions.proofs.MoveLemmas.{long-parity, region_where}
use Rattle.stab_regions.proofs.FactorLemmas.{blank-at, letter-off}
use Rattle.stab_regions.proofs.NegatedLemmas.{next-of, preserved-here}
use Rattle.stab_gates.proofs.LetterLemmas.{letters_anticommute-I}

-- letters, through gates

alone : Letter → Signed
alone l = record { negative = false; letters = l ∷ [] }

together : Letter → Letter → Signed
together l m = record { negative = false; letters = l ∷ m ∷ [] }

meets-image : (g : Gate) (k s : Letter) → letters_anticommute k (letter_image (inverse g) s).letter ≡ letters_anticommute (letter_image g k).letter s
unfolding alone
meets-image g k s =
    sym (parity-false (letters_anticommute k (letter_image (inverse g) s).letter))
    ∙ sym (moved-gate 1 0 g (alone k) (alone s) refl refl)
    ∙ parity-false (letters_anticommute (letter_image g k).letter s)

-- the letters that a gate on two qubits makes of these
abbrev pub first_image : PairGate → Letter → Letter → Letter
first_image g l m = letter_at (pair_letters g l m).letters 0

abbrev pub second_image : PairGate → Letter → Letter → Letter
second_image g l m = letter_at (pair_letters g l m).letters 1

meets-pair : (g : PairGate) (k l s r : Letter)
    → letters_anticommute k (first_image g s r) ⊕ letters_anticommute l (second_image g s r) ≡ letters_anticommute (first_image g k l) s ⊕ letters_anticommute (second_image g k l) r
unfolding together
meets-pair g k l s r =
    ap (λ b. letters_anticommute k (first_image g s r) ⊕ b) (sym (parity-false (letters_anticommute l (second_image g s r))))
    ∙ sym (moved-pair 2 0 1 g (omega arith) (omega arith) (λ e. absurd (omega (arith, e))) (together k l) (together s r) refl refl)
    ∙ ap (λ b. letters_anticommute (first_image g k l) s ⊕ b) (parity-false (letters_anticommute (second_image g k l) r))

meets-first : (g : PairGate) (k s r : Letter) → letters_anticommute k (first_image g s r) ≡ letters_anticommute (first_image g k I) s ⊕ letters_anticommute (second_image g k I) r
meets-first g k s r = sym (parity-false (letters_anticommute k (first_image g s r))) ∙ meets-pair g k I s r

meets-second : (g : PairGate) (k s r : Letter) → letters_anticommute k (second_image g s r) ≡ letters_anticommute (first_image g I k) s ⊕ letters_anticommute (second_image g I k) r
meets-second g k s r = meets-pair g I k s r

-- letters and what is measured

-- a letter that anticommutes with what a reset measures flips nothing, if the region commutes with it
reset-absorbs : (l k s : Letter) → letters_anticommute k l ≡ true → letters_anticommute l s ≡ false → letters_anticommute (flip_of l) s ⊕ letters_anticommute k s ≡ false
reset-absorbs l k s other same = grind arith

-- the letter of a product on a qubit

first-letter : (n : ℕ) (f : Factor) (fs : List Factor) → f.qubit < n → names_twice (f ∷ fs) ≡ false → letter_at (string_of n (f ∷ fs)).letters f.qubit ≡ letter_of f.letter
first-letter n f fs lt distinct =
    letter-off f.qubit fs (set (replicate n I) f.qubit (letter_of f.letter)) (or-left (is_on f.qubit fs) (names_twice fs) distinct)
    ∙ get_or-set_same (replicate n I) f.qubit (letter_of f.letter) I (let e = length-replicate n I in omega (arith, lt))

module _ (n D i : ℕ) where
  -- a letter flips a parity if it anticommutes with the letter of its region there
  pub flips-letter : (k : Letter) (p : ℕ) (back : List Step) → p < n → parity_flips n D i k p back ≡ letters_anticommute k (letter_at (parity_region n D i back).string.letters p)
  flips-letter k p back lt = one_letter-anticommute n p k (parity_region n D i back).string.letters (long-parity n D i back) lt

  pub none-flips : (p : ℕ) (back : List Step) → p < n → parity_flips n D i I p back ≡ false
  none-flips p back lt = flips-letter I p back lt

  pub y-flips : (p : ℕ) (back : List Step) → p < n → parity_flips n D i Y p back ≡ parity_flips n D i X p back ⊕ parity_flips n D i Z p back
  y-flips p back lt =
      flips-letter Y p back lt
      ∙ both (letter_at (parity_region n D i back).string.letters p)
      ∙ (λ t. sym (flips-letter X p back lt) t ⊕ sym (flips-letter Z p back lt) t)
    where
      both : (s : Letter) → letters_anticommute Y s ≡ letters_anticommute X s ⊕ letters_anticommute Z s
      both s = grind arith

  -- after all steps it flips nothing
  pub end-flips : (k : Letter) (p : ℕ) → parity_flips n D i k p [] ≡ false
  end-flips k p = by_site (nat_lt i D) (nat_lt i (detectors_before D []))
    where
      by_site : (b c : Bool) → anticommute (single n p k) (region_where n D i [] b c).string ≡ false
      by_site true true = strings_anticommute-blank_right n (single n p k).letters
      by_site true false = strings_anticommute-blank_right n (single n p k).letters
      by_site false c = strings_anticommute-blank_right n (single n p k).letters

  module _ (back : List Step) where
    abbrev letters : List Letter
    letters = (parity_region n D i back).string.letters

    long : length letters ≡ n
    long = long-parity n D i back

    -- by the region in front of a step
    by-letter : (x : Step) (k : Letter) (p : ℕ) → p < n → detectors_of (x ∷ back) ≤ D
        → parity_flips n D i k p (x ∷ back) ≡ letters_anticommute k (letter_at (region_before n x (parity_region n D i back)).string.letters p)
    by-letter x k p lt few =
        flips-letter k p (x ∷ back) lt ∙ ap (λ (r : Region). letters_anticommute k (letter_at r.string.letters p)) (next-of n D i x back few).region

    by-string : (x : Step) (k : Letter) (p : ℕ) → detectors_of (x ∷ back) ≤ D
        → parity_flips n D i k p (x ∷ back) ≡ anticommute (single n p k) (region_before n x (parity_region n D i back)).string
    by-string x k p few = ap (λ (r : Region). anticommute (single n p k) r.string) (next-of n D i x back few).region

    -- gates on one qubit

    pub one-flips : (g : Gate) (k : Letter) (q : ℕ) → q < n → detectors_of (one g q ∷ back) ≤ D
        → parity_flips n D i k q (one g q ∷ back) ≡ parity_flips n D i (letter_image g k).letter q back
    one-flips g k q lt few =
        by-letter (one g q) k q lt few
        ∙ ap (letters_anticommute k) (get_or-set_same letters q (letter_image (inverse g) (letter_at letters q)).letter I (omega (arith, lt, long)))
        ∙ meets-image g k (letter_at letters q)
        ∙ sym (flips-letter (letter_image g k).letter q back lt)

    pub one-other : (g : Gate) (k : Letter) (q p : ℕ) → p < n → p ≢ q → detectors_of (one g q ∷ back) ≤ D → parity_flips n D i k p (one g q ∷ back) ≡ parity_flips n D i k p back
    one-other g k q p lt distinct few =
        by-letter (one g q) k p lt few
        ∙ ap (letters_anticommute k) (get_or-set_other letters q p (letter_image (inverse g) (letter_at letters q)).letter I distinct)
        ∙ sym (flips-letter k p back lt)

    -- gates on two qubits

    module _ (g : PairGate) (a b : ℕ) (lt_a : a < n) (lt_b : b < n) (distinct : b ≢ a) (few : detectors_of (two g a b ∷ back) ≤ D) where
      abbrev first : Letter
      first = first_image g (letter_at letters a) (letter_at letters b)

      abbrev second : Letter
      second = second_image g (letter_at letters a) (letter_at letters b)

      pub first-flips : (k : Letter) → parity_flips n D i k a (two g a b ∷ back) ≡ parity_flips n D i (first_image g k I) a back ⊕ parity_flips n D i (second_image g k I) b back
      first-flips k =
          by-letter (two g a b) k a lt_a few
          ∙ ap (letters_anticommute k)
          (get_or-set_other (set letters a first) b a second I (λ e. distinct (sym e)) ∙ get_or-set_same letters a first I (omega (arith, lt_a, long)))
          ∙ meets-first g k (letter_at letters a) (letter_at letters b)
          ∙ (λ t. sym (flips-letter (first_image g k I) a back lt_a) t ⊕ sym (flips-letter (second_image g k I) b back lt_b) t)

      pub second-flips : (k : Letter) → parity_flips n D i k b (two g a b ∷ back) ≡ parity_flips n D i (first_image g I k) a back ⊕ parity_flips n D i (second_image g I k) b back
      second-flips k =
          by-letter (two g a b) k b lt_b few
          ∙ ap (letters_anticommute k)
          (get_or-set_same (set letters a first) b second I (omega (arith, lt_b, long, length-set letters a first)))
          ∙ meets-second g k (letter_at letters a) (letter_at letters b)
          ∙ (λ t. sym (flips-letter (first_image g I k) a back lt_a) t ⊕ sym (flips-letter (second_image g I k) b back lt_b) t)

      pub pair-other : (k : Letter) (p : ℕ) → p < n → p ≢ a → p ≢ b → parity_flips n D i k p (two g a b ∷ back) ≡ parity_flips n D i k p back
      pair-other k p lt off_a off_b =
          by-letter (two g a b) k p lt few
          ∙ ap (letters_anticommute k) (get_or-set_other (set letters a first) b p second I off_b ∙ get_or-set_other letters a p first I off_a)
          ∙ sym (flips-letter k p back lt)

    -- steps that leave the string as it is

    pub controlled-passes : (l : Letter) (j q : ℕ) (k : Letter) (p : ℕ) → detectors_of (controlled l j q ∷ back) ≤ D → parity_flips n D i k p (controlled l j q ∷ back) ≡ parity_flips n D i k p back
    controlled-passes l j q k p few = by-string (controlled l j q) k p few

    pub detector-passes : (ks : List ℕ) (k : Letter) (p : ℕ) → detectors_of (detector ks ∷ back) ≤ D → parity_flips n D i k p (detector ks ∷ back) ≡ parity_flips n D i k p back
    detector-passes ks k p few = by-string (detector ks) k p few

    pub observable-passes : (j : ℕ) (ks : List ℕ) (k : Letter) (p : ℕ) → detectors_of (observable j ks ∷ back) ≤ D → parity_flips n D i k p (observable j ks ∷ back) ≡ parity_flips n D i k p back
    observable-passes j ks k p few = by-string (observable j ks) k p few

    -- measurements: a letter that anticommutes with what is measured flips what the outcome does besides

    abbrev named : Bool
    named = names_newest (parity_region n D i back).looks

    pub collapse-flips : (l : Letter) (q : ℕ) (recorded inverted resets : Bool) (k : Letter) (p : ℕ) → detectors_of (collapse l q recorded inverted resets ∷ back) ≤ D
        → parity_flips n D i k p (collapse l q recorded inverted resets ∷ back)
        ≡ (((recorded && named) ⊕ (resets && parity_flips n D i (flip_of l) q back)) && anticommute (single n p k) (single n q l)) ⊕ parity_flips n D i k p back
    collapse-flips l q recorded inverted resets k p few =
        by-string (collapse l q recorded inverted resets) k p few
        ∙ anticommute-times_right ((recorded && named) ⊕ (resets && parity_flips n D i (flip_of l) q back)) (single n p k) (single n q l)
        (with_sign ((recorded && named) && inverted) (parity_region n D i back).string)

    pub product-flips : (factors : List Factor) (inverted : Bool) (k : Letter) (p : ℕ) → detectors_of (product factors inverted ∷ back) ≤ D
        → parity_flips n D i k p (product factors inverted ∷ back) ≡ ((named ⊕ false) && anticommute (single n p k) (string_of n factors)) ⊕ parity_flips n D i k p back
    product-flips factors inverted k p few =
        by-string (product factors inverted) k p few
        ∙ anticommute-times_right (named ⊕ false) (single n p k) (string_of n factors) (with_sign (named && inverted) (parity_region n D i back).string)

    passes-beside : (b : Bool) (k : Letter) (p : ℕ) (m : Signed) → anticommute (single n p k) m ≡ false
        → (b && anticommute (single n p k) m) ⊕ parity_flips n D i k p back ≡ parity_flips n D i k p back
    passes-beside b k p m e = ap (λ c. (b && c) ⊕ parity_flips n D i k p back) e ∙ ap (λ c. c ⊕ parity_flips n D i k p back) (none b)
      where
        none : (b : Bool) → (b && false) ≡ false
        none true = refl
        none false = refl

    -- one that is beside it passes
    pub collapse-other : (l : Letter) (q : ℕ) (recorded inverted resets : Bool) (k : Letter) (p : ℕ) → p < n → p ≢ q → detectors_of (collapse l q recorded inverted resets ∷ back) ≤ D
        → parity_flips n D i k p (collapse l q recorded inverted resets ∷ back) ≡ parity_flips n D i k p back
    collapse-other l q recorded inverted resets k p lt distinct few =
        collapse-flips l q recorded inverted resets k p few
        ∙ passes-beside ((recorded && named) ⊕ (resets && parity_flips n D i (flip_of l) q back)) k p (single n q l)
        (one_letter-anticommute n p k (single n q l).letters (length-one_letter n q l) lt ∙ ap (letters_anticommute k) (off_one_letter n q p l distinct) ∙ letters_anticommute-I k)

    pub product-other : (factors : List Factor) (inverted : Bool) (k : Letter) (p : ℕ) → p < n → is_on p factors ≡ false → detectors_of (product factors inverted ∷ back) ≤ D
        → parity_flips n D i k p (product factors inverted ∷ back) ≡ parity_flips n D i k p back
    product-other factors inverted k p lt off few =
        product-flips factors inverted k p few
        ∙ passes-beside (named ⊕ false) k p (string_of n factors)
        (one_letter-anticommute n p k (string_of n factors).letters (length-string_of n factors) lt
        ∙ ap (letters_anticommute k) (letter-off p factors (replicate n I) off ∙ blank-at n p) ∙ letters_anticommute-I k)

    module _ (l : Letter) (q : ℕ) (lt : q < n) where
      meets-measured : (k : Letter) → anticommute (single n q k) (single n q l) ≡ letters_anticommute k l
      meets-measured k = one_letter-anticommute n q k (single n q l).letters (length-one_letter n q l) lt ∙ ap (letters_anticommute k) (here_one_letter n q l lt)

      -- a measurement without a record passes a letter on if it resets nothing, or if the letter commutes with what it measures; else the letter flips nothing

      pub unrecorded-passes : (inverted : Bool) (k : Letter) → detectors_of (collapse l q false inverted false ∷ back) ≤ D
          → parity_flips n D i k q (collapse l q false inverted false ∷ back) ≡ parity_flips n D i k q back
      unrecorded-passes inverted k few = collapse-flips l q false inverted false k q few

      pub reset-passes : (inverted : Bool) (k : Letter) → letters_anticommute k l ≡ false → detectors_of (collapse l q false inverted true ∷ back) ≤ D
          → parity_flips n D i k q (collapse l q false inverted true ∷ back) ≡ parity_flips n D i k q back
      reset-passes inverted k beside few =
          collapse-flips l q false inverted true k q few
          ∙ passes-beside (parity_flips n D i (flip_of l) q back) k q (single n q l) (meets-measured k ∙ beside)

      pub reset-stops : (inverted : Bool) (k : Letter) → letters_anticommute k l ≡ true → detectors_of (collapse l q false inverted true ∷ back) ≤ D
          → parity_preserved n D i (collapse l q false inverted true ∷ back) ≡ true → parity_flips n D i k q (collapse l q false inverted true ∷ back) ≡ false
      reset-stops inverted k other few preserved =
          collapse-flips l q false inverted true k q few
          ∙ ap (λ c. (parity_flips n D i (flip_of l) q back && c) ⊕ parity_flips n D i k q back) (meets-measured k ∙ other)
          ∙ whole (parity_flips n D i (flip_of l) q back) (parity_flips n D i k q back)
          ∙ (λ t. flips-letter (flip_of l) q back lt t ⊕ flips-letter k q back lt t)
          ∙ reset-absorbs l k (letter_at letters q) other
          (sym (flips-letter l q back lt) ∙ off (parity_flips n D i l q back) (preserved-here n D i (collapse l q false inverted true) back few preserved))
        where
          whole : (a b : Bool) → (a && true) ⊕ b ≡ a ⊕ b
          whole a b = grind arith

          off : (b : Bool) → not b ≡ true → b ≡ false
          off b e = grind arith

      -- the letters of a wrong record flip what names the record

      pub wrong-measured : (inverted : Bool) → letters_anticommute (flip_of l) l ≡ true → detectors_of (collapse l q true inverted false ∷ back) ≤ D
          → parity_flips n D i (flip_of l) q (collapse l q true inverted false ∷ back) ⊕ parity_flips n D i (flip_of l) q back ≡ named
      wrong-measured inverted other few =
          ap (λ b. b ⊕ parity_flips n D i (flip_of l) q back)
          (collapse-flips l q true inverted false (flip_of l) q few ∙ ap (λ c. ((named ⊕ false) && c) ⊕ parity_flips n D i (flip_of l) q back) (meets-measured (flip_of l) ∙ other))
          ∙ taken_back named (parity_flips n D i (flip_of l) q back)
        where
          taken_back : (a b : Bool) → (((a ⊕ false) && true) ⊕ b) ⊕ b ≡ a
          taken_back a b = grind arith

      pub wrong-reset : (inverted : Bool) → letters_anticommute (flip_of l) l ≡ true → detectors_of (collapse l q true inverted true ∷ back) ≤ D
          → parity_flips n D i (flip_of l) q (collapse l q true inverted true ∷ back) ≡ named
      wrong-reset inverted other few =
          collapse-flips l q true inverted true (flip_of l) q few
          ∙ ap (λ c. ((named ⊕ parity_flips n D i (flip_of l) q back) && c) ⊕ parity_flips n D i (flip_of l) q back) (meets-measured (flip_of l) ∙ other)
          ∙ taken_back named (parity_flips n D i (flip_of l) q back)
        where
          taken_back : (a b : Bool) → ((a ⊕ b) && true) ⊕ b ≡ a
          taken_back a b = grind arith

    pub wrong-product : (f : Factor) (fs : List Factor) (inverted : Bool) → f.qubit < n → names_twice (f ∷ fs) ≡ false → letters_anticommute (flip_of (letter_of f.letter)) (letter_of f.letter) ≡ true
        → detectors_of (product (f ∷ fs) inverted ∷ back) ≤ D
        → parity_flips n D i (flip_of (letter_of f.letter)) f.qubit (product (f ∷ fs) inverted ∷ back) ⊕ parity_flips n D i (flip_of (letter_of f.letter)) f.qubit back ≡ named
    wrong-product f fs inverted lt distinct other few =
        let k : Letter = flip_of (letter_of f.letter) in
        ap (λ b. b ⊕ parity_flips n D i k f.qubit back)
        (product-flips (f ∷ fs) inverted k f.qubit few
        ∙ ap (λ c. ((named ⊕ false) && c) ⊕ parity_flips n D i k f.qubit back)
        (one_letter-anticommute n f.qubit k (string_of n (f ∷ fs)).letters (length-string_of n (f ∷ fs)) lt
        ∙ ap (letters_anticommute k) (first-letter n f fs lt distinct) ∙ other))
        ∙ taken_back named (parity_flips n D i k f.qubit back)
      where
        taken_back : (a b : Bool) → (((a ⊕ false) && true) ⊕ b) ⊕ b ≡ a
        taken_back a b = grind arith
