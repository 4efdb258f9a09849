-- Rows after a gate on one qubit: i times Z times X is the preimage of -Y.
use Rattle.stab_tableau.proofs.Names.{◌≡◌, ℕ, ◌<◌, Bool, true, sym, ◌∙◌, ap, List, length, set, arith, set-get_or, Letter, X, Y, Z, letters_anticommute, Quarter, Half, phase_of_sign, Signed, anticommute, with_sign, product_times_i, Phased, phased, times_phase, phased_product, times_phase-times_phase, times_phase-comm, phased_product-swap, phased-with_sign, anticommute-comm, phased_product-times_phase, Gate, InverseRow, OfX, OfZ, SignedLetter, letter_image, inverse, negated, InverseRows, rows_at, letter_preimage, IsInverseRow, signed_preimage, row_string, with_string, put, rows_exchanged, TakesLetters, IsGated}
use Rattle.stab_tableau.proofs.PairedRowsLemmas.{row-put, put-again}

-- the images of X and Z anticommute

pub opposed-images : (g : Gate) → letters_anticommute (letter_image (inverse g) X).letter (letter_image (inverse g) Z).letter ≡ true
opposed-images g = grind arith

module _ (n : ℕ) (r : InverseRows) (is : IsInverseRow n r) where
  pub opposed_back : anticommute r.z r.x ≡ true
  opposed_back = anticommute-comm r.z r.x ∙ is.opposed

  pub y_of_x : (new : Signed) → new ≡ product_times_i r.x r.z → phased new ≡ letter_preimage n r Y
  y_of_x new e = ap phased e ∙ phased_product-times_phase r.x r.z is.opposed

  -- i times Z times X
  back_product : Phased
  back_product = times_phase Quarter (phased_product (phased r.z) (phased r.x))

  minus_y : back_product ≡ signed_preimage n r (negated Y)
  unfolding back_product
  minus_y =
      ap (times_phase Quarter)
      (phased_product-swap (phased r.z) (phased r.x)
      ∙ ap (λ b. times_phase (phase_of_sign b) (phased_product (phased r.x) (phased r.z))) opposed_back)
      ∙ times_phase-comm Quarter Half (phased_product (phased r.x) (phased r.z))

  pub y_of_z : (mid new : Signed) → mid ≡ product_times_i r.z r.x → new ≡ with_sign true mid → phased new ≡ letter_preimage n r Y
  unfolding back_product
  y_of_z mid new e f =
      ap phased f
      ∙ phased-with_sign true mid
      ∙ ap (times_phase Half) (ap phased e ∙ phased_product-times_phase r.z r.x opposed_back ∙ minus_y)
      ∙ times_phase-times_phase Half Half (letter_preimage n r Y)

-- the same of the rows of a table, by what the program writes one after another

module _ (old : List InverseRows) (q : ℕ) (lt : q < length old) where
  taken : (x z : Letter) (new : List InverseRows) (p : InverseRows) → new ≡ set old q p
      → phased p.x ≡ letter_preimage (length old) (rows_at old q) x → phased p.z ≡ letter_preimage (length old) (rows_at old q) z
      → TakesLetters x z q old new
  taken x z new p e of_x of_z =
      let here : rows_at new q ≡ p = row-put q old new p lt e in
      record { of_x = ap (λ (r : InverseRows). phased r.x) here ∙ of_x; of_z = ap (λ (r : InverseRows). phased r.z) here ∙ of_z; rest = e ∙ ap (set old q) (sym here) }

  pub same-rows : old ≡ set old q (rows_at old q)
  same-rows = sym (set-get_or old q _)

  exchange-again : (new later : List InverseRows) (p : InverseRows) → new ≡ set old q p → later ≡ rows_exchanged OfX q OfZ q new
      → later ≡ set old q (record { x = p.z; z = p.x })
  exchange-again new later p e made =
      made
      ∙ ap (λ (r : InverseRows). put OfZ q r.x (put OfX q r.z new)) (row-put q old new p lt e)
      ∙ put-again OfZ q p.x old (put OfX q p.z new) (record { x = p.z; z = p.z }) lt (put-again OfX q p.z old new p lt e)

  pub exchanged : (x z : Letter) (mid new : List InverseRows) (p : InverseRows) → mid ≡ set old q p → new ≡ rows_exchanged OfX q OfZ q mid
      → phased p.z ≡ letter_preimage (length old) (rows_at old q) x → phased p.x ≡ letter_preimage (length old) (rows_at old q) z
      → TakesLetters x z q old new
  exchanged x z mid new p e made of_x of_z = taken x z new (record { x = p.z; z = p.x }) (exchange-again mid new p e made) of_x of_z

  pub negate-again : (w : InverseRow) (b : Bool) (new later : List InverseRows) (p : InverseRows) → new ≡ set old q p
      → later ≡ put w q (with_sign b (row_string w (rows_at new q))) new
      → later ≡ set old q (with_string w (with_sign b (row_string w p)) p)
  negate-again w b new later p e made =
      made
      ∙ ap (λ r. put w q (with_sign b (row_string w r)) new) (row-put q old new p lt e)
      ∙ put-again w q (with_sign b (row_string w p)) old new p lt e

  -- the letters of the images backwards, and then their signs
  pub is-gated : (g : Gate) (x z : SignedLetter) → x ≡ letter_image (inverse g) X → z ≡ letter_image (inverse g) Z
      → (first mid new : List InverseRows) → TakesLetters x.letter z.letter q old first
      → mid ≡ put OfX q (with_sign x.negative (row_string OfX (rows_at first q))) first
      → new ≡ put OfZ q (with_sign z.negative (row_string OfZ (rows_at mid q))) mid
      → IsGated g q old new
  is-gated g x z of_x of_z first mid new has e f =
      let p : InverseRows = rows_at first q in
      let all : new ≡ set old q (record { x = with_sign x.negative p.x; z = with_sign z.negative p.z }) =
      negate-again OfZ z.negative mid new _ (negate-again OfX x.negative first mid p has.rest e) f in
      let here = row-put q old new (record { x = with_sign x.negative p.x; z = with_sign z.negative p.z }) lt all in
      record {
        row = record {
          x =
              ap (λ (r : InverseRows). phased r.x) here
              ∙ phased-with_sign x.negative p.x
              ∙ ap (times_phase (phase_of_sign x.negative)) has.of_x
              ∙ ap (signed_preimage (length old) (rows_at old q)) of_x;
          z =
              ap (λ (r : InverseRows). phased r.z) here
              ∙ phased-with_sign z.negative p.z
              ∙ ap (times_phase (phase_of_sign z.negative)) has.of_z
              ∙ ap (signed_preimage (length old) (rows_at old q)) of_z;
        };
        rest = all ∙ ap (set old q) (sym here);
      }
