-- Tables whose rows differ in their signs alone: which strings stabilise, and when both have one group.
use Rattle.stab_tableau.proofs.Names.{◌≡◌, ℕ, suc, ◌<◌, Bool, true, false, refl, sym, ◌∙◌, ap, List, [], ◌∷◌, length, get_or, arith, Letter, I, X, Y, Z, Quarter, phase_of_sign, ◌⊕◌, letters_anticommute, Signed, minus, with_sign, strings_anticommute, Phased, plain, phased, times_phase, phased_product, phase_of_sign-parity, strings_anticommute-comm, times_phase-times_phase, times_phase-comm, phased_product-times_phase_left, phased_product-times_phase_right, signed_path, phased-with_sign, clash, diagonal, InverseRows, blank, letter_preimage, string_preimage, extend, IsInverseTable, IsOnto, stabilises_zeros, stabilises, letter_anticommuting, column, stabiliser_of, SameGroup, SameLetters, sign_frame}
use Rattle.stab_tableau.proofs.HomomorphismLemmas.{extend-times_phase, preserved-anticommute}
use Rattle.stab_tableau.proofs.OneLetterLemmas.{one_letter-anticommute}
use Rattle.stab_tableau.proofs.DiagonalLemmas.{diagonal-commute}
use Rattle.stab_tableau.proofs.TestLemmas.{not-true}
use Rattle.stab_tableau.proofs.StabiliseLemmas.{zeros-letters, diagonal-from}
use Rattle.stab_tableau.proofs.ColumnLemmas.{letter_anticommuting-X, letter_anticommuting-Z, length-column_n, column-preimage}
use Rattle.stab_tableau.proofs.GeneratedLemmas.{stabiliser-length, stabiliser-member}
use Rattle.stab_tableau.proofs.GroupTestLemmas.{group-stabilises}

pub length-frame : (rows others : List InverseRows) → SameLetters rows others → length (sign_frame rows others) ≡ length rows
length-frame [] [] s = refl
length-frame [] (r ∷ others) s = refl
length-frame (r ∷ rows) [] s = absurd s
length-frame (r ∷ rows) (t ∷ others) s = ap suc (length-frame rows others s.2)

-- one letter

by-Y : (a b : Bool) → letters_anticommute (letter_anticommuting a b) Y ≡ a ⊕ b
by-Y a b = grind arith

by-I : (a b : Bool) → letters_anticommute (letter_anticommuting a b) I ≡ false
by-I a b = grind arith

-- a string with the same letters is that one with the sign flipped if the signs differ
other-sign : (p q : Signed) → p.letters ≡ q.letters → phased q ≡ times_phase (phase_of_sign (p.negative ⊕ q.negative)) (phased p)
other-sign p q e =
    ap phased (signed_path q (with_sign (p.negative ⊕ q.negative) p) (back p.negative q.negative) (sym e))
    ∙ phased-with_sign (p.negative ⊕ q.negative) p
  where
    back : (a b : Bool) → b ≡ (a ⊕ b) ⊕ a
    back a b = grind arith

-- signs of two factors
pub times_phase_both : (a b : Bool) (p q : Phased) → phased_product (times_phase (phase_of_sign a) p) (times_phase (phase_of_sign b) q) ≡ times_phase (phase_of_sign (a ⊕ b)) (phased_product p q)
times_phase_both a b p q =
    phased_product-times_phase_left (phase_of_sign a) p (times_phase (phase_of_sign b) q)
    ∙ ap (times_phase (phase_of_sign a)) (phased_product-times_phase_right (phase_of_sign b) p q)
    ∙ times_phase-times_phase (phase_of_sign a) (phase_of_sign b) (phased_product p q)
    ∙ ap (λ t. times_phase t (phased_product p q)) (sym (phase_of_sign-parity a b))

frame-letter : (n : ℕ) (r s : InverseRows) → r.x.letters ≡ s.x.letters → r.z.letters ≡ s.z.letters → (l : Letter)
    → letter_preimage n s l ≡ times_phase (phase_of_sign (letters_anticommute (letter_anticommuting (r.x.negative ⊕ s.x.negative) (r.z.negative ⊕ s.z.negative)) l)) (letter_preimage n r l)
frame-letter n r s ex ez I = ap (λ b. times_phase (phase_of_sign b) (plain (blank n))) (sym (by-I (r.x.negative ⊕ s.x.negative) (r.z.negative ⊕ s.z.negative)))
frame-letter n r s ex ez X =
    other-sign r.x s.x ex ∙ ap (λ b. times_phase (phase_of_sign b) (phased r.x)) (sym (letter_anticommuting-X (r.x.negative ⊕ s.x.negative) (r.z.negative ⊕ s.z.negative)))
frame-letter n r s ex ez Z =
    other-sign r.z s.z ez ∙ ap (λ b. times_phase (phase_of_sign b) (phased r.z)) (sym (letter_anticommuting-Z (r.x.negative ⊕ s.x.negative) (r.z.negative ⊕ s.z.negative)))
frame-letter n r s ex ez Y =
    (λ i. times_phase Quarter (phased_product (other-sign r.x s.x ex i) (other-sign r.z s.z ez i)))
    ∙ ap (times_phase Quarter) (times_phase_both (r.x.negative ⊕ s.x.negative) (r.z.negative ⊕ s.z.negative) (phased r.x) (phased r.z))
    ∙ times_phase-comm Quarter (phase_of_sign ((r.x.negative ⊕ s.x.negative) ⊕ (r.z.negative ⊕ s.z.negative))) (phased_product (phased r.x) (phased r.z))
    ∙ ap (λ b. times_phase (phase_of_sign b) (letter_preimage n r Y)) (sym (by-Y (r.x.negative ⊕ s.x.negative) (r.z.negative ⊕ s.z.negative)))

-- the preimage of a string takes the other sign if the string anticommutes with the frame
pub frame-preimage : (n : ℕ) (rows others : List InverseRows) → SameLetters rows others → (p : List Letter)
    → string_preimage n others p ≡ times_phase (phase_of_sign (strings_anticommute (sign_frame rows others) p)) (string_preimage n rows p)
frame-preimage n [] [] s p = refl
frame-preimage n [] (t ∷ others) s p = absurd s
frame-preimage n (r ∷ rows) [] s p = absurd s
frame-preimage n (r ∷ rows) (t ∷ others) s [] = refl
frame-preimage n (r ∷ rows) (t ∷ others) s (l ∷ p) =
    (λ i. phased_product (frame-letter n r t s.0 s.1 l i) (frame-preimage n rows others s.2 p i))
    ∙ times_phase_both (letters_anticommute (letter_anticommuting (r.x.negative ⊕ t.x.negative) (r.z.negative ⊕ t.z.negative)) l) (strings_anticommute (sign_frame rows others) p)
    (letter_preimage n r l) (string_preimage n rows p)

-- so a string stabilises the one state if and only if it, with the other sign if it anticommutes with the frame, stabilises the other
pub frame-stabilises : (n : ℕ) (rows others : List InverseRows) → SameLetters rows others → (p : Signed)
    → stabilises (record { qubits = n; rows = others }) p
    ≡ stabilises (record { qubits = n; rows = rows }) (with_sign (strings_anticommute (sign_frame rows others) p.letters) p)
frame-stabilises n rows others s p = ap stabilises_zeros whole
  where
    whole : extend (string_preimage n others) (phased p)
        ≡ extend (string_preimage n rows) (phased (with_sign (strings_anticommute (sign_frame rows others) p.letters) p))
    whole =
        ap (times_phase (phase_of_sign p.negative)) (frame-preimage n rows others s p.letters)
        ∙ times_phase-comm (phase_of_sign p.negative) (phase_of_sign (strings_anticommute (sign_frame rows others) p.letters)) (string_preimage n rows p.letters)
        ∙ sym (extend-times_phase (string_preimage n rows) (phase_of_sign (strings_anticommute (sign_frame rows others) p.letters)) (phased p))
        ∙ ap (extend (string_preimage n rows)) (sym (phased-with_sign (strings_anticommute (sign_frame rows others) p.letters) p))

-- the groups are the same if the frame's preimage has letters I and Z alone

module _ (n : ℕ) (rows others : List InverseRows) (is : IsInverseTable n rows) (onto : IsOnto n rows) (s : SameLetters rows others) where
  length-frame_n : length (sign_frame rows others) ≡ n
  length-frame_n = length-frame rows others s ∙ is.count

  -- the frame and a string anticommute if their preimages do
  frame-preserved : (p : List Letter) → length p ≡ n
      → strings_anticommute (string_preimage n rows (sign_frame rows others)).letters (string_preimage n rows p).letters
      ≡ strings_anticommute (sign_frame rows others) p
  frame-preserved p lp = preserved-anticommute n n (string_preimage n rows) is.keeps (sign_frame rows others) p length-frame_n lp

  pub frame-same : diagonal (string_preimage n rows (sign_frame rows others)).letters ≡ true
      → SameGroup n (stabilises (record { qubits = n; rows = rows })) (stabilises (record { qubits = n; rows = others }))
  frame-same d p lp = by_sign (strings_anticommute (sign_frame rows others) p.letters) refl ∙ sym (frame-stabilises n rows others s p)
    where
      neither : (q : Signed) → q.letters ≡ p.letters → strings_anticommute (sign_frame rows others) p.letters ≡ true
          → stabilises (record { qubits = n; rows = rows }) q ≡ false
      neither q e a =
          not-true (stabilises (record { qubits = n; rows = rows }) q)
          (λ m. let c : strings_anticommute (sign_frame rows others) p.letters ≡ false =
          sym (frame-preserved p.letters lp)
          ∙ diagonal-commute (string_preimage n rows (sign_frame rows others)).letters (string_preimage n rows p.letters).letters d
          (ap (λ p. diagonal (string_preimage n rows p).letters) (sym e)
          ∙ zeros-letters (extend (string_preimage n rows) (phased q)) m) in cc)

      by_sign : (b : Bool) → strings_anticommute (sign_frame rows others) p.letters ≡ b
          → stabilises (record { qubits = n; rows = rows }) p
          ≡ stabilises (record { qubits = n; rows = rows }) (with_sign (strings_anticommute (sign_frame rows others) p.letters) p)
      by_sign false e = ap (λ b. stabilises (record { qubits = n; rows = rows }) (with_sign b p)) (sym e)
      by_sign true e = neither p refl e ∙ sym (neither (with_sign (strings_anticommute (sign_frame rows others) p.letters) p) refl e)

  -- and only there: the frame commutes with each stabiliser
  pub same-frame : SameGroup n (stabilises (record { qubits = n; rows = rows })) (stabilises (record { qubits = n; rows = others }))
      → diagonal (string_preimage n rows (sign_frame rows others)).letters ≡ true
  same-frame same =
      diagonal-from (string_preimage n rows (sign_frame rows others)).letters
      (λ k lt. at k (let e = is.keeps.size (sign_frame rows others) length-frame_n in omega arith))
    where
      commutes : (k : ℕ) → k < n → strings_anticommute (sign_frame rows others) (column Z k rows) ≡ false
      commutes k lt = by_sign (strings_anticommute (sign_frame rows others) (column Z k rows)) refl
        where
          moved : stabilises (record { qubits = n; rows = rows })
              (with_sign (strings_anticommute (sign_frame rows others) (column Z k rows)) (stabiliser_of (record { qubits = n; rows = rows }) k)) ≡ true
          moved =
              sym (frame-stabilises n rows others s (stabiliser_of (record { qubits = n; rows = rows }) k))
              ∙ sym (same (stabiliser_of (record { qubits = n; rows = rows }) k) (stabiliser-length (record { qubits = n; rows = rows }) is onto k lt))
              ∙ stabiliser-member (record { qubits = n; rows = rows }) is onto k lt

          by_sign : (b : Bool) → strings_anticommute (sign_frame rows others) (column Z k rows) ≡ b
              → strings_anticommute (sign_frame rows others) (column Z k rows) ≡ false
          by_sign false e = e
          by_sign true e =
              absurd (clash (stabilises (record { qubits = n; rows = rows }) (minus (stabiliser_of (record { qubits = n; rows = rows }) k)))
              (ap (λ b. stabilises (record { qubits = n; rows = rows }) (with_sign b (stabiliser_of (record { qubits = n; rows = rows }) k))) (sym e) ∙ moved)
              ((group-stabilises (record { qubits = n; rows = rows }) is).one_sign (stabiliser_of (record { qubits = n; rows = rows }) k)
              (stabiliser-length (record { qubits = n; rows = rows }) is onto k lt) (stabiliser-member (record { qubits = n; rows = rows }) is onto k lt)))

      at : (k : ℕ) → k < n → letters_anticommute Z (get_or (string_preimage n rows (sign_frame rows others)).letters k I) ≡ false
      at k lt =
          sym (one_letter-anticommute n k Z (string_preimage n rows (sign_frame rows others)).letters (is.keeps.size (sign_frame rows others) length-frame_n) lt)
          ∙ strings_anticommute-comm _ (string_preimage n rows (sign_frame rows others)).letters
          ∙ ap (strings_anticommute (string_preimage n rows (sign_frame rows others)).letters) (sym (column-preimage n rows is onto Z k lt))
          ∙ frame-preserved (column Z k rows) (length-column_n n rows is onto Z k lt)
          ∙ commutes k lt
