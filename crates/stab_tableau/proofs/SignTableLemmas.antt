-- Rows that differ in their signs alone from those of a table are a table too.
use Rattle.stab_tableau.proofs.Names.{◌≡◌, ℕ, zero, suc, Bool, refl, sym, ◌∙◌, ap, List, [], ◌∷◌, length, Letter, phase_of_sign, strings_anticommute, string_product, Phased, plain, times_phase, phased_product, parity-self, phase_of_sign-parity, strings_anticommute-blank_right, strings_anticommute-product_right, times_phase-times_phase, times_phase-comm, times_phase-plain, InverseRows, IsOver, IsHomomorphism, IsInverseTable, IsOnto, blank, rows_at, string_preimage, extend, SameLetters, sign_frame}
use Rattle.stab_tableau.proofs.HomomorphismLemmas.{extend-times_phase, after-homomorphism, same-homomorphism}
use Rattle.stab_tableau.proofs.SignFrameLemmas.{frame-preimage, times_phase_both}

-- a string with its sign flipped if it anticommutes with another
abbrev conjugated : List Letter → List Letter → Phased
conjugated f p = times_phase (phase_of_sign (strings_anticommute f p)) (plain p)

conjugated-homomorphism : (n : ℕ) (f : List Letter) → IsHomomorphism n n (conjugated f)
conjugated-homomorphism n f = record {
  unit = ap (λ b. times_phase (phase_of_sign b) (plain (blank n))) (strings_anticommute-blank_right n f);
  product = λ p q lp lq.
      times_phase-comm (phased_product (plain p) (plain q)).phase (phase_of_sign (strings_anticommute f (string_product p q))) (plain (string_product p q))
      ∙ ap (times_phase (phase_of_sign (strings_anticommute f (string_product p q)))) (times_phase-plain (phased_product (plain p) (plain q)))
      ∙ ap (λ b. times_phase (phase_of_sign b) (phased_product (plain p) (plain q))) (strings_anticommute-product_right f p q)
      ∙ sym (times_phase_both (strings_anticommute f p) (strings_anticommute f q) (plain p) (plain q));
  size = λ p lp. lp;
}

same-over : (n : ℕ) (rows others : List InverseRows) → SameLetters rows others → (q : ℕ) → IsOver n (rows_at rows q) → IsOver n (rows_at others q)
same-over n [] [] s q is = is
same-over n [] (t ∷ others) s q is = absurd s
same-over n (r ∷ rows) [] s q is = absurd s
same-over n (r ∷ rows) (t ∷ others) s zero is = record { x = ap length (sym s.0) ∙ is.x; z = ap length (sym s.1) ∙ is.z }
same-over n (r ∷ rows) (t ∷ others) s (suc q) is = same-over n rows others s.2 q is

pub same-count : (rows others : List InverseRows) → SameLetters rows others → length others ≡ length rows
same-count [] [] s = refl
same-count [] (t ∷ others) s = absurd s
same-count (r ∷ rows) [] s = absurd s
same-count (r ∷ rows) (t ∷ others) s = ap suc (same-count rows others s.2)

module _ (n : ℕ) (rows others : List InverseRows) (s : SameLetters rows others) where
  -- the preimage of a string, by the rows, of the string with its sign flipped
  conjugated-preimage : (p : List Letter) → extend (string_preimage n rows) (conjugated (sign_frame rows others) p) ≡ string_preimage n others p
  conjugated-preimage p =
      extend-times_phase (string_preimage n rows) (phase_of_sign (strings_anticommute (sign_frame rows others) p)) (plain p)
      ∙ sym (frame-preimage n rows others s p)

  pub same-table : IsInverseTable n rows → IsInverseTable n others
  same-table is = record {
    count = same-count rows others s ∙ is.count;
    sizes = λ q lt. same-over n rows others s q (is.sizes q lt);
    keeps =
        same-homomorphism n n (λ p. extend (string_preimage n rows) (conjugated (sign_frame rows others) p)) (string_preimage n others)
        (after-homomorphism n n n (conjugated (sign_frame rows others)) (string_preimage n rows) (conjugated-homomorphism n (sign_frame rows others)) is.keeps)
        (λ p lp. sym (conjugated-preimage p));
  }

  twice : (b : Bool) (p : Phased) → times_phase (phase_of_sign b) (times_phase (phase_of_sign b) p) ≡ p
  twice b p =
      times_phase-times_phase (phase_of_sign b) (phase_of_sign b) p
      ∙ ap (λ t. times_phase t p) (sym (phase_of_sign-parity b b) ∙ ap phase_of_sign (parity-self b))

  pub same-onto : IsOnto n rows → IsOnto n others
  same-onto onto p lp =
      let found = onto p lp in
      let q : Phased = found.0 in
      let b : Bool = strings_anticommute (sign_frame rows others) q.letters in (
        times_phase (phase_of_sign b) q,
        found.1,
        extend-times_phase (string_preimage n others) (phase_of_sign b) q
            ∙ ap (λ w. times_phase (phase_of_sign b) (times_phase q.phase w)) (frame-preimage n rows others s q.letters)
            ∙ ap (times_phase (phase_of_sign b)) (times_phase-comm q.phase (phase_of_sign b) (string_preimage n rows q.letters))
            ∙ twice b (extend (string_preimage n rows) q)
            ∙ found.2,
      )
