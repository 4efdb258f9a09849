-- Two single errors: a deterministic bit stays deterministic if a letter is inserted, so each of two letters flips it as it would alone.
use Rattle.stab_regions.proofs.Names.{◌≡◌, ℕ, ◌+◌, ◌<◌, sym, ◌∙◌, ap, subst, arith, Bool, false, List, ◌∷◌, ◌++◌, append_assoc, All-append, All-cons, Letter, ◌⊕◌, Step, one, detectors_of, gate_of, RunsArePointsWithOutputs, StepFits, with_single_error, parity_flips, bit}
use Rattle.std.proofs.Common.{All}
use Rattle.stab_regions.proofs.DetectorLemmas.{fits-front, fits-back}
use Rattle.stab_regions.proofs.SingleErrorLemmas.{count-single_error}
use Rattle.stab_regions.proofs.SingleErrorBitLemmas.{SameForAll, deterministic-parity, steps-flip}

-- two bits that differ from a third in the same way are the same
cancel : (a b x flips : Bool) → a ⊕ x ≡ flips → b ⊕ x ≡ flips → a ≡ b
cancel a b x flips e f = grind arith

-- if one makes the same difference with the other as without, so does the other
exchange : (both first second plain : Bool) → both ⊕ first ≡ second ⊕ plain → both ⊕ second ≡ first ⊕ plain
exchange both first second plain e = grind arith

-- steps fit, and the bit is one of theirs and the same for all random bits
pub record HasDeterministicBit (n count : ℕ) (xs : List Step) (i : ℕ) : Type 0 where
  pub fits : All (StepFits n) xs
  pub within : i < detectors_of xs + count
  pub same : SameForAll n count xs i

-- one letter

module _ (law : RunsArePointsWithOutputs) (n count : ℕ) (front : List Step) (l : Letter) (q : ℕ) (back : List Step) (i : ℕ) (xs : List Step) (parts : xs ≡ front ++ back)
    (deterministic : HasDeterministicBit n count xs i) (lt : q < n) where
  abbrev flipped : List Step
  flipped = with_single_error front l q back

  -- it flips the bit for all random bits, or for none
  pub letter-flips : (coins others : ℕ → Bool) → bit n count others flipped i ⊕ bit n count coins xs i ≡ parity_flips n (detectors_of xs) i l q back
  letter-flips = steps-flip law n count front l q back i xs parts deterministic.fits deterministic.within lt ((deterministic-parity law n count xs i deterministic.fits deterministic.within).1 deterministic.same)

  pub count-flipped : detectors_of flipped ≡ detectors_of xs
  count-flipped = count-single_error front l q back ∙ ap detectors_of (sym parts)

  -- so with it the bit is still deterministic
  pub still-deterministic : HasDeterministicBit n count flipped i
  still-deterministic = record {
    fits =
        let whole : All (StepFits n) (front ++ back) = subst (All (StepFits n)) parts deterministic.fits in
        All-append (StepFits n) front (one (gate_of l) q ∷ back) (fits-front n front back whole)
        (All-cons (StepFits n) (one (gate_of l) q) back lt (fits-back n front back whole));
    within = omega (arith, deterministic.within, count-flipped);
    same = λ coins others.
        cancel (bit n count others flipped i) (bit n count coins flipped i) (bit n count coins xs i) _ (letter-flips coins others) (letter-flips coins coins);
  }

-- and a second one, not in front of it

module _ (law : RunsArePointsWithOutputs) (n count : ℕ) (front : List Step) (l : Letter) (q : ℕ) (mid : List Step) (m : Letter) (r : ℕ) (back : List Step) (i : ℕ) (xs : List Step)
    (parts : xs ≡ (front ++ mid) ++ back) (deterministic : HasDeterministicBit n count xs i) (lt_q : q < n) (lt_r : r < n) where
  abbrev with_first : List Step
  with_first = with_single_error front l q (mid ++ back)

  abbrev with_second : List Step
  with_second = with_single_error (front ++ mid) m r back

  abbrev with_both : List Step
  with_both = with_single_error front l q (mid ++ one (gate_of m) r ∷ back)

  -- if the first is inserted
  around_first : xs ≡ front ++ (mid ++ back)
  around_first = parts ∙ append_assoc front mid back

  -- after the first the pass says about the second what it says about it alone
  second-flips : (coins : ℕ → Bool) → bit n count coins with_both i ⊕ bit n count coins with_first i ≡ parity_flips n (detectors_of xs) i m r back
  second-flips coins =
      ap (λ zs. bit n count coins zs i ⊕ bit n count coins with_first i) (sym (append_assoc front (one (gate_of l) q ∷ mid) (one (gate_of m) r ∷ back)))
      ∙ letter-flips law n count (front ++ one (gate_of l) q ∷ mid) m r back i with_first (sym (append_assoc front (one (gate_of l) q ∷ mid) back))
      (still-deterministic law n count front l q (mid ++ back) i xs around_first deterministic lt_q) lt_r coins coins
      ∙ ap (λ D. parity_flips n D i m r back) (count-flipped law n count front l q (mid ++ back) i xs around_first deterministic lt_q)

  -- so the first flips the bit with the second as it does alone
  pub letters-alike : (coins : ℕ → Bool) → bit n count coins with_both i ⊕ bit n count coins with_second i ≡ bit n count coins with_first i ⊕ bit n count coins xs i
  letters-alike coins =
      exchange (bit n count coins with_both i) (bit n count coins with_first i) (bit n count coins with_second i) (bit n count coins xs i)
      (second-flips coins ∙ sym (letter-flips law n count (front ++ mid) m r back i xs parts deterministic lt_r coins coins))

  -- so the pass says the same about the first with the second after it as without
  pub flips-alike : parity_flips n (detectors_of xs) i l q (mid ++ one (gate_of m) r ∷ back) ≡ parity_flips n (detectors_of xs) i l q (mid ++ back)
  flips-alike =
      let coins : ℕ → Bool = λ t. false in
      ap (λ D. parity_flips n D i l q (mid ++ one (gate_of m) r ∷ back)) (sym (count-flipped law n count (front ++ mid) m r back i xs parts deterministic lt_r))
      ∙ sym (letter-flips law n count front l q (mid ++ one (gate_of m) r ∷ back) i with_second (append_assoc front mid (one (gate_of m) r ∷ back))
      (still-deterministic law n count (front ++ mid) m r back i xs parts deterministic lt_r) lt_q coins coins)
      ∙ letters-alike coins
      ∙ letter-flips law n count front l q (mid ++ back) i xs around_first deterministic lt_q coins coins
