-- Single errors in tables: the steps before a detector, if a letter is inserted; and coins after those of steps make no difference.
use Rattle.stab_regions.proofs.Names.{◌≡◌, ℕ, zero, suc, ◌+◌, ◌-◌, ◌<◌, ◌≤◌, ◌⊎◌, inl, inr, refl, sym, ◌∙◌, ap, arith, Bool, true, false, List, [], ◌∷◌, ◌++◌, length, append_assoc, if◌then◌else◌, slice_index_or, cases_lt, get_or_append_left, length-append, Letter, ◌⊕◌, single, Step, one, is_detector, detectors_of, coins-append, parity, gate_of, Point, all_coins_of, next_point, SingleErrorFrame, single_error_frame_after, flipped_coins, all_flipped_coins, bit_asked, with_single_error, flipped_with, steps_before_detector, named_by}
use Rattle.std.proofs.Common.{nat_lt}
use Rattle.stab_regions.proofs.TouchLemmas.{length-flipped, flipped-before}
use Rattle.stab_regions.proofs.RandomLemmas.{next-same}
use Rattle.stab_regions.proofs.DetectorLemmas.{none, count-other, count-detector, before-other, named-other, before-first, named-first, before-next, named-next, before-front}
use Rattle.stab_items.proofs.StepLemmas.{detectors_of-append}

-- a letter that is inserted is none
pub count-single_error : (front : List Step) (l : Letter) (q : ℕ) (back : List Step) → detectors_of (with_single_error front l q back) ≡ detectors_of (front ++ back)
count-single_error front l q back =
    let letter : Step = one (gate_of l) q in
    omega (arith, detectors_of-append front (letter ∷ back), detectors_of-append front back, count-other letter back refl)

-- a detector of the first part has the steps before it and its lookbacks there
abbrev StandsFirst : ℕ → List Step → List Step → Type 0
StandsFirst d xs ys = (steps_before_detector d (xs ++ ys) ≡ steps_before_detector d xs) × (named_by d (xs ++ ys) ≡ named_by d xs)

-- one of the second part has all of the first before it
abbrev StandsAfter : ℕ → List Step → List Step → Type 0
StandsAfter d xs ys =
    (steps_before_detector (detectors_of xs + d) (xs ++ ys) ≡ xs ++ steps_before_detector d ys) × (named_by (detectors_of xs + d) (xs ++ ys) ≡ named_by d ys)

module _ (x : Step) (xs ys : List Step) where
  -- one more step before a detector of the first part
  first-next : (b : Bool) → is_detector x ≡ b → ((d : ℕ) → d < detectors_of xs → StandsFirst d xs ys) → (d : ℕ) → d < detectors_of (x ∷ xs) → StandsFirst d (x ∷ xs) ys
  first-next false e later d lt =
      let there = later d (omega (arith, lt, count-other x xs e)) in (
        before-other x (xs ++ ys) d e ∙ ap (λ zs. x ∷ zs) there.0 ∙ sym (before-other x xs d e),
        named-other x (xs ++ ys) d e ∙ there.1 ∙ sym (named-other x xs d e),
      )
  first-next true e later zero lt =
      (before-first x (xs ++ ys) e ∙ sym (before-first x xs e), named-first x (xs ++ ys) e ∙ sym (named-first x xs e))
  first-next true e later (suc d) lt =
      let there = later d (omega (arith, lt, count-detector x xs e)) in (
        before-next x (xs ++ ys) d e ∙ ap (λ zs. x ∷ zs) there.0 ∙ sym (before-next x xs d e),
        named-next x (xs ++ ys) d e ∙ there.1 ∙ sym (named-next x xs d e),
      )

  -- and before one of the second
  following-next : (b : Bool) → is_detector x ≡ b → (d : ℕ) → StandsAfter d xs ys → StandsAfter d (x ∷ xs) ys
  following-next false e d there = (
    ap (λ k. steps_before_detector (k + d) (x ∷ xs ++ ys)) (count-other x xs e) ∙ before-other x (xs ++ ys) (detectors_of xs + d) e ∙ ap (λ zs. x ∷ zs) there.0,
    ap (λ k. named_by (k + d) (x ∷ xs ++ ys)) (count-other x xs e) ∙ named-other x (xs ++ ys) (detectors_of xs + d) e ∙ there.1,
  )
  following-next true e d there = (
    ap (λ k. steps_before_detector k (x ∷ xs ++ ys)) one_more ∙ before-next x (xs ++ ys) (detectors_of xs + d) e ∙ ap (λ zs. x ∷ zs) there.0,
    ap (λ k. named_by k (x ∷ xs ++ ys)) one_more ∙ named-next x (xs ++ ys) (detectors_of xs + d) e ∙ there.1,
  )
    where
      one_more : detectors_of (x ∷ xs) + d ≡ suc (detectors_of xs + d)
      one_more = omega (arith, count-detector x xs e)

-- by induction on the first part
pub stands-first : (d : ℕ) (xs ys : List Step) → d < detectors_of xs → StandsFirst d xs ys
stands-first d [] ys lt = absurd (none d lt)
stands-first d (x ∷ xs) ys lt = first-next x xs ys (is_detector x) refl (λ e less. stands-first e xs ys less) d lt

-- and again
pub stands-following : (d : ℕ) (xs ys : List Step) → StandsAfter d xs ys
stands-following d [] ys = (ap (λ k. steps_before_detector k ys) (omega arith), ap (λ k. named_by k ys) (omega arith))
stands-following d (x ∷ xs) ys = following-next x xs ys (is_detector x) refl d (stands-following d xs ys)

-- coins

-- coins after those of steps make no difference to what is asked for
pub bit-same : (n : ℕ) (coins others : ℕ → Bool) (asked : Step → List ℕ) (xs : List Step) (ks : List ℕ) (p : Point)
    → ((t : ℕ) → t < p.coin + all_coins_of xs → others t ≡ coins t) → bit_asked n others asked xs ks p ≡ bit_asked n coins asked xs ks p
bit-same n coins others asked [] ks p same = refl
bit-same n coins others asked (x ∷ xs) ks p same =
    ap (λ z. parity p.records (asked x) ⊕ bit_asked n others asked xs ks z) (next-same n coins others x p (λ t lt. same t (omega arith)))
    ∙ ap (λ b. parity p.records (asked x) ⊕ b) (bit-same n coins others asked xs ks (next_point n coins x p) (λ t lt. same t (omega arith)))

-- the coins that are flipped with a letter, up to those of a front of the steps after it, are flipped by that front alone

-- there is a bit for each coin
length-all_flipped : (n : ℕ) (xs : List Step) (f : SingleErrorFrame) → length (all_flipped_coins n xs f) ≡ all_coins_of xs
length-all_flipped n [] f = refl
length-all_flipped n (x ∷ xs) f =
    length-append (flipped_coins n x f) (all_flipped_coins n xs (single_error_frame_after n x f)) ∙ (λ i. length-flipped n x f i + length-all_flipped n xs (single_error_frame_after n x f) i)

-- the bits of a front come first
flipped-append : (n : ℕ) (xs ys : List Step) (f : SingleErrorFrame) → (more : List Bool) × (all_flipped_coins n (xs ++ ys) f ≡ all_flipped_coins n xs f ++ more)
flipped-append n [] ys f = (all_flipped_coins n ys f, refl)
flipped-append n (x ∷ xs) ys f =
    let later = flipped-append n xs ys (single_error_frame_after n x f) in
    (later.0, ap (λ bits. flipped_coins n x f ++ bits) later.1 ∙ sym (append_assoc (flipped_coins n x f) (all_flipped_coins n xs (single_error_frame_after n x f)) later.0))

-- so they are the bits of the coins that the front uses up
flipped-front : (n : ℕ) (xs ys : List Step) (f : SingleErrorFrame) (t : ℕ) → t < all_coins_of xs
    → slice_index_or (all_flipped_coins n (xs ++ ys) f) t false ≡ slice_index_or (all_flipped_coins n xs f) t false
flipped-front n xs ys f t lt =
    let more = flipped-append n xs ys f in
    ap (λ bits. slice_index_or bits t false) more.1
    ∙ get_or_append_left (all_flipped_coins n xs f) more.0 false t (omega (arith, lt, length-all_flipped n xs f))

-- and these coins are the same, whatever follows the front
pub flipped-with : (n : ℕ) (front : List Step) (l : Letter) (q : ℕ) (xs ys : List Step) (coins : ℕ → Bool) (t : ℕ) → t < all_coins_of front + all_coins_of xs
    → flipped_with n front l q (xs ++ ys) coins t ≡ flipped_with n front l q xs coins t
flipped-with n front l q xs ys coins t lt = by_site (cases_lt t (all_coins_of front))
  where
    f : SingleErrorFrame
    f = record { string = single n q l; flips = [] }

    by_site : (t < all_coins_of front) ⊎ (all_coins_of front ≤ t) → flipped_with n front l q (xs ++ ys) coins t ≡ flipped_with n front l q xs coins t
    by_site (inl less) =
        flipped-before (all_coins_of front) (all_flipped_coins n (xs ++ ys) f) coins t less
        ∙ sym (flipped-before (all_coins_of front) (all_flipped_coins n xs f) coins t less)
    by_site (inr more) =
        ap (λ bit. coins t ⊕ (if nat_lt t (all_coins_of front) then false else bit)) (flipped-front n xs ys f (t - all_coins_of front) (omega (arith, lt, more)))

-- the steps before a detector use up no more coins than all
pub coins-before : (d : ℕ) (xs : List Step) → all_coins_of (steps_before_detector d xs) ≤ all_coins_of xs
coins-before d xs =
    let front = before-front d xs in
    omega (arith, ap all_coins_of front.1, coins-append (steps_before_detector d xs) front.0)
