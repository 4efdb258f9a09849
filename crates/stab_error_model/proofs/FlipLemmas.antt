-- Flips: what an error flips of a run, by the rows of a table of single errors.
use Rattle.stab_error_model.proofs.Names.{◌≡◌, ℕ, zero, suc, ◌+◌, ◌<◌, ◌≤◌, ◌⊎◌, inl, inr, refl, sym, ap, ◌∙◌, subst, Bool, true, false, List, [], ◌∷◌, map, length, drop, arith, All, ◌&&◌, None, slice_index_or, if◌then◌else◌, cases_lt, ne_eqb, get_or-map, get_or_past, length-map, drop-drop, All-nil, All-cons, All-head, All-tail, Letter, ◌⊕◌, letters_anticommute, parity-false, letter_of_string, one_letter-anticommute, Items, unroll, detectors_of, StepFits, row, bits_at, parity_region, SingleError, in_front, single_error_on, single_errors_of, single_error_at, numbers_where, bits_in, IsDeterministic, IsSingleErrorTable, flips, flipped_by_single_error, SingleErrorFits, flips_together, SingleErrorsAdd, DeterministicParities, SitesFlipDeterministicParities, bits-letter, long-parity, ascending-is, ascends-below, where-same, single_error-fits, odd-where, row-names, single_errors_in, single_error_of_letter, single_error_shown, error_shown, IsErrorTable, flip_together, flipped_by_error, Stands, ErrorStands, letter_flips, error_names, IsErrorRow, AreErrorRows, ErrorSite, PlacedLetter, ErrorValue, observables_of}
use Rattle.std.specs.Prelude.{Some}
use Rattle.stab_gates.specs.declared.letter.Letter.TheVariants as letter
use Rattle.stab_parities.specs.OddNumbers.{odd}
use Rattle.stab_error_model.specs.declared.placed.Error.TheVariants as error
use Rattle.stab_error_model.proofs.FitLemmas.{Fits, errors-add}

-- the first after this many
pub dropped-first : {A : Type 0} (k : ℕ) (xs : List A) (x d : A) (rest : List A) → drop k xs ≡ x ∷ rest → (k < length xs) × (slice_index_or xs k d ≡ x)
dropped-first zero [] x d rest e = absurd (cc)
dropped-first zero (y ∷ ys) x d rest e = (omega arith, let same : y ≡ x = cc in same)
dropped-first (suc k) [] x d rest e = absurd (cc)
dropped-first (suc k) (y ∷ ys) x d rest e = let there = dropped-first k ys x d rest e in (omega (arith, there.0), there.1)

-- a list of numbers names none after the last

past-step : (b : Bool) (i m : ℕ) (rest : List ℕ) → (i ≡ m → ⊥) → odd m rest ≡ false → odd m (if b then i ∷ rest else rest) ≡ false
past-step true i m rest other none = (λ t. ne_eqb i m other t ⊕ none t)
past-step false i m rest other none = none

odd-past : (f : ℕ → Bool) (i k m : ℕ) → i + k ≤ m → odd m (numbers_where f i k) ≡ false
odd-past f i zero m le = refl
odd-past f i (suc k) m le = past-step (f i) i m (numbers_where f (i + 1) k) (λ e. omega (arith, le, e)) (odd-past f (i + 1) k m (omega (arith, le)))

-- nor one without the property
pub odd-without : (f : ℕ → Bool) (k m : ℕ) → (m < k → f m ≡ false) → odd m (numbers_where f 0 k) ≡ false
odd-without f k m without = by_site (cases_lt m k)
  where
    by_site : (m < k) ⊎ (k ≤ m) → odd m (numbers_where f 0 k) ≡ false
    by_site (inl less) = odd-where f 0 k m (omega arith) (omega (arith, less)) ∙ without less
    by_site (inr more) = odd-past f 0 k m (omega (arith, more))

-- a bit that is not set
pub unset : (b : Bool) (other : Bool) → b ≡ false → (b && other) ≡ false
unset b other e = ap (λ c. c && other) e

pub set : (b : Bool) (other : Bool) → b ≡ true → (b && other) ≡ other
set b other e = ap (λ c. c && other) e

-- letters at one site

module _ (n : ℕ) (everywhere : Bool) (items : Items) (deterministic : List Bool) (rows : List (List ℕ)) (fits : All (StepFits n) (unroll items))
    (table : IsSingleErrorTable n everywhere items deterministic rows) (found : DeterministicParities) (sites : SitesFlipDeterministicParities) (adds : SingleErrorsAdd) where
  abbrev single_errors : List SingleError
  single_errors = single_errors_of everywhere (unroll items)

  as-many : length rows ≡ length single_errors
  as-many = ap length (table.are_flipped (λ t. false)) ∙ length-map single_errors (flipped_by_single_error n items deterministic (λ t. false))

  -- a site where X and Z are has its numbers

  x-site : (p : ErrorSite) → Stands p single_errors → (p.row < length single_errors) × (single_error_at everywhere (unroll items) p.row ≡ single_error_of_letter p letter.X)
  x-site p stands = dropped-first p.row single_errors (single_error_of_letter p letter.X) (single_error_on 0 (in_front 0) letter.X) (single_error_of_letter p letter.Z ∷ stands.0) stands.1

  z-site : (p : ErrorSite) → Stands p single_errors → (p.row + 1 < length single_errors) × (single_error_at everywhere (unroll items) (p.row + 1) ≡ single_error_of_letter p letter.Z)
  z-site p stands =
      dropped-first (p.row + 1) single_errors (single_error_of_letter p letter.Z) (single_error_on 0 (in_front 0) letter.X) stands.0
      (sym (drop-drop 1 p.row single_errors) ∙ ap (drop 1) stands.1)

  pub site-fits : (p : ErrorSite) (l : Letter) → Stands p single_errors → SingleErrorFits n (unroll items) (single_error_of_letter p l)
  site-fits p l stands =
      let x = x-site p stands in
      let fit : SingleErrorFits n (unroll items) (single_error_of_letter p letter.X) = subst (SingleErrorFits n (unroll items)) x.1 (single_error-fits n everywhere (unroll items) p.row fits x.0) in
      record { qubit = fit.qubit; before = fit.before }

  module _ (i : ℕ) (lt : i < bits_in items) (same : IsDeterministic n items i) (coins : ℕ → Bool) where
    x-flips : (p : ErrorSite) → Stands p single_errors → flips n items coins (single_error_of_letter p letter.X) i ≡ odd i (row rows p.row)
    x-flips p stands =
        let x = x-site p stands in
        ap (λ f. flips n items coins f i) (sym x.1) ∙ row-names n everywhere items deterministic rows fits table i lt same coins p.row (omega (arith, x.0, as-many))

    z-flips : (p : ErrorSite) → Stands p single_errors → flips n items coins (single_error_of_letter p letter.Z) i ≡ odd i (row rows (p.row + 1))
    z-flips p stands =
        let z = z-site p stands in
        ap (λ f. flips n items coins f i) (sym z.1) ∙ row-names n everywhere items deterministic rows fits table i lt same coins (p.row + 1) (omega (arith, z.0, as-many))

    -- a letter flips the bit if it anticommutes with the region's letter there
    letter-meets : (p : ErrorSite) (l : Letter) → Stands p single_errors
        → flips n items coins (single_error_of_letter p l) i
        ≡ letters_anticommute l (letter_of_string (parity_region n (detectors_of (unroll items)) i (drop p.before (unroll items))).string.letters p.qubit)
    letter-meets p l stands =
        let fit = site-fits p l stands in
        sites n items i (single_error_of_letter p l) fits lt fit.qubit ((found n (observables_of items) (unroll items) i fits lt).1 same) coins
        ∙ one_letter-anticommute n p.qubit l (parity_region n (detectors_of (unroll items)) i (drop p.before (unroll items))).string.letters
        (long-parity n (detectors_of (unroll items)) i (drop p.before (unroll items))) fit.qubit

    pub letter-flips : (p : ErrorSite) (l : Letter) → Stands p single_errors → flips n items coins (single_error_of_letter p l) i ≡ bits_at i l (row rows p.row) (row rows (p.row + 1))
    letter-flips p l stands =
        letter-meets p l stands
        ∙ sym (bits-letter i l (letter_of_string (parity_region n (detectors_of (unroll items)) i (drop p.before (unroll items))).string.letters p.qubit)
        (row rows p.row) (row rows (p.row + 1))
        (sym (x-flips p stands) ∙ letter-meets p letter.X stands)
        (sym (z-flips p stands) ∙ letter-meets p letter.Z stands))

  -- errors

  pub error-fits : (e : ErrorValue) → ErrorStands single_errors e → All (SingleErrorFits n (unroll items)) (single_errors_in (error_shown e))
  error-fits (error.Letter f) stands = one f stands
    where
      one : (f : PlacedLetter) → Stands f.site single_errors → All (SingleErrorFits n (unroll items)) (single_error_shown f ∷ [])
      one f stands = All-cons (SingleErrorFits n (unroll items)) (single_error_shown f) [] (site-fits f.site f.letter stands) (All-nil (SingleErrorFits n (unroll items)))
  error-fits (error.Letters f g) stands = two f g stands.0 stands.1
    where
      two : (f g : PlacedLetter) → Stands f.site single_errors → Stands g.site single_errors → All (SingleErrorFits n (unroll items)) (single_error_shown f ∷ single_error_shown g ∷ [])
      two f g first second =
          All-cons (SingleErrorFits n (unroll items)) (single_error_shown f) (single_error_shown g ∷ []) (site-fits f.site f.letter first)
          (All-cons (SingleErrorFits n (unroll items)) (single_error_shown g) [] (site-fits g.site g.letter second) (All-nil (SingleErrorFits n (unroll items))))
  error-fits (error.Record number f None) stands =
      All-cons (SingleErrorFits n (unroll items)) (single_error_shown f) [] (site-fits f.site f.letter stands) (All-nil (SingleErrorFits n (unroll items)))
  error-fits (error.Record number f (Some g)) stands =
      All-cons (SingleErrorFits n (unroll items)) (single_error_shown f) (single_error_shown g ∷ []) (site-fits f.site f.letter stands.0)
      (All-cons (SingleErrorFits n (unroll items)) (single_error_shown g) [] (site-fits g.site g.letter stands.1) (All-nil (SingleErrorFits n (unroll items))))

  module _ (i : ℕ) (lt : i < bits_in items) (same : IsDeterministic n items i) (coins : ℕ → Bool) where
    -- letters at one and at two sites
    one-flips : (f : PlacedLetter) → Stands f.site single_errors → flips_together (λ g. flips n items coins g i) (single_error_shown f ∷ []) ≡ letter_flips i rows f
    one-flips f stands = parity-false (flips n items coins (single_error_shown f) i) ∙ letter-flips i lt same coins f.site f.letter stands

    two-flip : (f g : PlacedLetter) → Stands f.site single_errors → Stands g.site single_errors
        → flips_together (λ h. flips n items coins h i) (single_error_shown f ∷ single_error_shown g ∷ []) ≡ letter_flips i rows f ⊕ letter_flips i rows g
    two-flip f g first second = (λ t. letter-flips i lt same coins f.site f.letter first t ⊕ one-flips g second t)

    together : (e : ErrorValue) → ErrorStands single_errors e → flips_together (λ f. flips n items coins f i) (single_errors_in (error_shown e)) ≡ error_names i rows e
    together (error.Letter f) stands = one-flips f stands
    together (error.Letters f g) stands = two-flip f g stands.0 stands.1
    together (error.Record number f None) stands = one-flips f stands
    together (error.Record number f (Some g)) stands = two-flip f g stands.0 stands.1

    -- an error flips the bit if its rows name it
    pub error-flips : (e : ErrorValue) → ErrorStands single_errors e → flip_together n items coins (single_errors_in (error_shown e)) i ≡ error_names i rows e
    error-flips e stands = adds n items i (single_errors_in (error_shown e)) fits lt (error-fits e stands) same coins ∙ together e stands

  -- bits that are not deterministic, and numbers that are of no bit, are in no row

  row-without : (i : ℕ) → (i < bits_in items → slice_index_or deterministic i false ≡ false) → (k : ℕ) → odd i (row rows k) ≡ false
  row-without i without k = by_site (cases_lt k (length rows))
    where
      coins : ℕ → Bool
      coins = λ t. false

      by_site : (k < length rows) ⊎ (length rows ≤ k) → odd i (row rows k) ≡ false
      by_site (inl less) =
          ap (odd i)
          (ap (λ rs. row rs k) (table.are_flipped coins)
          ∙ get_or-map (flipped_by_single_error n items deterministic coins) single_errors k (single_error_on 0 (in_front 0) letter.X) [] (omega (arith, less, as-many)))
          ∙ odd-without (λ m. slice_index_or deterministic m false && flips n items coins (single_error_at everywhere (unroll items) k) m) (bits_in items) i
          (λ inside. unset (slice_index_or deterministic i false) (flips n items coins (single_error_at everywhere (unroll items) k) i) (without inside))
      by_site (inr more) = ap (odd i) (get_or_past rows k [] more)

  bits-without : (i : ℕ) (l : Letter) (by_x by_z : List ℕ) → odd i by_x ≡ false → odd i by_z ≡ false → bits_at i l by_x by_z ≡ false
  bits-without i letter.I by_x by_z x z = refl
  bits-without i letter.X by_x by_z x z = x
  bits-without i letter.Y by_x by_z x z = (λ t. x t ⊕ z t)
  bits-without i letter.Z by_x by_z x z = z

  module _ (i : ℕ) (without : i < bits_in items → slice_index_or deterministic i false ≡ false) where
    letter-without : (f : PlacedLetter) → letter_flips i rows f ≡ false
    letter-without f = bits-without i f.letter (row rows f.site.row) (row rows (f.site.row + 1)) (row-without i without f.site.row) (row-without i without (f.site.row + 1))

    error-without : (e : ErrorValue) → error_names i rows e ≡ false
    error-without (error.Letter f) = letter-without f
    error-without (error.Letters f g) = (λ t. letter-without f t ⊕ letter-without g t)
    error-without (error.Record number f None) = letter-without f
    error-without (error.Record number f (Some g)) = (λ t. letter-without f t ⊕ letter-without g t)

  -- so the row of an error is what it flips

  module _ (coins : ℕ → Bool) (e : ErrorValue) (stands : ErrorStands single_errors e) (r : List ℕ) (is : IsErrorRow rows e r) where
    reports : (m : ℕ) → m < bits_in items → (b : Bool) → slice_index_or deterministic m false ≡ b
        → odd m r ≡ (slice_index_or deterministic m false && flip_together n items coins (single_errors_in (error_shown e)) m)
    reports m inside true e_deterministic =
        is.value m ∙ sym (error-flips m inside ((table.are_deterministic.exact m inside).0 e_deterministic) coins e stands)
        ∙ sym (set (slice_index_or deterministic m false) (flip_together n items coins (single_errors_in (error_shown e)) m) e_deterministic)
    reports m inside false e_deterministic =
        is.value m ∙ error-without m (λ t. e_deterministic) e
        ∙ sym (unset (slice_index_or deterministic m false) (flip_together n items coins (single_errors_in (error_shown e)) m) e_deterministic)

    past : (m : ℕ) → bits_in items ≤ m → odd m r ≡ false
    past m ge = is.value m ∙ error-without m (λ inside. absurd (omega (arith, inside, ge))) e

    row-is : r ≡ flipped_by_error n items deterministic coins (error_shown e)
    row-is =
        ascending-is (bits_in items) 0 r (ascends-below 0 (0 + bits_in items) r is.ascending (λ m ge. past m (omega (arith, ge))))
        ∙ where-same (λ m. odd m r) (λ m. slice_index_or deterministic m false && flip_together n items coins (single_errors_in (error_shown e)) m) 0 (bits_in items)
        (λ m ge inside. reports m (omega (arith, inside)) (slice_index_or deterministic m false) refl)

  rows-are : (coins : ℕ → Bool) (errors : List ErrorValue) (made : List (List ℕ)) → All (ErrorStands single_errors) errors → AreErrorRows rows errors made
      → made ≡ map (flipped_by_error n items deterministic coins) (map error_shown errors)
  rows-are coins [] [] stand are = refl
  rows-are coins [] (r ∷ rs) stand are = absurd are
  rows-are coins (e ∷ es) [] stand are = absurd are
  rows-are coins (e ∷ es) (r ∷ rs) stand are =
      (λ t. row-is coins e (All-head (ErrorStands single_errors) e es stand) r are.0 t ∷ rows-are coins es rs (All-tail (ErrorStands single_errors) e es stand) are.1 t)

  -- errors fit, and with their rows they are a table

  errors-fit : (errors : List ErrorValue) → All (ErrorStands single_errors) errors → All (Fits n items) (map error_shown errors)
  errors-fit [] stand = All-nil (Fits n items)
  errors-fit (e ∷ es) stand =
      All-cons (Fits n items) (error_shown e) (map error_shown es) (error-fits e (All-head (ErrorStands single_errors) e es stand)) (errors-fit es (All-tail (ErrorStands single_errors) e es stand))

  pub table-is : (detectors : ℕ) → detectors ≡ detectors_of (unroll items) → (errors : List ErrorValue) (made : List (List ℕ)) → All (ErrorStands single_errors) errors → AreErrorRows rows errors made
      → IsErrorTable n items (record { deterministic = deterministic; errors = map error_shown errors; table = record { detectors = detectors; rows = made } })
  table-is detectors is errors made stand are = record {
    are_deterministic = table.are_deterministic;
    detectors = is;
    are_flipped = λ coins. rows-are coins errors made stand are;
    add = errors-add n items fits adds (map error_shown errors) (errors-fit errors stand);
  }
