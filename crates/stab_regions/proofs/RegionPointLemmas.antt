-- Points: what regions at the end of all steps are, and which parities are deterministic, by those at the start.
use Rattle.stab_regions.proofs.Names.{◌≡◌, ℕ, zero, suc, ◌+◌, ◌-◌, ◌^◌, ◌<◌, refl, sym, ◌∙◌, ap, subst, arith, Bool, true, false, not, ◌||◌, ◌&&◌, List, [], ◌∷◌, length, if◌then◌else◌, nat_lt, slice_index_or, replicate, list_any, length-replicate, get_or-replicate, Letter, I, X, Y, Z, letters_anticommute, letter_at, diagonal, RegionWalk, region_of, keep_region, asks_nothing, asks_observable, steps_before_detector, named_by, detectors_before, parity_region, parity_preserved, odd, row, ShowsRegion, ShowsNumber, IsRegionsAt, DetermineDeterministic}
use Rattle.stab_regions.proofs.FactorLemmas.{blank-at}
use Rattle.stab_regions.proofs.MoveLemmas.{region_where, long-parity}
use Rattle.stab_gates.proofs.LetterLemmas.{letters_anticommute-I}

none-flipped : (n q : ℕ) (p : Letter) → letters_anticommute p (letter_at (replicate n I) q) ≡ false
none-flipped n q p = ap (letters_anticommute p) (blank-at n q) ∙ letters_anticommute-I p

-- the end of all steps

row-none : (n q : ℕ) → row (replicate n []) q ≡ []
row-none zero q = refl
row-none (suc n) zero = refl
row-none (suc n) (suc q) = row-none n q

end-region : (n D i : ℕ) → parity_region n D i [] ≡ region_of n []
end-region n D i = by_site (nat_lt i D) (nat_lt i (detectors_before D []))
  where
    by_site : (b c : Bool) → region_where n D i [] b c ≡ region_of n []
    by_site true true = refl
    by_site true false = refl
    by_site false c = refl

end-preserved : (n D i : ℕ) → parity_preserved n D i [] ≡ true
end-preserved n D i = by_site (nat_lt i D) (nat_lt i (detectors_before D []))
  where
    by_site : (b c : Bool)
        → (if b then (if c then true else keep_region n asks_nothing (steps_before_detector (i - detectors_before D []) []) (region_of n (named_by (i - detectors_before D []) [])))
        else keep_region n (asks_observable (i - D)) [] (region_of n []))
        ≡ true
    by_site true true = refl
    by_site true false = refl
    by_site false c = refl

end-shown : (n i : ℕ) (by_x by_z records : List (List ℕ)) → by_x ≡ replicate n [] → by_z ≡ replicate n [] → records ≡ []
    → ShowsRegion i by_x by_z records (region_of n [])
end-shown n i by_x by_z records is_x is_z is_records = record {
  letters = record {
    x = λ q. ap (λ rows. odd i (row rows q)) is_x ∙ ap (odd i) (row-none n q) ∙ sym (none-flipped n q X);
    z = λ q. ap (λ rows. odd i (row rows q)) is_z ∙ ap (odd i) (row-none n q) ∙ sym (none-flipped n q Z);
  };
  looks = λ k. ap (λ rows. odd i (row rows k)) is_records;
}

pub is-at-end : (n D count : ℕ) (r : RegionWalk) → D + count < 2 ^ 32 → r.rows.by_x.items ≡ replicate n [] → r.rows.by_z.items ≡ replicate n [] → r.rows.records.items ≡ []
    → r.rows.record_end ≡ 0 → r.rows.observable ≡ D → r.rows.detector_end ≡ D → r.random.items ≡ replicate (D + count) false → IsRegionsAt n D count [] r
is-at-end n D count r few is_x is_z is_records records detectors before random =
    let rows_x : length r.rows.by_x.items ≡ n = ap length is_x ∙ length-replicate n [] in
    let rows_z : length r.rows.by_z.items ≡ n = ap length is_z ∙ length-replicate n [] in
    let marks : length r.random.items ≡ D + count = ap length random ∙ length-replicate (D + count) false in
    let none : (i : ℕ) → ShowsNumber r.rows i (region_of n []) = λ i. end-shown n i r.rows.by_x.items r.rows.by_z.items r.rows.records.items is_x is_z is_records in
    record {
      sized = record {
        rows = rows_z ∙ sym rows_x;
        records = records;
        before = omega (arith, before, detectors);
        detectors = omega (arith, detectors, marks);
        few = subst (λ k. k < 2 ^ 32) (sym marks) few;
      };
      qubits = rows_x;
      detectors = detectors;
      before = before ∙ omega arith;
      marks = marks;
      regions = λ i lt. subst (ShowsNumber r.rows i) (sym (end-region n D i)) (none i);
      others = λ i le. none i;
      random = λ i lt.
          ap (λ bits. slice_index_or bits i false) random ∙ get_or-replicate (D + count) i false false lt ∙ ap not (sym (end-preserved n D i));
    }

-- the start

-- letters are I and Z alone if Z flips nothing of them
diagonal-rows : (i : ℕ) (letters : List Letter) (by_z : List (List ℕ)) → length by_z ≡ length letters
    → ((q : ℕ) → odd i (row by_z q) ≡ letters_anticommute Z (letter_at letters q)) → not (list_any (odd i) by_z) ≡ diagonal letters
diagonal-rows i [] [] long shows = refl
diagonal-rows i [] (r ∷ rows) long shows = absurd (omega arith)
diagonal-rows i (l ∷ letters) [] long shows = absurd (omega arith)
diagonal-rows i (l ∷ letters) (r ∷ rows) long shows =
    ap (λ b. not (b || list_any (odd i) rows)) (shows 0)
    ∙ by_letter l (diagonal-rows i letters rows (omega arith) (λ q. shows (suc q)))
  where
    by_letter : (m : Letter) → not (list_any (odd i) rows) ≡ diagonal letters → not (letters_anticommute Z m || list_any (odd i) rows) ≡ diagonal (m ∷ letters)
    by_letter I e = e
    by_letter X e = refl
    by_letter Y e = refl
    by_letter Z e = e

neither : (a b c d : Bool) → not a ≡ d → b ≡ not c → not (a || b) ≡ (c && d)
neither a b c d ed ec = grind arith

pub determines-deterministic : (r : RegionWalk) (deterministic : List Bool) → length deterministic ≡ length r.random.items
    → ((i : ℕ) → i < length r.random.items → slice_index_or deterministic i false ≡ not (list_any (odd i) r.rows.by_z.items || slice_index_or r.random.items i false))
    → DetermineDeterministic r deterministic
determines-deterministic r deterministic long each = record {
  count = long;
  value = λ n D count back h i lt.
      each i (omega (arith, lt, h.marks))
      ∙ neither (list_any (odd i) r.rows.by_z.items) (slice_index_or r.random.items i false) (parity_preserved n D i back) (diagonal (parity_region n D i back).string.letters)
      (diagonal-rows i (parity_region n D i back).string.letters r.rows.by_z.items (h.sized.rows ∙ h.qubits ∙ sym (long-parity n D i back)) (h.regions i lt).letters.z)
      (h.random i lt);
}
