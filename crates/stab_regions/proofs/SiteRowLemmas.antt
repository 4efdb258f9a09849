-- Rows of sites: those of one more qubit of a step, stored after others or put before them.
use Rattle.stab_regions.proofs.Names.{◌≡◌, ℕ, zero, suc, ◌+◌, ◌-◌, ◌*◌, ◌<◌, refl, sym, ap, ◌∙◌, subst, arith, Bool, true, false, List, [], ◌∷◌, ◌++◌, append_assoc, append-nil, length, take, drop, take_more, drop_more, get_or, slice_index_or, flat_map, flat_map-append, All, All-nil, All-cons, All-append, Sides, where_asked}
use Rattle.stab_regions.specs.inner.SiteRows.{rows_on, rows_around}

-- one more is stored
pub preserved-more : (by_x by_z : List (List ℕ)) (qs : List ℕ) (k q : ℕ) (old new : List (List ℕ)) → k < length qs → q ≡ get_or qs k 0
    → old ≡ flat_map (rows_on by_x by_z) (take k qs) → new ≡ old ++ rows_on by_x by_z q → new ≡ flat_map (rows_on by_x by_z) (take (k + 1) qs)
preserved-more by_x by_z qs k q old new lt here was is =
    is
    ∙ (λ i. was i ++ rows_on by_x by_z (here i))
    ∙ ap (λ rest. flat_map (rows_on by_x by_z) (take k qs) ++ rest) (sym (append-nil (rows_on by_x by_z (get_or qs k 0))))
    ∙ sym (flat_map-append (rows_on by_x by_z) (take k qs) (get_or qs k 0 ∷ []))
    ∙ ap (flat_map (rows_on by_x by_z)) (sym (take_more qs k 0 lt))

pub all-more : (P : ℕ → Type 0) (qs : List ℕ) (k q : ℕ) → k < length qs → q ≡ get_or qs k 0 → All P (take k qs) → P q → All P (take (k + 1) qs)
all-more P qs k q lt here was is =
    subst (All P) (sym (take_more qs k 0 lt)) (All-append P (take k qs) (get_or qs k 0 ∷ []) was (All-cons P (get_or qs k 0) [] (subst P here is) (All-nil P)))

-- as many rows are stored
pub preserved-long : (by_x by_z : List (List ℕ)) (qs : List ℕ) → length (flat_map (rows_on by_x by_z) qs) ≡ 2 * length qs
preserved-long by_x by_z [] = refl
preserved-long by_x by_z (q ∷ qs) = let rest : length (flat_map (rows_on by_x by_z) qs) ≡ 2 * length qs = preserved-long by_x by_z qs in omega (arith, rest)

-- those of one qubit
preserved-at : (by_x by_z : List (List ℕ)) (qs : List ℕ) (k : ℕ) → k < length qs
    → slice_index_or (flat_map (rows_on by_x by_z) qs) (2 * k) [] ∷ slice_index_or (flat_map (rows_on by_x by_z) qs) (2 * k + 1) [] ∷ [] ≡ rows_on by_x by_z (get_or qs k 0)
preserved-at by_x by_z [] k lt = absurd (omega (arith, lt))
preserved-at by_x by_z (q ∷ qs) zero lt = refl
preserved-at by_x by_z (q ∷ qs) (suc k) lt =
    (λ i. slice_index_or (flat_map (rows_on by_x by_z) (q ∷ qs)) (first i) [] ∷ slice_index_or (flat_map (rows_on by_x by_z) (q ∷ qs)) (second i) [] ∷ [])
    ∙ preserved-at by_x by_z qs k (omega (arith, lt))
  where
    first : 2 * suc k ≡ suc (suc (2 * k))
    first = omega arith

    second : 2 * suc k + 1 ≡ suc (suc (2 * k + 1))
    second = omega arith

where-same : {A : Type 0} (b : Bool) (xs ys : List A) → (b ≡ true → xs ≡ ys) → where_asked b xs ≡ where_asked b ys
where-same true xs ys e = e refl
where-same false xs ys e = refl

-- one more is put before
pub around-more : (sides : Sides) (by_x by_z after_x after_z : List (List ℕ)) (qs : List ℕ) (k q end : ℕ) (retained first old mid new : List (List ℕ)) → k < length qs → q ≡ get_or qs k 0
    → (sides.following ≡ true → end ≡ 2 * (k + 1)) → (sides.following ≡ true → retained ≡ flat_map (rows_on after_x after_z) qs)
    → old ≡ flat_map (rows_around sides by_x by_z after_x after_z) (drop (k + 1) qs) ++ first
    → mid ≡ where_asked sides.following (slice_index_or retained (end - 2) [] ∷ slice_index_or retained (end - 1) [] ∷ []) ++ old
    → new ≡ where_asked sides.front (rows_on by_x by_z q) ++ mid
    → new ≡ flat_map (rows_around sides by_x by_z after_x after_z) (drop k qs) ++ first
around-more sides by_x by_z after_x after_z qs k q end retained first old mid new lt here ends is_retained was then is =
    is
    ∙ (λ i. where_asked sides.front (rows_on by_x by_z (here i)) ++ (then ∙ (λ j. after j ++ was j)) i)
    ∙ ap (λ rest. where_asked sides.front (rows_on by_x by_z p) ++ rest) (sym (append_assoc (where_asked sides.following (rows_on after_x after_z p)) others first))
    ∙ sym (append_assoc (where_asked sides.front (rows_on by_x by_z p)) (where_asked sides.following (rows_on after_x after_z p) ++ others) first)
    ∙ ap (λ rows. rows ++ first) (sym (append_assoc (where_asked sides.front (rows_on by_x by_z p)) (where_asked sides.following (rows_on after_x after_z p)) others))
    ∙ ap (λ rest. flat_map (rows_around sides by_x by_z after_x after_z) rest ++ first) (sym (drop_more qs k 0 lt))
  where
    p : ℕ
    p = get_or qs k 0

    others : List (List ℕ)
    others = flat_map (rows_around sides by_x by_z after_x after_z) (drop (k + 1) qs)

    after : where_asked sides.following (slice_index_or retained (end - 2) [] ∷ slice_index_or retained (end - 1) [] ∷ []) ≡ where_asked sides.following (rows_on after_x after_z p)
    after =
        where-same sides.following _ _
        (λ e.
        let here : end ≡ 2 * (k + 1) = ends e in
        let front : end - 2 ≡ 2 * k = omega (arith, here) in
        let next : end - 1 ≡ 2 * k + 1 = omega (arith, here) in
        (λ i. slice_index_or (is_retained e i) (front i) [] ∷ slice_index_or (is_retained e i) (next i) [] ∷ []) ∙ preserved-at after_x after_z qs k lt)

pub all-before : (P : ℕ → Type 0) (qs : List ℕ) (k q : ℕ) → k < length qs → q ≡ get_or qs k 0 → All P (drop (k + 1) qs) → P q → All P (drop k qs)
all-before P qs k q lt here was is = subst (All P) (sym (drop_more qs k 0 lt)) (All-cons P (get_or qs k 0) (drop (k + 1) qs) (subst P here is) was)
