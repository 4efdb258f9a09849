-- Stored rows: one more row, one of them, and what is left of them once numbers are taken out.
use Rattle.stab_regions.proofs.Names.{◌≡◌, ℕ, zero, suc, ◌+◌, ◌-◌, ◌<◌, ◌≤◌, refl, sym, ap, ◌∙◌, subst, Bool, true, false, List, [], ◌∷◌, ◌++◌, length, get_or, take, drop, map, arith, slice_set, if◌then◌else◌, length-drop, length-append, length-take, drop_all, take-append-drop, take-append-le, drop-append-le, take_all, take_at, drop_at, drop-drop, drop_more, take_more_set, drop-set-lt, nil_from_length, filter-append, rows_cut, Rises, is_stored, retained_of, ends_retained}
use Rattle.std.proofs.lemmas.List.{append-nil, append_assoc}

-- ends

pub rises-below : (b : ℕ) (es : List ℕ) (t : ℕ) → Rises b es t → b ≤ t
rises-below b [] t r = omega (arith, r)
rises-below b (e ∷ es) t r = omega (arith, r.0, rises-below e es t r.1)

pub rises-push : (b : ℕ) (es : List ℕ) (t m : ℕ) → Rises b es t → Rises b (es ++ (t + m) ∷ []) (t + m)
rises-push b [] t m r = (omega (arith, r), refl)
rises-push b (e ∷ es) t m r = (r.0, rises-push e es t m r.1)

pub rises-at : (b : ℕ) (es : List ℕ) (t k : ℕ) → Rises b es t → k < length es →
    (b ≤ get_or (b ∷ es) k 0) × (get_or (b ∷ es) k 0 ≤ get_or es k 0) × (get_or es k 0 ≤ t)
rises-at b [] t k r lt = absurd (omega arith)
rises-at b (e ∷ es) t zero r lt = (omega arith, r.0, rises-below e es t r.1)
rises-at b (e ∷ es) t (suc k) r lt =
    let rest = rises-at e es t k r.1 (omega arith) in
    (omega (arith, r.0, rest.0), rest.1, rest.2)

-- rows

pub length-cut : (b : ℕ) (es rest : List ℕ) → length (rows_cut b es rest) ≡ length es
length-cut b [] rest = refl
length-cut b (e ∷ es) rest = ap suc (length-cut e es (drop (e - b) rest))

pub cut-push : (b : ℕ) (es rest row : List ℕ) (t : ℕ) → t ≡ b + length rest → Rises b es t →
    rows_cut b (es ++ (t + length row) ∷ []) (rest ++ row) ≡ rows_cut b es rest ++ row ∷ []
cut-push b [] rest row t is r =
    let empty : rest ≡ [] = nil_from_length rest (omega (arith, r)) in
    let whole : rest ++ row ≡ row = ap (λ (x : List ℕ). x ++ row) empty in
    ap (λ (x : List ℕ). x ∷ []) (ap (take (t + length row - b)) whole ∙ take_all (t + length row - b) row (omega (arith, r)))
cut-push b (e ∷ es) rest row t is r =
    let le : e - b ≤ length rest = omega (arith, rises-below e es t r.1) in
    let left : t ≡ e + length (drop (e - b) rest) = omega (arith, length-drop (e - b) rest, le, r.0, is) in
    ap (λ (x : List ℕ). x ∷ rows_cut e (es ++ (t + length row) ∷ []) (drop (e - b) (rest ++ row))) (take-append-le (e - b) rest row le)
    ∙ ap (λ (x : List (List ℕ)). take (e - b) rest ∷ x)
    (ap (rows_cut e (es ++ (t + length row) ∷ [])) (drop-append-le (e - b) rest row le) ∙ cut-push e es (drop (e - b) rest) row t left r.1)

pub get-cut : (b : ℕ) (es rest : List ℕ) (t k : ℕ) → Rises b es t → k < length es →
    get_or (rows_cut b es rest) k [] ≡ take (get_or es k 0 - get_or (b ∷ es) k 0) (drop (get_or (b ∷ es) k 0 - b) rest)
get-cut b [] rest t k r lt = absurd (omega arith)
get-cut b (e ∷ es) rest t zero r lt =
    let none : 0 ≡ b - b = omega arith in
    ap (λ n. take (e - b) (drop n rest)) none
get-cut b (e ∷ es) rest t (suc k) r lt =
    let bounds = rises-at e es t k r.1 (omega arith) in
    let steps : (e - b) + (get_or (e ∷ es) k 0 - e) ≡ get_or (e ∷ es) k 0 - b = omega (arith, bounds.0, r.0) in
    get-cut e es (drop (e - b) rest) t k r.1 (omega arith)
    ∙ ap (take (get_or es k 0 - get_or (e ∷ es) k 0))
    (drop-drop (get_or (e ∷ es) k 0 - e) (e - b) rest ∙ ap (λ n. drop n rest) steps)

pub push-all : (ends after numbers all row : List ℕ) (end : ℕ) → after ≡ ends ++ end ∷ [] → all ≡ numbers ++ row → end ≡ length all → Rises 0 ends (length numbers) →
    Rises 0 after (length all) × (rows_cut 0 after all ≡ rows_cut 0 ends numbers ++ row ∷ [])
push-all ends after numbers all row end is whole long r =
    let total : length all ≡ length numbers + length row = omega (arith, ap length whole, length-append numbers row) in
    let ends_are : after ≡ ends ++ (length numbers + length row) ∷ [] = is ∙ ap (λ e. ends ++ e ∷ []) (long ∙ total) in (
      subst (λ (es : List ℕ). Rises 0 es (length all)) (sym ends_are)
          (subst (Rises 0 (ends ++ (length numbers + length row) ∷ [])) (sym total) (rises-push 0 ends (length numbers) (length row) r)),
      (λ i. rows_cut 0 (ends_are i) (whole i)) ∙ cut-push 0 ends numbers row (length numbers) (omega arith) r,
    )

from_start : (n : ℕ) → n ≡ n - 0
from_start n = omega arith

pub row-is : (ends numbers : List ℕ) (k begin end : ℕ) → Rises 0 ends (length numbers) → k < length ends → begin ≡ get_or (0 ∷ ends) k 0 → end ≡ get_or ends k 0 →
    take (end - begin) (drop begin numbers) ≡ get_or (rows_cut 0 ends numbers) k []
row-is ends numbers k begin end r lt b e =
    (λ i. take (e i - b i) (drop (b i) numbers))
    ∙ ap (λ n. take (get_or ends k 0 - get_or (0 ∷ ends) k 0) (drop n numbers)) (from_start (get_or (0 ∷ ends) k 0))
    ∙ sym (get-cut 0 ends numbers (length numbers) k r lt)

-- fewer numbers

preserved-split : (retained : List Bool) (m : ℕ) (rest : List ℕ) → retained_of retained rest ≡ retained_of retained (take m rest) ++ retained_of retained (drop m rest)
preserved-split retained m rest = ap (retained_of retained) (sym (take-append-drop m rest)) ∙ filter-append (is_stored retained) (take m rest) (drop m rest)

pub cut-retained : (retained : List Bool) (count b : ℕ) (es rest : List ℕ) →
    rows_cut count (ends_retained retained count b es rest) (retained_of retained rest) ≡ map (retained_of retained) (rows_cut b es rest)
cut-retained retained count b [] rest = refl
cut-retained retained count b (e ∷ es) rest =
    let front : List ℕ = retained_of retained (take (e - b) rest) in
    let back : List ℕ = retained_of retained (drop (e - b) rest) in
    let after : ℕ = count + length front in
    let long : length front ≡ after - count = omega arith in
    let ends : List ℕ = ends_retained retained after e es (drop (e - b) rest) in
    ap (λ (x : List ℕ). x ∷ rows_cut after ends (drop (after - count) (retained_of retained rest)))
    (ap (take (after - count)) (preserved-split retained (e - b) rest) ∙ take_at front back (after - count) long)
    ∙ ap (λ (x : List (List ℕ)). front ∷ x)
    (ap (rows_cut after ends) (ap (drop (after - count)) (preserved-split retained (e - b) rest) ∙ drop_at front back (after - count) long)
    ∙ cut-retained retained after e es (drop (e - b) rest))

pub rises-retained : (retained : List Bool) (count b : ℕ) (es rest : List ℕ) (t : ℕ) → t ≡ b + length rest → Rises b es t →
    Rises count (ends_retained retained count b es rest) (count + length (retained_of retained rest))
rises-retained retained count b [] rest t is r =
    let empty : rest ≡ [] = nil_from_length rest (omega (arith, r)) in
    let none : length (retained_of retained rest) ≡ 0 = ap (λ (x : List ℕ). length (retained_of retained x)) empty in
    omega (arith, none)
rises-retained retained count b (e ∷ es) rest t is r =
    let le : e - b ≤ length rest = omega (arith, rises-below e es t r.1) in
    let left : t ≡ e + length (drop (e - b) rest) = omega (arith, length-drop (e - b) rest, le, r.0, is) in
    let front : List ℕ = retained_of retained (take (e - b) rest) in
    let back : List ℕ = retained_of retained (drop (e - b) rest) in
    let total : count + length front + length back ≡ count + length (retained_of retained rest) =
    omega (arith, ap length (preserved-split retained (e - b) rest), length-append front back) in
    (omega arith, subst (Rises (count + length front) (ends_retained retained (count + length front) e es (drop (e - b) rest))) total (rises-retained retained (count + length front) e es (drop (e - b) rest) t left r.1))

-- one end is moved

pub rises-drop : (b : ℕ) (es : List ℕ) (t k : ℕ) → k < length es → Rises b (drop k es) t → (b ≤ get_or es k 0) × Rises (get_or es k 0) (drop (k + 1) es) t
rises-drop b es t k lt r = subst (λ (x : List ℕ). Rises b x t) (drop_more es k 0 lt) r

pub ends-step : (retained : List Bool) (count b k : ℕ) (ends numbers target : List ℕ) (after : ℕ) → k < length ends → b ≤ get_or ends k 0 →
    after ≡ count + length (retained_of retained (take (get_or ends k 0 - b) (drop b numbers))) →
    take k ends ++ ends_retained retained count b (drop k ends) (drop b numbers) ≡ target →
    take (k + 1) (slice_set ends k after) ++ ends_retained retained after (get_or ends k 0) (drop (k + 1) (slice_set ends k after)) (drop (get_or ends k 0) numbers) ≡ target
ends-step retained count b k ends numbers target after lt le is so_far =
    let e : ℕ = get_or ends k 0 in
    let later : List ℕ = drop (k + 1) ends in
    let there : b + (e - b) ≡ e = omega (arith, le) in
    (λ i. take_more_set ends k after lt i ++ ends_retained retained after e (drop-set-lt (k + 1) ends k after (omega arith) i) (drop e numbers))
    ∙ append_assoc (take k ends) (after ∷ []) (ends_retained retained after e later (drop e numbers))
    ∙ (λ i. take k ends ++ is i ∷ ends_retained retained (is i) e later (sym (drop-drop (e - b) b numbers ∙ ap (λ n. drop n numbers) there) i))
    ∙ ap (λ (x : List ℕ). take k ends ++ ends_retained retained count b x (drop b numbers)) (sym (drop_more ends k 0 lt))
    ∙ so_far

-- no more numbers are left than were there, and a part has as many as it reaches over
pub preserved-few : (retained : List Bool) (xs : List ℕ) → length (retained_of retained xs) ≤ length xs
preserved-few retained [] = omega arith
preserved-few retained (x ∷ xs) = counted (is_stored retained x) (preserved-few retained xs)
  where
    counted : (b : Bool) → length (retained_of retained xs) ≤ length xs → length (if b then x ∷ retained_of retained xs else retained_of retained xs) ≤ suc (length xs)
    counted true le = omega arith
    counted false le = omega arith

pub part-long : (retained : List Bool) (numbers : List ℕ) (b e : ℕ) → length (retained_of retained (take (e - b) (drop b numbers))) ≤ e - b
part-long retained numbers b e =
    omega (arith, preserved-few retained (take (e - b) (drop b numbers)), length-take (e - b) (drop b numbers))

-- what is left to be moved at the end is nothing
pub ends-end : (retained : List Bool) (count b k : ℕ) (ends numbers target : List ℕ) → length ends ≤ k →
    take k ends ++ ends_retained retained count b (drop k ends) (drop b numbers) ≡ target → ends ≡ target
ends-end retained count b k ends numbers target le so_far =
    sym (append-nil ends)
    ∙ (λ i. sym (take_all k ends le) i ++ ends_retained retained count b (sym (drop_all k ends le) i) (drop b numbers))
    ∙ so_far

pub length-retained : (retained : List Bool) (count b : ℕ) (es rest : List ℕ) → length (ends_retained retained count b es rest) ≡ length es
length-retained retained count b [] rest = refl
length-retained retained count b (e ∷ es) rest = ap suc (length-retained retained (count + length (retained_of retained (take (e - b) rest))) e es (drop (e - b) rest))
