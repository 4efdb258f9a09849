-- Checkpoints: lists that are repeated, randomness of which no bit is 1, and letters that are the same one by one.
use Rattle.stab_sampler.proofs.Names.{◌≡◌, ℕ, zero, suc, ◌+◌, ◌-◌, ◌*◌, ◌<◌, ◌≤◌, refl, sym, ◌∙◌, ap, subst, Bool, true, false, List, [], ◌∷◌, ◌++◌, append-nil, append_assoc, length, take, drop, map, get_or, inl, inr, arith, cases_lt, length-append, length-map, length-drop, map-append, drop-map, drop-append-le, drop_all, take_at, get_or-map, get_or-drop, ext_get_or, I, ones, RunOutput, joined, output_copies, rest_of, Lengths, ones-split, Letters, Lanes, lane_letters, letter_in, lane_output, times}
use Rattle.std.proofs.Common.{◌⊎◌}

-- a list this often

times-back : {X : Type 0} (k : ℕ) (xs : List X) → times k xs ++ xs ≡ xs ++ times k xs
times-back zero xs = sym (append-nil xs)
times-back (suc k) xs = append_assoc xs (times k xs) xs ∙ ap (λ ys. xs ++ ys) (times-back k xs)

times-none : {X : Type 0} (k : ℕ) → times {X = X} k [] ≡ []
times-none zero = refl
times-none (suc k) = times-none k

times-map : {X Y : Type 0} (f : X → Y) (k : ℕ) (xs : List X) → map f (times k xs) ≡ times k (map f xs)
times-map f zero xs = refl
times-map f (suc k) xs = map-append f xs (times k xs) ∙ ap (λ ys. map f xs ++ ys) (times-map f k xs)

pub length-times : {X : Type 0} (k : ℕ) (xs : List X) → length (times k xs) ≡ k * length xs
length-times zero xs = omega arith
length-times (suc k) xs = length-append xs (times k xs) ∙ ap (λ n. length xs + n) (length-times k xs) ∙ one_more k (length xs)
  where
    one_more : (k n : ℕ) → n + k * n ≡ suc k * n
    one_more k n = omega arith

-- once more, from where it begins
pub appended-more : {X : Type 0} (items now more : List X) (from k following : ℕ) → from < following → following ≡ length items → now ≡ items ++ times k (drop from items)
    → more ≡ now ++ take (following - from) (drop from now) → more ≡ items ++ times (k + 1) (drop from items)
appended-more {X} items now more from k following lt all is put =
    put
    ∙ ap (λ l. l ++ take (following - from) (drop from l)) is
    ∙ ap (λ l. (items ++ ys) ++ take (following - from) l) (drop-append-le from items ys (omega (arith, lt, all)))
    ∙ ap (λ l. (items ++ ys) ++ l) (take_at xs ys (following - from) length-left)
    ∙ append_assoc items ys xs
    ∙ ap (λ l. items ++ l) (times-back k xs)
    ∙ ap (λ n. items ++ times n xs) {x = suc k} {y = k + 1} (omega arith)
  where
    xs : List X
    xs = drop from items

    ys : List X
    ys = times k xs

    length-left : length xs ≡ following - from
    length-left = omega (arith, all, length-drop from items)

pub appended-none : {X : Type 0} (items : List X) (from k : ℕ) → length items ≤ from → items ≡ items ++ times k (drop from items)
appended-none items from k le =
    sym (append-nil items)
    ∙ ap (λ l. items ++ l) (sym (times-none k))
    ∙ ap (λ l. items ++ times k l) (sym (drop_all from items le))

-- outputs this often

copies-times : (k : ℕ) (o : RunOutput)
    → output_copies k o ≡ record { records = times k o.records; free = times k o.free; outcomes = times k o.outcomes; detectors = times k o.detectors; additions = times k o.additions }
copies-times zero o = refl
copies-times (suc k) o = ap (joined o) (copies-times k o)

map-put : {X Y : Type 0} (f : X → Y) (xs ys : List X) (k r : ℕ) → ys ≡ xs ++ times k (drop r xs) → map f ys ≡ map f xs ++ times k (drop r (map f xs))
map-put f xs ys k r is =
    ap (map f) is
    ∙ map-append f xs (times k (drop r xs))
    ∙ ap (λ l. map f xs ++ l) (times-map f k (drop r xs) ∙ ap (times k) (sym (drop-map f r xs)))

pub output-again : {W : Type 0} (at : W → ℕ → Bool) (l : ℕ) (old new : Lanes W) (lengths : Lengths) (k : ℕ)
    → new.records.items ≡ old.records.items ++ times k (drop lengths.records old.records.items)
    → new.free.items ≡ old.free.items ++ times k (drop lengths.free old.free.items)
    → new.detectors.items ≡ old.detectors.items ++ times k (drop lengths.detectors old.detectors.items)
    → new.sums.items ≡ old.sums.items ++ times k (drop lengths.additions old.sums.items)
    → lane_output at l new ≡ joined (lane_output at l old) (output_copies k (rest_of lengths (lane_output at l old)))
output-again at l old new lengths k records free detectors sums =
    (λ i. record {
      records = map-put (λ w. at w l) old.records.items new.records.items k lengths.records records i;
      free = free i;
      outcomes = sym (ap (times k) (drop_all lengths.free [] (omega arith)) ∙ times-none k) i;
      detectors = map-put (λ w. at w l) old.detectors.items new.detectors.items k lengths.detectors detectors i;
      additions = map-put (λ s. record { observable = s.observable; bit = at s.parity l }) old.sums.items new.sums.items k lengths.additions sums i;
    })
    ∙ ap (joined (lane_output at l old)) (sym (copies-times k (rest_of lengths (lane_output at l old))))

-- randomness of which no bit is 1

ones-none : (k : ℕ) (bits : List Bool) → ((t : ℕ) → t < k → get_or bits t false ≡ false) → ones (take k bits) ≡ 0
ones-none zero bits none = refl
ones-none (suc k) [] none = refl
ones-none (suc k) (true ∷ bits) none = absurd (not-false (none 0 (omega arith)))
  where
    not-false : true ≡ false → ⊥
    not-false e = cc
ones-none (suc k) (false ∷ bits) none = ones-none k bits (λ t lt. none (suc t) (omega (arith, lt)))

pub ones-further : (c k : ℕ) (bits : List Bool) → ((t : ℕ) → t < k → get_or bits (c + t) false ≡ false) → ones (take (c + k) bits) ≡ ones (take c bits)
ones-further c k bits none =
    omega (arith, ones-split c k bits, ones-none k (drop c bits) (λ t lt. get_or-drop c bits t false ∙ none t lt))

-- with randomness repeated this often, if no bit is 1 among those and as many as are added
pub counted-again : (bits old new : List Bool) (from k period : ℕ) → period ≡ length old - from → new ≡ old ++ times k (drop from old)
    → ((t : ℕ) → t < period * (k + 1) → get_or bits (from + t) false ≡ false) → ones (take (length new) bits) ≡ ones (take (length old) bits)
counted-again bits old new from k period size is none = by_period (cases_lt 0 period)
  where
    long : length new ≡ length old + k * period
    long =
        ap length is
        ∙ length-append old (times k (drop from old))
        ∙ ap (λ n. length old + n) (length-times k (drop from old) ∙ ap (λ n. k * n) (length-drop from old ∙ sym size))

    whole : (p : ℕ) → p * (k + 1) ≡ p + k * p
    whole p = omega arith

    by_period : (0 < period) ⊎ (period ≤ 0) → ones (take (length new) bits) ≡ ones (take (length old) bits)
    by_period (inl some) =
        ap (λ n. ones (take n bits)) long
        ∙ ones-further (length old) (k * period) bits
        (λ t lt. ap (λ n. get_or bits n false) {x = length old + t} {y = from + (period + t)} (omega (arith, size, some)) ∙ none (period + t) (omega (arith, lt, whole period)))
    by_period (inr nothing) = ap (λ n. ones (take n bits)) (long ∙ ap (λ n. length old + k * n) {x = period} {y = 0} (omega (arith, nothing)) ∙ no_more (length old))
      where
        no_more : (n : ℕ) → n + k * 0 ≡ n
        no_more n = omega arith

-- letters that are the same one by one
pub letters-same : {W : Type 0} (at : W → ℕ → Bool) (l : ℕ) (xs ys : List (Letters W)) → length xs ≡ length ys
    → ((q : ℕ) → q < length xs → get_or (lane_letters at l xs) q I ≡ get_or (lane_letters at l ys) q I) → lane_letters at l xs ≡ lane_letters at l ys
letters-same at l xs ys size are =
    ext_get_or I (lane_letters at l xs) (lane_letters at l ys)
    (length-map xs (letter_in at l) ∙ size ∙ sym (length-map ys (letter_in at l)))
    (λ q lt. are q (subst (λ n. q < n) (length-map xs (letter_in at l)) lt))

pub letter-same : {W : Type 0} (at : W → ℕ → Bool) (l : ℕ) (xs ys : List (Letters W)) (q : ℕ) (x y : Letters W) → q < length xs → length xs ≡ length ys
    → x ≡ get_or xs q x → y ≡ get_or ys q y → letter_in at l x ≡ letter_in at l y → get_or (lane_letters at l xs) q I ≡ get_or (lane_letters at l ys) q I
letter-same at l xs ys q x y lt size at-x at-y same =
    get_or-map (letter_in at l) xs q x I lt
    ∙ ap (letter_in at l) (sym at-x)
    ∙ same
    ∙ ap (letter_in at l) at-y
    ∙ sym (get_or-map (letter_in at l) ys q y I (omega (arith, lt, size)))
