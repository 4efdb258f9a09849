-- Seeds: words with a bit flipped in one lane, words joined, and the coins of a lane or part more.
use Rattle.stab_sampler.proofs.Names.{◌≡◌, ◌≢◌, ℕ, ◌+◌, ◌-◌, ◌*◌, ◌<◌, ◌≤◌, ◌^◌, ◌%◌, sym, ◌∙◌, ap, subst, eqb, Bool, true, false, ◌&&◌, nat_lt, List, [], get_or, set, length, replicate, ◌/◌, min, inl, inr, arith, bit_xor, if◌then◌else◌, ◌⊎◌, cases_lt, cases_order, cases_eq, nat_tests, get_or-replicate, get_or-set_same, get_or-set_other, bit_at-pow_same, bit_at-pow_other, bit_at_cat_low, bit_at_cat_high, mod-eq_of_lt, pow-lt, ◌⊕◌, parity-false, seed_coin, word_bit, wide_bit, lane_coin, AreCoins, AreCoinsOfParts, SeededShots}
use Rattle.stab_sampler.proofs.WordLemmas.{word_bit-xor, word_bit-zero}

-- 1 or 0, moved to a lane
moved-one : (lane : ℕ) → lane < 32 → 1 * 2 ^ lane % 4294967296 ≡ 2 ^ lane
moved-one lane lt = let e : 1 * 2 ^ lane ≡ 2 ^ lane = omega arith in ap (λ w. w % 4294967296) e ∙ mod-eq_of_lt (pow-lt lt)

moved-none : (lane one : ℕ) → one ≡ 0 → one * 2 ^ lane % 4294967296 ≡ 0
moved-none lane one e = let zero : one * 2 ^ lane ≡ 0 = ap (λ w. w * 2 ^ lane) e ∙ omega arith in ap (λ w. w % 4294967296) zero

moved-here : (lane : ℕ) → lane < 32 → (bit : Bool) (one : ℕ) → one ≡ (if bit then 1 else 0) → word_bit (one * 2 ^ lane % 4294967296) lane ≡ bit
moved-here lane lt true one e = ap (λ w. word_bit (w * 2 ^ lane % 4294967296) lane) e ∙ ap (λ w. word_bit w lane) (moved-one lane lt) ∙ ap (λ b. eqb b 1) (bit_at-pow_same lane)
moved-here lane lt false one e = ap (λ w. word_bit w lane) (moved-none lane one e) ∙ word_bit-zero lane

moved-off : (lane : ℕ) → lane < 32 → (bit : Bool) (one l : ℕ) → l ≢ lane → one ≡ (if bit then 1 else 0) → word_bit (one * 2 ^ lane % 4294967296) l ≡ false
moved-off lane lt true one l ne e =
    ap (λ w. word_bit (w * 2 ^ lane % 4294967296) l) e ∙ ap (λ w. word_bit w l) (moved-one lane lt) ∙ ap (λ b. eqb b 1) (bit_at-pow_other lane l ne)
moved-off lane lt false one l ne e = ap (λ w. word_bit w l) (moved-none lane one e) ∙ word_bit-zero l

pub flipped-here : (word lane one : ℕ) (bit : Bool) → lane < 32 → one ≡ (if bit then 1 else 0) → word_bit word lane ≡ false
    → word_bit (bit_xor word (one * 2 ^ lane % 4294967296)) lane ≡ bit
flipped-here word lane one bit lt is zero = word_bit-xor word (one * 2 ^ lane % 4294967296) lane ∙ (λ i. zero i ⊕ moved-here lane lt bit one is i)

pub flipped-off : (word lane one : ℕ) (bit : Bool) → lane < 32 → one ≡ (if bit then 1 else 0) → (l : ℕ) → l ≢ lane
    → word_bit (bit_xor word (one * 2 ^ lane % 4294967296)) l ≡ word_bit word l
flipped-off word lane one bit lt is l ne =
    word_bit-xor word (one * 2 ^ lane % 4294967296) l ∙ ap (λ b. word_bit word l ⊕ b) (moved-off lane lt bit one l ne is) ∙ parity-false (word_bit word l)

-- a word of two halves

pub joined-low : (low high l : ℕ) → high < 4294967296 → l < 32 → word_bit (high * 2 ^ 32 % 18446744073709551616 + low) l ≡ word_bit low l
joined-low low high l small lt =
    let whole : high * 2 ^ 32 % 18446744073709551616 + low ≡ high * 2 ^ 32 + low = omega (arith, small) in
    ap (λ w. word_bit w l) whole ∙ ap (λ b. eqb b 1) (bit_at_cat_low high 32 low l lt)

pub joined-high : (low high l : ℕ) → high < 4294967296 → low < 4294967296 → word_bit (high * 2 ^ 32 % 18446744073709551616 + low) (32 + l) ≡ word_bit high l
joined-high low high l small few =
    let whole : high * 2 ^ 32 % 18446744073709551616 + low ≡ high * 2 ^ 32 + low = omega (arith, small) in
    let position : 32 + l - 32 ≡ l = omega arith in
    ap (λ w. word_bit w (32 + l)) whole ∙ ap (λ b. eqb b 1) (bit_at_cat_high high 32 low (32 + l) few (omega arith)) ∙ ap (word_bit high) position

-- the coins of lanes

pub is_less : (l n : ℕ) → l < n → nat_lt l n ≡ true
is_less l n lt = grind (arith, nat_tests, lt)

pub is_beyond : (l n : ℕ) → n ≤ l → nat_lt l n ≡ false
is_beyond l n le = grind (arith, nat_tests, le)

pub coin-of_shot : (c : SeededShots) (l t : ℕ) → l < c.count → lane_coin c l t ≡ seed_coin c.seed ((c.first + l) % 2 ^ 64) t
coin-of_shot c l t lt = ap (λ b. b && seed_coin c.seed ((c.first + l) % 2 ^ 64) t) (is_less l c.count lt)

coin-beyond : (c : SeededShots) (l t : ℕ) → c.count ≤ l → lane_coin c l t ≡ false
coin-beyond c l t le = ap (λ b. b && seed_coin c.seed ((c.first + l) % 2 ^ 64) t) (is_beyond l c.count le)

-- this many of some shots
abbrev pub first_shots : SeededShots → ℕ → SeededShots
first_shots c count = record c { count = count }

same_test : (a b m n : ℕ) → (a < b → m < n) → (m < n → a < b) → nat_lt a b ≡ nat_lt m n
same_test a b m n there back = grind (arith, nat_tests, there, back)

coin-same : (c : SeededShots) (m n l t : ℕ) → (l < m → l < n) → (l < n → l < m) → lane_coin (first_shots c m) l t ≡ lane_coin (first_shots c n) l t
coin-same c m n l t there back = ap (λ b. b && seed_coin c.seed ((c.first + l) % 2 ^ 64) t) (same_test l m l n there back)

-- those after some shots
pub coin-later : (seed first count skipped l t now left : ℕ) → now ≡ (first + skipped) % 2 ^ 64 → left ≡ count - skipped
    → nat_lt l left && seed_coin seed ((now + l) % 2 ^ 64) t ≡ nat_lt (skipped + l) count && seed_coin seed ((first + (skipped + l)) % 2 ^ 64) t
coin-later seed first count skipped l t now left begins are = λ i. as_many i && seed_coin seed (shot i) t
  where
    shot : (now + l) % 18446744073709551616 ≡ (first + (skipped + l)) % 18446744073709551616
    shot = omega (arith, begins)

    as_many : nat_lt l left ≡ nat_lt (skipped + l) count
    as_many = same_test l left (skipped + l) count (λ h. omega (arith, h, are)) (λ h. omega (arith, h, are))

-- one lane more

pub coins-none : (c : SeededShots) (group : ℕ) → AreCoins (first_shots c 0) group 32 (replicate 64 0)
coins-none c group k l small lt =
    ap (λ w. word_bit w l) (get_or-replicate 64 k 0 0 small) ∙ word_bit-zero l ∙ sym (coin-beyond (first_shots c 0) l (64 * group + k) (omega arith))

pub coins-next : (c : SeededShots) (group lane : ℕ) (words new : List ℕ) → lane < 32 → AreCoins (first_shots c lane) group 32 words
    → ((k : ℕ) → k < 64 → word_bit (get_or words k 0) lane ≡ false → word_bit (get_or new k 0) lane ≡ seed_coin c.seed ((c.first + lane) % 2 ^ 64) (64 * group + k))
    → ((k l : ℕ) → k < 64 → l ≢ lane → word_bit (get_or new k 0) l ≡ word_bit (get_or words k 0) l)
    → AreCoins (first_shots c (lane + 1)) group 32 new
coins-next c group lane words new few made here others k l small lt = by_lane (cases_eq l lane)
  where
    t : ℕ
    t = 64 * group + k

    blank : word_bit (get_or words k 0) lane ≡ false
    blank = made k lane small few ∙ coin-beyond (first_shots c lane) lane t (omega arith)

    by_lane : (l ≡ lane) ⊎ (l ≡ lane → ⊥) → word_bit (get_or new k 0) l ≡ lane_coin (first_shots c (lane + 1)) l t
    by_lane (inl e) =
        subst (λ i. word_bit (get_or new k 0) i ≡ lane_coin (first_shots c (lane + 1)) i t) (sym e)
        (here k small blank ∙ sym (coin-of_shot (first_shots c (lane + 1)) lane t (omega arith)))
    by_lane (inr ne) = others k l small ne ∙ made k l small lt ∙ coin-same c lane (lane + 1) l t (λ h. omega (arith, h)) (λ h. omega (arith, h, ne))

pub coins-all : (c : SeededShots) (group count : ℕ) (words : List ℕ) → count ≡ min c.count 32 → AreCoins (first_shots c count) group 32 words → AreCoins c group 32 words
coins-all c group count words is made k l small lt =
    made k l small lt ∙ coin-same c count c.count l (64 * group + k) (λ h. omega (arith, h, is)) (λ h. omega (arith, h, is, lt))

-- two halves
pub coins-joined : (c later : SeededShots) (group : ℕ) (low high words : List ℕ) → AreCoins c group 32 low → AreCoins later group 32 high
    → ((l t : ℕ) → lane_coin later l t ≡ lane_coin c (32 + l) t)
    → ((k l : ℕ) → k < 64 → l < 32 → word_bit (get_or words k 0) l ≡ word_bit (get_or low k 0) l)
    → ((k l : ℕ) → k < 64 → word_bit (get_or words k 0) (32 + l) ≡ word_bit (get_or high k 0) l)
    → AreCoins c group 64 words
coins-joined c later group low high words lows highs are front back k l small lt = by_half (cases_lt l 32)
  where
    by_half : (l < 32) ⊎ (32 ≤ l) → word_bit (get_or words k 0) l ≡ lane_coin c l (64 * group + k)
    by_half (inl less) = front k l small less ∙ lows k l small less
    by_half (inr le) =
        let position : 32 + (l - 32) ≡ l = omega (arith, le) in
        subst (λ i. word_bit (get_or words k 0) i ≡ lane_coin c i (64 * group + k)) position
        (back k (l - 32) small ∙ highs k (l - 32) small (omega (arith, lt)) ∙ are (l - 32) (64 * group + k))

-- the coins of all parts are those of the lanes
pub coins-parts : (c : SeededShots) (group parts t : ℕ) (words : List (List ℕ)) (coins : List ℕ) → AreCoinsOfParts c group parts words
    → ((p : ℕ) → p < parts → get_or coins p 0 ≡ get_or (get_or words p []) (t % 64) 0) → group ≡ t / 64 → (l : ℕ) → l < 64 * parts
    → wide_bit coins l ≡ lane_coin c l t
coins-parts c group parts t words coins are at e l lt =
    let within : l / 64 < parts = omega (arith, lt) in
    let lane : 64 * (l / 64) + l % 64 ≡ l = omega arith in
    let position : 64 * group + t % 64 ≡ t = omega (arith, e) in
    ap (λ w. word_bit w (l % 64)) (at (l / 64) within)
    ∙ are (l / 64) (t % 64) (l % 64) within (omega arith) (omega arith)
    ∙ (λ i. lane_coin c (lane i) (position i))

-- one part more
pub part-next : (c left : SeededShots) (group part : ℕ) (words : List (List ℕ)) (coins : List ℕ) → part < length words → AreCoinsOfParts c group part words
    → AreCoins left group 64 coins → ((l t : ℕ) → lane_coin left l t ≡ lane_coin c (64 * part + l) t) → AreCoinsOfParts c group (part + 1) (set words part coins)
part-next c left group part words coins lt made here are p k l small few less = by_order (cases_order p part)
  where
    at : List (List ℕ) → ℕ → Type 0
    at new i = word_bit (get_or (get_or new i []) k 0) l ≡ lane_coin c (64 * i + l) (64 * group + k)

    by_order : (p ≡ part) ⊎ ((p < part) ⊎ (part < p)) → at (set words part coins) p
    by_order (inl e) =
        subst (at (set words part coins)) (sym e)
        (ap (λ w. word_bit (get_or w k 0) l) (get_or-set_same words part coins [] lt) ∙ here k l few less ∙ are l (64 * group + k))
    by_order (inr (inl before)) =
        ap (λ w. word_bit (get_or w k 0) l) (get_or-set_other words part p coins [] (λ e. absurd (omega (arith, e, before)))) ∙ made p k l before few less
    by_order (inr (inr following)) = absurd (omega (arith, small, following))

pub left-next : (c left now : SeededShots) (part : ℕ) → ((l t : ℕ) → lane_coin left l t ≡ lane_coin c (64 * part + l) t)
    → ((l t : ℕ) → lane_coin now l t ≡ lane_coin left (64 + l) t) → (l t : ℕ) → lane_coin now l t ≡ lane_coin c (64 * (part + 1) + l) t
left-next c left now part are later l t =
    let lane : 64 * part + (64 + l) ≡ 64 * (part + 1) + l = omega arith in
    later l t ∙ are (64 + l) t ∙ ap (λ i. lane_coin c i t) lane
