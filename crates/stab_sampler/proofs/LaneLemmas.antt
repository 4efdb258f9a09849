-- Lanes: the bits of a lane of words that are added up, and put after others.
use Rattle.stab_sampler.proofs.Names.{◌≡◌, ℕ, zero, suc, ◌+◌, ◌<◌, ◌≤◌, refl, sym, ◌∙◌, ap, Bool, true, false, List, [], ◌∷◌, ◌++◌, append-nil, length, get_or, set, take, drop, map, replicate, arith, if◌then◌else◌, get_or-map, map-append, map-set, drop_more, take_all, drop_all, ◌⊕◌, when, added, with_additions, flipped, Sum, lane_bits, lane_additions}

pub map-replicate : {X Y : Type 0} (f : X → Y) (n : ℕ) (x : X) (y : Y) → f x ≡ y → map f (replicate n x) ≡ replicate n y
map-replicate f zero x y e = refl
map-replicate f (suc n) x y e = λ i. e i ∷ map-replicate f n x y e i

-- additions, one by one

pub adds-next : {W : Type 0} (at : W → ℕ → Bool) (l : ℕ) (sums : List (Sum W)) (i : ℕ) (s : Sum W) (bits following total : List Bool) → i < length sums → s ≡ get_or sums i s
    → with_additions (lane_additions at l (drop i sums)) bits ≡ total → following ≡ added s.observable (at s.parity l) bits
    → with_additions (lane_additions at l (drop (i + 1) sums)) following ≡ total
adds-next {W = W} at l sums i s bits following total lt is were are =
    ap (with_additions (lane_additions at l (drop (i + 1) sums))) are
    ∙ ap (λ (x : Sum W). with_additions (lane_additions at l (x ∷ drop (i + 1) sums)) bits) is
    ∙ ap (λ r. with_additions (lane_additions at l r) bits) (sym (drop_more sums i s lt))
    ∙ were

pub added-inside : {W : Type 0} (at : W → ℕ → Bool) (l : ℕ) (ws : List W) (j : ℕ) (b : Bool) (w v : W) → j < length ws → w ≡ get_or ws j w → at v l ≡ b ⊕ at w l
    → lane_bits at l (set ws j v) ≡ added j b (lane_bits at l ws)
added-inside at l ws j b w v lt is are =
    map-set (λ w. at w l) ws j v
    ∙ ap (set (lane_bits at l ws) j) (are ∙ ap (λ x. b ⊕ at x l) is ∙ ap (λ x. b ⊕ x) (sym (get_or-map (λ w. at w l) ws j w false lt)))

-- words put after others

pub bits-when : {W : Type 0} (at : W → ℕ → Bool) (l : ℕ) (ws : List W) (test : Bool) (w : W) (b : Bool) → at w l ≡ b
    → lane_bits at l (ws ++ (if test then w ∷ [] else [])) ≡ lane_bits at l ws ++ when test b
bits-when at l ws true w b is = map-append (λ w. at w l) ws (w ∷ []) ∙ ap (λ b. lane_bits at l ws ++ b ∷ []) is
bits-when at l ws false w b is = map-append (λ w. at w l) ws []

-- bits flipped one after another

flip-next : (i : ℕ) (bits flips : List Bool) → i < length bits → i < length flips
    → take (suc i) (set flips i (get_or flips i false ⊕ get_or bits i false)) ++ flipped (drop (suc i) bits) (drop (suc i) (set flips i (get_or flips i false ⊕ get_or bits i false)))
    ≡ take i flips ++ flipped (drop i bits) (drop i flips)
flip-next i [] flips lt within = absurd (omega arith)
flip-next i (b ∷ bits) [] lt within = absurd (omega arith)
flip-next zero (b ∷ bits) (f ∷ flips) lt within = refl
flip-next (suc i) (b ∷ bits) (f ∷ flips) lt within = ap (λ l. f ∷ l) (flip-next i bits flips (omega arith) (omega arith))

pub flips-next : (bits flips new total : List Bool) (i : ℕ) → i < length bits → i < length flips → new ≡ set flips i (get_or flips i false ⊕ get_or bits i false)
    → take i flips ++ flipped (drop i bits) (drop i flips) ≡ total → take (i + 1) new ++ flipped (drop (i + 1) bits) (drop (i + 1) new) ≡ total
flips-next bits flips new total i lt within is were =
    let one_more : i + 1 ≡ suc i = omega arith in
    (λ k. take (one_more k) (is k) ++ flipped (drop (one_more k) bits) (drop (one_more k) (is k)))
    ∙ flip-next i bits flips lt within
    ∙ were

-- a word flipped in all lanes
pub flips-at : {W : Type 0} (at : W → ℕ → Bool) (l : ℕ) (ws : List W) (i : ℕ) (w v : W) → i < length ws → w ≡ get_or ws i w → at v l ≡ at w l ⊕ true
    → lane_bits at l (set ws i v) ≡ set (lane_bits at l ws) i (get_or (lane_bits at l ws) i false ⊕ true)
flips-at at l ws i w v lt is made =
    map-set (λ w. at w l) ws i v
    ∙ ap (set (lane_bits at l ws) i) (made ∙ ap (λ b. b ⊕ true) (ap (λ x. at x l) is ∙ sym (get_or-map (λ w. at w l) ws i w false lt)))

pub flips-all : (bits flips total : List Bool) (i : ℕ) → length flips ≡ length bits → length bits ≤ i
    → take i flips ++ flipped (drop i bits) (drop i flips) ≡ total → flips ≡ total
flips-all bits flips total i same all were =
    sym (append-nil flips)
    ∙ (λ k. sym (take_all i flips (omega (arith, same, all))) k ++ flipped (sym (drop_all i bits all) k) (drop i flips))
    ∙ were
