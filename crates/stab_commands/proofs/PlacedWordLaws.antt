-- Laws of placed words: the words of 64 lanes that are not 0, and bits by the positions of those that are 1.
use Rattle.stab_commands.proofs.Names.{◌≡◌, refl, sym, ap, ap₂, ◌∙◌, subst, ℕ, suc, ◌+◌, ◌<◌, ◌≤◌, Bool, true, false, List, [], ◌∷◌, ◌++◌, append_assoc, append-nil, length, take, replicate, get_or, All, if◌then◌else◌, arith, set-append_seam, get_or-map, length-append, length-map, take_all, take_more, All-nil, All-cons, one_positions_from, one_positions, word_bit, lane_bits, word_bit-zero, NumberedWord, set_all, positions_in}
use Rattle.stab_commands.proofs.CoinPositionLemmas.{positions-next}

-- a word more
pub positions-push : (l : ℕ) (ws : List NumberedWord) (w : NumberedWord) → positions_in l (ws ++ w ∷ []) ≡ positions_in l ws ++ (if word_bit w.word l then w.position ∷ [] else [])
positions-push l [] w = refl
positions-push l (x ∷ ws) w = by_test (positions-push l ws w) (word_bit x.word l)
  where
    by_test : positions_in l (ws ++ w ∷ []) ≡ positions_in l ws ++ (if word_bit w.word l then w.position ∷ [] else []) → (b : Bool) → (if b then x.position ∷ positions_in l (ws ++ w ∷ []) else positions_in l (ws ++ w ∷ []))
        ≡ (if b then x.position ∷ positions_in l ws else positions_in l ws) ++ (if word_bit w.word l then w.position ∷ [] else [])
    by_test later true = ap (λ k. x.position ∷ k) later
    by_test later false = later

-- a word that is 0 has no positions
pub positions-zero : (l position word : ℕ) (ws : List NumberedWord) → word ≡ 0 → positions_in l ws ≡ positions_in l ws ++ (if word_bit word l then position ∷ [] else [])
positions-zero l position word ws zero' =
    sym (ap (λ b. positions_in l ws ++ (if b then position ∷ [] else [])) (ap (λ w. word_bit w l) zero' ∙ word_bit-zero l) ∙ append-nil (positions_in l ws))

-- the first words, and one more
pub positions-more : (l : ℕ) (ws : List NumberedWord) (i : ℕ) (d : NumberedWord) (b : Bool) → i < length ws → word_bit (get_or ws i d).word l ≡ b
    → positions_in l (take (i + 1) ws) ≡ positions_in l (take i ws) ++ (if b then (get_or ws i d).position ∷ [] else [])
positions-more l ws i d b within test =
    ap (positions_in l) (take_more ws i d within)
    ∙ positions-push l (take i ws) (get_or ws i d)
    ∙ ap (λ c. positions_in l (take i ws) ++ (if c then (get_or ws i d).position ∷ [] else [])) test

-- the positions of the first bits of a lane, and of one more
pub lane-more : {W : Type 0} (at : W → ℕ → Bool) (l k : ℕ) (words : List W) (word : W) (here : Bool) → k < length words → word ≡ get_or words k word → at word l ≡ here
    → one_positions (take (k + 1) (lane_bits at l words)) ≡ one_positions (take k (lane_bits at l words)) ++ (if here then k ∷ [] else [])
lane-more at l k words word here within is test =
    let bits = lane_bits at l words in
    let bit : get_or bits k false ≡ here = get_or-map (λ w. at w l) words k word false within ∙ ap (λ w. at w l) (sym is) ∙ test in
    ap (λ m. one_positions (take m bits)) {x = k + 1} {y = suc k} (omega arith)
    ∙ positions-next 0 bits k
    ∙ ap (λ m. one_positions (take k bits) ++ (if get_or bits k false then m ∷ [] else [])) {x = 0 + k} {y = k} (omega arith)
    ∙ ap (λ b. one_positions (take k bits) ++ (if b then k ∷ [] else [])) bit

-- those of all
pub lane-all : {W : Type 0} (at : W → ℕ → Bool) (l k : ℕ) (words : List W) → length words ≤ k → one_positions (take k (lane_bits at l words)) ≡ one_positions (lane_bits at l words)
lane-all at l k words long = ap one_positions (take_all k (lane_bits at l words) (omega (arith, long, length-map words (λ w. at w l))))

-- bits that are 0, of which those at the positions of 1 bits are set

set-from : (front bits : List Bool) → set_all (one_positions_from (length front) bits) true (front ++ replicate (length bits) false) ≡ front ++ bits
set-from front [] = refl
set-from front (false ∷ bits) =
    let longer : length front + 1 ≡ length (front ++ false ∷ []) = sym (length-append front (false ∷ [])) in
    ap₂ (λ p l. set_all (one_positions_from p bits) true l) longer (sym (append_assoc front (false ∷ []) (replicate (length bits) false)))
    ∙ set-from (front ++ false ∷ []) bits
    ∙ append_assoc front (false ∷ []) bits
set-from front (true ∷ bits) =
    let longer : length front + 1 ≡ length (front ++ true ∷ []) = sym (length-append front (true ∷ [])) in
    ap₂ (λ p l. set_all (one_positions_from p bits) true l) longer (set-append_seam front false (replicate (length bits) false) true ∙ sym (append_assoc front (true ∷ []) (replicate (length bits) false)))
    ∙ set-from (front ++ true ∷ []) bits
    ∙ append_assoc front (true ∷ []) bits

pub set-ones : (bits zeros : List Bool) (positions : List ℕ) → zeros ≡ replicate (length zeros) false → length bits ≡ length zeros → one_positions bits ≡ positions → set_all positions true zeros ≡ bits
set-ones bits zeros positions are as_many is =
    ap₂ (λ ks l. set_all ks true l) (sym is) (are ∙ ap (λ n. replicate n false) (sym as_many)) ∙ set-from [] bits

-- the positions of 1 bits are those of bits

ones-from : (position n : ℕ) (bits : List Bool) → position + length bits ≤ n → All (λ k. k < n) (one_positions_from position bits)
ones-from position n [] within = All-nil (λ k. k < n)
ones-from position n (false ∷ bits) within = ones-from (position + 1) n bits (omega (arith, within))
ones-from position n (true ∷ bits) within = All-cons (λ k. k < n) position (one_positions_from (position + 1) bits) (omega (arith, within)) (ones-from (position + 1) n bits (omega (arith, within)))

pub ones-below : {W : Type 0} (at : W → ℕ → Bool) (l n : ℕ) (words : List W) (positions : List ℕ) → n ≡ length words → positions ≡ one_positions (lane_bits at l words) → All (λ k. k < n) positions
ones-below at l n words positions as_many is = subst (All (λ k. k < n)) (sym is) (ones-from 0 n (lane_bits at l words) (omega (arith, as_many, length-map words (λ w. at w l))))
