-- Searches for a byte that pass over runs of other bytes.
use Rattle.stab_instructions.proofs.Names.{◌≡◌, ◌≤◌, ℕ, ◌+◌, Bool, false, ◌||◌, not, List, [], ◌∷◌, ◌++◌, length, take, drop, sym, ap, ◌∙◌, arith, length-take, if◌then◌else◌, position_or_len, list_any, take-append-add, take-append-drop, list_any-append, is_byte, or_parts}

taken : (n m : ℕ) (xs : List ℕ) → n ≤ length xs → take (n + m) xs ≡ take n xs ++ take m (drop n xs)
taken n m xs within =
    let long : n ≡ length (take n xs) = omega (arith, length-take n xs, within) in
    ap (λ k. take (k + m) xs) long
    ∙ ap (take (length (take n xs) + m)) (sym (take-append-drop n xs))
    ∙ take-append-add (take n xs) (drop n xs) m

-- one run of others more
pub others_more : (bs : List ℕ) (byte n m : ℕ) → n ≤ length bs → list_any (is_byte byte) (take n bs) ≡ false → list_any (is_byte byte) (take m (drop n bs)) ≡ false → list_any (is_byte byte) (take (n + m) bs) ≡ false
others_more bs byte n m within h k =
    ap (list_any (is_byte byte)) (taken n m bs within)
    ∙ list_any-append (is_byte byte) (take n bs) (take m (drop n bs))
    ∙ ap (λ b. b || list_any (is_byte byte) (take m (drop n bs))) h
    ∙ k

-- what occurs somewhere is in front or comes after
pub any_split : (p : ℕ → Bool) (bs : List ℕ) (n : ℕ) → list_any p bs ≡ (list_any p (take n bs) || list_any p (drop n bs))
any_split p bs n = ap (list_any p) (sym (take-append-drop n bs)) ∙ list_any-append p (take n bs) (drop n bs)

position_after : (p : ℕ → Bool) (xs ys : List ℕ) → list_any p xs ≡ false → position_or_len p (xs ++ ys) ≡ length xs + position_or_len p ys
position_after p [] ys h = omega arith
position_after p (x ∷ xs) ys h =
    let parts = or_parts (p x) (list_any p xs) h in
    let more = position_after p xs ys parts.1 in
    let one : position_or_len p (x ∷ (xs ++ ys)) ≡ 1 + position_or_len p (xs ++ ys) = ap (λ b. if not b then 1 + position_or_len p (xs ++ ys) else 0) parts.0 in
    omega (arith, more, one)

-- if others are in front, the byte comes first after them
pub after_others : (bs : List ℕ) (byte n near : ℕ) → n ≤ length bs → list_any (is_byte byte) (take n bs) ≡ false → near ≡ position_or_len (is_byte byte) (drop n bs) → n + near ≡ position_or_len (is_byte byte) bs
after_others bs byte n near within h e =
    let all = ap (position_or_len (is_byte byte)) (take-append-drop n bs) in
    let cut = position_after (is_byte byte) (take n bs) (drop n bs) h in
    omega (arith, all, cut, e, length-take n bs, within)
