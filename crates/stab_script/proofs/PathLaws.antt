-- Laws of paths: their numbers are met one after another.
use Rattle.stab_script.proofs.Names.{◌≡◌, ◌<◌, ℕ, ◌+◌, Bool, true, false, ◌&&◌, List, [], ◌∷◌, ◌++◌, length, take, slice_set, map, refl, sym, ap, ◌∙◌, arith, Option, Some, None, nat_le, append_assoc, length-append, if◌then◌else◌, take_more_set, list_all, value, numbers, is_path_number, most_numbers, numbers_after}

-- the numbers, if nothing forbids them and they are not too many
abbrev chosen : Bool → ℕ → List ℕ → Option (List ℕ)
chosen allowed count numbers = if allowed && nat_le count most_numbers then Some numbers else None

-- one number more
pub one_number : (numbers : List ℕ) (w : List ℕ) (ws : List (List ℕ)) → is_path_number w ≡ true → numbers_after numbers (w ∷ ws) ≡ numbers_after (numbers ++ value w ∷ []) ws
one_number numbers w ws is =
    let counted : length numbers + length (w ∷ ws) ≡ length (numbers ++ value w ∷ []) + length ws = omega (arith, length-append numbers (value w ∷ [])) in
    ap (λ b. chosen (b && list_all is_path_number ws) (length numbers + length (w ∷ ws)) (numbers ++ (value w ∷ map value ws))) is
    ∙ ap (λ n. chosen (list_all is_path_number ws) n (numbers ++ (value w ∷ map value ws))) counted
    ∙ ap (λ l. chosen (list_all is_path_number ws) (length (numbers ++ value w ∷ []) + length ws) l) (sym (append_assoc numbers (value w ∷ []) (map value ws)))

-- a word that is no number
pub no_number : (numbers : List ℕ) (w : List ℕ) (ws : List (List ℕ)) → is_path_number w ≡ false → numbers_after numbers (w ∷ ws) ≡ None
no_number numbers w ws is = ap (λ b. chosen (b && list_all is_path_number ws) (length numbers + length (w ∷ ws)) (numbers ++ (value w ∷ map value ws))) is

chosen_over : (allowed : Bool) (count : ℕ) (numbers : List ℕ) → nat_le count most_numbers ≡ false → chosen allowed count numbers ≡ None
chosen_over true count numbers over = ap (λ b. if b then Some numbers else None) over
chosen_over false count numbers over = refl

over_most : (n m : ℕ) → n ≡ most_numbers → nat_le (n + (1 + m)) most_numbers ≡ false
over_most n m e = grind arith

-- a number too many
pub too_many : (numbers : List ℕ) (w : List ℕ) (ws : List (List ℕ)) → length numbers ≡ most_numbers → numbers_after numbers (w ∷ ws) ≡ None
too_many numbers w ws full =
    let counted : length numbers + length (w ∷ ws) ≡ length numbers + (1 + length ws) = omega arith in
    chosen_over (list_all is_path_number (w ∷ ws)) (length numbers + length (w ∷ ws)) (numbers ++ map value (w ∷ ws)) (ap (λ n. nat_le n most_numbers) counted ∙ over_most (length numbers) (length ws) full)

-- how much is left
abbrev pub bytes_left : Option (List ℕ) → ℕ
bytes_left None = 0
bytes_left (Some rest) = length rest + 1

-- one number more is stored
pub keeps_number : (numbers : List ℕ) (count : ℕ) (rest : List (List ℕ)) (part : List ℕ) (after : List (List ℕ)) (v : ℕ)
    → rest ≡ part ∷ after → is_path_number part ≡ true → v ≡ value part → count < length numbers
    → numbers_after (take count numbers) rest ≡ numbers_after (take (count + 1) (slice_set numbers count v)) after
keeps_number numbers count rest part after v pieces is same few =
    ap (λ ws. numbers_after (take count numbers) ws) pieces
    ∙ one_number (take count numbers) part after is
    ∙ ap (λ l. numbers_after l after) (ap (λ x. take count numbers ++ x ∷ []) (sym same) ∙ sym (take_more_set numbers count v few))
