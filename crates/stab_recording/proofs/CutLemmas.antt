-- Cut lists: elements and bits of lists that are cut, or that others are put after.
use Rattle.stab_recording.proofs.Names.{◌≡◌, ℕ, zero, suc, ◌+◌, ◌≤◌, refl, sym, ◌∙◌, ap, Bool, ◌⊎◌, inl, inr, List, [], ◌∷◌, take, drop, slice_get, None, arith, take-append-drop, length-take, slice_get_past, ones, ones-append}

pub none-more : (j : ℕ) → 0 + j ≡ j
none-more j = omega arith

pub one-more : (k j : ℕ) → suc k + j ≡ suc (k + j)
one-more k j = omega arith

pub get-take : {X : Type 0} (k j : ℕ) (xs : List X) → (slice_get (take k xs) j ≡ None) ⊎ (slice_get (take k xs) j ≡ slice_get xs j)
get-take zero j xs = inl refl
get-take (suc k) j [] = inr refl
get-take (suc k) zero (x ∷ xs) = inr refl
get-take (suc k) (suc j) (x ∷ xs) = get-take k j xs

pub get-beyond : {X : Type 0} (k j : ℕ) (xs : List X) → k ≤ j → slice_get (take k xs) j ≡ None
get-beyond k j xs le = slice_get_past (take k xs) j (omega (arith, length-take k xs, le))

pub get-drop : {X : Type 0} (k j : ℕ) (xs : List X) → slice_get (drop k xs) j ≡ slice_get xs (k + j)
get-drop zero j xs = ap (slice_get xs) (sym (none-more j))
get-drop (suc k) j [] = refl
get-drop (suc k) j (x ∷ xs) = get-drop k j xs ∙ ap (slice_get (x ∷ xs)) (sym (one-more k j))

pub ones-take : (c : ℕ) (bits : List Bool) → ones (take c bits) + ones (drop c bits) ≡ ones bits
ones-take c bits = sym (ones-append (take c bits) (drop c bits)) ∙ ap ones (take-append-drop c bits)
