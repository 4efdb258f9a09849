-- Lookbacks: records in lists that agree as far back as is looked, and in lists of zeros.
use Rattle.stab_run.proofs.Names.{◌≡◌, ℕ, zero, suc, ◌+◌, ◌-◌, ◌<◌, ◌≤◌, refl, sym, ◌∙◌, ap, Bool, true, false, ◌||◌, List, [], ◌∷◌, ◌++◌, length, replicate, get_or, nat_lt, arith, ◌⊎◌, inl, inr, if◌then◌else◌, list_any, cases_lt, length-append, get_or_append_left, get_or-append-add, ◌⊕◌, looked_up, parity}

-- lookbacks into a list that follows another

below : (a b : ℕ) → b ≤ a → nat_lt a b ≡ false
below a b le = grind arith

above : (a b : ℕ) → a < b → nat_lt a b ≡ true
above a b lt = grind arith

not-more : (a b : ℕ) → nat_lt a b ≡ false → b ≤ a
not-more a b e = grind arith

pub looked_up-near : (xs ys : List Bool) (k : ℕ) → k ≤ length ys → looked_up (xs ++ ys) k ≡ looked_up ys k
looked_up-near xs ys k le =
    ap (λ c. if c then false else get_or (xs ++ ys) (length (xs ++ ys) - k) false) (below (length (xs ++ ys)) k (omega (arith, length-append xs ys)))
    ∙ ap (λ i. get_or (xs ++ ys) i false) index
    ∙ get_or-append-add xs ys (length ys - k) false
    ∙ sym (ap (λ c. if c then false else get_or ys (length ys - k) false) (below (length ys) k le))
  where
    index : length (xs ++ ys) - k ≡ length xs + (length ys - k)
    index = omega (arith, length-append xs ys)

pub looked_up-far : (xs ys : List Bool) (k : ℕ) → length ys < k → looked_up (xs ++ ys) k ≡ looked_up xs (k - length ys)
looked_up-far xs ys k lt = by_size (cases_lt (length xs) (k - length ys))
  where
    by_size : (length xs < k - length ys) ⊎ (k - length ys ≤ length xs) → looked_up (xs ++ ys) k ≡ looked_up xs (k - length ys)
    by_size (inl out) =
        ap (λ c. if c then false else get_or (xs ++ ys) (length (xs ++ ys) - k) false) (above (length (xs ++ ys)) k (omega (arith, length-append xs ys)))
        ∙ sym (ap (λ c. if c then false else get_or xs (length xs - (k - length ys)) false) (above (length xs) (k - length ys) out))
    by_size (inr within) =
        ap (λ c. if c then false else get_or (xs ++ ys) (length (xs ++ ys) - k) false) (below (length (xs ++ ys)) k (omega (arith, length-append xs ys)))
        ∙ get_or_append_left xs ys false (length (xs ++ ys) - k) (omega (arith, length-append xs ys))
        ∙ ap (λ i. get_or xs i false) index
        ∙ sym (ap (λ c. if c then false else get_or xs (length xs - (k - length ys)) false) (below (length xs) (k - length ys) within))
      where
        index : length (xs ++ ys) - k ≡ length xs - (k - length ys)
        index = omega (arith, length-append xs ys)

-- lists that agree back to here agree further back by as much as was put after both
pub looked_up-more : (m : ℕ) (xs zs ys : List Bool) → ((k : ℕ) → k ≤ m → looked_up xs k ≡ looked_up zs k)
    → (k : ℕ) → k ≤ m + length ys → looked_up (xs ++ ys) k ≡ looked_up (zs ++ ys) k
looked_up-more m xs zs ys same k le = by_position (cases_lt (length ys) k)
  where
    by_position : (length ys < k) ⊎ (k ≤ length ys) → looked_up (xs ++ ys) k ≡ looked_up (zs ++ ys) k
    by_position (inl lt) = looked_up-far xs ys k lt ∙ same (k - length ys) (omega arith) ∙ sym (looked_up-far zs ys k lt)
    by_position (inr near) = looked_up-near xs ys k near ∙ sym (looked_up-near zs ys k near)

-- lookbacks that are near enough

pub or-left : (a b : Bool) → (a || b) ≡ false → a ≡ false
or-left false b e = refl
or-left true b e = cc

pub or-right : (a b : Bool) → (a || b) ≡ false → b ≡ false
or-right false b e = e
or-right true b e = cc

pub parity-same : (m : ℕ) (xs zs : List Bool) → ((k : ℕ) → k ≤ m → looked_up xs k ≡ looked_up zs k) → (ks : List ℕ) → list_any (nat_lt m) ks ≡ false
    → parity xs ks ≡ parity zs ks
parity-same m xs zs same [] e = refl
parity-same m xs zs same (k ∷ ks) e = λ i.
    same k (not-more m k (or-left (nat_lt m k) (list_any (nat_lt m) ks) e)) i
    ⊕ parity-same m xs zs same ks (or-right (nat_lt m k) (list_any (nat_lt m) ks) e) i

-- zeros

pub zeros-at : (m i : ℕ) → get_or (replicate m false) i false ≡ false
zeros-at zero i = refl
zeros-at (suc m) zero = refl
zeros-at (suc m) (suc i) = zeros-at m i

pub looked_up-zeros : (m k : ℕ) → looked_up (replicate m false) k ≡ false
looked_up-zeros m k = by_position (nat_lt (length (replicate m false)) k)
  where
    by_position : (c : Bool) → (if c then false else get_or (replicate m false) (length (replicate m false) - k) false) ≡ false
    by_position true = refl
    by_position false = zeros-at m (length (replicate m false) - k)
