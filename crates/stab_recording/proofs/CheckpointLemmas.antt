-- Checkpoints: checkpoints saved and taken at the end of a list.
use Rattle.stab_recording.proofs.Names.{◌≡◌, ℕ, zero, suc, ◌+◌, ◌-◌, ◌<◌, ◌≤◌, refl, sym, ap, subst, arith, Bool, true, false, List, [], ◌∷◌, ◌++◌, length, get_or, take, reverse, if◌then◌else◌, nat_le, le-leb, lt-leb, reverse-append, Checkpoint, saved, all_saved}

-- a checkpoint saved if there are fewer than two
pub saved-few : (K : ℕ) (c : Checkpoint) (xs : List Checkpoint) → length xs < 2 → xs ++ c ∷ [] ≡ saved K c xs
saved-few K c [] l = refl
saved-few K c (a ∷ []) l = refl
saved-few K c (a ∷ b ∷ xs) l = absurd (omega arith)

near-at : (K k : ℕ) (c d : Checkpoint) (xs : List Checkpoint) → k + 2 ≡ length xs → c.step - (get_or xs k d).step ≤ K → take (suc k) xs ++ c ∷ [] ≡ saved K c xs
near-at K k c d [] l n = absurd (omega arith)
near-at K k c d (a ∷ []) l n = absurd (omega arith)
near-at K zero c d (a ∷ b ∷ []) l n = ap (λ t. if t then a ∷ c ∷ [] else a ∷ b ∷ c ∷ []) (sym (le-leb (c.step - a.step) K n))
near-at K (suc k) c d (a ∷ b ∷ []) l n = absurd (omega arith)
near-at K zero c d (a ∷ b ∷ e ∷ xs) l n = absurd (omega arith)
near-at K (suc k) c d (a ∷ b ∷ e ∷ xs) l n = ap (λ t. a ∷ t) (near-at K k c d (b ∷ e ∷ xs) (omega arith) n)

far-at : (K k : ℕ) (c d : Checkpoint) (xs : List Checkpoint) → k + 2 ≡ length xs → K < c.step - (get_or xs k d).step → xs ++ c ∷ [] ≡ saved K c xs
far-at K k c d [] l n = absurd (omega arith)
far-at K k c d (a ∷ []) l n = absurd (omega arith)
far-at K zero c d (a ∷ b ∷ []) l n = ap (λ t. if t then a ∷ c ∷ [] else a ∷ b ∷ c ∷ []) (sym (lt-leb (c.step - a.step) K n))
far-at K (suc k) c d (a ∷ b ∷ []) l n = absurd (omega arith)
far-at K zero c d (a ∷ b ∷ e ∷ xs) l n = absurd (omega arith)
far-at K (suc k) c d (a ∷ b ∷ e ∷ xs) l n = ap (λ t. a ∷ t) (far-at K k c d (b ∷ e ∷ xs) (omega arith) n)

-- a checkpoint saved instead of the last, at most K steps from the one before that
pub saved-near : (K len : ℕ) (c a : Checkpoint) (xs : List Checkpoint) → len ≡ length xs → 2 ≤ len → a ≡ get_or xs (len - 2) a → c.step - a.step ≤ K
    → take (len - 1) xs ++ c ∷ [] ≡ saved K c xs
saved-near K len c a xs l two e n =
    subst (λ k. take k xs ++ c ∷ [] ≡ saved K c xs) one_less
    (near-at K (len - 2) c a xs (omega arith) (subst (λ (t : Checkpoint). c.step - t.step ≤ K) e n))
  where
    one_less : suc (len - 2) ≡ len - 1
    one_less = omega arith

-- a checkpoint saved after the last, more than K steps from the one before that
pub saved-far : (K len : ℕ) (c a : Checkpoint) (xs : List Checkpoint) → len ≡ length xs → 2 ≤ len → a ≡ get_or xs (len - 2) a → K < c.step - a.step
    → xs ++ c ∷ [] ≡ saved K c xs
saved-far K len c a xs l two e n = far-at K (len - 2) c a xs (omega arith) (subst (λ (t : Checkpoint). K < c.step - t.step) e n)

length-choice : (K : ℕ) (c a b : Checkpoint) (t : Bool) → length (if t then a ∷ c ∷ [] else a ∷ b ∷ c ∷ []) ≤ 3
length-choice K c a b true = omega arith
length-choice K c a b false = omega arith

pub length-saved : (K : ℕ) (c : Checkpoint) (xs : List Checkpoint) → length (saved K c xs) ≤ length xs + 1
length-saved K c [] = omega arith
length-saved K c (a ∷ []) = omega arith
length-saved K c (a ∷ b ∷ []) = let few = length-choice K c a b (nat_le (c.step - a.step) K) in omega arith
length-saved K c (a ∷ b ∷ d ∷ xs) = let rest = length-saved K c (b ∷ d ∷ xs) in omega arith

-- checkpoints saved from the end of a list on
pub all-saved-last : (K : ℕ) (c : Checkpoint) (cs xs : List Checkpoint) → all_saved K (reverse (cs ++ c ∷ [])) xs ≡ all_saved K (reverse cs) (saved K c xs)
all-saved-last K c cs xs = ap (λ t. all_saved K t xs) (reverse-append cs (c ∷ []))
