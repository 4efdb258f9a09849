-- Rows of records: rows that are added, the one that leaves, and one that is toggled.
use Rattle.stab_regions.proofs.Names.{◌≡◌, ◌≢◌, ℕ, suc, ◌+◌, ◌<◌, sym, ◌∙◌, ap, arith, Bool, true, false, List, [], ◌∷◌, ◌++◌, length, take, get_or, ne_eqb, ◌==◌, take-suc, ◌⊕◌, odd, ShowsLooks, odd-append}

-- one parity alone

pub names-own : (i : ℕ) → odd i (i ∷ []) ≡ true
names-own i = grind arith

pub names-other : (p i : ℕ) → i ≢ p → odd i (p ∷ []) ≡ false
names-other p i ne = ap (λ b. b ⊕ false) (ne_eqb p i (λ e. ne (sym e)))

swapped : (a b c : Bool) → a ⊕ (b ⊕ c) ≡ (b ⊕ (a ⊕ false)) ⊕ c
swapped a b c = grind arith

-- one more lookback, in whatever position
pub looks-more : (i : ℕ) (rows : List (List ℕ)) (ks : List ℕ) (k : ℕ) (looks : List ℕ) → k < length ks
    → ShowsLooks i rows (get_or ks k 0 ∷ take k ks ++ looks) → ShowsLooks i rows (take (k + 1) ks ++ looks)
looks-more i rows ks k looks lt shows j =
    let next : k + 1 ≡ suc k = omega arith in
    shows j
    ∙ ap (λ b. (get_or ks k 0 == j + 1) ⊕ b) (odd-append (j + 1) (take k ks) looks)
    ∙ swapped (get_or ks k 0 == j + 1) (odd (j + 1) (take k ks)) (odd (j + 1) looks)
    ∙ ap (λ b. b ⊕ odd (j + 1) looks) (sym (odd-append (j + 1) (take k ks) (get_or ks k 0 ∷ [])))
    ∙ sym (odd-append (j + 1) (take k ks ++ get_or ks k 0 ∷ []) looks)
    ∙ ap (λ zs. odd (j + 1) (zs ++ looks)) (sym (ap (λ m. take m ks) next ∙ take-suc ks k 0 lt))
