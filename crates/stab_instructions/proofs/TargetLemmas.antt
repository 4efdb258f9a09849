-- Targets: their ranges, and pairs.
use Rattle.stab_instructions.proofs.Names.{◌≡◌, ◌≢◌, ◌<◌, ℕ, ◌==◌, Bool, true, false, List, [], ◌∷◌, length, drop, get_or, Result, Ok, Err, refl, ap, subst, arith, nat_le, nat_lt, ◌&&◌, All, map, if◌then◌else◌, slice_split, onto_first, All-cons, nat_tests, Refusal, BadArguments, BadPairing, BadTarget, most_lookback, ◌>>=◌, each, value, IsLookback, lookback_of, lookback_digits, is_lookback, pairs_of, one_argument}
use Rattle.stab_instructions.proofs.BoolLemmas.{chosen, passed}

pub different : (a b : ℕ) → a ≢ b → (a == b) ≡ false
different a b ne = grind arith

same : (a b : ℕ) → a ≡ b → (a == b) ≡ true
same a b e = grind arith

lookback_small : (v k : ℕ) (b c d : Bool) → c ≡ nat_lt 0 v → d ≡ nat_le v most_lookback → (if b && c && d then Ok v else Err BadTarget) ≡ Ok k → IsLookback k
lookback_small v k true true true c d e = let same : v ≡ k = cc in (grind (arith, nat_tests), grind (arith, nat_tests))
lookback_small v k true true false c d e = cc
lookback_small v k true false d' c d e = cc
lookback_small v k false c' d' c d e = cc

-- what is read as a record is in range
pub lookback_in_range : (word : List ℕ) (k : ℕ) → lookback_of word ≡ Ok k → IsLookback k
unfolding lookback_of
lookback_in_range word k e = lookback_small (value (lookback_digits word)) k (is_lookback word) _ _ refl refl e

all_more : (f : List ℕ → Result ℕ Refusal) (P : ℕ → Type 0) (w : List ℕ) (ws : List (List ℕ)) (first : Result ℕ Refusal) (more : Result (List ℕ) Refusal) (ks : List ℕ)
    → ((k : ℕ) → first ≡ Ok k → P k) → ((rest : List ℕ) → more ≡ Ok rest → All P rest) → (first >>= λ k. more >>= λ rest. Ok (k ∷ rest)) ≡ Ok ks → All P ks
all_more f P w ws (Ok k) (Ok rest) ks p q e = let same : k ∷ rest ≡ ks = cc in subst (All P) same (All-cons P k rest (p k refl) (q rest refl))
all_more f P w ws (Ok k) (Err r) ks p q e = cc
all_more f P w ws (Err r) more ks p q e = cc

-- each that is read has what f gives
pub each_all : (f : List ℕ → Result ℕ Refusal) (P : ℕ → Type 0) (each_one : (word : List ℕ) (k : ℕ) → f word ≡ Ok k → P k) (ws : List (List ℕ)) (ks : List ℕ) → each f ws ≡ Ok ks → All P ks
each_all f P p [] ks e = let none : [] ≡ ks = cc in subst (All P) none (λ k d lt. absurd (omega (arith, lt)))
each_all f P p (w ∷ ws) ks e = all_more f P w ws (f w) (each f ws) ks (p w) (each_all f P p ws) e

pub lookbacks_in_range : (ws : List (List ℕ)) (ks : List ℕ) → each lookback_of ws ≡ Ok ks → All IsLookback ks
lookbacks_in_range ws ks e = each_all lookback_of IsLookback lookback_in_range ws ks e

pub pair_more : (rest : List ℕ) (d : ℕ) → 1 < length rest → get_or rest 0 d ≢ get_or rest 1 d
    → pairs_of rest ≡ (pairs_of (drop 2 rest) >>= λ more. Ok ((get_or rest 0 d, get_or rest 1 d) ∷ more))
pair_more [] d h ne = absurd (omega arith)
pair_more (a ∷ []) d h ne = absurd (omega arith)
pair_more (a ∷ b ∷ rest) d h ne = passed (a == b) _ _ (different a b ne)

pub pair_same : (rest : List ℕ) (d : ℕ) → 1 < length rest → get_or rest 0 d ≡ get_or rest 1 d → pairs_of rest ≡ Err BadPairing
pair_same [] d h e = absurd (omega arith)
pair_same (a ∷ []) d h e = absurd (omega arith)
pair_same (a ∷ b ∷ rest) d h e = chosen (a == b) _ _ (same a b e)

pub pair_alone : (rest : List ℕ) → length rest ≡ 1 → pairs_of rest ≡ Err BadPairing
pair_alone [] h = absurd (omega arith)
pair_alone (a ∷ []) h = refl
pair_alone (a ∷ b ∷ rest) h = absurd (omega arith)

-- there is a first part
pub split_some : (p : ℕ → Bool) (bs : List ℕ) → (first : List ℕ) × (more : List (List ℕ)) × (slice_split p bs ≡ first ∷ more)
split_some p [] = ([], [], refl)
split_some p (b ∷ bs) = split_case (p b) (split_some p bs)
  where
    split_case : (c : Bool) → ((first : List ℕ) × (more : List (List ℕ)) × (slice_split p bs ≡ first ∷ more))
        → (first : List ℕ) × (more : List (List ℕ)) × ((if c then [] ∷ slice_split p bs else onto_first b (slice_split p bs)) ≡ first ∷ more)
    split_case true s = ([], slice_split p bs, refl)
    split_case false s = (b ∷ s.0, s.1, ap (onto_first b) s.2)

-- two arguments are not one
pub two_arguments : (p : ℕ → Bool) (f : List ℕ → List ℕ) (a : List ℕ) (bs : List ℕ) → one_argument (a ∷ map f (slice_split p bs)) ≡ Err BadArguments
two_arguments p f a bs = let s = split_some p bs in ap (λ l. one_argument (a ∷ map f l)) s.2
