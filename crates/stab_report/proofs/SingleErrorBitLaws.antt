-- Laws of the bits of single errors: bits that are set and set back, the rows of a table, and how many there are.
use Rattle.stab_report.proofs.Names.{◌≡◌, ◌≢◌, refl, sym, ap, ap₂, ◌∙◌, subst, ℕ, zero, suc, ◌+◌, ◌<◌, ◌≤◌, Bool, true, false, ◌==◌, ◌&&◌, List, [], ◌∷◌, length, map, replicate, get_or, set, All, if◌then◌else◌, arith, nat_tests, get_or-set_other, length-set, length-map, length-replicate, All-nil, All-cons, Items, unroll, SingleError, single_errors_of, flipped_by_single_error, flips, numbers_where, bits_in, IsSingleErrorTable, set_all}
use Rattle.stab_run.proofs.LookbackLemmas.{zeros-at}

-- as many bits as before
pub length-set_all : (ks : List ℕ) (v : Bool) (bits : List Bool) → length (set_all ks v bits) ≡ length bits
length-set_all [] v bits = refl
length-set_all (k ∷ ks) v bits = length-set_all ks v (set bits k v) ∙ length-set bits k v

-- whether a number is among others
abbrev names : ℕ → List ℕ → Bool
names i [] = false
names i (k ∷ ks) = if i == k then true else names i ks

different : (i k : ℕ) → (i == k) ≡ false → i ≢ k
different i k e same = grind (arith, nat_tests)

-- what a write leaves elsewhere
elsewhere : (bits : List Bool) (i k : ℕ) (v : Bool) → (i == k) ≡ false → get_or (set bits k v) i false ≡ get_or bits i false
elsewhere bits i k v e = get_or-set_other bits k i v false (different i k e)

-- the bits that are not among those set stay
untouched : (ks : List ℕ) (v : Bool) (bits : List Bool) (i : ℕ) → names i ks ≡ false → get_or (set_all ks v bits) i false ≡ get_or bits i false
untouched [] v bits i e = refl
untouched (k ∷ ks) v bits i e = by_test (λ h. untouched ks v (set bits k v) i h) (i == k) refl e
  where
    by_test : (names i ks ≡ false → get_or (set_all ks v (set bits k v)) i false ≡ get_or (set bits k v) i false) → (b : Bool) → (i == k) ≡ b → (if b then true else names i ks) ≡ false
        → get_or (set_all ks v (set bits k v)) i false ≡ get_or bits i false
    by_test later true t h = absurd (cc)
    by_test later false t h = later h ∙ elsewhere bits i k v t

-- a bit that was set to 0 is 0, as is one past the end
zeroed : (bits : List Bool) (k : ℕ) → get_or (set bits k false) k false ≡ false
zeroed [] zero = refl
zeroed [] (suc k) = refl
zeroed (b ∷ bits) zero = refl
zeroed (b ∷ bits) (suc k) = zeroed bits k

-- bits that are 0 except some, of which one is set to 0
zero_but : (k : ℕ) (ks : List ℕ) (bits : List Bool) → ((i : ℕ) → names i (k ∷ ks) ≡ false → get_or bits i false ≡ false)
    → (i : ℕ) → names i ks ≡ false → get_or (set bits k false) i false ≡ false
zero_but k ks bits zeros i e = by_test (i == k) refl
  where
    by_test : (b : Bool) → (i == k) ≡ b → get_or (set bits k false) i false ≡ false
    by_test true t = let same : i ≡ k = grind (arith, nat_tests) in rw same (zeroed bits k)
    by_test false t = elsewhere bits i k false t ∙ zeros i (ap (λ b. if b then true else names i ks) t ∙ e)

-- bits that are 0 except some are 0 once those are set to 0
cleared : (ks : List ℕ) (bits : List Bool) → ((i : ℕ) → names i ks ≡ false → get_or bits i false ≡ false) → (i : ℕ) → get_or (set_all ks false bits) i false ≡ false
cleared [] bits zeros i = zeros i refl
cleared (k ∷ ks) bits zeros i = cleared ks (set bits k false) (zero_but k ks bits zeros) i

-- bits that are all 0
zeros_all : (bits : List Bool) → ((i : ℕ) → get_or bits i false ≡ false) → bits ≡ replicate (length bits) false
zeros_all [] h = refl
zeros_all (b ∷ bits) h = ap₂ (λ x xs. x ∷ xs) (h 0) (zeros_all bits (λ i. h (suc i)))

-- bits that were 0, and of which some were set and set back
pub set_back : (ks : List ℕ) (n : ℕ) → set_all ks false (set_all ks true (replicate n false)) ≡ replicate n false
set_back ks n =
    let all_zero = cleared ks (set_all ks true (replicate n false)) (λ j e. untouched ks true (replicate n false) j e ∙ zeros-at n j) in
    zeros_all (set_all ks false (set_all ks true (replicate n false))) all_zero
    ∙ ap (λ m. replicate m false) (length-set_all ks false (set_all ks true (replicate n false)) ∙ length-set_all ks true (replicate n false) ∙ length-replicate n false)

-- the numbers from i on are below i + k
pub below : (f : ℕ → Bool) (i k n : ℕ) → i + k ≤ n → All (λ j. j < n) (numbers_where f i k)
below f i zero n h = All-nil (λ j. j < n)
below f i (suc k) n h = by_test (below f (i + 1) k n (omega arith)) (f i)
  where
    by_test : All (λ j. j < n) (numbers_where f (i + 1) k) → (b : Bool) → All (λ j. j < n) (if b then i ∷ numbers_where f (i + 1) k else numbers_where f (i + 1) k)
    by_test later true = All-cons (λ j. j < n) i (numbers_where f (i + 1) k) (omega arith) later
    by_test later false = later

-- each row of a table names bits of the circuit
rows_below : (n : ℕ) (items : Items) (deterministic : List Bool) (coins : ℕ → Bool) (fs : List SingleError) → All (All (λ j. j < bits_in items)) (map (flipped_by_single_error n items deterministic coins) fs)
rows_below n items deterministic coins [] = All-nil (All (λ j. j < bits_in items))
rows_below n items deterministic coins (f ∷ fs) =
    All-cons (All (λ j. j < bits_in items)) (flipped_by_single_error n items deterministic coins f) (map (flipped_by_single_error n items deterministic coins) fs)
    (below (λ i. get_or deterministic i false && flips n items coins f i) 0 (bits_in items) (bits_in items) (omega arith)) (rows_below n items deterministic coins fs)

pub table_below : (n : ℕ) (everywhere : Bool) (items : Items) (deterministic : List Bool) (rows : List (List ℕ)) → IsSingleErrorTable n everywhere items deterministic rows → All (All (λ j. j < bits_in items)) rows
table_below n everywhere items deterministic rows table =
    subst (λ l. All (All (λ j. j < bits_in items)) l) (sym (table.are_flipped (λ _. false))) (rows_below n items deterministic (λ _. false) (single_errors_of everywhere (unroll items)))

-- a table has a row for each single error
pub table_rows : (n : ℕ) (everywhere : Bool) (items : Items) (deterministic : List Bool) (rows : List (List ℕ)) → IsSingleErrorTable n everywhere items deterministic rows → length rows ≡ length (single_errors_of everywhere (unroll items))
table_rows n everywhere items deterministic rows table = ap length (table.are_flipped (λ _. false)) ∙ length-map (single_errors_of everywhere (unroll items)) (flipped_by_single_error n items deterministic (λ _. false))
