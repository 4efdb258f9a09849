-- Words of zeros are letters I.
use Rattle.stab_pauli.proofs.Names.{◌≡◌, ℕ, zero, suc, ◌+◌, ◌-◌, ◌*◌, ◌≤◌, refl, sym, ◌∙◌, ap, List, ◌∷◌, ◌++◌, length, take, drop, replicate, arith, subst, All, zip2, length-replicate, All-nil, All-cons, Letter, I, Phase, Zero, phase_add, is_even, sign_of_phase, phase_inverse, identity, sign_power, IsSign, word_letters, packed_letters, row_letters, full_rows, AreBlocks, IsPadded, IsRow, IsSignedRow, IsTable, table, row_sign, signed_row}
use Rattle.stab_pauli.proofs.PowerLemmas.{string_power-blank}

replicate-append : {A : Type 0} (a b : ℕ) (x : A) → replicate a x ++ replicate b x ≡ replicate (a + b) x
replicate-append zero b x = let e : b ≡ 0 + b = omega arith in ap (λ n. replicate n x) e
replicate-append (suc a) b x = let e : suc (a + b) ≡ suc a + b = omega arith in ap (λ t. x ∷ t) (replicate-append a b x) ∙ ap (λ n. replicate n x) e

pub take-replicate : {A : Type 0} (k n : ℕ) (x : A) → k ≤ n → take k (replicate n x) ≡ replicate k x
take-replicate zero n x le = refl
take-replicate (suc k) zero x le = absurd (omega arith)
take-replicate (suc k) (suc n) x le = ap (λ t. x ∷ t) (take-replicate k n x (omega arith))

pub drop-replicate : {A : Type 0} (k n m : ℕ) (x : A) → k + m ≡ n → drop k (replicate n x) ≡ replicate m x
drop-replicate zero n m x e = let d : n ≡ m = omega arith in ap (λ n. replicate n x) d
drop-replicate (suc k) zero m x e = absurd (omega arith)
drop-replicate (suc k) (suc n) m x e = drop-replicate k n m x (omega arith)

word_letters-none : (k : ℕ) → word_letters k 0 0 ≡ replicate k I
unfolding word_letters
word_letters-none zero = refl
word_letters-none (suc k) = ap (λ t. I ∷ t) (word_letters-none k)

packed-none : (k j : ℕ) → packed_letters k (replicate j 0) (replicate j 0) ≡ replicate (j * k) I
packed-none k zero = let e : 0 ≡ 0 * k = omega arith in ap (λ n. replicate n I) e
packed-none k (suc j) =
    (λ i. word_letters-none k i ++ packed-none k j i) ∙ replicate-append k (j * k) I ∙ ap (λ n. replicate n I) (suc_times j)
  where
    suc_times : (n : ℕ) → k + n * k ≡ suc n * k
    suc_times n = grind arith

block-none : (k j c : ℕ) (xs zs : List ℕ) → xs ≡ replicate j 0 → zs ≡ replicate j 0 → packed_letters k xs zs ++ replicate c I ≡ replicate (j * k + c) I
block-none k j c xs zs ex ez = (λ i. packed_letters k (ex i) (ez i) ++ replicate c I) ∙ ap (λ t. t ++ replicate c I) (packed-none k j) ∙ replicate-append (j * k) c I

-- the blocks of n letters hold them
pub fits : (n m : ℕ) → AreBlocks n m → n ≤ 256 * m
fits n m e = let c = e.count in omega arith

pub row-none : (m : ℕ) (row : List ℕ) → row ≡ replicate (8 * m) 0 → row_letters m row ≡ replicate (256 * m) I
row-none zero row e = refl
row-none (suc m) row e =
    ap (λ t. packed_letters 64 (take 4 row) (take 4 (drop 4 row)) ++ t) (row-none m (drop 8 row) (ap (drop 8) e ∙ drop-replicate 8 (8 * suc m) (8 * m) 0 (omega arith)))
    ∙ block-none 64 4 (256 * m) (take 4 row) (take 4 (drop 4 row))
    (ap (take 4) e ∙ take-replicate 4 (8 * suc m) 0 (omega arith))
    (ap (λ r. take 4 (drop 4 r)) e ∙ ap (take 4) (drop-replicate 4 (8 * suc m) (8 * m + 4) 0 (omega arith)) ∙ take-replicate 4 (8 * m + 4) 0 (omega arith))
    ∙ ap (λ n. replicate n I) (next m)
  where
    next : (n : ℕ) → 256 + 256 * n ≡ 256 * suc n
    next n = omega arith

pub full_rows-none : (m count : ℕ) (ws : List ℕ) → ws ≡ replicate (8 * m * count) 0 → full_rows m ws count ≡ replicate count (replicate (256 * m) I)
full_rows-none m zero ws e = refl
full_rows-none m (suc count) ws e =
    λ i. row-none m (take (8 * m) ws) (ap (take (8 * m)) e ∙ take-replicate (8 * m) (8 * m * suc count) 0 fits) i
    ∷ full_rows-none m count (drop (8 * m) ws) (ap (drop (8 * m)) e ∙ drop-replicate (8 * m) (8 * m * suc count) (8 * m * count) 0 parts) i
  where
    parts : 8 * m + 8 * m * count ≡ 8 * m * suc count
    parts = grind arith

    fits : 8 * m ≤ 8 * m * suc count
    fits = grind arith

zip2-replicate : {A B C : Type 0} (f : A → B → C) (n : ℕ) (a : A) (b : B) → zip2 f (replicate n a) (replicate n b) ≡ replicate n (f a b)
zip2-replicate f zero a b = refl
zip2-replicate f (suc n) a b = ap (λ t. f a b ∷ t) (zip2-replicate f n a b)

all-replicate : {A : Type 0} (P : A → Type 0) (x : A) (count : ℕ) → P x → All P (replicate count x)
all-replicate P x zero h = All-nil P
all-replicate P x (suc count) h = All-cons P x (replicate count x) h (all-replicate P x count h)

-- the power 1 before letters I is that of the sign +
blank-sign : (n : ℕ) (letters : List Letter) → take n letters ≡ replicate n I → row_sign n Zero letters ≡ Zero
blank-sign n letters e = ap (λ l. sign_power Zero l) e ∙ ap (λ t. phase_add (phase_inverse t) Zero) (string_power-blank n)

pub IsSigned-none : (n m : ℕ) (ws : List ℕ) → IsRow n m ws → take n (row_letters m ws) ≡ replicate n I → IsSignedRow n m Zero ws
IsSigned-none n m ws is e = record { row = is; sign = ap is_even (blank-sign n (row_letters m ws) e) }

pub signed_row-none : (n : ℕ) (letters : List Letter) → take n letters ≡ replicate n I → signed_row n Zero letters ≡ identity n
signed_row-none n letters e = λ i. record { negative = ap sign_of_phase (blank-sign n letters e) i; letters = e i }

pub IsTable-none : (n m count : ℕ) (ws : List ℕ) (ps : List Phase) → AreBlocks n m → ws ≡ replicate (8 * m * count) 0 → ps ≡ replicate count Zero → IsTable n m ws ps
IsTable-none n m count ws ps eb ew ep = record {
  blocks = eb;
  size = ap length ew ∙ length-replicate (8 * m * count) 0 ∙ ap (λ c. 8 * m * c) (sym lp);
  padded = subst (All (IsPadded n m)) (sym rows) (all-replicate (IsPadded n m) blank count (drop-replicate n (256 * m) (256 * m - n) I (let le = fits n m eb in omega arith)));
  signs = subst (All IsSign) (sym ((λ i. zip2 (row_sign n) (ep i) (rows i)) ∙ zip2-replicate (row_sign n) count Zero blank))
      (all-replicate IsSign (row_sign n Zero blank) count (ap is_even (blank-sign n blank (take-replicate n (256 * m) I (fits n m eb)))));
}
  where
    blank : List Letter
    blank = replicate (256 * m) I

    lp : length ps ≡ count
    lp = ap length ep ∙ length-replicate count Zero

    rows : full_rows m ws (length ps) ≡ replicate count blank
    rows = ap (full_rows m ws) lp ∙ full_rows-none m count ws ew

pub table-none : (n m count : ℕ) (ws : List ℕ) (ps : List Phase) → n ≤ 256 * m → ws ≡ replicate (8 * m * count) 0 → ps ≡ replicate count Zero → table n m ws ps ≡ record { qubits = n; rows = replicate count (identity n) }
table-none n m count ws ps le ew ep =
    λ i. record {
      qubits = n;
      rows =
          ((λ j. zip2 (signed_row n) (ep j) ((ap (full_rows m ws) (ap length ep ∙ length-replicate count Zero) ∙ full_rows-none m count ws ew) j))
          ∙ zip2-replicate (signed_row n) count Zero (replicate (256 * m) I)
          ∙ ap (replicate count) (signed_row-none n (replicate (256 * m) I) (take-replicate n (256 * m) I le))) i;
    }
