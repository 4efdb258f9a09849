-- Strings that lie two by two: how those of one qubit are read and written there.
use Rattle.stab_tableau.proofs.Names.{◌≡◌, ◌≢◌, ℕ, zero, suc, ◌*◌, ◌+◌, ◌<◌, ◌≤◌, inl, inr, refl, sym, ◌∙◌, ap, subst, List, [], ◌∷◌, length, replicate, get_or, set, arith, ◌⊎◌, length-replicate, get_or-replicate, length-set, get_or-set_same, set-set, Letter, I, Signed, identity, single, Rows, string_at, with_row, with_letter, swapped_rows, InverseRow, OfX, OfZ, InverseRows, rows_at, IsOver, paired_strings, row_position, row_string, with_string, put, rows_exchanged, IsPaired}

-- lists

even : (q : ℕ) → 2 * suc q ≡ suc (suc (2 * q))
even q = omega arith

odd : (q : ℕ) → 2 * suc q + 1 ≡ suc (suc (2 * q + 1))
odd q = omega arith

pub length-paired : (rows : List Signed) (n : ℕ) → length rows ≡ 2 * n → length (paired_strings rows) ≡ n
length-paired [] n e = omega arith
length-paired (x ∷ []) n e = absurd (omega arith)
length-paired (x ∷ z ∷ rows) zero e = absurd (omega arith)
length-paired (x ∷ z ∷ rows) (suc n) e = ap suc (length-paired rows n (omega arith))

module _ (d : Signed) (r : InverseRows) where
  read_x : (rows : List Signed) (q : ℕ) → 2 * q + 1 < length rows → get_or rows (2 * q) d ≡ (get_or (paired_strings rows) q r).x
  read_x [] q lt = absurd (omega arith)
  read_x (x ∷ []) q lt = absurd (omega arith)
  read_x (x ∷ z ∷ rows) zero lt = refl
  read_x (x ∷ z ∷ rows) (suc q) lt = ap (λ k. get_or (x ∷ z ∷ rows) k d) (even q) ∙ read_x rows q (omega arith)

  read_z : (rows : List Signed) (q : ℕ) → 2 * q + 1 < length rows → get_or rows (2 * q + 1) d ≡ (get_or (paired_strings rows) q r).z
  read_z [] q lt = absurd (omega arith)
  read_z (x ∷ []) q lt = absurd (omega arith)
  read_z (x ∷ z ∷ rows) zero lt = refl
  read_z (x ∷ z ∷ rows) (suc q) lt = ap (λ k. get_or (x ∷ z ∷ rows) k d) (odd q) ∙ read_z rows q (omega arith)

  write_x : (p : Signed) (rows : List Signed) (q : ℕ) → 2 * q + 1 < length rows
      → paired_strings (set rows (2 * q) p) ≡ set (paired_strings rows) q (record { x = p; z = (get_or (paired_strings rows) q r).z })
  write_x p [] q lt = absurd (omega arith)
  write_x p (x ∷ []) q lt = absurd (omega arith)
  write_x p (x ∷ z ∷ rows) zero lt = refl
  write_x p (x ∷ z ∷ rows) (suc q) lt =
      ap (λ k. paired_strings (set (x ∷ z ∷ rows) k p)) (even q) ∙ ap (λ l. record { x = x; z = z } ∷ l) (write_x p rows q (omega arith))

  write_z : (p : Signed) (rows : List Signed) (q : ℕ) → 2 * q + 1 < length rows
      → paired_strings (set rows (2 * q + 1) p) ≡ set (paired_strings rows) q (record { x = (get_or (paired_strings rows) q r).x; z = p })
  write_z p [] q lt = absurd (omega arith)
  write_z p (x ∷ []) q lt = absurd (omega arith)
  write_z p (x ∷ z ∷ rows) zero lt = refl
  write_z p (x ∷ z ∷ rows) (suc q) lt =
      ap (λ k. paired_strings (set (x ∷ z ∷ rows) k p)) (odd q) ∙ ap (λ l. record { x = x; z = z } ∷ l) (write_z p rows q (omega arith))

-- positions

pub positions-distinct : (v w : InverseRow) (a b : ℕ) → (v ≢ w) ⊎ (a ≢ b) → row_position v a ≢ row_position w b
positions-distinct OfX OfX a b (inl ne) = λ e. ne refl
positions-distinct OfX OfX a b (inr ne) = λ e. ne (omega arith)
positions-distinct OfX OfZ a b distinct = λ e. omega arith
positions-distinct OfZ OfX a b distinct = λ e. omega arith
positions-distinct OfZ OfZ a b (inl ne) = λ e. ne refl
positions-distinct OfZ OfZ a b (inr ne) = λ e. ne (omega arith)

pub length-put : (w : InverseRow) (q : ℕ) (p : Signed) (rows : List InverseRows) → length (put w q p rows) ≡ length rows
length-put w q p rows = length-set rows q (with_string w p (rows_at rows q))

-- the rows of a table

pub preserved-paired : (r new : Rows) (a : ℕ) (p : Signed) → IsPaired r → new ≡ with_row r a p → IsPaired new
preserved-paired r new a p is e =
    let P : Rows → Type 0 = IsPaired in
    subst P (sym e) (record { few = is.few; size = length-set r.rows a p ∙ is.size })

module _ (r : Rows) (is : IsPaired r) where
  pub pairs-are : length (paired_strings r.rows) ≡ r.qubits
  pairs-are = length-paired r.rows r.qubits is.size

  pub pair-few : (q : ℕ) → q < length (paired_strings r.rows) → q ≤ 1024
  pair-few q lt = let a = is.few in let b = pairs-are in omega arith

  both-in : (q : ℕ) → q < length (paired_strings r.rows) → 2 * q + 1 < length r.rows
  both-in q lt = let a = is.size in let b = pairs-are in omega arith

  pub pair-in : (w : InverseRow) (q : ℕ) → q < length (paired_strings r.rows) → row_position w q < length r.rows
  pair-in OfX q lt = let a = both-in q lt in omega arith
  pair-in OfZ q lt = both-in q lt

  pub pair-read : (w : InverseRow) (q : ℕ) → q < length (paired_strings r.rows) → string_at r (row_position w q) ≡ row_string w (rows_at (paired_strings r.rows) q)
  pair-read OfX q lt = read_x (identity r.qubits) _ r.rows q (both-in q lt)
  pair-read OfZ q lt = read_z (identity r.qubits) _ r.rows q (both-in q lt)

  written : (w : InverseRow) (q : ℕ) (p : Signed) → q < length (paired_strings r.rows) → paired_strings (set r.rows (row_position w q) p) ≡ put w q p (paired_strings r.rows)
  written OfX q p lt = write_x p _ p r.rows q (both-in q lt)
  written OfZ q p lt = write_z p _ p r.rows q (both-in q lt)

  pub pair-written : (w : InverseRow) (q : ℕ) (new : Rows) (p s : Signed) → q < length (paired_strings r.rows) → new ≡ with_row r (row_position w q) p → p ≡ s
      → paired_strings new.rows ≡ put w q s (paired_strings r.rows)
  pair-written w q new p s lt e f =
      ap (λ (t : Rows). paired_strings t.rows) e ∙ written w q p lt ∙ ap (λ t. put w q t (paired_strings r.rows)) f

module _ (r : Rows) (is : IsPaired r) (v : InverseRow) (a : ℕ) (w : InverseRow) (b : ℕ) (la : a < length (paired_strings r.rows)) (lb : b < length (paired_strings r.rows)) where
  mid : Rows
  mid = with_row r (row_position v a) (string_at r (row_position w b))

  mid-paired : IsPaired mid
  unfolding mid
  mid-paired = preserved-paired r mid (row_position v a) (string_at r (row_position w b)) is refl

  mid-is : paired_strings mid.rows ≡ put v a (row_string w (rows_at (paired_strings r.rows) b)) (paired_strings r.rows)
  unfolding mid
  mid-is = pair-written r is v a mid (string_at r (row_position w b)) _ la refl (pair-read r is w b lb)

  pub swapped-written : (new : Rows) → new ≡ swapped_rows r (row_position v a) (row_position w b) → paired_strings new.rows ≡ rows_exchanged v a w b (paired_strings r.rows)
  unfolding mid
  swapped-written new e =
      pair-written mid mid-paired w b new (string_at r (row_position v a)) (row_string v (rows_at (paired_strings r.rows) a))
      (let l : length (paired_strings mid.rows) ≡ length (paired_strings r.rows) = ap length mid-is ∙ length-put v a _ (paired_strings r.rows) in omega arith)
      e (pair-read r is v a la)
      ∙ ap (put w b (row_string v (rows_at (paired_strings r.rows) a))) mid-is

-- the same by the pairs that contracts see, and by positions that the program has worked out

module _ (r : Rows) (is : IsPaired r) (t : List InverseRows) (view : paired_strings r.rows ≡ t) where
  seen-in : (q : ℕ) → q < length t → q < length (paired_strings r.rows)
  seen-in q lt = let e = ap length view in omega arith

  pub seen-length : length t ≡ r.qubits
  seen-length = sym (ap length view) ∙ pairs-are r is

  pub seen-few : (q : ℕ) → q < length t → q ≤ 1024
  seen-few q lt = pair-few r is q (seen-in q lt)

  pub seen-position : (w : InverseRow) (q k : ℕ) → q < length t → k ≡ row_position w q → k < length r.rows
  seen-position w q k lt e = let l = pair-in r is w q (seen-in q lt) in omega arith

  pub seen-read : (w : InverseRow) (q k : ℕ) → q < length t → k ≡ row_position w q → string_at r k ≡ row_string w (rows_at t q)
  seen-read w q k lt e = ap (string_at r) e ∙ pair-read r is w q (seen-in q lt) ∙ ap (λ rows. row_string w (rows_at rows q)) view

  pub seen-written : (w : InverseRow) (q k : ℕ) → q < length t → k ≡ row_position w q → (new : Rows) (p s : Signed) → new ≡ with_row r k p → p ≡ s
      → paired_strings new.rows ≡ put w q s t
  seen-written w q k lt e new p s made same =
      pair-written r is w q new p s (seen-in q lt) (made ∙ ap (λ k. with_row r k p) e) same ∙ ap (put w q s) view

  pub seen-distinct : (v w : InverseRow) (a b j k : ℕ) → j ≡ row_position v a → k ≡ row_position w b → (v ≢ w) ⊎ (a ≢ b) → j ≢ k
  seen-distinct v w a b j k ej ek distinct = λ e. positions-distinct v w a b distinct (sym ej ∙ e ∙ ek)

  pub seen-exchanged : (v w : InverseRow) (a b j k : ℕ) → a < length t → b < length t → j ≡ row_position v a → k ≡ row_position w b
      → (new : Rows) → new ≡ swapped_rows r j k → paired_strings new.rows ≡ rows_exchanged v a w b t
  seen-exchanged v w a b j k la lb ej ek new e =
      swapped-written r is v a w b (seen-in a la) (seen-in b lb) new (e ∙ (λ i. swapped_rows r (ej i) (ek i))) ∙ ap (rows_exchanged v a w b) view

  -- a row made one letter anew
  pub seen-reset : (w : InverseRow) (q k : ℕ) (l : Letter) → q < length t → k ≡ row_position w q → (blank new : Rows)
      → blank ≡ with_row r k (identity r.qubits) → new ≡ with_row blank k (with_letter q l (string_at blank k))
      → paired_strings new.rows ≡ put w q (single (length t) q l) t
  seen-reset w q k l lt e blank new made again =
      seen-written w q k lt e new (with_letter q l (identity r.qubits)) (single (length t) q l)
      (again
      ∙ (λ i. with_row (made i) k (with_letter q l (string_at (made i) k)))
      ∙ (λ i. record { qubits = r.qubits; rows = set-set r.rows k (identity r.qubits) (with_letter q l (here i)) i }))
      (ap (λ n. single n q l) (sym seen-length))
    where
      here : get_or (set r.rows k (identity r.qubits)) k (identity r.qubits) ≡ identity r.qubits
      here = get_or-set_same r.rows k (identity r.qubits) (identity r.qubits) (seen-position w q k lt e)

-- pairs that are put at a position one after another
pub put-again : (w : InverseRow) (q : ℕ) (s : Signed) (old new : List InverseRows) (p : InverseRows) → q < length old → new ≡ set old q p
    → put w q s new ≡ set old q (with_string w s p)
put-again w q s old new p lt e =
    ap (put w q s) e
    ∙ ap (λ r. set (set old q p) q (with_string w s r)) (get_or-set_same old q p _ lt)
    ∙ set-set old q p (with_string w s p)

pub row-put : (q : ℕ) (old new : List InverseRows) (p : InverseRows) → q < length old → new ≡ set old q p → rows_at new q ≡ p
row-put q old new p lt e = ap (λ rows. rows_at rows q) e ∙ get_or-set_same old q p _ lt

-- rows of letters I

module _ (n : ℕ) (r : Rows) (e : r ≡ record { qubits = n; rows = replicate (2 * n) (identity n) }) where
  pub new-length : length (paired_strings r.rows) ≡ n
  new-length = length-paired r.rows n (ap (λ (t : Rows). length t.rows) e ∙ length-replicate (2 * n) (identity n))

  pub new-over : n ≤ 1024 → (q : ℕ) → q < n → IsOver n (rows_at (paired_strings r.rows) q)
  new-over few q lt = record { x = over OfX; z = over OfZ }
    where
      is : IsPaired r
      is = let P : Rows → Type 0 = IsPaired in subst P (sym e) (record { few = few; size = length-replicate (2 * n) (identity n) })

      here : q < length (paired_strings r.rows)
      here = let l = new-length in omega arith

      blank : (w : InverseRow) → string_at r (row_position w q) ≡ identity n
      blank w =
          ap (λ t. string_at t (row_position w q)) e
          ∙ get_or-replicate (2 * n) (row_position w q) (identity n) (identity n)
          (let l = pair-in r is w q here in let s = is.size in let c = ap (λ (t : Rows). t.qubits) e in omega arith)

      over : (w : InverseRow) → length (row_string w (rows_at (paired_strings r.rows) q)).letters ≡ n
      over w = ap (λ (p : Signed). length p.letters) (sym (pair-read r is w q here) ∙ blank w) ∙ length-replicate n I
