-- From what the program compares and writes to the frame of two tables.
use Rattle.stab_tableau.proofs.Names.{beq, list_any, ◌≡◌, ℕ, zero, suc, ◌<◌, ◌≤◌, ◌+◌, ◌*◌, Bool, true, false, not, refl, sym, ◌∙◌, ap, List, [], ◌∷◌, length, map, get_or, set, drop, arith, below_more, get_or-set_other, get_or-set_same, ext_get_or, Letter, I, Z, ◌⊕◌, letters_anticommute, has_x, Signed, Phased, phased, Rows, unsigned_rows, clash, letter_at, diagonal, SameGroup, stabilises, InverseRows, rows_at, string_preimage, extend, paired_strings, IsPaired, IsTableau, SameLetters, frame_letter, sign_frame}
use Rattle.stab_tableau.proofs.StabiliseLemmas.{diagonal-at}
use Rattle.stab_tableau.proofs.MeasureLemmas.{diagonal-none}
use Rattle.stab_tableau.proofs.DiagonalLemmas.{x-with_Z}
use Rattle.stab_tableau.proofs.PairedRowsLemmas.{length-paired}
use Rattle.stab_tableau.proofs.SignFrameLemmas.{length-frame, frame-same, same-frame}

-- strings two by two: what is the same for the strings is the same for the pairs

letters-paired : (xs ys : List Signed) → map (λ (p : Signed). p.letters) xs ≡ map (λ (p : Signed). p.letters) ys → SameLetters (paired_strings xs) (paired_strings ys)
letters-paired [] [] e = tt
letters-paired [] (y ∷ ys) e = let l = ap length e in absurd (omega (arith, l))
letters-paired (x ∷ xs) [] e = let l = ap length e in absurd (omega (arith, l))
letters-paired (x ∷ []) (y ∷ []) e = tt
letters-paired (x ∷ []) (y ∷ w ∷ ys) e = let l = ap length e in absurd (omega (arith, l))
letters-paired (x ∷ z ∷ xs) (y ∷ []) e = let l = ap length e in absurd (omega (arith, l))
letters-paired (x ∷ z ∷ xs) (y ∷ w ∷ ys) e = (ap (λ l. get_or l 0 []) e, ap (λ l. get_or l 1 []) e, letters-paired xs ys (ap (drop 2) e))

letters-unpaired : (xs ys : List Signed) (n m : ℕ) → length xs ≡ 2 * n → length ys ≡ 2 * m → SameLetters (paired_strings xs) (paired_strings ys)
    → map (λ (p : Signed). p.letters) xs ≡ map (λ (p : Signed). p.letters) ys
letters-unpaired [] [] n m ex ey s = refl
letters-unpaired (x ∷ []) ys n m ex ey s = absurd (omega arith)
letters-unpaired [] (y ∷ []) n m ex ey s = absurd (omega arith)
letters-unpaired [] (y ∷ w ∷ ys) n m ex ey s = absurd s
letters-unpaired (x ∷ z ∷ xs) [] n m ex ey s = absurd s
letters-unpaired (x ∷ z ∷ xs) (y ∷ []) n m ex ey s = absurd (omega arith)
letters-unpaired (x ∷ z ∷ xs) (y ∷ w ∷ ys) zero m ex ey s = absurd (omega arith)
letters-unpaired (x ∷ z ∷ xs) (y ∷ w ∷ ys) (suc n) zero ex ey s = absurd (omega arith)
letters-unpaired (x ∷ z ∷ xs) (y ∷ w ∷ ys) (suc n) (suc m) ex ey s =
    λ i. s.0 i ∷ s.1 i ∷ letters-unpaired xs ys n m (omega arith) (omega arith) s.2 i

-- the strings of pairs, one after another
unpaired : List InverseRows → List Signed
unpaired [] = []
unpaired (r ∷ rows) = r.x ∷ r.z ∷ unpaired rows

unpaired-paired : (xs : List Signed) (n : ℕ) → length xs ≡ 2 * n → unpaired (paired_strings xs) ≡ xs
unfolding unpaired
unpaired-paired [] n e = refl
unpaired-paired (x ∷ []) n e = absurd (omega arith)
unpaired-paired (x ∷ z ∷ xs) zero e = absurd (omega arith)
unpaired-paired (x ∷ z ∷ xs) (suc n) e = ap (λ l. x ∷ z ∷ l) (unpaired-paired xs n (omega arith))

pub length-same : (rows others : List InverseRows) → SameLetters rows others → length rows ≡ length others
length-same [] [] s = refl
length-same [] (r ∷ others) s = absurd s
length-same (r ∷ rows) [] s = absurd s
length-same (r ∷ rows) (t ∷ others) s = ap suc (length-same rows others s.2)

module _ (r s : Rows) (ir : IsPaired r) (is : IsPaired s) where
  pub pairs-same : r ≡ s → paired_strings r.rows ≡ paired_strings s.rows
  pairs-same e = ap (λ (r : Rows). paired_strings r.rows) e

  pub same-pairs : paired_strings r.rows ≡ paired_strings s.rows → r ≡ s
  same-pairs e = λ i. record { qubits = qubits i; rows = rows i }
    where
      rows : r.rows ≡ s.rows
      rows = sym (unpaired-paired r.rows r.qubits ir.size) ∙ ap unpaired e ∙ unpaired-paired s.rows s.qubits is.size

      qubits : r.qubits ≡ s.qubits
      qubits = let l = ap length rows in let a = ir.size in let b = is.size in omega (arith, l)

  pub pairs-letters : unsigned_rows r ≡ unsigned_rows s → SameLetters (paired_strings r.rows) (paired_strings s.rows)
  pairs-letters e = letters-paired r.rows s.rows e

  pub letters-pairs : SameLetters (paired_strings r.rows) (paired_strings s.rows) → (r.qubits ≡ s.qubits) × (unsigned_rows r ≡ unsigned_rows s)
  letters-pairs s_is = (
    sym (length-paired r.rows r.qubits ir.size) ∙ length-same (paired_strings r.rows) (paired_strings s.rows) s_is ∙ length-paired s.rows s.qubits is.size,
    letters-unpaired r.rows s.rows r.qubits s.qubits ir.size is.size s_is,
  )

-- the letters of a frame, written one after another

pub length-sign_frame : (rows others : List InverseRows) → length others ≡ length rows → length (sign_frame rows others) ≡ length rows
length-sign_frame [] others e = refl
length-sign_frame (r ∷ rows) [] e = absurd (omega arith)
length-sign_frame (r ∷ rows) (s ∷ others) e = ap suc (length-sign_frame rows others (omega arith))

sign_frame-at : (rows others : List InverseRows) (q : ℕ) → length others ≡ length rows → q < length rows
    → get_or (sign_frame rows others) q I ≡ frame_letter (rows_at rows q) (rows_at others q)
sign_frame-at [] others q e lt = absurd (omega arith)
sign_frame-at (r ∷ rows) [] q e lt = absurd (omega arith)
sign_frame-at (r ∷ rows) (s ∷ others) zero e lt = refl
sign_frame-at (r ∷ rows) (s ∷ others) (suc q) e lt = sign_frame-at rows others q (omega arith) (omega arith)

pub differ : (a b : Bool) → not (beq a b) ≡ a ⊕ b
differ false false = refl
differ false true = refl
differ true false = refl
differ true true = refl

pub frame-more : (q : ℕ) (rows others : List InverseRows) (now : List Letter) (m : Letter) → length others ≡ length rows
    → length now ≡ length rows → q < length rows → m ≡ frame_letter (rows_at rows q) (rows_at others q)
    → ((j : ℕ) → j < q → get_or now j I ≡ get_or (sign_frame rows others) j I)
    → (j : ℕ) → j < q + 1 → get_or (set now q m) j I ≡ get_or (sign_frame rows others) j I
frame-more q rows others now m same size lt e before =
    below_more _ _
    (λ j lj. get_or-set_other now q j m I (omega arith) ∙ before j lj)
    (get_or-set_same now q m I (omega arith) ∙ e ∙ sym (sign_frame-at rows others q same lt))

pub frame-all : (q : ℕ) (rows others : List InverseRows) (now : List Letter) → length others ≡ length rows → length now ≡ length rows → length rows ≤ q
    → ((j : ℕ) → j < q → get_or now j I ≡ get_or (sign_frame rows others) j I) → now ≡ sign_frame rows others
frame-all q rows others now same size le done =
    ext_get_or I now (sign_frame rows others) (size ∙ sym (length-sign_frame rows others same)) (λ j lj. done j (omega arith))

-- the preimage of the frame, which the program reads

module _ (rows others : List InverseRows) (scratch : InverseRows) (is : IsTableau (length rows) rows scratch) (s : SameLetters rows others)
    (z x : Signed) (z_is : z.letters ≡ sign_frame rows others) (sent : phased x ≡ extend (string_preimage (length rows) rows) (phased z)) where
  x_is : x.letters ≡ (string_preimage (length rows) rows (sign_frame rows others)).letters
  x_is = ap (λ (a : Phased). a.letters) sent ∙ ap (λ p. (string_preimage (length rows) rows p).letters) z_is

  pub signs-tableau : IsTableau (length rows) rows (record { x = x; z = z })
  signs-tableau = record {
    table = is.table;
    onto = is.onto;
    size = record {
      x = ap length x_is ∙ is.table.keeps.size (sign_frame rows others) (length-frame rows others s);
      z = ap length z_is ∙ length-frame rows others s;
    };
  }

  pub signs-yes : list_any has_x x.letters ≡ false
      → SameGroup (length rows) (stabilises (record { qubits = length rows; rows = rows })) (stabilises (record { qubits = length rows; rows = others }))
  signs-yes quiet =
      frame-same (length rows) rows others is.table is.onto s (ap diagonal (sym x_is) ∙ diagonal-none x.letters quiet)

  pub signs-no : (k : ℕ) → has_x (letter_at x.letters k) ≡ true
      → SameGroup (length rows) (stabilises (record { qubits = length rows; rows = rows })) (stabilises (record { qubits = length rows; rows = others })) → ⊥
  signs-no k f same =
      clash (letters_anticommute Z (get_or x.letters k I)) (x-with_Z (get_or x.letters k I) ∙ f)
      (diagonal-at x.letters k (ap diagonal x_is ∙ same-frame (length rows) rows others is.table is.onto s same))
