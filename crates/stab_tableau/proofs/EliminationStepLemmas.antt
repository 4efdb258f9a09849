-- Steps of an elimination: what each keeps of rows that generate a group.
use Rattle.stab_tableau.proofs.Names.{if◌then◌else◌, eq-eqb, eqb_tells, ◌≡◌, ◌≢◌, eqb, ℕ, ◌+◌, ◌<◌, ◌≤◌, Bool, true, false, ◌&&◌, inl, inr, refl, sym, ◌∙◌, ap, subst, List, length, get_or, arith, Letter, ◌⊕◌, Signed, identity, product, Rows, row_at, parity-self, parity-false, parity-assoc, length-product, IsStabiliserGroup, bit_at, IsFirst, IsLinear, IsBasis, HasCome, ComesTo, exchanged, AreExchanged, cleared_with, AreCleared, HasStepped}
use Rattle.stab_tableau.proofs.BitLemmas.{bit-product, up-to}
use Rattle.stab_tableau.proofs.ExchangeLemmas.{exchanged-first, exchanged-twice, exchanged-below, exchanged-high, exchanged-low}

-- clearing a string by a leading adds the leading's answer to a test if the string has 1
cleared-test : (n k : ℕ) (f : List Letter → Bool) → IsLinear f → (leading p : Signed)
    → f (cleared_with n k leading p).letters ≡ f p.letters ⊕ (bit_at n p.letters k && f leading.letters)
cleared-test n k f linear leading p = by_bit (bit_at n p.letters k)
  where
    by_bit : (b : Bool) → f (if b then product p leading else p).letters ≡ f p.letters ⊕ (b && f leading.letters)
    by_bit true = linear p.letters leading.letters
    by_bit false = sym (parity-false (f p.letters))

pub and-false : (a b : Bool) → b ≡ false → (a && b) ≡ false
and-false false b e = refl
and-false true b e = e

pub and-true : (a b : Bool) → b ≡ true → (a && b) ≡ a
and-true false b e = refl
and-true true b e = e

pub and-parity : (a b c : Bool) → (a && (b ⊕ c)) ≡ (a && b) ⊕ (a && c)
and-parity false b c = refl
and-parity true b c = refl

abbrev pub rows_of : ℕ → List Signed → Rows
rows_of n xs = record { qubits = n; rows = xs }

abbrev pub at : ℕ → List Signed → ℕ → Signed
at n xs a = get_or xs a (identity n)

module _ (member : Signed → Bool) (n k used : ℕ) (xs ys : List Signed) (h : HasCome member k used (rows_of n xs)) where
  -- two rows that are left are exchanged
  module _ (p : ℕ) (le : used ≤ p) (lt : p < length xs) (x : AreExchanged used p (rows_of n xs) (rows_of n ys)) where
    there : (a : ℕ) → a < length ys → exchanged used p a < length xs
    there a la = exchanged-below (length xs) used p a (omega arith) lt (let c = x.count in omega arith)

    row-is : (a : ℕ) → a < length ys → at n ys a ≡ at n xs (exchanged used p a)
    row-is a la = x.rows a (let c = x.count in omega arith)

    row-low : (a : ℕ) → a < used → at n ys a ≡ at n xs a
    row-low a la = x.rows a (omega arith) ∙ ap (at n xs) (exchanged-low used p a la (omega arith))

    exchanged-core : HasCome member k used (rows_of n ys)
    exchanged-core = record {
      basis = record {
        over = λ a la. ap (λ (s : Signed). length s.letters) (row-is a la) ∙ h.basis.over (exchanged used p a) (there a la);
        passes = λ a la. ap member (row-is a la) ∙ h.basis.passes (exchanged used p a) (there a la);
        spans = λ f linear zeros q lq mq. h.basis.spans f linear
            (λ a la. let back : exchanged used p a < length ys = let c = x.count in let b = exchanged-below (length xs) used p a (omega arith) lt la in omega arith in
            ap (λ a. f (at n xs a).letters) (sym (exchanged-twice used p a))
            ∙ ap (λ (s : Signed). f s.letters) (sym (row-is (exchanged used p a) back))
            ∙ zeros (exchanged used p a) back) q lq mq;
        independent = λ v. let i = h.basis.independent (λ a. v (exchanged used p a)) in
            (i.0, i.1, λ a la. ap (λ (s : Signed). i.0 s.letters) (row-is a la) ∙ i.2 (exchanged used p a) (there a la) ∙ ap v (exchanged-twice used p a));
      };
      few = let c = x.count in let f = h.few in omega arith;
      lead = h.lead;
      first = λ a la. subst (λ (s : Signed). IsFirst n s.letters (h.lead a)) (sym (row-low a la)) (h.first a la);
      before = h.before;
      ascend = h.ascend;
      clear = λ a b la lb ne. ap (λ (s : Signed). bit_at n s.letters (h.lead a)) (row-low b lb) ∙ h.clear a b la lb ne;
      zeros = λ b lb ly j lj. ap (λ (s : Signed). bit_at n s.letters j) (row-is b ly)
          ∙ h.zeros (exchanged used p b) (exchanged-high used used p b (omega arith) le lb) (there b ly) j lj;
    }

  -- a leading by which all others are cleared
  module _ (g : IsStabiliserGroup n member) (in_range : k < n + n) (lu : used < length xs) (one : bit_at n (at n xs used).letters k ≡ true)
      (c : AreCleared used k (rows_of n xs) (rows_of n ys)) where
    abbrev leading : Signed
    leading = at n xs used

    size : length leading.letters ≡ n
    size = h.basis.over used lu

    still : (j : ℕ) → j < k → bit_at n leading.letters j ≡ false
    still j lj = h.zeros used (omega arith) lu j lj

    cleared-bit : (p : Signed) (j : ℕ) → j < k → bit_at n (cleared_with n k leading p).letters j ≡ bit_at n p.letters j
    cleared-bit p j lt =
        cleared-test n k (λ p. bit_at n p j) (λ p q. bit-product n p q j) leading p
        ∙ ap (λ b. bit_at n p.letters j ⊕ b) (and-false (bit_at n p.letters k) (bit_at n leading.letters j) (still j lt))
        ∙ parity-false (bit_at n p.letters j)

    cleared-zero : (p : Signed) → bit_at n (cleared_with n k leading p).letters k ≡ false
    cleared-zero p =
        cleared-test n k (λ p. bit_at n p k) (λ p q. bit-product n p q k) leading p
        ∙ ap (λ b. bit_at n p.letters k ⊕ b) (and-true (bit_at n p.letters k) (bit_at n leading.letters k) one)
        ∙ parity-self (bit_at n p.letters k)

    cleared-size : (p : Signed) → length p.letters ≡ n → length (cleared_with n k leading p).letters ≡ n
    cleared-size p lp = by_bit (bit_at n p.letters k)
      where
        by_bit : (b : Bool) → length (if b then product p leading else p).letters ≡ n
        by_bit true = length-product n p leading lp size
        by_bit false = lp

    cleared-passes : (p : Signed) → length p.letters ≡ n → member p ≡ true → member (cleared_with n k leading p) ≡ true
    cleared-passes p lp mp = by_bit (bit_at n p.letters k)
      where
        by_bit : (b : Bool) → member (if b then product p leading else p) ≡ true
        by_bit true = g.closed p leading lp size mp (h.basis.passes used lu)
        by_bit false = mp

    -- a fact of the leading and of each row that is cleared holds of each row
    by-row : (P : ℕ → Signed → Type 0) → P used leading → ((a : ℕ) → a < length xs → a ≢ used → P a (cleared_with n k leading (at n xs a)))
        → (a : ℕ) → a < length ys → P a (at n ys a)
    by-row P here there a la = elim (eqb_tells a used) [
      | inl same ↦ subst (λ b. P b (at n ys b)) (sym same.1) (subst (P used) (sym c.preserved) here)
      | inr other ↦ let lx : a < length xs = (let e = c.count in omega arith) in
          subst (P a) (sym (c.others a lx other.1)) (there a lx other.1)
    ]

    row-other : (a : ℕ) → a < used → at n ys a ≡ cleared_with n k leading (at n xs a)
    row-other a la = c.others a (omega arith) (λ e. absurd (omega (arith, e)))

    abbrev wanted : (ℕ → Bool) → ℕ → Bool
    wanted v a = if eqb a used then v used else v a ⊕ (bit_at n (at n xs a).letters k && v used)

    wanted-used : (v : ℕ → Bool) → wanted v used ≡ v used
    wanted-used v = ap (λ t. if t then v used else v used ⊕ (bit_at n leading.letters k && v used)) (eq-eqb used used refl)

    wanted-other : (v : ℕ → Bool) (a : ℕ) → a ≢ used → wanted v a ≡ v a ⊕ (bit_at n (at n xs a).letters k && v used)
    wanted-other v a ne = elim (eqb_tells a used) [
      | inl same ↦ absurd (ne same.1)
      | inr other ↦ ap (λ t. if t then v used else v a ⊕ (bit_at n (at n xs a).letters k && v used)) other.0
    ]

    cleared-basis : IsBasis member (rows_of n ys)
    cleared-basis = record {
      over = by-row (λ a s. length s.letters ≡ n) size (λ a la ne. cleared-size (at n xs a) (h.basis.over a la));
      passes = by-row (λ a s. member s ≡ true) (h.basis.passes used lu)
          (λ a la ne. cleared-passes (at n xs a) (h.basis.over a la) (h.basis.passes a la));
      spans = λ f linear zeros p lp mp. h.basis.spans f linear (back f linear zeros) p lp mp;
      independent = λ v. let i = h.basis.independent (wanted v) in (i.0, i.1, bits v i.0 i.1 i.2);
    }
      where
        back : (f : List Letter → Bool) → IsLinear f → ((a : ℕ) → a < length ys → f (at n ys a).letters ≡ false)
            → (a : ℕ) → a < length xs → f (at n xs a).letters ≡ false
        back f linear zeros a la = elim (eqb_tells a used) [
          | inl same ↦ ap (λ a. f (at n xs a).letters) same.1 ∙ quiet
          | inr other ↦ sym (parity-false (f (at n xs a).letters))
              ∙ ap (λ b. f (at n xs a).letters ⊕ b) (sym (and-false (bit_at n (at n xs a).letters k) (f leading.letters) quiet))
              ∙ sym (cleared-test n k f linear leading (at n xs a))
              ∙ ap (λ (s : Signed). f s.letters) (sym (c.others a la other.1))
              ∙ zeros a (let e = c.count in omega arith)
        ]
          where
            quiet : f leading.letters ≡ false
            quiet = ap (λ (s : Signed). f s.letters) (sym c.preserved) ∙ zeros used (let e = c.count in omega arith)

        bits : (v : ℕ → Bool) (f : List Letter → Bool) → IsLinear f → ((a : ℕ) → a < length xs → f (at n xs a).letters ≡ wanted v a)
            → (a : ℕ) → a < length ys → f (at n ys a).letters ≡ v a
        bits v f linear on = by-row (λ a s. f s.letters ≡ v a) own
            (λ a la ne. cleared-test n k f linear leading (at n xs a)
            ∙ (λ i. (on a la ∙ wanted-other v a ne) i ⊕ (bit_at n (at n xs a).letters k && own i))
            ∙ parity-assoc (v a) (bit_at n (at n xs a).letters k && v used) (bit_at n (at n xs a).letters k && v used)
            ∙ ap (λ b. v a ⊕ b) (parity-self (bit_at n (at n xs a).letters k && v used))
            ∙ parity-false (v a))
          where
            own : f leading.letters ≡ v used
            own = on used lu ∙ wanted-used v

    abbrev lead : ℕ → ℕ
    lead a = if eqb a used then k else h.lead a

    lead-used : lead used ≡ k
    lead-used = ap (λ t. if t then k else h.lead used) (eq-eqb used used refl)

    lead-low : (a : ℕ) → a < used → lead a ≡ h.lead a
    lead-low a la = elim (eqb_tells a used) [
      | inl same ↦ let e = same.1 in absurd (omega arith)
      | inr other ↦ ap (λ t. if t then k else h.lead a) other.0
    ]

    first-at : (s t : Signed) (l m : ℕ) → s ≡ t → l ≡ m → IsFirst n t.letters m → IsFirst n s.letters l
    first-at s t l m e f w = subst (IsFirst n s.letters) (sym f) (subst (λ (s : Signed). IsFirst n s.letters m) (sym e) w)

    bit-of : (s t : Signed) (l m : ℕ) → s ≡ t → l ≡ m → bit_at n t.letters m ≡ false → bit_at n s.letters l ≡ false
    bit-of s t l m e f w = (λ i. bit_at n (e i).letters (f i)) ∙ w

    leading-core : HasCome member (k + 1) (used + 1) (rows_of n ys)
    leading-core = record {
      basis = cleared-basis;
      few = let e = c.count in omega arith;
      lead = lead;
      first = λ a la. up-to (λ a. IsFirst n (at n ys a).letters (lead a)) used
          (λ a la. let f = h.first a la in first-at (at n ys a) (cleared_with n k leading (at n xs a)) (lead a) (h.lead a) (row-other a la) (lead-low a la) (
            f.0,
            cleared-bit (at n xs a) (h.lead a) (h.before a la) ∙ f.1,
            λ j lj. cleared-bit (at n xs a) j (let b = h.before a la in omega arith) ∙ f.2 j lj,
          ))
          (first-at (at n ys used) leading (lead used) k c.preserved lead-used (in_range, one, still)) a (omega arith);
      before = λ a la. up-to (λ a. lead a < k + 1) used
          (λ a la. let b = h.before a la in let e = lead-low a la in omega arith) (let e = lead-used in omega arith) a (omega arith);
      ascend = λ a b ab lb. up-to (λ b. a < b → lead a < lead b) used
          (λ b lb ab. let l = h.ascend a b ab lb in let e = lead-low a (omega arith) in let f = lead-low b lb in omega arith)
          (λ ab. let l = h.before a ab in let e = lead-low a ab in let f = lead-used in omega arith) b (omega arith) ab;
      clear = λ a b la lb. up-to (λ a. b ≢ a → bit_at n (at n ys b).letters (lead a) ≡ false) used
          (λ a la ne. up-to (λ b. b ≢ a → bit_at n (at n ys b).letters (lead a) ≡ false) used
          (λ b lb ne. bit-of (at n ys b) (cleared_with n k leading (at n xs b)) (lead a) (h.lead a) (row-other b lb) (lead-low a la)
          (cleared-bit (at n xs b) (h.lead a) (h.before a la) ∙ h.clear a b la lb ne))
          (λ _. bit-of (at n ys used) leading (lead a) (h.lead a) c.preserved (lead-low a la) (still (h.lead a) (h.before a la))) b (omega arith) ne)
          (λ ne. let low : b < used = (omega (arith, ne)) in
          bit-of (at n ys b) (cleared_with n k leading (at n xs b)) (lead used) k (row-other b low) lead-used (cleared-zero (at n xs b))) a (omega arith);
      zeros = λ b lb ly j lj. ap (λ (s : Signed). bit_at n s.letters j)
          (c.others b (let e = c.count in omega arith) (λ e. absurd (omega (arith, e))))
          ∙ up-to (λ j. bit_at n (cleared_with n k leading (at n xs b)).letters j ≡ false) k
          (λ j lj. cleared-bit (at n xs b) j lj ∙ h.zeros b (omega arith) (let e = c.count in omega arith) j lj)
          (cleared-zero (at n xs b)) j (omega arith);
    }

-- the steps of the code, whose rows keep their number of qubits

some-core : (n k used p : ℕ) (xs ys zs : List Signed) → used ≤ p → p < length xs → k < n + n → bit_at n (at n xs p).letters k ≡ true
    → AreExchanged used p (rows_of n xs) (rows_of n ys) → AreCleared used k (rows_of n ys) (rows_of n zs)
    → HasStepped k used (used + 1) (rows_of n xs) (rows_of n zs)
some-core n k used p xs ys zs le lt in_range one x c = record {
  qubits = refl;
  count = c.count ∙ x.count;
  comes = λ member g h.
      leading-core member n k used ys zs (exchanged-core member n k used xs ys h p le lt x) g in_range (let e = x.count in omega arith)
      (ap (λ (s : Signed). bit_at n s.letters k) (x.rows used (omega arith) ∙ ap (at n xs) (exchanged-first used p)) ∙ one) c;
}

pub some-step : (k used p : ℕ) (old mid new : Rows) → used ≤ p → p < length old.rows → k < old.qubits + old.qubits
    → bit_at old.qubits (row_at old p).letters k ≡ true → AreExchanged used p old mid → AreCleared used k mid new
    → HasStepped k used (used + 1) old new
some-step k used p old mid new le lt in_range one x c =
    subst (λ m. AreExchanged used p old (rows_of m mid.rows) → AreCleared used k (rows_of m mid.rows) new → HasStepped k used (used + 1) old new)
    (sym x.qubits)
    (λ x c. subst (λ l. AreCleared used k (rows_of old.qubits mid.rows) (rows_of l new.rows) → HasStepped k used (used + 1) old (rows_of l new.rows))
    (sym c.qubits) (some-core old.qubits k used p old.rows mid.rows new.rows le lt in_range one x) c) x c

-- a run of steps

pub start : (member : Signed → Bool) (r : Rows) → IsBasis member r → HasCome member 0 0 r
start member r b = record {
  basis = b;
  few = omega arith;
  lead = λ a. a;
  first = λ a la. absurd (omega arith);
  before = λ a la. absurd (omega arith);
  ascend = λ a b ab lb. absurd (omega arith);
  clear = λ a b la. absurd (omega arith);
  zeros = λ b lb ly j lj. absurd (omega arith);
}

pub comes-to : (k used : ℕ) (old now : Rows) → now.qubits ≡ old.qubits
    → ((member : Signed → Bool) → IsStabiliserGroup old.qubits member → IsBasis member old → HasCome member k used now)
    → ((member : Signed → Bool) × IsStabiliserGroup old.qubits member × IsBasis member old) → ComesTo k used now
comes-to k used old now e comes (member, g, b) = (member, subst (λ n. IsStabiliserGroup n member) (sym e) g, comes member g b)

pub comes-on : (k used more : ℕ) (old now new : Rows) → now.qubits ≡ old.qubits
    → ((member : Signed → Bool) → IsStabiliserGroup old.qubits member → IsBasis member old → HasCome member k used now)
    → HasStepped k used more now new
    → (member : Signed → Bool) → IsStabiliserGroup old.qubits member → IsBasis member old → HasCome member (k + 1) more new
comes-on k used more old now new e comes s member g b = s.comes member (subst (λ n. IsStabiliserGroup n member) (sym e) g) (comes member g b)
