-- One string in its words: what is past its last letter is I, which changes no product.
use Rattle.stab_pauli.proofs.Names.{◌≡◌, ℕ, zero, suc, [], ◌∷◌, ◌++◌, ◌-◌, ◌*◌, ◌<◌, refl, sym, ◌∙◌, ap, List, length, set, take, drop, replicate, arith, subst, bit_xor, length-replicate, length-take-le, append-nil, drop-set-lt, take-length, drop-length, length-zip2, Letter, I, Phase, phase_add, phase_of_sign, sign_of_phase, phase_inverse, ◌⊕◌, Signed, string_product, strings_anticommute, xor_words, string_power, strings_meet, sign_power, power_of, row_letters, blocks_of, AreBlocks, IsPadded, IsRow, IsSignedRow, signed_row}
use Rattle.stab_pauli.proofs.PowerLemmas.{power_determined, is_sign_left, sign_of_left, strings_anticommute-meet}
use Rattle.stab_pauli.proofs.BlankLemmas.{fits, row-none, take-replicate, drop-replicate}
use Rattle.stab_pauli.proofs.RowLemmas.{row_product, length-row}
use Rattle.stab_pauli.proofs.TableLemmas.{take-product, padded-product, padded-meet, padded-power}

-- the number of letters

pub length-string : (n m : ℕ) (ws : List ℕ) → IsRow n m ws → length (take n (row_letters m ws)) ≡ n
length-string n m ws is =
    let f = fits n m is.blocks in
    length-take-le n (row_letters m ws) (rw (length-row m ws is.size) f)

-- the words, power of i and number of qubits of a string that contracts see as v
pub record IsView (n m : ℕ) (ws : List ℕ) (k : Phase) (v : Signed) : Type 0 where
  pub row : IsRow n m ws
  pub letters : take n (row_letters m ws) ≡ v.letters
  pub power : k ≡ power_of v

pub view_of : {n m : ℕ} {ws : List ℕ} {k : Phase} {v : Signed} → IsSignedRow n m k ws → signed_row n k (row_letters m ws) ≡ v → IsView n m ws k v
view_of {n} {m} {ws} {k} signed is = record {
  row = signed.row;
  letters = ap (λ (p : Signed). p.letters) is;
  power = power_determined k (take n (row_letters m ws)) signed.sign ∙ ap power_of is;
}

-- the words and the power of a string
pub lies_of : {n m : ℕ} {ws : List ℕ} {k : Phase} {v : Signed} → IsView n m ws k v → IsSignedRow n m k ws
lies_of {n} {m} {ws} {k} {v} view = record {
  row = view.row;
  sign = is_sign_left v.negative k (take n (row_letters m ws)) (view.power ∙ ap (λ l. phase_add (phase_of_sign v.negative) (string_power l)) (sym view.letters));
}

-- and what contracts see of them
pub is_of : {n m : ℕ} {ws : List ℕ} {k : Phase} {v : Signed} → IsView n m ws k v → signed_row n k (row_letters m ws) ≡ v
is_of {n} {m} {ws} {k} {v} view = λ i. record {
  negative = sign_of_left v.negative k (take n (row_letters m ws)) (view.power ∙ ap (λ l. phase_add (phase_of_sign v.negative) (string_power l)) (sym view.letters)) i;
  letters = view.letters i;
}

pub length-view : {n m : ℕ} {ws : List ℕ} {k : Phase} {v : Signed} → IsView n m ws k v → length v.letters ≡ n
length-view {n} {m} {ws} view = ap length (sym view.letters) ∙ length-string n m ws view.row

-- the sign, by the power of i of all letters that lie in the words
pub sign_read : {n m : ℕ} {ws : List ℕ} {k : Phase} {v : Signed} → IsView n m ws k v → sign_of_phase (sign_power k (row_letters m ws)) ≡ v.negative
sign_read {n} {m} {ws} {k} view =
    ap (λ t. sign_of_phase (phase_add (phase_inverse t) k)) (padded-power n m (row_letters m ws) view.row.padded)
    ∙ ap (λ (p : Signed). p.negative) (is_of view)

-- the same words over the same numbers
pub same_numbers : {n m : ℕ} {ws : List ℕ} {k : Phase} {v : Signed} (n' m' : ℕ) → n ≡ n' → m ≡ m' → IsView n m ws k v → IsView n' m' ws k v
same_numbers {n} {m} {ws} {k} {v} n' m' en em view = subst (λ j. IsView j m' ws k v) en (subst (λ j. IsView n j ws k v) em view)

-- a string of one length with another has as many blocks
pub record IsFitting (n m n' m' : ℕ) (ws' : List ℕ) (k' : Phase) (v' : Signed) : Type 0 where
  pub qubits : n ≡ n'
  pub blocks : m ≡ m'
  pub view : IsView n m ws' k' v'

pub fitting_numbers : {n m n' m' : ℕ} {ws' : List ℕ} {k' : Phase} {v' : Signed} → AreBlocks n m → n ≡ n' → IsView n' m' ws' k' v' → IsFitting n m n' m' ws' k' v'
fitting_numbers {n} {m} {n'} {m'} are en theirs = record { qubits = en; blocks = em; view = same_numbers n m (sym en) (sym em) theirs }
  where
    em : m ≡ m'
    em = are.count ∙ ap blocks_of en ∙ sym theirs.row.blocks.count

pub alike : {n m : ℕ} {ws : List ℕ} {k : Phase} {v : Signed} {n' m' : ℕ} {ws' : List ℕ} {k' : Phase} {v' : Signed}
    → IsView n m ws k v → IsView n' m' ws' k' v' → length v.letters ≡ length v'.letters → IsFitting n m n' m' ws' k' v'
alike mine theirs l = fitting_numbers mine.row.blocks (sym (length-view mine) ∙ l ∙ length-view theirs) theirs

pub position_in_row : {n m : ℕ} {ws : List ℕ} {k : Phase} {v : Signed} → IsView n m ws k v → (q : ℕ) → q < length v.letters → q < 256 * m
position_in_row {n} {m} view q lt =
    let f = fits n m view.row.blocks in
    let l = length-view view in
    omega arith

-- letters I

pub IsRow-none : (n m : ℕ) (ws : List ℕ) → AreBlocks n m → ws ≡ replicate (8 * m) 0 → IsRow n m ws
IsRow-none n m ws eb ew = record {
  blocks = eb;
  size = ap length ew ∙ length-replicate {A = ℕ} (8 * m) 0;
  padded = ap (drop n) (row-none m ws ew) ∙ drop-replicate n (256 * m) (256 * m - n) I (let f = fits n m eb in omega arith);
}

pub letters-none : (n m : ℕ) (ws : List ℕ) → AreBlocks n m → ws ≡ replicate (8 * m) 0 → take n (row_letters m ws) ≡ replicate n I
letters-none n m ws eb ew = ap (take n) (row-none m ws ew) ∙ take-replicate n (256 * m) I (fits n m eb)

-- products

pub IsRow-product : (n m : ℕ) (p q : List ℕ) → IsRow n m p → IsRow n m q → IsRow n m (xor_words p q)
IsRow-product n m p q ip iq = record {
  blocks = ip.blocks;
  size = length-zip2 bit_xor p q (ip.size ∙ sym iq.size) ∙ ip.size;
  padded = subst (IsPadded n m) (sym (row_product m p q ip.size iq.size))
      (padded-product n m (row_letters m p) (row_letters m q) (length-row m p ip.size) (length-row m q iq.size) ip.padded iq.padded);
}

pub letters-product : (n m : ℕ) (p q : List ℕ) → IsRow n m p → IsRow n m q → take n (row_letters m (xor_words p q)) ≡ string_product (take n (row_letters m p)) (take n (row_letters m q))
letters-product n m p q ip iq =
    ap (take n) (row_product m p q ip.size iq.size) ∙ take-product n (row_letters m p) (row_letters m q) (length-row m p ip.size ∙ sym (length-row m q iq.size))

pub meet-product : (n m : ℕ) (p q : List ℕ) → IsRow n m p → IsRow n m q → strings_meet (row_letters m p) (row_letters m q) ≡ strings_meet (take n (row_letters m p)) (take n (row_letters m q))
meet-product n m p q ip iq = padded-meet n m (row_letters m p) (row_letters m q) (fits n m ip.blocks) (length-row m p ip.size) (length-row m q iq.size) ip.padded

pub anticommute-product : (n m : ℕ) (p q : List ℕ) → IsRow n m p → IsRow n m q
    → strings_anticommute (row_letters m p) (row_letters m q) ≡ strings_anticommute (take n (row_letters m p)) (take n (row_letters m q))
anticommute-product n m p q ip iq =
    strings_anticommute-meet (row_letters m p) (row_letters m q)
    ∙ (λ i. meet-product n m p q ip iq i ⊕ meet-product n m q p iq ip i)
    ∙ sym (strings_anticommute-meet (take n (row_letters m p)) (take n (row_letters m q)))

-- a letter that was put

take-set_before : (n : ℕ) (p : List Letter) (q : ℕ) (x : Letter) → q < n → take n (set p q x) ≡ set (take n p) q x
take-set_before zero p q x lt = absurd (omega arith)
take-set_before (suc n) [] q x lt = refl
take-set_before (suc n) (y ∷ p) zero x lt = refl
take-set_before (suc n) (y ∷ p) (suc q) x lt = ap (λ t. y ∷ t) (take-set_before n p q x (omega arith))

pub IsRow-set : (n m : ℕ) (old new : List ℕ) (q : ℕ) (x : Letter) → IsRow n m old → q < n → length new ≡ 8 * m → row_letters m new ≡ set (row_letters m old) q x → IsRow n m new
IsRow-set n m old new q x is lt l e = record { blocks = is.blocks; size = l; padded = ap (drop n) e ∙ drop-set-lt n (row_letters m old) q x lt ∙ is.padded }

pub letters-set : (n m : ℕ) (old new : List ℕ) (q : ℕ) (x : Letter) → q < n → row_letters m new ≡ set (row_letters m old) q x
    → take n (row_letters m new) ≡ set (take n (row_letters m old)) q x
letters-set n m old new q x lt e = ap (take n) e ∙ take-set_before n (row_letters m old) q x lt

-- words of a vector that were written through a slice

pub written_all : {A : Type 0} (ws new : List A) (len : ℕ) → length new ≡ length ws → len ≡ length ws → take len (new ++ drop (length new) ws) ≡ new
written_all ws new len same l =
    ap (λ n. take len (new ++ drop n ws)) same ∙ ap (λ xs. take len (new ++ xs)) (drop-length ws) ∙ ap (take len) (append-nil new)
    ∙ ap (λ n. take n new) (l ∙ sym same) ∙ take-length new

pub IsRow-written : (n m : ℕ) (ws new : List ℕ) (len : ℕ) → IsRow n m ws → len ≡ length ws → IsRow n m new → IsRow n m (take len (new ++ drop (length new) ws))
IsRow-written n m ws new len was l is = subst (IsRow n m) (sym (written_all ws new len (is.size ∙ sym was.size) l)) is

pub letters-written : (n m : ℕ) (ws new : List ℕ) (len : ℕ) → IsRow n m ws → len ≡ length ws → IsRow n m new
    → take n (row_letters m (take len (new ++ drop (length new) ws))) ≡ take n (row_letters m new)
letters-written n m ws new len was l is = ap (λ w. take n (row_letters m w)) (written_all ws new len (is.size ∙ sym was.size) l)

-- products that were read through slices

pub IsRow-read : (n m : ℕ) (ws ws' new : List ℕ) → IsRow n m ws → IsRow n m ws' → new ≡ xor_words ws ws' → IsRow n m new
IsRow-read n m ws ws' new is is' e = subst (IsRow n m) (sym e) (IsRow-product n m ws ws' is is')

pub letters-read : (n m : ℕ) (ws ws' new : List ℕ) → IsRow n m ws → IsRow n m ws' → new ≡ xor_words ws ws'
    → take n (row_letters m new) ≡ string_product (take n (row_letters m ws)) (take n (row_letters m ws'))
letters-read n m ws ws' new is is' e = ap (λ w. take n (row_letters m w)) e ∙ letters-product n m ws ws' is is'

pub written_view : {n m : ℕ} {ws : List ℕ} {k : Phase} {v : Signed} {k' : Phase} {v' : Signed} (new : List ℕ) (len : ℕ) → IsView n m ws k v → len ≡ length ws
    → IsView n m new k' v' → IsView n m (take len (new ++ drop (length new) ws)) k' v'
written_view {n} {m} {ws} {k} {v} {k'} {v'} new len was l view =
    subst (λ w. IsView n m w k' v') (sym (written_all ws new len (view.row.size ∙ sym was.row.size) l)) view
