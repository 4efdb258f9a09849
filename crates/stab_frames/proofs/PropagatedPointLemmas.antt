-- Conjugated tests: two tests of which strings stabilise that differ by the letters of a frame, and what gates make of them.
use Rattle.stab_frames.proofs.Names.{◌≡◌, ℕ, ◌<◌, refl, sym, ◌∙◌, ap, subst, Bool, true, false, List, length, replicate, Letter, ◌⊕◌, Signed, single, with_sign, strings_anticommute, string_product, string_product-comm, length-string_product, strings_anticommute-blank, strings_anticommute-product, Gate, PairGate, inverse, image, image_pair, back, back_pair, Event, member, IsStabiliserGroup, IsConjugated, IsSymmetry, IsSymmetry-image, IsSymmetry-pair, image-length, pair-length, back-image, pair-undone, not-true, not_both, gate_of, applied_where, plus, times_where}
use Rattle.stab_gates.specs.declared.letter.Letter.TheVariants as letter
use Rattle.stab_frames.proofs.SignLemmas.{sign-sign, sign-twice, back-letter}

-- conjugated by nothing, by one string after another, and back

pub conjugated-blank : (n : ℕ) (u : Signed → Bool) → IsConjugated n (replicate n letter.I) u u
conjugated-blank n u p l = ap (λ b. u (with_sign b p)) (sym (strings_anticommute-blank n p.letters))

pub conjugated-over : (n : ℕ) (f g : List Letter) (u v w : Signed → Bool) → IsConjugated n f u v → IsConjugated n g v w → IsConjugated n (string_product f g) u w
conjugated-over n f g u v w h k p l =
    k p l
    ∙ h (with_sign (strings_anticommute g p.letters) p) l
    ∙ ap u (sign-sign (strings_anticommute f p.letters) (strings_anticommute g p.letters) p)
    ∙ ap (λ b. u (with_sign b p)) (sym (strings_anticommute-product f g p.letters))

pub conjugated-back : (n : ℕ) (f : List Letter) (u v : Signed → Bool) → IsConjugated n f u v → IsConjugated n f v u
conjugated-back n f u v h p l =
    ap u (sym (sign-twice (strings_anticommute f p.letters) p)) ∙ sym (h (with_sign (strings_anticommute f p.letters) p) l)

pub conjugated-comm : (n : ℕ) (f g : List Letter) (u v : Signed → Bool) → IsConjugated n (string_product f g) u v → IsConjugated n (string_product g f) u v
conjugated-comm n f g u v h = subst (λ l. IsConjugated n l u v) (string_product-comm f g) h

-- gates

sign-symmetry : (n : ℕ) (f : Signed → Signed) → IsSymmetry n f → (b : Bool) (p : Signed) → with_sign b (f p) ≡ f (with_sign b p)
sign-symmetry n f is false p = refl
sign-symmetry n f is true p = sym (is.keeps_minus p)

conjugated-symmetry : (n : ℕ) (way : Signed → Signed) → IsSymmetry n way → (f g : List Letter) → length g ≡ n → (way (plus g)).letters ≡ f
    → (u v : Signed → Bool) → IsConjugated n f u v → IsConjugated n g (λ p. u (way p)) (λ p. v (way p))
conjugated-symmetry n way is f g size sent u v h p l =
    h (way p) (is.keeps_length p l)
    ∙ ap (λ b. u (with_sign b (way p))) (ap (λ s. strings_anticommute s (way p).letters) (sym sent) ∙ is.keeps_parity (plus g) p size l)
    ∙ ap u (sign-symmetry n way is (strings_anticommute g p.letters) p)

pub conjugated-applied : (n : ℕ) (g : Gate) (q : ℕ) (f : List Letter) → length f ≡ n → (u v : Signed → Bool) → IsConjugated n f u v
    → IsConjugated n (image g q (plus f)).letters (λ p. u (back g q p)) (λ p. v (back g q p))
conjugated-applied n g q f size u v h =
    conjugated-symmetry n (back g q) (IsSymmetry-image n (inverse g) q) f (image g q (plus f)).letters
    (image-length g q (plus f) ∙ size) (ap (λ (p : Signed). p.letters) (back-image g q (plus f))) u v h

pub conjugated-applied_pair : (n : ℕ) (g : PairGate) (a b : ℕ) → (a < n) × (b < n) × (b ≡ a → ⊥) → (f : List Letter) → length f ≡ n
    → (u v : Signed → Bool) → IsConjugated n f u v
    → IsConjugated n (image_pair g a b (plus f)).letters (λ p. u (back_pair g a b p)) (λ p. v (back_pair g a b p))
conjugated-applied_pair n g a b fits f size u v h =
    conjugated-symmetry n (back_pair g a b) (IsSymmetry-pair n g a b fits.0 fits.1 fits.2) f (image_pair g a b (plus f)).letters
    (pair-length g a b (plus f) ∙ size)
    (ap (λ (p : Signed). p.letters) (pair-undone g a b (plus f) (subst (λ m. a < m) (sym size) fits.0) (subst (λ m. b < m) (sym size) fits.1) fits.2))
    u v h

-- a Pauli gate flips signs

pub conjugated-pauli : (n : ℕ) (l : Letter) (q : ℕ) → q < n → (u : Signed → Bool) → IsConjugated n (single n q l).letters u (λ p. u (back (gate_of l) q p))
conjugated-pauli n l q lt u p size = ap u (back-letter n q l p size lt)

pub conjugated-right : (n : ℕ) (l : Letter) (q : ℕ) → q < n → (f : List Letter) (u v : Signed → Bool) → IsConjugated n f u v
    → IsConjugated n (string_product f (single n q l).letters) u (λ p. v (back (gate_of l) q p))
conjugated-right n l q lt f u v h = conjugated-over n f (single n q l).letters u v (λ p. v (back (gate_of l) q p)) h (conjugated-pauli n l q lt v)

pub conjugated-left : (n : ℕ) (l : Letter) (q : ℕ) → q < n → (f : List Letter) (u v : Signed → Bool) → IsConjugated n f u v
    → IsConjugated n (string_product f (single n q l).letters) (λ p. u (back (gate_of l) q p)) v
conjugated-left n l q lt f u v h =
    conjugated-comm n (single n q l).letters f (λ p. u (back (gate_of l) q p)) v
    (conjugated-over n (single n q l).letters f (λ p. u (back (gate_of l) q p)) u v
    (conjugated-back n (single n q l).letters u (λ p. u (back (gate_of l) q p)) (conjugated-pauli n l q lt u)) h)

conjugated-both : (n : ℕ) (l : Letter) (q : ℕ) → q < n → (f : List Letter) → length f ≡ n → (u v : Signed → Bool) → IsConjugated n f u v
    → IsConjugated n f (λ p. u (back (gate_of l) q p)) (λ p. v (back (gate_of l) q p))
conjugated-both n l q lt f size u v h =
    conjugated-symmetry n (back (gate_of l) q) (IsSymmetry-image n (inverse (gate_of l)) q) f f size
    (ap (λ (p : Signed). p.letters) (back-letter n q l (plus f) size lt)) u v h

-- a letter that is applied if a bit is 1, which is flipped on one side

pub length-times : (n : ℕ) (bit : Bool) (more f : List Letter) → length more ≡ n → length f ≡ n → length (times_where bit more f) ≡ n
length-times n true more f lm lf = length-string_product n f more lf lm
length-times n false more f lm lf = lf

pub conjugated-where : (n : ℕ) (l : Letter) (q : ℕ) → q < n → (bit flip : Bool) (f : List Letter) → length f ≡ n → (s t : List Event)
    → IsConjugated n f (member s) (member t)
    → IsConjugated n (times_where flip (single n q l).letters f) (member (applied_where bit l q s)) (member (applied_where (flip ⊕ bit) l q t))
conjugated-where n l q lt false false f size s t h = h
conjugated-where n l q lt true false f size s t h = conjugated-both n l q lt f size (member s) (member t) h
conjugated-where n l q lt false true f size s t h = conjugated-right n l q lt f (member s) (member t) h
conjugated-where n l q lt true true f size s t h = conjugated-left n l q lt f (member s) (member t) h

-- a string of which one sign stabilises flips no sign
pub conjugated-stabiliser : (n : ℕ) (s : List Letter) (u : Signed → Bool) → IsStabiliserGroup n u → length s ≡ n → (negative : Bool)
    → u (record { negative = negative; letters = s }) ≡ true → IsConjugated n s u u
conjugated-stabiliser n s u group size negative is p l = by_side (strings_anticommute s p.letters) refl
  where
    neither : (r : Signed) → length r.letters ≡ n → strings_anticommute s r.letters ≡ true → u r ≡ false
    neither r lr e = not-true (u r) (λ m. not_both _ (group.commuting (record { negative = negative; letters = s }) r size lr is m) e)

    by_side : (b : Bool) → strings_anticommute s p.letters ≡ b → u p ≡ u (with_sign (strings_anticommute s p.letters) p)
    by_side false e = ap (λ b. u (with_sign b p)) (sym e)
    by_side true e = neither p l e ∙ sym (neither (with_sign (strings_anticommute s p.letters) p) l e)
