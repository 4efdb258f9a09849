-- Conjugated states: a stored state conjugated by one letter after another is conjugated by all of them.
use Rattle.stab_frames.proofs.Names.{◌≡◌, ℕ, zero, suc, ◌+◌, ◌-◌, ◌<◌, ◌≤◌, refl, sym, ◌∙◌, ap, subst, Bool, List, [], ◌∷◌, ◌++◌, append-nil, length, take, get_or, set, replicate, arith, take_all, length-replicate, get_or-replicate, set-get_or, Letter, I, X, Y, Z, letter_product, letter_product-I, Signed, single, string_product, string_product-blank_right, IsConjugated}
use Rattle.stab_frames.proofs.PropagatedPointLemmas.{conjugated-blank, conjugated-over}

product-left : (l : Letter) → letter_product I l ≡ l
product-left I = refl
product-left X = refl
product-left Y = refl
product-left Z = refl

-- the first letters, and I at the other qubits
pub partial-next : (q m : ℕ) (letters : List Letter) → length letters ≡ q + suc m
    → string_product (take q letters ++ replicate (suc m) I) (set (replicate (length letters) I) q (get_or letters q I)) ≡ take (suc q) letters ++ replicate m I
partial-next zero m [] size = absurd (omega (arith, size))
partial-next (suc q) m [] size = absurd (omega (arith, size))
partial-next zero m (l ∷ letters) size =
    (λ i. product-left l i ∷ string_product-blank_right (length letters) (replicate m I) (length-replicate m I ∙ omega (arith, size)) i)
partial-next (suc q) m (l ∷ letters) size =
    (λ i. letter_product-I l i ∷ partial-next q m letters (omega (arith, size)) i)

pub conjugated-next : (n q : ℕ) (letters : List Letter) (u v w : Signed → Bool) → length letters ≡ n → q < n
    → IsConjugated n (take q letters ++ replicate (n - q) I) u v → IsConjugated n (single n q (get_or letters q I)).letters v w
    → IsConjugated n (take (q + 1) letters ++ replicate (n - (q + 1)) I) u w
conjugated-next n q letters u v w size lt so next =
    subst (λ l. IsConjugated n l u w)
    (subst (λ k. string_product (take q letters ++ replicate k I) (set (replicate n I) q (get_or letters q I)) ≡ take (suc q) letters ++ replicate (n - (q + 1)) I) {x = suc (n - (q + 1))} (omega (arith, lt))
    (subst (λ k. string_product (take q letters ++ replicate (suc (n - (q + 1))) I) (set (replicate k I) q (get_or letters q I)) ≡ take (suc q) letters ++ replicate (n - (q + 1)) I) size
    (partial-next q (n - (q + 1)) letters (omega (arith, size, lt))))
    ∙ ap (λ k. take k letters ++ replicate (n - (q + 1)) I) {x = suc q} (omega arith))
    (conjugated-over n (take q letters ++ replicate (n - q) I) (set (replicate n I) q (get_or letters q I)) u v w so next)

pub conjugated-none : (n : ℕ) (letters : List Letter) (u : Signed → Bool) → IsConjugated n (take 0 letters ++ replicate (n - 0) I) u u
conjugated-none n letters u = subst (λ k. IsConjugated n (replicate k I) u u) {x = n} (omega arith) (conjugated-blank n u)

-- the letter I on a qubit flips no sign
pub conjugated-still : (n q : ℕ) (l : Letter) (u : Signed → Bool) → q < n → l ≡ I → IsConjugated n (single n q l).letters u u
conjugated-still n q l u lt e =
    subst (λ letters. IsConjugated n letters u u)
    (sym (ap (set (replicate n I) q) (e ∙ sym (get_or-replicate n q I I lt)) ∙ set-get_or (replicate n I) q I))
    (conjugated-blank n u)

pub conjugated-all : (n q : ℕ) (letters : List Letter) (u v : Signed → Bool) → length letters ≡ n → n ≤ q
    → IsConjugated n (take q letters ++ replicate (n - q) I) u v → IsConjugated n letters u v
conjugated-all n q letters u v size le so =
    subst (λ l. IsConjugated n l u v)
    ((λ i. take_all q letters (omega (arith, size, le)) i ++ replicate (none i) I) ∙ append-nil letters) so
  where
    none : n - q ≡ 0
    none = omega (arith, le)
