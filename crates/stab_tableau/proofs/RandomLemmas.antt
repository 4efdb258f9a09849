-- Neither sign of a string is a member of a sound trace if and only if some member anticommutes with the string.
use Rattle.stab_tableau.proofs.Names.{◌≡◌, ℕ, suc, refl, sym, ◌∙◌, ap, arith, Bool, true, false, not, ◌&&◌, ◌||◌, List, [], ◌∷◌, length, replicate, length-replicate, Letter, I, X, Y, Z, ◌⊕◌, Signed, identity, minus, with_sign, anticommute, strings_anticommute, product, strings_anticommute-self, strings_anticommute-blank_right, product-self, product-minus_right, anticommute-product, anticommute-comm, length-product, inverse, image, image_pair, back, back_pair, Event, applied, applied_pair, projected, diagonal, member, is_random, Fits, IsSound, IsStabiliserGroup, AnticommutesWithMember}
use Rattle.stab_tableau.proofs.DiagonalLemmas.{diagonal-blank}
use Rattle.stab_tableau.proofs.SymmetryLemmas.{IsSymmetry-image, IsSymmetry-pair, back-image, pair-undone}
use Rattle.stab_tableau.proofs.GroupLemmas.{anticommute-product_right}
use Rattle.stab_tableau.proofs.TraceLemmas.{group-member}
use Rattle.stab_tableau.proofs.TestLemmas.{test_left, test_right, not_both}

-- if some letter is X or Y, a single letter Z anticommutes
anticommuting_letters : (p : List Letter) → diagonal p ≡ false → (r : List Letter) × (length r ≡ length p) × (diagonal r ≡ true) × (strings_anticommute p r ≡ true)
anticommuting_letters [] e = absurd (not_both true e refl)
anticommuting_letters (I ∷ p) e = let h = anticommuting_letters p e in (I ∷ h.0, ap suc h.1, h.2, h.3)
anticommuting_letters (Z ∷ p) e = let h = anticommuting_letters p e in (I ∷ h.0, ap suc h.1, h.2, h.3)
anticommuting_letters (X ∷ p) e =
    (Z ∷ replicate (length p) I, ap suc (length-replicate (length p) I), diagonal-blank (length p), ap (λ t. true ⊕ t) (strings_anticommute-blank_right (length p) p))
anticommuting_letters (Y ∷ p) e =
    (Z ∷ replicate (length p) I, ap suc (length-replicate (length p) I), diagonal-blank (length p), ap (λ t. true ⊕ t) (strings_anticommute-blank_right (length p) p))

-- tests and parities

not_diagonal : (x d : Bool) → (not x && d) ≡ false → (not (not x) && d) ≡ false → d ≡ false
not_diagonal x d e f = grind arith

left_out : (a m k : Bool) → (not a && (m || k)) ≡ false → a ≡ false → (m ≡ false) × (k ≡ false)
left_out a m k e f = grind arith

both_odd : (a b x : Bool) → x ≡ a ⊕ b → a ≡ true → b ≡ true → x ≡ false
both_odd a b x e f g = grind arith

first_odd : (a b x : Bool) → x ≡ a ⊕ b → a ≡ true → b ≡ false → x ≡ true
first_odd a b x e f g = grind arith

other_of_odd : (a b x : Bool) → x ≡ true → x ≡ a ⊕ b → a ≡ true → b ≡ false
other_of_odd a b x e f g = grind arith

other_of_even : (a b x : Bool) → x ≡ true → x ≡ a ⊕ b → a ≡ false → b ≡ true
other_of_even a b x e f g = grind arith

-- if neither sign is a member, some member anticommutes
pub anticommuting-member : (n : ℕ) (t : List Event) → Fits n t → IsSound t → (p : Signed) → length p.letters ≡ n → member t p ≡ false → member t (minus p) ≡ false → AnticommutesWithMember n t p
anticommuting-member n [] f s p l a b =
    let h = anticommuting_letters p.letters (not_diagonal p.negative (diagonal p.letters) a b) in
    (record { negative = false; letters = h.0 }, h.1 ∙ l, h.2, h.3)
anticommuting-member n (applied g i ∷ t) f s p l a b =
    let backwards = IsSymmetry-image n (inverse g) i in
    let forwards = IsSymmetry-image n g i in
    let h = anticommuting-member n t f.1 s (back g i p) (backwards.keeps_length p l) a (ap (member t) (sym (backwards.keeps_minus p)) ∙ b) in
    let long : length (image g i h.0).letters ≡ n = forwards.keeps_length h.0 h.1 in
    let undone : back g i (image g i h.0) ≡ h.0 = back-image g i h.0 in
    (image g i h.0, long, ap (member t) undone ∙ h.2, sym (backwards.keeps_parity p (image g i h.0) l long) ∙ ap (λ r. anticommute (back g i p) r) undone ∙ h.3)
anticommuting-member n (applied_pair g x y ∷ t) f s p l a b =
    let symmetry = IsSymmetry-pair n g x y f.0.0 f.0.1 f.0.2 in
    let h = anticommuting-member n t f.1 s (back_pair g x y p) (symmetry.keeps_length p l) a (ap (member t) (sym (symmetry.keeps_minus p)) ∙ b) in
    let long : length (image_pair g x y h.0).letters ≡ n = symmetry.keeps_length h.0 h.1 in
    let undone : back_pair g x y (image_pair g x y h.0) ≡ h.0 = pair-undone g x y h.0 (omega (arith, h.1, f.0.0)) (omega (arith, h.1, f.0.1)) f.0.2 in
    (image_pair g x y h.0, long, ap (member t) undone ∙ h.2, sym (symmetry.keeps_parity p (image_pair g x y h.0) l long) ∙ ap (λ r. anticommute (back_pair g x y p) r) undone ∙ h.3)
anticommuting-member n (projected q b ∷ t) f s p l a c = by_parity (λ r e x y. anticommuting-member n t f.1 s.1 r e x y) (anticommute q p) refl
  where
    w : Signed
    w = with_sign b q

    g : IsStabiliserGroup n (member t)
    g = group-member n t f.1 s.1

    After : Type 0
    After = AnticommutesWithMember n (projected q b ∷ t) p

    -- a member before that commutes with q is a member after
    keep : (r : Signed) → length r.letters ≡ n → member t r ≡ true → anticommute q r ≡ false → anticommute p r ≡ true → After
    keep r e m qr pr = (r, e, test_left (anticommute q r) (member t r) (member t (product w r)) qr m, pr)

    Before : Type 0
    Before = (r : Signed) → length r.letters ≡ n → member t r ≡ false → member t (minus r) ≡ false → AnticommutesWithMember n t r

    -- members h and k before the projection, one against p and one against q p: one of them or their product commutes with q
    one_commutes : (h : AnticommutesWithMember n t p) (k : AnticommutesWithMember n t (product w p)) (x : Bool) → anticommute q h.0 ≡ x → (y : Bool) → anticommute q k.0 ≡ y → After
    one_commutes h k false qh y qk = keep h.0 h.1 h.2 qh h.3
    one_commutes h k true qh false qk = keep k.0 k.1 k.2 qk (other_of_even (anticommute w k.0) (anticommute p k.0) _ k.3 (anticommute-product w p k.0) qk)
    one_commutes h k true qh true qk =
        keep (product h.0 k.0) (length-product n h.0 k.0 h.1 k.1) (g.closed h.0 k.0 h.1 k.1 h.2 k.2)
        (both_odd (anticommute q h.0) (anticommute q k.0) _ (anticommute-product_right q h.0 k.0) qh qk)
        (first_odd (anticommute p h.0) (anticommute p k.0) _ (anticommute-product_right p h.0 k.0) h.3 (other_of_odd (anticommute w k.0) (anticommute p k.0) _ k.3 (anticommute-product w p k.0) qk))

    by_parity : Before → (x : Bool) → anticommute q p ≡ x → After
    by_parity before true e = (
      w,
      f.0,
      test_right (anticommute q w) (member t w) (member t (product w w)) (strings_anticommute-self q.letters) (ap (member t) (product-self w ∙ ap identity f.0) ∙ g.has_identity),
      anticommute-comm p q ∙ e,
    )
    by_parity before false e =
        let plus = left_out (anticommute q p) (member t p) (member t (product w p)) a e in
        let neg = left_out (anticommute q p) (member t (minus p)) (member t (product w (minus p))) c e in
        let h = before p l plus.0 neg.0 in
        let k = before (product w p) (length-product n w p f.0 l) plus.1 (ap (member t) (sym (product-minus_right w p e)) ∙ neg.1) in
        one_commutes h k (anticommute q h.0) refl (anticommute q k.0) refl

-- if some member anticommutes, the string is no member
pub not_member-anticommuting : (n : ℕ) (t : List Event) → Fits n t → IsSound t → (p : Signed) → length p.letters ≡ n → AnticommutesWithMember n t p → member t p ≡ false
not_member-anticommuting n t f s p l h = out (member t p) refl
  where
    out : (b : Bool) → member t p ≡ b → b ≡ false
    out false e = refl
    out true e = absurd (not_both _ ((group-member n t f s).commuting p h.0 l h.1 e h.2) h.3)

random_parts : (x y : Bool) → (not x && not y) ≡ true → (x ≡ false) × (y ≡ false)
random_parts x y e = grind arith

-- neither sign is a member, from some member that anticommutes
pub is_random-anticommuting : (n : ℕ) (t : List Event) → Fits n t → IsSound t → (p : Signed) → length p.letters ≡ n → AnticommutesWithMember n t p → is_random t p ≡ true
is_random-anticommuting n t f s p l h = λ i. not (not_member-anticommuting n t f s p l h i) && not (not_member-anticommuting n t f s (minus p) l h i)

-- some member that anticommutes if neither sign is a member
pub anticommuting-member_of_random : (n : ℕ) (t : List Event) → Fits n t → IsSound t → (p : Signed) → length p.letters ≡ n → is_random t p ≡ true → AnticommutesWithMember n t p
anticommuting-member_of_random n t f s p l e =
    let h = random_parts (member t p) (member t (minus p)) e in
    anticommuting-member n t f s p l h.0 h.1
