-- Tableaus conjugated by a frame.
use Rattle.stab_frames.proofs.Names.{◌≡◌, ℕ, refl, sym, ◌∙◌, ap, Bool, List, [], ◌∷◌, length, arith, Letter, ◌⊕◌, letters_anticommute, with_sign, strings_anticommute, each_letter, member, TableauState, stabilises, InverseRows, letter_anticommuting, SameLetters, sign_frame, IsConjugated, SameGroup, frame-stabilises, Point, propagated_rows, propagated_tableau, Frame, PointsDifferBy}
use Rattle.stab_gates.specs.declared.letter.Letter.TheVariants as letter

-- conjugated rows

conjugated-letters : (f : List Letter) (rows : List InverseRows) → SameLetters rows (propagated_rows f rows)
conjugated-letters [] [] = tt
conjugated-letters [] (r ∷ rows) = (refl, refl, conjugated-letters [] rows)
conjugated-letters (l ∷ f) [] = tt
conjugated-letters (l ∷ f) (r ∷ rows) = (refl, refl, conjugated-letters f rows)

letter-back : (l : Letter) (a b : Bool) → letter_anticommuting (a ⊕ (letters_anticommute l letter.X ⊕ a)) (b ⊕ (letters_anticommute l letter.Z ⊕ b)) ≡ l
letter-back l a b = (λ i. letter_anticommuting (cancels a (letters_anticommute l letter.X) i) (cancels b (letters_anticommute l letter.Z) i)) ∙ determined l
  where
    cancels : (x y : Bool) → x ⊕ (y ⊕ x) ≡ y
    cancels x y = grind arith

    determined : (l : Letter) → letter_anticommuting (letters_anticommute l letter.X) (letters_anticommute l letter.Z) ≡ l
    determined = each_letter (λ l. letter_anticommuting (letters_anticommute l letter.X) (letters_anticommute l letter.Z) ≡ l) refl refl refl refl

conjugated-frame : (f : List Letter) (rows : List InverseRows) → length f ≡ length rows → sign_frame rows (propagated_rows f rows) ≡ f
conjugated-frame [] [] e = refl
conjugated-frame [] (r ∷ rows) e = absurd (omega arith)
conjugated-frame (l ∷ f) [] e = absurd (omega arith)
conjugated-frame (l ∷ f) (r ∷ rows) e = λ i. letter-back l r.x.negative r.z.negative i ∷ conjugated-frame f rows (omega arith) i

-- a conjugated tableau has the conjugated group
pub conjugated-stabilises : (n : ℕ) (f : List Letter) (t : TableauState) → length f ≡ length t.rows → IsConjugated n f (stabilises t) (stabilises (propagated_tableau f t))
conjugated-stabilises n f t e p l =
    frame-stabilises t.qubits t.rows (propagated_rows f t.rows) (conjugated-letters f t.rows) p
    ∙ ap (λ s. stabilises t (with_sign (strings_anticommute s p.letters) p)) (conjugated-frame f t.rows e)

-- so a tableau that has the group at one point has, conjugated, the group at the other
pub conjugated-group : (n : ℕ) (f : Frame) (a b : Point) → PointsDifferBy n f a b → (t : TableauState) → length t.rows ≡ n
    → SameGroup n (stabilises t) (member a.trace) → SameGroup n (stabilises (propagated_tableau f.letters t)) (member b.trace)
conjugated-group n f a b by_frame t rows same p l =
    conjugated-stabilises n f.letters t (by_frame.size ∙ sym rows) p l
    ∙ same (with_sign (strings_anticommute f.letters p.letters) p) l
    ∙ sym (by_frame.group p l)
