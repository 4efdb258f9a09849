-- Printed products are read again as what they were printed of.
use Rattle.stab_circuit.proofs.Names.{◌≡◌, ◌<◌, refl, ap, ◌∙◌, ℕ, List, [], ◌∷◌, ◌++◌, Bool, true, false, drop, map, append-nil, arith, codes, if◌then◌else◌, Some, is_some, Ok, Err, slice_split, list_all, decimal, BadTarget, most_qubits, Axis, Factor, ◌>>=◌, each, is_byte, is_digit, is_spacing, starts_with_byte, words, is_some_word, is_number, first_axis, unmarked, is_factor, factor_on, factor_of, names_twice, on_different, product_of, each_after, spaced, mark_text, axis_text, factor_text, product_text}
use Rattle.stab_instructions.specs.declared.axis.Axis.TheVariants as axis
use Rattle.stab_instructions.proofs.BoolLemmas.{chosen, passed, both}
use Rattle.stab_instructions.proofs.LackLemmas.{Each, Lacks, drop_none, each_weaker, lacks-append, digits_lack, split_lacking, split_last}
use Rattle.stab_instructions.proofs.SureLemmas.{IsFactor, IsProduct}
use Rattle.stab_circuit.proofs.ReadBackLemmas.{IsWord, decimal_digits, decimal_number, qubit_again, digit_no, spacing_no, each_again, words_again}

-- a factor: its !, if it has one, its letter and its digits
abbrev marked_text : Bool → Axis → List ℕ → List ℕ
marked_text b a ds = mark_text b ++ (axis_text a ++ ds)

mark_again : (b : Bool) (a : Axis) (ds : List ℕ) → starts_with_byte (marked_text b a ds) 33 ≡ b
mark_again true a ds = refl
mark_again false axis.X ds = refl
mark_again false axis.Y ds = refl
mark_again false axis.Z ds = refl

unmarked_again : (b : Bool) (a : Axis) (ds : List ℕ) → unmarked (marked_text b a ds) ≡ axis_text a ++ ds
unmarked_again true axis.X ds = refl
unmarked_again true axis.Y ds = refl
unmarked_again true axis.Z ds = refl
unmarked_again false axis.X ds = refl
unmarked_again false axis.Y ds = refl
unmarked_again false axis.Z ds = refl

axis_again : (a : Axis) (ds : List ℕ) → first_axis (axis_text a ++ ds) ≡ Some a
axis_again axis.X ds = refl
axis_again axis.Y ds = refl
axis_again axis.Z ds = refl

after_axis : (a : Axis) (ds : List ℕ) → drop 1 (axis_text a ++ ds) ≡ ds
after_axis axis.X ds = drop_none ds
after_axis axis.Y ds = drop_none ds
after_axis axis.Z ds = drop_none ds

digits_after : (b : Bool) (a : Axis) (ds : List ℕ) → drop 1 (unmarked (marked_text b a ds)) ≡ ds
digits_after b a ds = ap (drop 1) (unmarked_again b a ds) ∙ after_axis a ds

letter_after : (b : Bool) (a : Axis) (ds : List ℕ) → first_axis (unmarked (marked_text b a ds)) ≡ Some a
letter_after b a ds = ap first_axis (unmarked_again b a ds) ∙ axis_again a ds

factor_case : (b : Bool) (a : Axis) (q : ℕ) → q < most_qubits → factor_of (marked_text b a (decimal q)) ≡ Ok (record { letter = a; qubit = q; inverted = b })
unfolding factor_of
factor_case b a q small =
    let w = marked_text b a (decimal q) in
    ap (λ m. factor_on m (drop 1 (unmarked w)) (first_axis (unmarked w))) (mark_again b a (decimal q))
    ∙ ap (λ ds. factor_on b ds (first_axis (unmarked w))) (digits_after b a (decimal q))
    ∙ ap (factor_on b (decimal q)) (letter_after b a (decimal q))
    ∙ ap (λ r. r >>= λ x. Ok (record { letter = a; qubit = x; inverted = b })) (qubit_again q small)

factor_again : (f : Factor) → IsFactor f → factor_of (factor_text f) ≡ Ok f
factor_again f small = factor_case f.inverted f.letter f.qubit small

is_factor_again : (f : Factor) → IsFactor f → is_factor (factor_text f) ≡ true
unfolding is_factor
is_factor_again f small =
    let w = factor_text f in
    let ds = decimal f.qubit in
    both (is_some (first_axis (unmarked w))) (is_number (drop 1 (unmarked w))) (ap is_some (letter_after f.inverted f.letter ds))
    (ap is_number (digits_after f.inverted f.letter ds) ∙ decimal_number f.qubit (omega (arith, small)))

all_factors : (fs : List Factor) → Each IsFactor fs → list_all is_factor (map factor_text fs) ≡ true
all_factors [] g = refl
all_factors (f ∷ fs) g = both (is_factor (factor_text f)) (list_all is_factor (map factor_text fs)) (is_factor_again f g.0) (all_factors fs g.1)

-- which bytes a factor has
mark_lacks : (p : ℕ → Bool) → Lacks p (codes "!XYZ") → (b : Bool) → Lacks p (mark_text b)
mark_lacks p m true = (m.0, tt)
mark_lacks p m false = tt

axis_lacks : (p : ℕ → Bool) → Lacks p (codes "!XYZ") → (a : Axis) → Lacks p (axis_text a)
axis_lacks p m axis.X = (m.1.0, tt)
axis_lacks p m axis.Y = (m.1.1.0, tt)
axis_lacks p m axis.Z = (m.1.1.1.0, tt)

factor_lacks : (p : ℕ → Bool) → ((d : ℕ) → is_digit d ≡ true → p d ≡ false) → Lacks p (codes "!XYZ") → (f : Factor) → IsFactor f → Lacks p (factor_text f)
factor_lacks p d m f small =
    lacks-append p (mark_text f.inverted) (axis_text f.letter ++ decimal f.qubit) (mark_lacks p m f.inverted)
    (lacks-append p (axis_text f.letter) (decimal f.qubit) (axis_lacks p m f.letter) (digits_lack p (decimal f.qubit) d (decimal_digits f.qubit (omega (arith, small)))))

more_lack : (p : ℕ → Bool) → ((d : ℕ) → is_digit d ≡ true → p d ≡ false) → Lacks p (codes "!XYZ") → p 42 ≡ false → (fs : List Factor) → Each IsFactor fs → Lacks p (each_after (codes "*") factor_text fs)
more_lack p d m s [] g = tt
more_lack p d m s (f ∷ fs) g = (s, lacks-append p (factor_text f) (each_after (codes "*") factor_text fs) (factor_lacks p d m f g.0) (more_lack p d m s fs g.1))

pub product_lacks : (p : ℕ → Bool) → ((d : ℕ) → is_digit d ≡ true → p d ≡ false) → Lacks p (codes "!XYZ") → p 42 ≡ false → (fs : List Factor) → Each IsFactor fs → Lacks p (product_text fs)
product_lacks p d m s [] g = tt
product_lacks p d m s (f ∷ fs) g = lacks-append p (factor_text f) (each_after (codes "*") factor_text fs) (factor_lacks p d m f g.0) (more_lack p d m s fs g.1)

-- a printed product is cut into its factors
no_star : (f : Factor) → IsFactor f → Lacks (is_byte 42) (factor_text f)
no_star f small = factor_lacks (is_byte 42) (digit_no 42 (omega arith)) (refl, (refl, (refl, (refl, tt)))) f small

cut_again : (f : Factor) (fs : List Factor) → Each IsFactor (f ∷ fs) → slice_split (is_byte 42) (product_text (f ∷ fs)) ≡ map factor_text (f ∷ fs)
cut_again f [] g = ap (slice_split (is_byte 42)) (append-nil (factor_text f)) ∙ split_last (is_byte 42) (factor_text f) (no_star f g.0)
cut_again f (h ∷ fs) g = split_lacking (is_byte 42) (factor_text f) 42 (product_text (h ∷ fs)) (no_star f g.0) refl ∙ ap (λ l. factor_text f ∷ l) (cut_again h fs g.1)

product_again : (fs : List Factor) → IsProduct fs → product_of (product_text fs) ≡ Ok fs
unfolding product_of
product_again [] g = absurd g.2
product_again (f ∷ fs) g =
    ap (λ l. if list_all is_factor l then (each factor_of l >>= on_different) else Err BadTarget) (cut_again f fs g.0)
    ∙ chosen (list_all is_factor (map factor_text (f ∷ fs))) _ _ (all_factors (f ∷ fs) g.0)
    ∙ ap (λ r. r >>= on_different) (each_again factor_of factor_text IsFactor factor_again (f ∷ fs) g.0)
    ∙ passed (names_twice (f ∷ fs)) _ _ g.1

some_front : (b : Bool) (a : Axis) (ds rest : List ℕ) → is_some_word (marked_text b a ds ++ rest) ≡ true
some_front true a ds rest = grind arith
some_front false axis.X ds rest = grind arith
some_front false axis.Y ds rest = grind arith
some_front false axis.Z ds rest = grind arith

pub product_word : (fs : List Factor) → IsProduct fs → IsWord (product_text fs)
product_word [] g = absurd g.2
product_word (f ∷ fs) g = (
  product_lacks is_spacing spacing_no (refl, (refl, (refl, (refl, tt)))) refl (f ∷ fs) g.0,
  some_front f.inverted f.letter (decimal f.qubit) (each_after (codes "*") factor_text fs),
)

-- the words of products are read as the products
pub products_again : (ps : List (List Factor)) → Each IsProduct ps → each product_of (words (spaced product_text ps)) ≡ Ok ps
products_again ps g =
    ap (each product_of) (words_again product_text ps (each_weaker IsProduct (λ fs. IsWord (product_text fs)) ps product_word g))
    ∙ each_again product_of product_text IsProduct product_again ps g
