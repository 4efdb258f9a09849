-- Errors everywhere: the single errors of a table at a step, and at the factors of a product.
use Rattle.stab_error_model.proofs.Names.{◌≡◌, ℕ, ◌+◌, ◌*◌, ◌≤◌, refl, Bool, true, false, List, [], ◌∷◌, ◌++◌, length, arith, Letter, Factor, Step, one, two, controlled, collapse, product, detector, observable, makes, SingleError, in_front, following, single_error_on, single_errors_on, ErrorLetters, Error, each_letter, errors_at, letters_asked, wrong_record, single_error_of_letter, Stands, AddsErrors, HasFrom, IsUnderWay, factor_errors, factor_single_errors, measured_errors, ErrorSite, ErrorValue}
use Rattle.stab_error_model.proofs.ErrorListLemmas.{adds-same, adds-weaker, both-stand, has-first, letters-there, stands-at, under-way-more}

pub long-factors : (t : ℕ) (factors : List Factor) → length (factor_single_errors t factors) ≡ 4 * length factors
long-factors t [] = refl
long-factors t (f ∷ fs) = omega (arith, long-factors t fs)

-- the letters in front of a factor, and the rest
pub factor-more : (ls : List Letter) (Is : List SingleError → Type 0) (all : List Error) (row next t : ℕ) (f : Factor) (fs : List Factor) (p : ErrorSite) (old now new : List ErrorValue)
    → p.row ≡ row → ((l : Letter) → single_error_of_letter p l ≡ single_error_on t (in_front f.qubit) l) → next ≡ row + 4
    → IsUnderWay Is all (factor_errors ls t (f ∷ fs)) row (factor_single_errors t (f ∷ fs)) old now
    → AddsErrors (Stands p) (each_letter ls (single_error_of_letter p)) now new
    → IsUnderWay Is all (factor_errors ls t fs) next (factor_single_errors t fs) old new
factor-more ls Is all row next t f fs p old now new row_is is next_is way adds =
    let mine : List SingleError = single_errors_on t (in_front f.qubit) ++ single_errors_on t (following f.qubit) in
    under-way-more Is all (each_letter ls (single_error_on t (in_front f.qubit))) (factor_errors ls t fs) row next mine (factor_single_errors t fs) old now new next_is way
    (adds-same (HasFrom row mine) (each_letter ls (single_error_of_letter p)) (each_letter ls (single_error_on t (in_front f.qubit))) now new
    (letters-there ls p t (in_front f.qubit) is)
    (adds-weaker (Stands p) (HasFrom row mine) (each_letter ls (single_error_of_letter p)) now new
    (λ single_errors has. stands-at p row t (in_front f.qubit) (single_errors_on t (following f.qubit)) single_errors row_is is has) adds))

-- a step makes one record at most
pub makes-few : (x : Step) → makes x ≤ 1
makes-few (one g q) = omega arith
makes-few (two g a b) = omega arith
makes-few (controlled l k q) = omega arith
makes-few (collapse l q true inverted resets) = omega arith
makes-few (collapse l q false inverted resets) = omega arith
makes-few (product factors inverted) = omega arith
makes-few (detector ks) = omega arith
makes-few (observable j ks) = omega arith

-- the errors at a measurement, in two forms
pub measured-are : (asked : ErrorLetters) (t m q : ℕ) (l : Letter) (inverted resets : Bool)
    → measured_errors (letters_asked asked) l (single_error_on t (in_front q)) (single_error_on t (following q)) resets m ≡ errors_at asked t m (collapse l q true inverted resets)
measured-are asked t m q l inverted true = refl
measured-are asked t m q l inverted false = refl

-- and at its sites
pub measured-at : (ls : List Letter) (p r : ErrorSite) (row t m q : ℕ) (l : Letter) (resets : Bool) (now new : List ErrorValue) → p.row ≡ row → r.row ≡ row + 2
    → ((k : Letter) → single_error_of_letter p k ≡ single_error_on t (in_front q) k) → ((k : Letter) → single_error_of_letter r k ≡ single_error_on t (following q) k)
    → AddsErrors (λ single_errors. Stands p single_errors × Stands r single_errors) (measured_errors ls l (single_error_of_letter p) (single_error_of_letter r) resets m) now new
    → AddsErrors (HasFrom row (single_errors_on t (in_front q) ++ single_errors_on t (following q))) (measured_errors ls l (single_error_on t (in_front q)) (single_error_on t (following q)) resets m) now new
measured-at ls p r row t m q l resets now new p_row r_row p_is r_is adds =
    let both : List SingleError = single_errors_on t (in_front q) ++ single_errors_on t (following q) in
    adds-same (HasFrom row both) (measured_errors ls l (single_error_of_letter p) (single_error_of_letter r) resets m) (measured_errors ls l (single_error_on t (in_front q)) (single_error_on t (following q)) resets m) now new
    (λ i. measured_errors ls l (λ k. p_is k i) (λ k. r_is k i) resets m)
    (adds-weaker (λ single_errors. Stands p single_errors × Stands r single_errors) (HasFrom row both) (measured_errors ls l (single_error_of_letter p) (single_error_of_letter r) resets m) now new
    (both-stand p r row t t (in_front q) (following q) p_row r_row p_is r_is) adds)

-- a record by itself, at the sites of a product's first factor
pub record-at : (p r : ErrorSite) (row t m q : ℕ) (k : Letter) (others : List SingleError) (now new : List ErrorValue) → p.row ≡ row → r.row ≡ row + 2
    → ((l : Letter) → single_error_of_letter p l ≡ single_error_on t (in_front q) l) → ((l : Letter) → single_error_of_letter r l ≡ single_error_on t (following q) l)
    → AddsErrors (λ single_errors. Stands p single_errors × Stands r single_errors) (wrong_record m (single_error_of_letter p k) (single_error_of_letter r k ∷ []) ∷ []) now new
    → AddsErrors (HasFrom row ((single_errors_on t (in_front q) ++ single_errors_on t (following q)) ++ others)) (wrong_record m (single_error_on t (in_front q) k) (single_error_on t (following q) k ∷ []) ∷ []) now new
record-at p r row t m q k others now new p_row r_row p_is r_is adds =
    let both : List SingleError = single_errors_on t (in_front q) ++ single_errors_on t (following q) in
    adds-same (HasFrom row (both ++ others)) (wrong_record m (single_error_of_letter p k) (single_error_of_letter r k ∷ []) ∷ []) (wrong_record m (single_error_on t (in_front q) k) (single_error_on t (following q) k ∷ []) ∷ []) now new
    (λ i. wrong_record m (p_is k i) (r_is k i ∷ []) ∷ [])
    (adds-weaker (λ single_errors. Stands p single_errors × Stands r single_errors) (HasFrom row (both ++ others)) (wrong_record m (single_error_of_letter p k) (single_error_of_letter r k ∷ []) ∷ []) now new
    (λ single_errors has. both-stand p r row t t (in_front q) (following q) p_row r_row p_is r_is single_errors (has-first row both others single_errors has)) adds)
