-- Errors at marks: those at one target, or at two, and then those at the rest.
use Rattle.stab_error_model.proofs.Names.{◌≡◌, ℕ, ◌+◌, ◌*◌, ◌<◌, ◌≤◌, refl, sym, ap, ◌∙◌, subst, List, [], ◌∷◌, ◌++◌, map, drop, get_or, length, arith, All, None, flat_map, drop_more, get_or-map, length-append, length-map, Letter, few_steps, Items, check_of, most_steps, ErrorLetters, SingleError, in_front, single_error_on, single_errors_on, Error, each_letter, each_product, each_target, each_two_targets, instructions, marks_from, single_error_of_letter, Stands, AddsErrors, IsUnderWay, marks_shown, marked_single_errors, target_single_errors, MarksValue, ErrorSite, ErrorValue}
use Rattle.stab_error_model.proofs.ErrorListLemmas.{letters-at, products-at, under-way-more}
use Rattle.stab_error_model.proofs.MarkLemmas.{EndsBy, long-unrolled, marks-end}

-- one target, and the rest
pub target-more : (ls : List Letter) (Is : List SingleError → Type 0) (all : List Error) (row next t then q : ℕ) (qs : List ℕ) (p : ErrorSite) (old now new : List ErrorValue)
    → p.row ≡ row → ((l : Letter) → single_error_of_letter p l ≡ single_error_on t (in_front q) l) → next ≡ row + 2 → then ≡ t + 1
    → IsUnderWay Is all (each_target ls t (q ∷ qs)) row (target_single_errors t (q ∷ qs)) old now
    → AddsErrors (Stands p) (each_letter ls (single_error_of_letter p)) now new
    → IsUnderWay Is all (each_target ls then qs) next (target_single_errors then qs) old new
target-more ls Is all row next t then q qs p old now new row_is is next_is then_is way adds =
    subst (λ u. IsUnderWay Is all (each_target ls u qs) next (target_single_errors u qs) old new) (sym then_is)
    (under-way-more Is all (each_letter ls (single_error_on t (in_front q))) (each_target ls (t + 1) qs) row next (single_errors_on t (in_front q)) (target_single_errors (t + 1) qs) old now new next_is way
    (letters-at ls p row t (in_front q) now new row_is is adds))

-- two, and the rest
pub targets-more : (asked : ErrorLetters) (Is : List SingleError → Type 0) (all : List Error) (row next t then a b : ℕ) (qs : List ℕ) (p r : ErrorSite) (old now new : List ErrorValue)
    → p.row ≡ row → r.row ≡ row + 2 → ((l : Letter) → single_error_of_letter p l ≡ single_error_on t (in_front a) l) → ((l : Letter) → single_error_of_letter r l ≡ single_error_on (t + 1) (in_front b) l)
    → next ≡ row + 4 → then ≡ t + 2
    → IsUnderWay Is all (each_two_targets asked t (a ∷ b ∷ qs)) row (target_single_errors t (a ∷ b ∷ qs)) old now
    → AddsErrors (λ single_errors. Stands p single_errors × Stands r single_errors) (each_product asked (single_error_of_letter p) (single_error_of_letter r)) now new
    → IsUnderWay Is all (each_two_targets asked then qs) next (target_single_errors then qs) old new
targets-more asked Is all row next t then a b qs p r old now new p_row r_row p_is r_is next_is then_is way adds =
    subst (λ u. IsUnderWay Is all (each_two_targets asked u qs) next (target_single_errors u qs) old new) (sym then_is)
    (under-way-more Is all (each_product asked (single_error_on t (in_front a)) (single_error_on (t + 1) (in_front b))) (each_two_targets asked (t + 2) qs) row next
    (single_errors_on t (in_front a) ++ single_errors_on (t + 1) (in_front b)) (target_single_errors (t + 2) qs) old now new next_is
    (subst (λ u. IsUnderWay Is all (each_two_targets asked t (a ∷ b ∷ qs)) row ((single_errors_on t (in_front a) ++ single_errors_on (t + 1) (in_front b)) ++ target_single_errors u qs) old now) two way)
    (products-at asked p r row t (t + 1) (in_front a) (in_front b) now new p_row r_row p_is r_is adds))
  where
    two : (t + 1) + 1 ≡ t + 2
    two = omega arith

-- marks that are walked over

-- the first that is left, and the rest
pub marks-split : (all : List MarksValue) (k : ℕ) (m : MarksValue) → k < length all → m ≡ get_or all k m → map marks_shown (drop k all) ≡ marks_shown m ∷ map marks_shown (drop (k + 1) all)
marks-split all k m lt is = ap (map marks_shown) (drop_more all k m lt ∙ ap (λ y. y ∷ drop (k + 1) all) (sym is))

pub long-targets : (t : ℕ) (qubits : List ℕ) → length (target_single_errors t qubits) ≡ 2 * length qubits
long-targets t [] = refl
long-targets t (q ∷ qs) = omega (arith, long-targets (t + 1) qs)

pub rows-split : (all : List MarksValue) (k : ℕ) (m : MarksValue) → k < length all → m ≡ get_or all k m
    → length (flat_map marked_single_errors (map marks_shown (drop k all))) ≡ 2 * length m.qubits.now + length (flat_map marked_single_errors (map marks_shown (drop (k + 1) all)))
rows-split all k m lt is =
    ap (λ ms. length (flat_map marked_single_errors ms)) (marks-split all k m lt is)
    ∙ length-append (target_single_errors m.step m.qubits.now) (flat_map marked_single_errors (map marks_shown (drop (k + 1) all)))
    ∙ ap (λ n. n + length (flat_map marked_single_errors (map marks_shown (drop (k + 1) all)))) (long-targets m.step m.qubits.now)

-- they are at steps of a circuit that was checked
pub marks-few : (items : Items) (all : List MarksValue) (k : ℕ) (m : MarksValue) → check_of items ≡ None → map marks_shown all ≡ marks_from 0 (instructions items) → k < length all → m ≡ get_or all k m
    → m.step + length m.qubits.now ≤ most_steps
marks-few items all k m checked shown lt is =
    let end : All (EndsBy most_steps) (map marks_shown all) =
    subst (All (EndsBy most_steps)) (sym shown) (marks-end 0 most_steps (instructions items) (omega (arith, few_steps items checked, long-unrolled items))) in
    subst (EndsBy most_steps) (get_or-map marks_shown all k m (marks_shown m) lt ∙ ap marks_shown (sym is)) (end k (marks_shown m) (omega (arith, lt, length-map all marks_shown)))
