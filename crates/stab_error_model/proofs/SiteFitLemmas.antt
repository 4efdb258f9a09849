-- Errors of a circuit: each fits it, those everywhere and those that it marks.
use Rattle.stab_error_model.proofs.Names.{◌≡◌, ℕ, ◌+◌, ◌≤◌, ◌<◌, subst, Bool, true, false, List, [], ◌∷◌, ◌++◌, length, arith, All, bytes_eq, codes, if◌then◌else◌, flat_map, get_or_default, All-nil, All-cons, All-head, All-tail, All-append, All-map, Letter, I, X, Y, Z, Factor, letter_of, Items, Step, one, two, controlled, collapse, product, detector, observable, unroll, makes, StepFits, flip_of, ErrorLetters, SingleError, Site, in_front, following, single_error_on, single_errors_on, single_errors_of, SingleErrorFits, single_error-fits, Error, Marks, letter, wrong_record, letters_asked, pairs_asked, each_letter, product_at, each_product, wrong_product, errors_at, errors_from, instructions, marks_from, letters_left, each_target, each_two_targets, errors_marked, errors_of, target_single_errors, marked_single_errors}
use Rattle.stab_error_model.proofs.FitLemmas.{Fits}
use Rattle.stab_error_model.proofs.MarkLemmas.{marked-all}

-- the front of a list and the rest

all-front : {A : Type 0} (P : A → Type 0) (xs ys : List A) → All P (xs ++ ys) → All P xs
all-front P [] ys all = All-nil P
all-front P (x ∷ xs) ys all = All-cons P x xs (All-head P x (xs ++ ys) all) (all-front P xs ys (All-tail P x (xs ++ ys) all))

all-rest : {A : Type 0} (P : A → Type 0) (xs ys : List A) → All P (xs ++ ys) → All P ys
all-rest P [] ys all = all
all-rest P (x ∷ xs) ys all = all-rest P xs ys (All-tail P x (xs ++ ys) all)

module _ (n : ℕ) (items : Items) where
  abbrev Fit : SingleError → Type 0
  Fit = SingleErrorFits n (unroll items)

  abbrev Is : Error → Type 0
  Is = Fits n items

  -- one letter, and two

  one-fits : (f : SingleError) → Fit f → All Fit (f ∷ [])
  one-fits f fit = All-cons Fit f [] fit (All-nil Fit)

  two-fit : (f g : SingleError) → Fit f → Fit g → All Fit (f ∷ g ∷ [])
  two-fit f g first second = All-cons Fit f (g ∷ []) first (one-fits g second)

  -- letters at a site, and products at two

  letters-fit : (ls : List Letter) (at : Letter → SingleError) → ((l : Letter) → Fit (at l)) → All Is (each_letter ls at)
  letters-fit ls at fit = All-map Is (λ l. letter (at l)) ls (λ k l less. one-fits _ (fit _))

  product-fits : (first second : Letter → SingleError) → ((l : Letter) → Fit (first l)) → ((l : Letter) → Fit (second l)) → (l m : Letter) → Is (product_at first second l m)
  product-fits first second a b I m = one-fits (second m) (b m)
  product-fits first second a b X I = one-fits (first X) (a X)
  product-fits first second a b X X = two-fit (first X) (second X) (a X) (b X)
  product-fits first second a b X Y = two-fit (first X) (second Y) (a X) (b Y)
  product-fits first second a b X Z = two-fit (first X) (second Z) (a X) (b Z)
  product-fits first second a b Y I = one-fits (first Y) (a Y)
  product-fits first second a b Y X = two-fit (first Y) (second X) (a Y) (b X)
  product-fits first second a b Y Y = two-fit (first Y) (second Y) (a Y) (b Y)
  product-fits first second a b Y Z = two-fit (first Y) (second Z) (a Y) (b Z)
  product-fits first second a b Z I = one-fits (first Z) (a Z)
  product-fits first second a b Z X = two-fit (first Z) (second X) (a Z) (b X)
  product-fits first second a b Z Y = two-fit (first Z) (second Y) (a Z) (b Y)
  product-fits first second a b Z Z = two-fit (first Z) (second Z) (a Z) (b Z)

  products-fit : (asked : ErrorLetters) (first second : Letter → SingleError) → ((l : Letter) → Fit (first l)) → ((l : Letter) → Fit (second l)) → All Is (each_product asked first second)
  products-fit asked first second a b = All-map Is (λ p. product_at first second p.0 p.1) (pairs_asked asked) (λ k p less. product-fits first second a b _ _)

  -- everywhere

  module _ (t m : ℕ) (lt : t < length (unroll items)) where
    front-fits : (q : ℕ) → q < n → (l : Letter) → Fit (single_error_on t (in_front q) l)
    front-fits q less l = record { qubit = less; before = omega (arith, lt) }

    following-fits : (q : ℕ) → q < n → (l : Letter) → Fit (single_error_on t (following q) l)
    following-fits q less l = record { qubit = less; before = omega (arith, lt) }

    factors-fit : (ls : List Letter) (factors : List Factor) → All (λ f. f.qubit < n) factors → All Is (flat_map (λ f. each_letter ls (single_error_on t (in_front f.qubit))) factors)
    factors-fit ls [] fit = All-nil Is
    factors-fit ls (f ∷ fs) fit =
        All-append Is (each_letter ls (single_error_on t (in_front f.qubit))) (flat_map (λ g. each_letter ls (single_error_on t (in_front g.qubit))) fs)
        (letters-fit ls (single_error_on t (in_front f.qubit)) (front-fits f.qubit (All-head (λ g. g.qubit < n) f fs fit)))
        (factors-fit ls fs (All-tail (λ g. g.qubit < n) f fs fit))

    product-record-fits : (factors : List Factor) → All (λ f. f.qubit < n) factors → All Is (wrong_product t m factors)
    product-record-fits [] fit = All-nil Is
    product-record-fits (f ∷ fs) fit =
        let less = All-head (λ g. g.qubit < n) f fs fit in
        let l = flip_of (letter_of f.letter) in
        All-cons Is (wrong_record m (single_error_on t (in_front f.qubit) l) (single_error_on t (following f.qubit) l ∷ [])) []
        (two-fit (single_error_on t (in_front f.qubit) l) (single_error_on t (following f.qubit) l) (front-fits f.qubit less l) (following-fits f.qubit less l)) (All-nil Is)

    step-fits : (asked : ErrorLetters) (x : Step) → StepFits n x → All Is (errors_at asked t m x)
    step-fits asked (one g q) less = letters-fit (letters_asked asked) (single_error_on t (following q)) (following-fits q less)
    step-fits asked (two g a b) less = products-fit asked (single_error_on t (following a)) (single_error_on t (following b)) (following-fits a less.0) (following-fits b less.1)
    step-fits asked (controlled l k q) less = letters-fit (letters_asked asked) (single_error_on t (following q)) (following-fits q less)
    step-fits asked (collapse l q false inverted resets) less = letters-fit (letters_asked asked) (single_error_on t (following q)) (following-fits q less)
    step-fits asked (collapse l q true inverted true) less =
        let ls = letters_asked asked in
        let wrong : Error = wrong_record m (single_error_on t (in_front q) (flip_of l)) [] in
        All-append Is (each_letter ls (single_error_on t (in_front q))) (wrong ∷ each_letter ls (single_error_on t (following q))) (letters-fit ls (single_error_on t (in_front q)) (front-fits q less))
        (All-cons Is wrong (each_letter ls (single_error_on t (following q))) (one-fits (single_error_on t (in_front q) (flip_of l)) (front-fits q less (flip_of l)))
        (letters-fit ls (single_error_on t (following q)) (following-fits q less)))
    step-fits asked (collapse l q true inverted false) less =
        let ls = letters_asked asked in
        let wrong : Error = wrong_record m (single_error_on t (in_front q) (flip_of l)) (single_error_on t (following q) (flip_of l) ∷ []) in
        All-append Is (each_letter ls (single_error_on t (in_front q))) (wrong ∷ []) (letters-fit ls (single_error_on t (in_front q)) (front-fits q less))
        (All-cons Is wrong []
        (two-fit (single_error_on t (in_front q) (flip_of l)) (single_error_on t (following q) (flip_of l)) (front-fits q less (flip_of l)) (following-fits q less (flip_of l))) (All-nil Is))
    step-fits asked (product factors inverted) less =
        All-append Is (flat_map (λ f. each_letter (letters_asked asked) (single_error_on t (in_front f.qubit))) factors) (wrong_product t m factors)
        (factors-fit (letters_asked asked) factors less) (product-record-fits factors less)
    step-fits asked (detector ks) less = All-nil Is
    step-fits asked (observable j ks) less = All-nil Is

  steps-fit : (asked : ErrorLetters) (t m : ℕ) (xs : List Step) → t + length xs ≤ length (unroll items) → All (StepFits n) xs → All Is (errors_from asked t m xs)
  steps-fit asked t m [] le fits = All-nil Is
  steps-fit asked t m (x ∷ xs) le fits =
      All-append Is (errors_at asked t m x) (errors_from asked (t + 1) (m + makes x) xs) (step-fits t m (omega (arith, le)) asked x (All-head (StepFits n) x xs fits))
      (steps-fit asked (t + 1) (m + makes x) xs (omega (arith, le)) (All-tail (StepFits n) x xs fits))

  -- marked

  site-fits : (t : ℕ) (s : Site) (rest : List SingleError) → All Fit (single_errors_on t s ++ rest) → (l : Letter) → Fit (single_error_on t s l)
  site-fits t s rest fit l = let x = All-head Fit (single_error_on t s X) (single_error_on t s Z ∷ rest) fit in record { qubit = x.qubit; before = x.before }

  targets-fit : (ls : List Letter) (t : ℕ) (qubits : List ℕ) → All Fit (target_single_errors t qubits) → All Is (each_target ls t qubits)
  targets-fit ls t [] fit = All-nil Is
  targets-fit ls t (q ∷ qs) fit =
      All-append Is (each_letter ls (single_error_on t (in_front q))) (each_target ls (t + 1) qs) (letters-fit ls (single_error_on t (in_front q)) (site-fits t (in_front q) (target_single_errors (t + 1) qs) fit))
      (targets-fit ls (t + 1) qs (all-rest Fit (single_errors_on t (in_front q)) (target_single_errors (t + 1) qs) fit))

  pairs-fit : (asked : ErrorLetters) (t : ℕ) (qubits : List ℕ) → All Fit (target_single_errors t qubits) → All Is (each_two_targets asked t qubits)
  pairs-fit asked t [] fit = All-nil Is
  pairs-fit asked t (q ∷ []) fit = letters-fit (letters_asked asked) (single_error_on t (in_front q)) (site-fits t (in_front q) [] fit)
  pairs-fit asked t (a ∷ b ∷ qs) fit =
      let later = all-rest Fit (single_errors_on t (in_front a)) (target_single_errors (t + 1) (b ∷ qs)) fit in
      let two : (t + 1) + 1 ≡ t + 2 = omega arith in
      let rest = all-rest Fit (single_errors_on (t + 1) (in_front b)) (target_single_errors ((t + 1) + 1) qs) later in
      All-append Is (each_product asked (single_error_on t (in_front a)) (single_error_on (t + 1) (in_front b))) (each_two_targets asked (t + 2) qs)
      (products-fit asked (single_error_on t (in_front a)) (single_error_on (t + 1) (in_front b)) (site-fits t (in_front a) (target_single_errors (t + 1) (b ∷ qs)) fit)
      (site-fits (t + 1) (in_front b) (target_single_errors ((t + 1) + 1) qs) later))
      (pairs-fit asked (t + 2) qs (subst (λ u. All Fit (target_single_errors u qs)) two rest))

  marked-fit : (asked : ErrorLetters) (m : Marks) → All Fit (marked_single_errors m) → All Is (errors_marked asked m)
  marked-fit asked m fit = by_tag (bytes_eq m.tag (codes "pairs"))
    where
      by_tag : (b : Bool) → All Is (if b then each_two_targets asked m.step m.qubits else each_target (letters_left asked m.tag) m.step m.qubits)
      by_tag true = pairs-fit asked m.step m.qubits fit
      by_tag false = targets-fit (letters_left asked m.tag) m.step m.qubits fit

  all-marked-fit : (asked : ErrorLetters) (ms : List Marks) → All Fit (flat_map marked_single_errors ms) → All Is (flat_map (errors_marked asked) ms)
  all-marked-fit asked [] fit = All-nil Is
  all-marked-fit asked (m ∷ ms) fit =
      All-append Is (errors_marked asked m) (flat_map (errors_marked asked) ms) (marked-fit asked m (all-front Fit (marked_single_errors m) (flat_map marked_single_errors ms) fit))
      (all-marked-fit asked ms (all-rest Fit (marked_single_errors m) (flat_map marked_single_errors ms) fit))

  -- all

  single_errors-fit : (everywhere : Bool) → All (StepFits n) (unroll items) → All Fit (single_errors_of everywhere (unroll items))
  single_errors-fit everywhere fits k d less =
      subst Fit (get_or_default (single_errors_of everywhere (unroll items)) k (single_error_on 0 (in_front 0) X) d less) (single_error-fits n everywhere (unroll items) k fits less)

  pub errors-fit : (everywhere : Bool) (asked : ErrorLetters) → All (StepFits n) (unroll items) → All Is (errors_of everywhere asked items)
  errors-fit true asked fits = steps-fit asked 0 0 (unroll items) (omega arith) fits
  errors-fit false asked fits = all-marked-fit asked (marks_from 0 (instructions items)) (subst (All Fit) (marked-all items) (single_errors-fit false fits))
