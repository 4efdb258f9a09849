-- Adding errors: errors put after others, one after another, and where their rows are in a list of single errors.
use Rattle.stab_error_model.proofs.Names.{◌≡◌, ℕ, ◌+◌, refl, sym, ap, ◌∙◌, subst, List, [], ◌∷◌, ◌++◌, append_assoc, append-nil, map, take, drop, get_or, length, ◌<◌, All, None, IfSome, map-append, drop-drop, take_more, drop-append_seam, All-append, All-cons, All-nil, Letter, ErrorLetters, Site, SingleError, single_error_on, single_errors_on, Error, each_letter, each_product, single_error_of_letter, error_shown, Stands, ErrorStands, AddsErrors, HasFrom, IsUnderWay, ErrorSite, PlacedLetter, ErrorValue}
use Rattle.std.specs.Prelude.{Option, Some}
use Rattle.stab_gates.specs.declared.letter.Letter.TheVariants as letter
use Rattle.stab_error_model.specs.declared.placed.Error.TheVariants as error

pub adds-none : (Is : List SingleError → Type 0) (old : List ErrorValue) → AddsErrors Is [] old old
adds-none Is old = record { errors = sym (append-nil (map error_shown old)); stand = λ single_errors is before. before }

pub adds-one : (Is : List SingleError → Type 0) (e : ErrorValue) (old new : List ErrorValue) → new ≡ old ++ e ∷ []
    → ((single_errors : List SingleError) → Is single_errors → ErrorStands single_errors e) → AddsErrors Is (error_shown e ∷ []) old new
adds-one Is e old new pushed stands = record {
  errors = ap (map error_shown) pushed ∙ map-append error_shown old (e ∷ []);
  stand = λ single_errors is before.
      subst (All (ErrorStands single_errors)) (sym pushed)
      (All-append (ErrorStands single_errors) old (e ∷ []) before (All-cons (ErrorStands single_errors) e [] (stands single_errors is) (All-nil (ErrorStands single_errors))));
}

pub adds-more : (Is : List SingleError → Type 0) (first second : List Error) (a b c : List ErrorValue) → AddsErrors Is first a b → AddsErrors Is second b c → AddsErrors Is (first ++ second) a c
adds-more Is first second a b c one two = record {
  errors = two.errors ∙ ap (λ es. es ++ second) one.errors ∙ append_assoc (map error_shown a) first second;
  stand = λ single_errors is before. two.stand single_errors is (one.stand single_errors is before);
}

pub adds-weaker : (Is Has : List SingleError → Type 0) (given : List Error) (a b : List ErrorValue) → ((single_errors : List SingleError) → Has single_errors → Is single_errors) → AddsErrors Is given a b → AddsErrors Has given a b
adds-weaker Is Has given a b weaker adds = record { errors = adds.errors; stand = λ single_errors has before. adds.stand single_errors (weaker single_errors has) before }

pub adds-same : (Is : List SingleError → Type 0) (first second : List Error) (a b : List ErrorValue) → first ≡ second → AddsErrors Is first a b → AddsErrors Is second a b
adds-same Is first second a b e adds = subst (λ given. AddsErrors Is given a b) e adds

-- a list of single errors has these from a row on, and others after them

pub has-first : (row : ℕ) (mine others single_errors : List SingleError) → HasFrom row (mine ++ others) single_errors → HasFrom row mine single_errors
has-first row mine others single_errors has = (others ++ has.0, has.1 ∙ append_assoc mine others has.0)

pub has-next : (row : ℕ) (mine others single_errors : List SingleError) → HasFrom row (mine ++ others) single_errors → HasFrom (row + length mine) others single_errors
has-next row mine others single_errors has =
    (has.0, sym (drop-drop (length mine) row single_errors) ∙ ap (drop (length mine)) (has.1 ∙ append_assoc mine others has.0) ∙ drop-append_seam mine (others ++ has.0))

pub stands-first : (p : ErrorSite) (others single_errors : List SingleError) → HasFrom p.row (single_error_of_letter p letter.X ∷ single_error_of_letter p letter.Z ∷ others) single_errors → Stands p single_errors
stands-first p others single_errors has = (others ++ has.0, has.1)

-- where sites are

pub stands-at : (p : ErrorSite) (row t : ℕ) (s : Site) (others single_errors : List SingleError) → p.row ≡ row → ((l : Letter) → single_error_of_letter p l ≡ single_error_on t s l)
    → HasFrom row (single_errors_on t s ++ others) single_errors → Stands p single_errors
stands-at p row t s others single_errors row_is is has =
    stands-first p others single_errors
    (subst (λ r. HasFrom r (single_error_of_letter p letter.X ∷ single_error_of_letter p letter.Z ∷ others) single_errors) (sym row_is)
    (subst (λ (fs : List SingleError). HasFrom row fs single_errors) (λ i. sym (is letter.X) i ∷ sym (is letter.Z) i ∷ others) has))

pub letters-there : (ls : List Letter) (p : ErrorSite) (t : ℕ) (s : Site) → ((l : Letter) → single_error_of_letter p l ≡ single_error_on t s l) → each_letter ls (single_error_of_letter p) ≡ each_letter ls (single_error_on t s)
letters-there ls p t s is = (λ i. each_letter ls (λ l. is l i))

pub products-there : (asked : ErrorLetters) (p q : ErrorSite) (t u : ℕ) (s r : Site) → ((l : Letter) → single_error_of_letter p l ≡ single_error_on t s l) → ((l : Letter) → single_error_of_letter q l ≡ single_error_on u r l)
    → each_product asked (single_error_of_letter p) (single_error_of_letter q) ≡ each_product asked (single_error_on t s) (single_error_on u r)
products-there asked p q t u s r first second = (λ i. each_product asked (λ l. first l i) (λ l. second l i))

-- errors that are under way

pub under-way-none : (row : ℕ) (all : List Error) (single_errors_all : List SingleError) (old : List ErrorValue) → IsUnderWay (HasFrom row single_errors_all) all all row single_errors_all old old
under-way-none row all single_errors_all old = record { given = []; adds = adds-none (HasFrom row single_errors_all) old; parts = refl; has = λ single_errors has. has }

pub under-way-more : (Is : List SingleError → Type 0) (all here rest : List Error) (row next : ℕ) (mine others : List SingleError) (old now new : List ErrorValue) → next ≡ row + length mine
    → IsUnderWay Is all (here ++ rest) row (mine ++ others) old now → AddsErrors (HasFrom row mine) here now new → IsUnderWay Is all rest next others old new
under-way-more Is all here rest row next mine others old now new next_is way adds = record {
  given = way.given ++ here;
  adds = adds-more Is way.given here old now new way.adds (adds-weaker (HasFrom row mine) Is here now new (λ single_errors is. has-first row mine others single_errors (way.has single_errors is)) adds);
  parts = way.parts ∙ sym (append_assoc way.given here rest);
  has = λ single_errors is. subst (λ r. HasFrom r others single_errors) (sym next_is) (has-next row mine others single_errors (way.has single_errors is));
}

pub under-way-all : (Is : List SingleError → Type 0) (all : List Error) (row : ℕ) (others : List SingleError) (old new : List ErrorValue) → IsUnderWay Is all [] row others old new → AddsErrors Is all old new
under-way-all Is all row others old new way = adds-same Is way.given all old new (sym (way.parts ∙ append-nil way.given)) way.adds

-- one error more, of a list that each gives one
pub mapped-more : {A : Type 0} (f : A → Error) (Is : List SingleError → Type 0) (xs : List A) (k : ℕ) (x : A) (old now new : List ErrorValue) → k < length xs → x ≡ get_or xs k x
    → AddsErrors Is (map f (take k xs)) old now → AddsErrors Is (f x ∷ []) now new → AddsErrors Is (map f (take (k + 1) xs)) old new
mapped-more f Is xs k x old now new lt is before adds =
    adds-same Is (map f (take k xs) ++ f x ∷ []) (map f (take (k + 1) xs)) old new
    (sym (ap (map f) (take_more xs k x lt ∙ ap (λ y. take k xs ++ y ∷ []) (sym is)) ∙ map-append f (take k xs) (x ∷ [])))
    (adds-more Is (map f (take k xs)) (f x ∷ []) old now new before adds)

-- a record by itself, with its sites
pub record-stands : (number : ℕ) (flip : PlacedLetter) (back : Option PlacedLetter) (front following : ErrorSite) → flip.site ≡ front → IfSome back (λ f. f.site ≡ following)
    → (single_errors : List SingleError) → Stands front single_errors × Stands following single_errors → ErrorStands single_errors (error.Record number flip back)
record-stands number flip None front following first second single_errors stand = subst (λ p. Stands p single_errors) (sym first) stand.0
record-stands number flip (Some f) front following first second single_errors stand =
    (subst (λ p. Stands p single_errors) (sym first) stand.0, subst (λ p. Stands p single_errors) (sym second) stand.1)

-- letters at a site, whose single errors are from a row on
pub letters-at : (ls : List Letter) (p : ErrorSite) (row t : ℕ) (s : Site) (now new : List ErrorValue) → p.row ≡ row → ((l : Letter) → single_error_of_letter p l ≡ single_error_on t s l)
    → AddsErrors (Stands p) (each_letter ls (single_error_of_letter p)) now new → AddsErrors (HasFrom row (single_errors_on t s)) (each_letter ls (single_error_on t s)) now new
letters-at ls p row t s now new row_is is adds =
    adds-same (HasFrom row (single_errors_on t s)) (each_letter ls (single_error_of_letter p)) (each_letter ls (single_error_on t s)) now new (letters-there ls p t s is)
    (adds-weaker (Stands p) (HasFrom row (single_errors_on t s)) (each_letter ls (single_error_of_letter p)) now new (λ single_errors has. stands-at p row t s [] single_errors row_is is has) adds)

-- two sites, of which the second is after the first
pub both-stand : (p r : ErrorSite) (row t u : ℕ) (s z : Site) → p.row ≡ row → r.row ≡ row + 2 → ((l : Letter) → single_error_of_letter p l ≡ single_error_on t s l) → ((l : Letter) → single_error_of_letter r l ≡ single_error_on u z l)
    → (single_errors : List SingleError) → HasFrom row (single_errors_on t s ++ single_errors_on u z) single_errors → Stands p single_errors × Stands r single_errors
both-stand p r row t u s z p_row r_row p_is r_is single_errors has = (
  stands-at p row t s (single_errors_on u z) single_errors p_row p_is has,
  stands-at r (row + 2) u z [] single_errors r_row r_is (has-next row (single_errors_on t s) (single_errors_on u z) single_errors has),
)

-- products at two sites
pub products-at : (asked : ErrorLetters) (p r : ErrorSite) (row t u : ℕ) (s z : Site) (now new : List ErrorValue) → p.row ≡ row → r.row ≡ row + 2
    → ((l : Letter) → single_error_of_letter p l ≡ single_error_on t s l) → ((l : Letter) → single_error_of_letter r l ≡ single_error_on u z l)
    → AddsErrors (λ single_errors. Stands p single_errors × Stands r single_errors) (each_product asked (single_error_of_letter p) (single_error_of_letter r)) now new
    → AddsErrors (HasFrom row (single_errors_on t s ++ single_errors_on u z)) (each_product asked (single_error_on t s) (single_error_on u z)) now new
products-at asked p r row t u s z now new p_row r_row p_is r_is adds =
    let both : List SingleError = single_errors_on t s ++ single_errors_on u z in
    adds-same (HasFrom row both) (each_product asked (single_error_of_letter p) (single_error_of_letter r)) (each_product asked (single_error_on t s) (single_error_on u z)) now new
    (products-there asked p r t u s z p_is r_is)
    (adds-weaker (λ single_errors. Stands p single_errors × Stands r single_errors) (HasFrom row both) (each_product asked (single_error_of_letter p) (single_error_of_letter r)) now new
    (both-stand p r row t u s z p_row r_row p_is r_is) adds)
