-- Steps: the step of each error is one of the circuit's.
use Rattle.stab_error_model.proofs.Names.{ℕ, ◌+◌, ◌<◌, ◌≤◌, subst, Bool, List, [], ◌∷◌, map, length, arith, All, None, flat_map, All-append, All-cons, All-map, All-nil, All-weaker, Items, Step, unroll, SingleError, Site, single_error_on, single_errors_from, single_errors_of, single_errors_on, in_front, sites_at, first_single_error, StepsInside, error_shown, single_error_of_letter, ErrorStands, Stands, ErrorSite, ErrorValue}
use Rattle.std.specs.Prelude.{Some}
use Rattle.stab_gates.specs.declared.letter.Letter.TheVariants as letter
use Rattle.stab_error_model.specs.declared.placed.Error.TheVariants as error
use Rattle.stab_error_model.proofs.FlipLemmas.{dropped-first}

-- single errors are at steps

sites-inside : (end t : ℕ) (ss : List Site) → t < end → All (λ f. f.step < end) (flat_map (single_errors_on t) ss)
sites-inside end t [] lt = All-nil (λ f. f.step < end)
sites-inside end t (s ∷ ss) lt =
    let rest : List SingleError = flat_map (single_errors_on t) ss in
    All-cons (λ f. f.step < end) (single_error_on t s letter.X) (single_error_on t s letter.Z ∷ rest) lt
    (All-cons (λ f. f.step < end) (single_error_on t s letter.Z) rest lt (sites-inside end t ss lt))

single_errors-inside : (everywhere : Bool) (end t : ℕ) (xs : List Step) → t + length xs ≤ end → All (λ f. f.step < end) (single_errors_from everywhere t xs)
single_errors-inside everywhere end t [] le = All-nil (λ f. f.step < end)
single_errors-inside everywhere end t (x ∷ xs) le =
    All-append (λ f. f.step < end) (flat_map (single_errors_on t) (sites_at everywhere x)) (single_errors_from everywhere (t + 1) xs)
    (sites-inside end t (sites_at everywhere x) (omega (arith, le)))
    (single_errors-inside everywhere end (t + 1) xs (omega (arith, le)))

-- and so are errors

site-inside : (end : ℕ) (p : ErrorSite) (single_errors : List SingleError) → All (λ f. f.step < end) single_errors → Stands p single_errors → p.step < end
site-inside end p single_errors inside stands =
    let none : SingleError = single_error_on 0 (in_front 0) letter.X in
    let there = dropped-first p.row single_errors (single_error_of_letter p letter.X) none (single_error_of_letter p letter.Z ∷ stands.0) stands.1 in
    subst (λ f. f.step < end) there.1 (inside p.row none there.0)

error-inside : (end : ℕ) (single_errors : List SingleError) → All (λ f. f.step < end) single_errors → (e : ErrorValue) → ErrorStands single_errors e → (first_single_error (error_shown e)).step < end
error-inside end single_errors inside (error.Letter f) stands = site-inside end f.site single_errors inside stands
error-inside end single_errors inside (error.Letters f g) stands = site-inside end f.site single_errors inside stands.0
error-inside end single_errors inside (error.Record number f None) stands = site-inside end f.site single_errors inside stands
error-inside end single_errors inside (error.Record number f (Some g)) stands = site-inside end f.site single_errors inside stands.0

pub steps-inside : (everywhere : Bool) (items : Items) (errors : List ErrorValue) → All (ErrorStands (single_errors_of everywhere (unroll items))) errors → StepsInside items (map error_shown errors)
steps-inside everywhere items errors stand =
    let end : ℕ = length (unroll items) in
    let single_errors : List SingleError = single_errors_of everywhere (unroll items) in
    All-map (λ e. (first_single_error e).step < end) error_shown errors
    (All-weaker (ErrorStands single_errors) (λ e. (first_single_error (error_shown e)).step < end) (error-inside end single_errors (single_errors-inside everywhere end 0 (unroll items) (omega arith))) errors stand)
