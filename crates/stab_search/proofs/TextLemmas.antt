-- The text of a problem, with its numbers of variables and clauses as they are counted.
use Rattle.stab_search.proofs.Names.{◌≡◌, ℕ, ◌+◌, ◌∙◌, [], ◌∷◌, ◌++◌, List, refl, sym, ap, ap₂, arith, length, length-append, length-map, map, flat_map, range_with_len, Is, Sum, Problem, clause_text, problem_head, problem_text, without, sum_clauses, is_false, clauses_of}
use Rattle.std.proofs.Common.{◌*◌}
use Rattle.std.proofs.lemmas.List.FromFn.{length-map-range_with_len}

-- four clauses for each sum
four-each : (sums : List Sum) → length (flat_map sum_clauses sums) ≡ length sums * 4
four-each [] = refl
four-each (s ∷ ss) = length-append (sum_clauses s) (flat_map sum_clauses ss) ∙ omega (arith, four-each ss)

soft-count : (p : Problem) → length (clauses_of p).soft ≡ p.errors
soft-count p = length-map-range_with_len without 0 p.errors

hard-count : (p : Problem) → length (clauses_of p).hard ≡ length p.sums.items * 4 + length p.undetected.items + 2
hard-count p =
    let last = (Is (p.errors + 1) ∷ []) ∷ p.observed.items ∷ [] in
    length-append (flat_map sum_clauses p.sums.items) (map is_false p.undetected.items ++ last)
    ∙ ap₂ (λ a b. a + b) (four-each p.sums.items) (length-append (map is_false p.undetected.items) last ∙ ap (λ n. n + length last) (length-map p.undetected.items is_false)) ∙ omega arith

pub text-counted : (p : Problem) (variables clauses : ℕ) → variables ≡ p.errors + 1 + length p.sums.items → clauses ≡ p.errors + (length p.sums.items * 4 + length p.undetected.items + 2)
    → problem_head variables clauses (p.errors + 1) ++ (flat_map (clause_text 1) (clauses_of p).soft ++ flat_map (clause_text (p.errors + 1)) (clauses_of p).hard) ≡ problem_text (clauses_of p)
text-counted p variables clauses is_variables is_clauses =
    let soft = soft-count p in
    let text : ℕ → ℕ → ℕ → List ℕ = λ v n top. problem_head v n (top + 1) ++ (flat_map (clause_text 1) (clauses_of p).soft ++ flat_map (clause_text (top + 1)) (clauses_of p).hard) in
    let all : clauses ≡ length (clauses_of p).soft + length (clauses_of p).hard = is_clauses ∙ ap₂ (λ a b. a + b) (sym soft) (sym (hard-count p)) in
    ap (λ v. text v clauses p.errors) is_variables ∙ ap (λ n. text (p.errors + 1 + length p.sums.items) n p.errors) all
    ∙ ap (λ top. text (p.errors + 1 + length p.sums.items) (length (clauses_of p).soft + length (clauses_of p).hard) top) (sym soft)
