-- Rows: those of a table of single errors ascend, and rows that are put together name what errors flip.
use Rattle.stab_error_model.proofs.Names.{◌≡◌, ℕ, zero, suc, ◌+◌, ◌<◌, ◌≤◌, ◌⊎◌, inl, inr, sym, ap, ◌∙◌, subst, Bool, true, false, List, [], ◌∷◌, ◌++◌, length, arith, if◌then◌else◌, cases_lt, get_or-map, get_or_past, length-map, Items, unroll, row, in_front, single_error_on, single_errors_of, numbers_where, bits_in, flipped_by_single_error, IsSingleErrorTable, AscendsFrom, IsAscending, RowsAscend, IsErrorRow, AreErrorRows}
use Rattle.stab_gates.specs.declared.letter.Letter.TheVariants as letter
use Rattle.stab_error_model.specs.declared.placed.Error.{Error}

pub ascends-weaker : (from more : ℕ) (ks : List ℕ) → from ≤ more → AscendsFrom more ks → AscendsFrom from ks
ascends-weaker from more [] le a = tt
ascends-weaker from more (k ∷ ks) le a = (omega (arith, le, a.0), a.1)

ascends-step : (b : Bool) (i : ℕ) (rest : List ℕ) → AscendsFrom (i + 1) rest → AscendsFrom i (if b then i ∷ rest else rest)
ascends-step true i rest a = (omega arith, a)
ascends-step false i rest a = ascends-weaker i (i + 1) rest (omega arith) a

where-ascends : (f : ℕ → Bool) (i k : ℕ) → AscendsFrom i (numbers_where f i k)
where-ascends f i zero = tt
where-ascends f i (suc k) = ascends-step (f i) i (numbers_where f (i + 1) k) (where-ascends f (i + 1) k)

pub rows-ascend : (n : ℕ) (everywhere : Bool) (items : Items) (deterministic : List Bool) (rows : List (List ℕ)) → IsSingleErrorTable n everywhere items deterministic rows → RowsAscend rows
rows-ascend n everywhere items deterministic rows table k = by_site (cases_lt k (length rows))
  where
    coins : ℕ → Bool
    coins = λ t. false

    as-many : length rows ≡ length (single_errors_of everywhere (unroll items))
    as-many = ap length (table.are_flipped coins) ∙ length-map (single_errors_of everywhere (unroll items)) (flipped_by_single_error n items deterministic coins)

    by_site : (k < length rows) ⊎ (length rows ≤ k) → IsAscending (row rows k)
    by_site (inl less) =
        subst IsAscending
        (sym (ap (λ rs. row rs k) (table.are_flipped coins)
        ∙ get_or-map (flipped_by_single_error n items deterministic coins) (single_errors_of everywhere (unroll items)) k (single_error_on 0 (in_front 0) letter.X) [] (omega (arith, less, as-many))))
        (where-ascends _ 0 (bits_in items))
    by_site (inr more) = subst IsAscending (sym (get_or_past rows k [] more)) tt

-- one error and its row more
pub rows-push : (single_errors : List (List ℕ)) (errors : List Error) (rows : List (List ℕ)) (e : Error) (r : List ℕ) → AreErrorRows single_errors errors rows → IsErrorRow single_errors e r
    → AreErrorRows single_errors (errors ++ e ∷ []) (rows ++ r ∷ [])
rows-push single_errors [] [] e r are is = (is, tt)
rows-push single_errors [] (s ∷ rows) e r are is = absurd are
rows-push single_errors (d ∷ errors) [] e r are is = absurd are
rows-push single_errors (d ∷ errors) (s ∷ rows) e r are is = (are.0, rows-push single_errors errors rows e r are.1 is)
