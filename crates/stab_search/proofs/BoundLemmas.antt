-- Bounds: of logical errors by those of each observable, and of a table by its distinct rows.
use Rattle.stab_search.proofs.Names.{◌≡◌, ℕ, ◌≤◌, ◌<◌, ◌⊎◌, inl, inr, sym, ◌∙◌, arith, false, List, length, cases_lt, false≢true, ErrorTable, odd, row, IsLeast, HasAtLeast, HasBound, IsLogicalSet}
use Rattle.stab_search.proofs.CertificateLemmas.{unnamed}

-- each observable that a row names has the bound
pub bound-all : (t : ErrorTable) (bound end reached : ℕ) → ((r i : ℕ) → r < length t.rows → end ≤ i → odd i (row t.rows r) ≡ false) → end ≤ reached
    → ((o : ℕ) → t.detectors ≤ o → o < reached → HasAtLeast t o bound) → HasBound t bound
bound-all t bound end reached beyond le each errors logical =
    let o = logical.observed.0 in
    by_position o logical.observed.1 (cases_lt o reached) errors logical.inside logical.undetected logical.observed.2
  where
    by_position : (o : ℕ) → t.detectors ≤ o → (o < reached) ⊎ (reached ≤ o) → HasAtLeast t o bound
    by_position o from (inl lt) = each o from lt
    by_position o from (inr past) = λ xs inside undetected is.
        absurd (false≢true (sym (unnamed t o (λ r l. beyond r o l (omega arith)) xs inside undetected) ∙ is))

-- a logical error of no more errors than the bound is a least one
pub least-bounded : (t : ErrorTable) (most bound n : ℕ) (set : List ℕ) → length set ≤ bound → bound ≤ most → HasBound t bound → IsLogicalSet t n set → IsLeast t most set
least-bounded t most bound n set few le has is = record {
  ascending = is.ascending;
  logical = is.logical;
  within = omega (arith, few, le);
  least = λ others logical. omega (arith, few, has others logical);
}
