-- Reports: what is heard of one step of a search after another.
use Rattle.stab_search.proofs.Names.{◌≡◌, ℕ, suc, ◌+◌, sym, ◌∙◌, ap, subst, arith, inl, inr, List, [], ◌∷◌, ◌++◌, append_assoc, Option, Some, Result, Ok, Err, IfOk, IsErrAnd, Heard, begins, none_within, Hears, numbers_up_to, IsExcludedBy, ReportsSearch, HearsOn, ReportsSizes, Answer, None, ErrorTable}
use Rattle.stab_search.specs.PartNumbers.{PartNumbers}
use Rattle.stab_search.specs.SearchParts.{Searched, HasNoneIn}
use Rattle.stab_search.specs.declared.sizes.Found.{Found}
use Rattle.stab_search.specs.inner.ReportedProgress.{IsFirstFound, IsPartFound}
use Rattle.stab_search.proofs.SearchPartLemmas.{none-joined, same-searched}

-- more is heard after more
hears-after : (first old new : Option (List Heard)) (said more : List Heard) → Hears first old said → Hears old new more → Hears first new (said ++ more)
hears-after first old new said more h (inl gone) = inl gone
hears-after first old new said more (inl gone) (inr (before, was, is)) = absurd (cc)
hears-after first old new said more (inr (start, began, had)) (inr (before, was, is)) =
    let same : before ≡ start ++ said = cc in
    inr (start, began, is ∙ ap (λ xs. Some (xs ++ more)) same ∙ ap Some (append_assoc start said more))

-- one number more
pub on-next : (from k : ℕ) (old now new : Option (List Heard)) → HearsOn from k old now → Hears now new (none_within (k + 1) ∷ []) → HearsOn from (k + 1) old new
on-next from k old now new on h first said had =
    let next : suc k ≡ k + 1 = omega arith in
    subst (λ j. Hears first new (said ++ numbers_up_to j)) next
    (subst (λ xs. Hears first new xs) (append_assoc said (numbers_up_to k) (none_within (suc k) ∷ []))
    (hears-after first now new (said ++ numbers_up_to k) (none_within (suc k) ∷ []) (on first said had) (subst (λ j. Hears now new (none_within j ∷ [])) (sym next) h)))

-- all numbers after the beginning
pub begun-on : (count last : ℕ) (old now new : Option (List Heard)) → Hears old now (begins count ∷ []) → HearsOn 0 last now new → Hears old new (begins count ∷ numbers_up_to last)
begun-on count last old now new began on = on old (begins count ∷ []) began

-- an error says nothing of a value
pub ok-of_err : (T E : Type 0) (P : E → Type 0) (Q : T → Type 0) (r : Result T E) → IsErrAnd r P → IfOk r Q
ok-of_err T E P Q (Ok x) is = absurd is
ok-of_err T E P Q (Err e) is = tt

-- a search that ends as it begins
pub reported-begun : (E : Type 0) (P : E → Type 0) (count most : ℕ) (has_none : ℕ → Type 0) (n : ℕ) (old new : Option (List Heard)) (r : Result Answer E) → has_none 0 → n ≡ count
    → Hears old new (begins n ∷ []) → IsErrAnd r P → ReportsSearch count most has_none old new r
reported-begun E P count most has_none n old new r none same began is = record {
  last = 0;
  none = none;
  heard = subst (λ k. Hears old new (begins k ∷ [])) same began;
  all = ok-of_err Answer E P (λ a. IsExcludedBy most a 0) r is;
}

-- and one that goes on
pub reported-on : (E : Type 0) (count most : ℕ) (has_none : ℕ → Type 0) (n last : ℕ) (old now new : Option (List Heard)) (r : Result Answer E) → has_none last → n ≡ count
    → Hears old now (begins n ∷ []) → HearsOn 0 last now new → IfOk r (λ a. IsExcludedBy most a last) → ReportsSearch count most has_none old new r
reported-on E count most has_none n last old now new r none same began on all = record {
  last = last;
  none = none;
  heard = subst (λ k. Hears old new (begins k ∷ numbers_up_to last)) same (begun-on n last old now new began on);
  all = all;
}

-- sizes after others, among errors of which pairs were left out before
module _ (p : PartNumbers) (t u : ErrorTable) (k l : ℕ) (table : u ≡ t) (firsts : l ≡ k) where
  abbrev First : Searched
  First = record { table = t; firsts = k }

  abbrev Second : Searched
  Second = record { table = u; firsts = l }

  pub later : (E F G : Type 0) (middle end most : ℕ) (old now new : Option (List Heard)) (after : Result (Option Found) F) (result : Result Found G)
      → ReportsSizes {E = E} p First 0 (IsFirstFound p First middle) old now (Ok None) → (reports : ReportsSizes p Second middle (IsFirstFound p Second end) now new after)
      → IfOk result (IsPartFound p First most reports.last) → ReportsSizes p First 0 (IsPartFound p First most) old new result
  later E F G middle end most old now new after result before reports found = record {
    begun = before.begun;
    last = reports.last;
    none = none-joined (λ size. HasNoneIn p First size) 0 middle reports.last (λ size lt le. before.none size lt (omega (arith, le, before.found)))
        (λ size lt le. subst (λ (s : Searched). HasNoneIn p s size) (same-searched t u k l table firsts) (reports.none size lt le));
    heard = λ f said had. reports.heard f said (subst (λ j. Hears f now (said ++ numbers_up_to j)) before.found (before.heard f said had));
    found = found;
  }
