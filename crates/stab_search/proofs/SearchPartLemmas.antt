-- Parts of a search: of the least sets that are logical errors there is a last one, and it begins in one of the parts.
use Rattle.stab_search.proofs.Names.{◌≡◌, ℕ, zero, suc, ◌+◌, ◌≤◌, ◌<◌, ◌⊎◌, inl, inr, refl, sym, ◌∙◌, ap, subst, arith, List, [], ◌∷◌, length, min, cases_lt, ErrorTable, row, HasNoneWithin, Vec, NoEnds, BeginsBefore, ArePairs, Answer, Least, NoneWithin, NoneAtAll, HasSome, IsLeastAnswer, IsExcludedBy, ErrorsAreEnough, Bool, Option, Some, None, is_some, Decides, ForEach}
use Rattle.std.specs.Prelude.{◌%◌}
use Rattle.std.proofs.lemmas.Nat.{mod_below}
use Rattle.stab_search.specs.PartNumbers.{PartNumbers}
use Rattle.stab_search.specs.SearchParts.{Searched, set_weight, IsCandidate, IsLastSet, BeginsIn, HasNoneIn, IsSearchOf, HaveNoneWithin, PartsAreWhole, PartsFindLeast, digest_of, IsFoundIn, IsPartAnswer}
use Rattle.stab_search.specs.declared.search_part.PartAnswer.{PartAnswer}
use Rattle.stab_search.specs.declared.sizes.Found.{Found}
use Rattle.stab_search.specs.inner.ReportedProgress.{IsBegunBy, IsFirstFound, IsFoundAfter, IsPartFound, AreInside, IsInTable, ReachesMost}
use Rattle.stab_search.proofs.EnoughLemmas.{none-enough, none-within_enough, none-within_fewer, set-enough, some-enough}
use Rattle.stab_search.proofs.FirstLemmas.{first-ends, begins-first}
use Rattle.stab_search.proofs.ListLemmas.{each-all}
use Rattle.stab_search.proofs.PairLemmas.{before-gathering, last-unpaired}
use Rattle.stab_search.proofs.ShortestLemmas.{gathering, gathered-logical, none-empty, none-up_to, bounded}

-- none is in a part if none begins with one of its errors that can be first
pub none-in : (t : ErrorTable) (pairs : List (Vec ℕ)) (firsts : ℕ) → ArePairs t.rows firsts pairs → (left : ℕ) (p : PartNumbers)
    → ((f : ℕ) → f < firsts → BeginsIn p (f ∷ []) → HasNoneWithin t left → NoEnds t pairs f (f ∷ []) (row t.rows f) left)
    → HasNoneIn p (record { table = t; firsts = firsts }) (left + 1)
none-in t pairs firsts are left p tried below [] last begins = begins
none-in t pairs firsts are left p tried below (f ∷ rest) last begins =
    let is = last.is in
    let none : HasNoneWithin t left = λ errors e. omega (arith, below errors e) in
    tried f (begins-first firsts f rest is.ascending is.begun) begins none rest
    (first-ends t pairs f rest is.ascending is.logical (last-unpaired t pairs firsts are left none (f ∷ rest) last)) (omega (arith, is.count))

-- a set of more errors than there are is not there
pub none-larger : (p : PartNumbers) (s : Searched) (size : ℕ) → length s.table.rows < size → HasNoneIn p s size
none-larger p s size more below set last begins =
    let is = last.is in
    let few = bounded 0 (length s.table.rows) set (omega arith) is.ascending (each-all (λ r. r < length s.table.rows) set is.logical.inside) in
    omega (arith, few, is.count, more)

-- a set that is not later
not-later : (n : ℕ) (set other : List ℕ) → (set_weight n other < set_weight n set → ⊥) → set_weight n set ≤ set_weight n other
not-later n set other never = by_order (cases_lt (set_weight n other) (set_weight n set))
  where
    by_order : (set_weight n other < set_weight n set) ⊎ (set_weight n set ≤ set_weight n other) → set_weight n set ≤ set_weight n other
    by_order (inl lt) = absurd (never lt)
    by_order (inr more) = more

-- all parts of what is searched, for one more error
module _ (s : Searched) (count : ℕ) (some : 0 < count) (begun : BeginsBefore s.table s.firsts) (left : ℕ) (none : HasNoneWithin s.table left)
    (all : (index : ℕ) → index < count → HasNoneIn (record { index = index; count = count }) s (left + 1)) where
  -- the last set begins in a part
  no-last : (set : List ℕ) → IsLastSet s (left + 1) set → ⊥
  no-last [] last = let none_left = last.is.count in omega (arith, none_left)
  no-last (f ∷ rest) last = all (f % count) (mod_below f count some) (λ errors e. omega (arith, none errors e)) (f ∷ rest) last refl

  -- and there is a last one if there is one
  no-set : (most : ℕ) (set : List ℕ) → set_weight (length s.table.rows) set ≤ most → IsCandidate s (left + 1) set → ⊥
  no-set zero set le is = no-last set (record { is = is; last = λ other o. omega (arith, le) })
  no-set (suc most) set le is = no-last set (record { is = is; last = λ other o. not-later (length s.table.rows) set other (λ lt. no-set most other (omega (arith, le, lt)) o) })

  pub all-parts : HasNoneWithin s.table (left + 1)
  all-parts errors logical = by_length (cases_lt (left + 1) (length errors))
    where
      by_length : (left + 1 < length errors) ⊎ (length errors ≤ left + 1) → left + 1 < length errors
      by_length (inl lt) = lt
      by_length (inr le) =
          let other = begun.begins errors logical in
          let set = gathering other.0 in
          let is = gathered-logical s.table other.0 set.0 set.1 other.1.0 in
          let more = none set.0 is in
          let fewer = set.1.fewer in
          let few = other.1.1.0 in
          absurd
          (no-set (set_weight (length s.table.rows) set.0) set.0 (omega arith)
          (record {
            ascending = set.1.ascending;
            logical = is;
            count = omega (arith, more, fewer, few, le);
            begun = before-gathering s.firsts other.0 (omega (arith, more, fewer, few, le)) other.1.1.1;
          }))

-- all parts of a table's search

module _ (t : ErrorTable) (s : Searched) (count : ℕ) (is : IsSearchOf t s) (some : 0 < count) where
  pub parts-whole : (most : ℕ) → HaveNoneWithin count s most → HasNoneWithin t most
  parts-whole zero all = none-empty t
  parts-whole (suc most) all =
      let next : most + 1 ≡ suc most = omega arith in
      let before = parts-whole most (λ index size lt pos le. all index size lt pos (omega (arith, le))) in
      subst (HasNoneWithin t) next
      (is.enough (most + 1) (all-parts s count some is.begun most (is.fewer most before) (λ index lt. all index (most + 1) lt (omega arith) (omega arith))))

pub whole : PartsAreWhole
whole t s count most are some all = parts-whole t s count are some most all

pub least : PartsFindLeast
least t s count most set are some all is = record {
  ascending = is.ascending;
  logical = is.logical;
  within = is.within;
  least = λ others e. let more = parts-whole t s count are some most all others e in let few = is.within in omega (arith, more, few);
}

-- one size more
pub none-next : (P : ℕ → Type 0) (from left : ℕ) → ((size : ℕ) → from < size → size ≤ left → P size) → P (left + 1) → (size : ℕ) → from < size → size ≤ left + 1 → P size
none-next P from left before next size lt le = by_size (cases_lt left size)
  where
    by_size : (left < size) ⊎ (size ≤ left) → P size
    by_size (inr within) = before size lt within
    by_size (inl last) = let same : left + 1 ≡ size = omega (arith, last, le) in subst P same next

-- sizes after others
pub none-joined : (P : ℕ → Type 0) (from middle last : ℕ) → ((size : ℕ) → from < size → size ≤ middle → P size) → ((size : ℕ) → middle < size → size ≤ last → P size)
    → (size : ℕ) → from < size → size ≤ last → P size
none-joined P from middle last before after size lt le = by_size (cases_lt middle size)
  where
    by_size : (middle < size) ⊎ (size ≤ middle) → P size
    by_size (inr within) = before size lt within
    by_size (inl later) = after size later le

-- what is searched is the same if its parts are
pub same-searched : (t u : ErrorTable) (k l : ℕ) → u ≡ t → l ≡ k → let later : Searched = record { table = u; firsts = l } in let before : Searched = record { table = t; firsts = k } in later ≡ before
same-searched t u k l table firsts = ap (λ (x : ErrorTable). let s : Searched = record { table = x; firsts = l } in s) table ∙ ap (λ x. let s : Searched = record { table = t; firsts = x } in s) firsts

-- what a part answers

-- errors that are enough are searched for a table
pub enough-search : (t fewer : ErrorTable) (numbers : List ℕ) (firsts : ℕ) → ErrorsAreEnough t fewer numbers → BeginsBefore fewer firsts → IsSearchOf t (record { table = fewer; firsts = firsts })
enough-search t fewer numbers firsts is begun = record {
  fewer = none-within_fewer t fewer numbers is;
  enough = none-within_enough t fewer numbers is;
  begun = begun;
}

-- and so are all errors of the table
pub own-search : (t : ErrorTable) (firsts : ℕ) → BeginsBefore t firsts → IsSearchOf t (record { table = t; firsts = firsts })
own-search t firsts begun = record { fewer = λ size none. none; enough = λ size none. none; begun = begun }

module _ (p : PartNumbers) (t : ErrorTable) (s : Searched) (numbers : List ℕ) (enough : ErrorsAreEnough t s.table numbers) (is : IsSearchOf t s) (most : ℕ) where
  found-in : (last first : ℕ) (own answer : Answer) → IsFoundAfter p s most last first own → IsInTable numbers own answer → IsFoundIn p t s most last first answer
  found-in last first (Least own) answer found (set, same, gathered) =
      subst (IsFoundIn p t s most last first) (sym same) (found.0, set-enough t s.table numbers enough (last + 1) own.items set.items found.1.found gathered, own.items, found.1)
  found-in last first NoneWithin answer found same =
      subst (IsFoundIn p t s most last first) (sym same)
      ((λ size lt le. none-larger p s size (omega (arith, lt, le, found.0))), some-enough t s.table numbers enough found.1)
  found-in last first NoneAtAll answer found same = subst (IsFoundIn p t s most last first) (sym same) (none-enough t s.table numbers enough found)

  reaches-in : (last first : ℕ) (own answer : Answer) → IsFoundAfter p s most last first own → IsInTable numbers own answer → ReachesMost s most last answer
  reaches-in last first (Least own) answer found (set, same, gathered) = subst (ReachesMost s most last) (sym same) tt
  reaches-in last first NoneWithin answer found same = subst (ReachesMost s most last) (sym same) found.0
  reaches-in last first NoneAtAll answer found same = subst (ReachesMost s most last) (sym same) tt

  pub part-reaches : (f : Found) (last : ℕ) → IsPartFound p s most last f → (answer : Answer) → IsInTable numbers f.answer answer → (f.last ≡ last) × ReachesMost s most last answer
  part-reaches f last found answer in_table = (found.0, subst (λ k. ReachesMost s most k answer) found.0 (reaches-in f.last f.first f.answer answer found.2 in_table))

  pub inside-in : (last first : ℕ) (own : Answer) → IsFoundAfter p s most last first own → AreInside (length numbers) own
  inside-in last first (Least own) found = subst (λ n. ForEach (λ r. r < n) own.items) (sym enough.rows.count) (each-all (λ r. r < length s.table.rows) own.items found.1.found.logical.inside)
  inside-in last first NoneWithin found = tt
  inside-in last first NoneAtAll found = tt

  pub part-answer : (f : Found) (last : ℕ) → ((size : ℕ) → 0 < size → size ≤ last → HasNoneIn p s size) → IsPartFound p s most last f → (digest : ℕ) → digest ≡ digest_of s
      → (answer : Answer) → IsInTable numbers f.answer answer → IsPartAnswer p t most (record { digest = digest; last = f.last; first = f.first; answer = answer })
  part-answer f last none found digest same answer in_table = record {
    searched = s;
    is = is;
    digest = same;
    within = found.1;
    none = λ size pos le. none size pos (omega (arith, le, found.0));
    found = found-in f.last f.first f.answer answer found.2 in_table;
  }

-- what is found among fewer sizes
pub begun-found : (p : PartNumbers) (s : Searched) (end most last : ℕ) (f : Found) → end ≤ most → IsFirstFound p s end last (Some f) → IsPartFound p s most last f
begun-found p s end most last f le first = (first.0, omega (arith, first.1, le), by_answer f.answer first.2)
  where
    by_answer : (answer : Answer) → IsBegunBy p s (f.last + 1) f.first answer → IsFoundAfter p s most f.last f.first answer
    by_answer (Least errors) begun = (omega (arith, first.1, le), begun)
    by_answer NoneWithin begun = absurd begun
    by_answer NoneAtAll begun = absurd begun

some-begun : (p : PartNumbers) (s : Searched) (most first : ℕ) (answer : Answer) → IsBegunBy p s most first answer → HasSome s.table
some-begun p s most first (Least errors) begun = (errors.items, begun.found.logical)
some-begun p s most first NoneWithin begun = absurd begun
some-begun p s most first NoneAtAll begun = absurd begun

-- the one part of a whole search
module _ (t : ErrorTable) (p : PartNumbers) (one : p ≡ record { index = 0; count = 1 }) where
  pub whole-none : (s : Searched) → IsSearchOf t s → (last : ℕ) → ((size : ℕ) → 0 < size → size ≤ last → HasNoneIn p s size) → HasNoneWithin t last
  whole-none s is last none =
      parts-whole t s 1 is (omega arith) last
      (λ index size lt pos le. let first : 0 ≡ index = omega (arith, lt) in
      subst (λ k. HasNoneIn (record { index = k; count = 1 }) s size) first (subst (λ (q : PartNumbers). HasNoneIn q s size) one (none size pos le)))

  pub whole-answer : (most : ℕ) (a : PartAnswer) → IsPartAnswer p t most a → IsLeastAnswer t most a.answer
  whole-answer most a is = by_answer a.answer is.found
    where
      by_answer : (answer : Answer) → IsFoundIn p t is.searched most a.last a.first answer → IsLeastAnswer t most answer
      by_answer (Least set) found = record {
        ascending = found.1.ascending;
        logical = found.1.logical;
        within = omega (arith, found.0, found.1.within);
        least = λ others e. omega (arith, found.1.within, whole-none is.searched is.is a.last is.none others e);
      }
      by_answer NoneWithin found = (whole-none is.searched is.is most (none-joined (λ size. HasNoneIn p is.searched size) 0 a.last most is.none found.0), found.1)
      by_answer NoneAtAll found = found

  -- if there is one, but none was found, the last number is the one that was asked for
  reached : (s : Searched) → IsSearchOf t s → (most last : ℕ) → min most (length s.table.rows) ≤ last → last ≤ most → HasNoneWithin t last → HasSome t → last ≡ most
  reached s is most last enough within none (errors, logical) = by_position (cases_lt (length s.table.rows) most)
    where
      by_position : (length s.table.rows < most) ⊎ (most ≤ length s.table.rows) → last ≡ most
      by_position (inr many) = omega (arith, enough, within, many)
      by_position (inl few) =
          let less : length errors < length errors =
          is.enough (length errors) (none-up_to s.table (length errors) last (omega (arith, enough, few)) (is.fewer last none)) errors logical in
          absurd (omega (arith, less))

  pub whole-excluded : (s : Searched) → IsSearchOf t s → (most last : ℕ) → ((size : ℕ) → 0 < size → size ≤ last → HasNoneIn p s size)
      → (a : PartAnswer) → IsPartAnswer p t most a → a.last ≡ last → ReachesMost s most last a.answer → IsExcludedBy most a.answer last
  whole-excluded s is most last none a answers same reaches = by_answer a.answer answers.found reaches
    where
      by_answer : (answer : Answer) → IsFoundIn p t answers.searched most a.last a.first answer → ReachesMost s most last answer → IsExcludedBy most answer last
      by_answer (Least set) found reaches = omega (arith, same, found.1.within, whole-none s is last none set.items found.1.logical)
      by_answer NoneWithin found reaches = reached s is most last reaches (omega (arith, same, answers.within)) (whole-none s is last none) found.1
      by_answer NoneAtAll found reaches = tt

-- a search of all sizes decides whether there is a logical error
pub decided : (t : ErrorTable) (p : PartNumbers) (s : Searched) → s.table ≡ t → (n last : ℕ) (a : Option Found) (b : Bool) → b ≡ is_some a → length t.rows ≤ n → HasNoneWithin t last
    → IsFirstFound p s n last a → Decides t b
decided t p s same n last (Some v) b e le none first = subst (Decides t) (sym e) (subst HasSome same (some-begun p s (v.last + 1) v.first v.answer first.2))
decided t p s same n last None b e le none first =
    subst (Decides t) (sym e)
    (λ errors logical. let less : length errors < length errors = none-up_to t (length errors) last (omega (arith, le, first)) none errors logical in omega (arith, less))
