-- Reports: what the steps of a search of a part report of the numbers of errors that they exclude, and what they find.
use Rattle.std.specs.Prelude.{◌≡◌, ℕ, ◌+◌, ◌<◌, ◌≤◌, List, ◌++◌, length, map, min, slice_index, Option, Some, None, Result, IfOk}
use Rattle.std.specs.Global.{Vec}
use Rattle.stab_search.specs.declared.answer.Answer.{Answer}
use Rattle.stab_search.specs.declared.answer.Answer.TheVariants.{Least, NoneWithin, NoneAtAll}
use Rattle.stab_search.specs.declared.sizes.Found.{Found}
use Rattle.stab_search.specs.declared.search_part.PartAnswer.{PartAnswer}
use Rattle.stab_search.specs.Tables.{ErrorTable}
use Rattle.stab_search.specs.LogicalErrors.{HasNoneWithin, HasNone, HasSome}
use Rattle.stab_search.specs.PartNumbers.{PartNumbers}
use Rattle.stab_search.specs.Progress.{Heard, Hears, numbers_up_to, IsExcludedBy}
use Rattle.stab_search.specs.SearchParts.{Searched, IsSearchOf, HasNoneIn, IsBegunIn}
use Rattle.stab_search.specs.inner.Lists.{ForEach}
use Rattle.stab_search.specs.inner.Shortest.{IsGathered}
use Rattle.stab_search.specs.inner.Steps.{BeginsBefore}

-- who had heard all numbers up to one, after what was said before, has then heard all up to another
abbrev pub HearsOn : (from last : ℕ) → Option (List Heard) → Option (List Heard) → Type 0
HearsOn from last old new = (first : Option (List Heard)) (said : List Heard) → Hears first old (said ++ numbers_up_to from) → Hears first new (said ++ numbers_up_to last)

-- a search of a part for the sizes after `from` reports each of which it has no set, and what it finds is so after the last of these
pub record ReportsSizes {A E : Type 0} (p : PartNumbers) (s : Searched) (from : ℕ) (IsSo : ℕ → A → Type 0) (old new : Option (List Heard)) (result : Result A E) : Type 0 where
  pub begun : BeginsBefore s.table s.firsts
  pub last : ℕ
  pub none : (size : ℕ) → from < size → size ≤ last → HasNoneIn p s size
  pub heard : HearsOn from last old new
  pub found : IfOk result (IsSo last)

-- an answer is a logical error that a part found
abbrev pub IsBegunBy : PartNumbers → Searched → (most first : ℕ) → Answer → Type 0
IsBegunBy p s most first (Least errors) = IsBegunIn p s most first errors.items
IsBegunBy p s most first NoneWithin = ⊥
IsBegunBy p s most first NoneAtAll = ⊥

-- what a part finds among the sizes up to `most`, if it has none up to a number: a logical error, or nothing
abbrev pub IsFirstFound : PartNumbers → Searched → (most last : ℕ) → Option Found → Type 0
IsFirstFound p s most last (Some f) = (f.last ≡ last) × (f.last < most) × IsBegunBy p s (f.last + 1) f.first f.answer
IsFirstFound p s most last None = last ≡ most

-- and all in all: errors in any order; none up to `most`, or up to as many as there are; or that there is no logical error
abbrev pub IsFoundAfter : PartNumbers → Searched → (most last first : ℕ) → Answer → Type 0
IsFoundAfter p s most last first (Least errors) = (last < most) × IsBegunIn p s (last + 1) first errors.items
IsFoundAfter p s most last first NoneWithin = (min most (length s.table.rows) ≤ last) × HasSome s.table
IsFoundAfter p s most last first NoneAtAll = HasNone s.table

abbrev pub IsPartFound : PartNumbers → Searched → (most last : ℕ) → Found → Type 0
IsPartFound p s most last f = (f.last ≡ last) × (f.last ≤ most) × IsFoundAfter p s most f.last f.first f.answer

-- errors that an answer has are below a number
abbrev pub AreInside : ℕ → Answer → Type 0
AreInside n (Least errors) = ForEach (λ r. r < n) errors.items
AreInside n NoneWithin = Unit {0}
AreInside n NoneAtAll = Unit {0}

-- an answer by the numbers of errors in a table
abbrev pub IsInTable : (numbers : List ℕ) → Answer → Answer → Type 0
IsInTable numbers (Least own) a = (set : Vec ℕ) × (a ≡ Least set) × IsGathered (map (slice_index numbers) own.items) set.items
IsInTable numbers NoneWithin a = a ≡ NoneWithin
IsInTable numbers NoneAtAll a = a ≡ NoneAtAll

-- if a part answers that it has none, it looked for as many errors as were asked for, or as there are
abbrev pub ReachesMost : Searched → (most last : ℕ) → Answer → Type 0
ReachesMost s most last (Least errors) = Unit {0}
ReachesMost s most last NoneWithin = min most (length s.table.rows) ≤ last
ReachesMost s most last NoneAtAll = Unit {0}

-- a search of a part of a table reports each number of errors of which it has no set
pub record ReportsPart {E : Type 0} (p : PartNumbers) (t : ErrorTable) (most : ℕ) (old new : Option (List Heard)) (result : Result PartAnswer E) : Type 0 where
  pub searched : Searched
  pub is : IsSearchOf t searched
  pub reports : ReportsSizes p searched 0 (λ last (a : PartAnswer). (a.last ≡ last) × ReachesMost searched most last a.answer) old new result

-- a search reports each number of errors of which there is no set, up to the last that its answer excludes
pub record ReportsAnswer {E : Type 0} (t : ErrorTable) (most : ℕ) (old new : Option (List Heard)) (result : Result Answer E) : Type 0 where
  pub last : ℕ
  pub none : HasNoneWithin t last
  pub heard : HearsOn 0 last old new
  pub all : IfOk result (λ a. IsExcludedBy most a last)
