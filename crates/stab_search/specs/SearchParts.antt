-- Parts of a search: each searches the sets whose first error is one of its own, so that all parts together search all sets.
-- Source: this project's own; the digest is FNV-1a, over numbers of 64 bits, not bytes.
use Rattle.std.specs.Prelude.{◌≡◌, ℕ, ◌+◌, ◌-◌, ◌*◌, ◌%◌, ◌^◌, ◌<◌, ◌≤◌, true, List, [], ◌∷◌, length, bit_xor}
use Rattle.stab_search.specs.declared.answer.Answer.{Answer}
use Rattle.stab_search.specs.declared.answer.Answer.TheVariants.{Least, NoneWithin, NoneAtAll}
use Rattle.stab_search.specs.declared.search_part.PartAnswer.{PartAnswer}
use Rattle.stab_parities.specs.Ascending.{IsAscending}
use Rattle.stab_search.specs.Tables.{ErrorTable}
use Rattle.stab_search.specs.LogicalErrors.{IsLogicalError, IsLeast, HasNone, HasSome, HasNoneWithin}
use Rattle.stab_search.specs.Counts.{HasNoneBelow}
use Rattle.stab_search.specs.PartNumbers.{PartNumbers}
use Rattle.stab_search.specs.inner.Lists.{has}
use Rattle.stab_search.specs.inner.Shortest.{IsLogicalSet, IsLogicalWithin}
use Rattle.stab_search.specs.inner.Steps.{HasBefore, BeginsBefore}

-- what is searched: the errors of a table, and how many of them can be the first of a set
pub record Searched : Type 0 where
  pub table : ErrorTable
  pub firsts : ℕ

-- a set of errors below n as a binary number, in which each error has a bit, and error 0 the most significant one; a later set has a lesser number
abbrev pub set_weight : (n : ℕ) → List ℕ → ℕ
set_weight n [] = 0
set_weight n (r ∷ rs) = 2 ^ (n - r) + set_weight n rs

-- a logical error of this many errors, one of which can be the first
pub record IsCandidate (s : Searched) (size : ℕ) (set : List ℕ) : Type 0 where
  pub ascending : IsAscending set
  pub logical : IsLogicalError s.table set
  pub count : length set ≡ size
  pub begun : HasBefore s.firsts set

-- the last of these sets: all others have a number at least as great
pub record IsLastSet (s : Searched) (size : ℕ) (set : List ℕ) : Type 0 where
  pub is : IsCandidate s size set
  pub last : (other : List ℕ) → IsCandidate s size other → set_weight (length s.table.rows) set ≤ set_weight (length s.table.rows) other

-- the first error of a set is one of a part's: its number leaves the part's when divided by how many parts there are
abbrev pub BeginsIn : PartNumbers → List ℕ → Type 0
BeginsIn p [] = ⊥
BeginsIn p (first ∷ rest) = first % p.count ≡ p.index

-- a part has none of a number of errors: if no logical error has fewer, the last set of this many does not begin in the part
abbrev pub HasNoneIn : PartNumbers → Searched → (size : ℕ) → Type 0
HasNoneIn p s size = HasNoneBelow s.table size → (set : List ℕ) → IsLastSet s size set → BeginsIn p set → ⊥

-- what is searched for a table: it has no logical error up to a size if and only if the table has none, and some shortest one has an error
-- that can be first
pub record IsSearchOf (t : ErrorTable) (s : Searched) : Type 0 where
  pub fewer : (size : ℕ) → HasNoneWithin t size → HasNoneWithin s.table size
  pub enough : (size : ℕ) → HasNoneWithin s.table size → HasNoneWithin t size
  pub begun : BeginsBefore s.table s.firsts

-- each of `count` parts has none of each number of errors from 1 to `most`
abbrev pub HaveNoneWithin : (count : ℕ) → Searched → (most : ℕ) → Type 0
HaveNoneWithin count s most = (index size : ℕ) → index < count → 0 < size → size ≤ most → HasNoneIn (record { index = index; count = count }) s size

-- if all parts have none up to a number, no set of the table has so few errors
abbrev pub PartsAreWhole : Type 0
PartsAreWhole = (t : ErrorTable) (s : Searched) (count most : ℕ) → IsSearchOf t s → 0 < count → HaveNoneWithin count s most → HasNoneWithin t most

-- and a set of one more error is then a least one
abbrev pub PartsFindLeast : Type 0
PartsFindLeast = (t : ErrorTable) (s : Searched) (count most : ℕ) (set : List ℕ) → IsSearchOf t s → 0 < count → HaveNoneWithin count s most
    → IsLogicalSet t (most + 1) set → IsLeast t (most + 1) set

-- numbers taken into a digest, one after another
abbrev pub digest : (before : ℕ) → List ℕ → ℕ
digest before [] = before
digest before (n ∷ ns) = digest ((bit_xor before n * 1099511628211) % 2 ^ 64) ns

-- rows taken into a digest: the length of each, and its numbers
abbrev pub digest_rows : (before : ℕ) → List (List ℕ) → ℕ
digest_rows before [] = before
digest_rows before (row ∷ rows) = digest_rows (digest before (length row ∷ row)) rows

-- what is searched taken into a digest: the number of detectors, of errors that can be first, and of rows, and the rows
abbrev pub digest_searched : (before : ℕ) → Searched → ℕ
digest_searched before s = digest_rows (digest before (s.table.detectors ∷ s.firsts ∷ length s.table.rows ∷ [])) s.table.rows

-- the digest of what is searched; its number at the beginning is that of FNV-1a
abbrev pub digest_of : Searched → ℕ
digest_of s = digest_searched 14695981039346656037 s

-- a logical error of at most this many errors in what is searched, and the number of one of its errors, with which a part begins
pub record IsBegunIn (p : PartNumbers) (s : Searched) (most first : ℕ) (errors : List ℕ) : Type 0 where
  pub inside : first < s.firsts
  pub own : first % p.count ≡ p.index
  pub among : has first errors ≡ true
  pub found : IsLogicalWithin s.table most errors

-- what a part found, if it has none up to a number: a set of at most one more error, and with which it begins; none up to `most`; or that
-- there is no logical error
abbrev pub IsFoundIn : PartNumbers → ErrorTable → Searched → (most last first : ℕ) → Answer → Type 0
IsFoundIn p t s most last first (Least errors) = (last < most) × IsLogicalSet t (last + 1) errors.items × (own : List ℕ) × IsBegunIn p s (last + 1) first own
IsFoundIn p t s most last first NoneWithin = ((size : ℕ) → last < size → size ≤ most → HasNoneIn p s size) × HasSome t
IsFoundIn p t s most last first NoneAtAll = HasNone t

-- what the answer of a part says of a table
pub record IsPartAnswer (p : PartNumbers) (t : ErrorTable) (most : ℕ) (a : PartAnswer) : Type 0 where
  pub searched : Searched
  pub is : IsSearchOf t searched
  pub digest : a.digest ≡ digest_of searched
  pub within : a.last ≤ most
  pub none : (size : ℕ) → 0 < size → size ≤ a.last → HasNoneIn p searched size
  pub found : IsFoundIn p t searched most a.last a.first a.answer
