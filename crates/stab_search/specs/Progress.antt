-- Progress: what a search says of how far it is, all of which is so.
-- Source: this project's own.
use Rattle.std.specs.Prelude.{◌≡◌, ◌⊎◌, ℕ, zero, suc, ◌+◌, List, [], ◌∷◌, ◌++◌, length, Option, Some, None, Result, IfOk}
use Rattle.stab_search.specs.declared.answer.Answer.{Answer}
use Rattle.stab_search.specs.declared.answer.Answer.TheVariants.{Least, NoneWithin, NoneAtAll}

-- what is heard: over how many errors a search begins, or that no set has this many errors or fewer
pub data Heard : Type 0 where
  begins : (errors : ℕ) → Heard
  none_within : (errors : ℕ) → Heard

-- what was heard, after more: it was given up, or has this after what it had
abbrev pub Hears : Option (List Heard) → Option (List Heard) → List Heard → Type 0
Hears old new more = (new ≡ None) ⊎ ((before : List Heard) × (old ≡ Some before) × (new ≡ Some (before ++ more)))

-- each number of errors from 1 up to this one, in ascending order, each once
abbrev pub numbers_up_to : ℕ → List Heard
numbers_up_to zero = []
numbers_up_to (suc k) = numbers_up_to k ++ none_within (suc k) ∷ []

-- whether this is the last number of errors that an answer excludes: one less than a least set has, or the number that was asked for
abbrev pub IsExcludedBy : (most : ℕ) → Answer → ℕ → Type 0
IsExcludedBy most (Least errors) k = k + 1 ≡ length errors.items
IsExcludedBy most NoneWithin k = k ≡ most
IsExcludedBy most NoneAtAll k = Unit {0}

-- What is heard of a search over this many errors: that it begins, and then each number of errors that no set has, up to the last that its
-- answer excludes. No set has the last one, whether or not there is an answer.
pub record ReportsSearch {E : Type 0} (count most : ℕ) (has_none : ℕ → Type 0) (old new : Option (List Heard)) (result : Result Answer E) : Type 0 where
  pub last : ℕ
  pub none : has_none last
  pub heard : Hears old new (begins count ∷ numbers_up_to last)
  pub all : IfOk result (λ a. IsExcludedBy most a last)
