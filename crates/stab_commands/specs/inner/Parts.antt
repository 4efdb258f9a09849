-- Parts: what is known of a set that a part of a search found.
-- Source: this project's own.
use Rattle.std.specs.Prelude.{ℕ, ◌<◌, All}
use Rattle.std.specs.Bool.{⊤}
use Rattle.stab_search.specs.declared.answer.Answer.{Answer}
use Rattle.stab_search.specs.declared.answer.Answer.TheVariants.{Least, NoneWithin, NoneAtAll}

-- the numbers of a set, if an answer has one, are less than this count
abbrev pub IsInside : (count : ℕ) → Answer → Type 0
IsInside count (Least numbers) = All (λ k. k < count) numbers.items
IsInside count NoneWithin = ⊤
IsInside count NoneAtAll = ⊤
