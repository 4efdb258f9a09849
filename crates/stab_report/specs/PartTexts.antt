-- Parts of a search: what `distance --part` writes of what one part finds among the errors of a circuit, and how a call of it ends.
-- Source: this project's own.
use Rattle.std.specs.Prelude.{◌≡◌, ℕ, ◌+◌, false, List, [], ◌++◌, length, codes, decimal, None, Option, Result}
use Rattle.std.specs.List.{flat_map, range_with_len}
use Rattle.std.specs.Option.{unwrap_or}
use Rattle.stab_io.specs.Devices.{InputView, OutputView}
use Rattle.stab_io.specs.declared.refusal.Fault.{Fault}
use Rattle.stab_items.specs.Items.{Items}
use Rattle.stab_search.specs.declared.answer.Answer.{Answer}
use Rattle.stab_search.specs.declared.answer.Answer.TheVariants.{Least, NoneWithin, NoneAtAll}
use Rattle.stab_search.specs.declared.search_part.PartAnswer.{PartAnswer}
use Rattle.stab_search.specs.PartNumbers.{PartNumbers}
use Rattle.stab_search.specs.SearchParts.{IsPartAnswer}
use Rattle.stab_jobs.specs.declared.job.DistanceOptions.{DistanceOptions}
use Rattle.stab_error_model.specs.ErrorTables.{ErrorTableState}
use Rattle.stab_report.specs.declared.random.Random.{Random}
use Rattle.stab_report.specs.Distances.{AreErrorsOf, none_line, set_text}
use Rattle.stab_report.specs.SingleErrorTables.{EndsOrNames}

-- the same options, for all errors and any observable
abbrev pub of_part : DistanceOptions → DistanceOptions
of_part options = record options { graphlike = false; observable = None }

-- which part it is, and the digest of what is searched
abbrev pub part_head : PartNumbers → (digest : ℕ) → List ℕ
part_head p digest = codes "part " ++ (decimal (p.index + 1) ++ (codes "/" ++ (decimal p.count ++ (codes "\ntable " ++ (decimal digest ++ codes "\n")))))

-- the line of this number of errors, counted from 0 on, if the part has no set of one more
abbrev pub none_of : ℕ → List ℕ
none_of k = codes "none of " ++ (decimal (k + 1) ++ codes "\n")

-- the lines of all numbers of errors up to one
abbrev pub none_lines : (last : ℕ) → List ℕ
none_lines last = flat_map none_of (range_with_len 0 last)

-- the line of the number of the first error of a set
abbrev pub first_line : ℕ → List ℕ
first_line first = codes "first " ++ (decimal first ++ codes "\n")

-- what is written of what a part found: its set, after the number of its first error; nothing; or that there is no such set at all
abbrev pub found_text : DistanceOptions → Items → ErrorTableState → (first : ℕ) → Answer → List ℕ
found_text options items t first (Least numbers) = first_line first ++ set_text options items t numbers.items
found_text options items t first NoneWithin = []
found_text options items t first NoneAtAll = none_line None options.graphlike options.observable

-- what is written of an answer of a part
abbrev pub part_text : PartNumbers → DistanceOptions → Items → ErrorTableState → PartAnswer → List ℕ
part_text p options items t a = (part_head p a.digest ++ none_lines a.last) ++ (found_text options items t a.first a.answer ++ codes "end\n")

-- the bytes are those of what a part finds among all errors of a circuit that are asked for
pub record IsPartText (p : PartNumbers) (options : DistanceOptions) (items : Items) (bytes : List ℕ) : Type 0 where
  pub t : ErrorTableState
  pub are : AreErrorsOf (of_part options) items t
  pub answer : PartAnswer
  pub is : IsPartAnswer p t.table (unwrap_or options.most (length t.table.rows)) answer
  pub text : bytes ≡ part_text p (of_part options) items t answer

-- How a call ends that writes what a part finds.
abbrev pub EndsPart : {T : Type 0} → PartNumbers → DistanceOptions → InputView → InputView → OutputView → OutputView → Result T Fault → Option Random → Type 0
EndsPart p options i i' o o' r random = EndsOrNames (IsPartText p options) options.deterministic_only i i' o o' r random
