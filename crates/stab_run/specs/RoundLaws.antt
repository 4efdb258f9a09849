-- Laws of rounds: if no coin decides and nothing has changed that the steps of a round look back to, rounds come again.
-- Source: this project's own.
use Rattle.std.specs.Prelude.{◌≡◌, ℕ, zero, suc, Bool, false, List}
use Rattle.stab_tableau.specs.Traces.{member}
use Rattle.stab_tableau.specs.Groups.{SameGroup}
use Rattle.stab_items.specs.Steps.{Step, rounds, looks_too_far}
use Rattle.stab_run.specs.Records.{ones}
use Rattle.stab_run.specs.Points.{Point, RunOutput, nothing, joined, point_after, outputs}
use Rattle.stab_run.specs.Ends.{AgreeBack, with_coin}

-- an output this often, one after the other
abbrev pub output_copies : ℕ → RunOutput → RunOutput
output_copies zero o = nothing
output_copies (suc k) o = joined o (output_copies k o)

-- steps that no coin decides, after which nothing that they look back to differs from before them except the number of the next coin,
-- give the same again, however often, and come to where they led, except for what was recorded and that number
abbrev pub RoundsComeAgain : Type 0
RoundsComeAgain =
    (n : ℕ) (coins : ℕ → Bool) (m k : ℕ) (xs : List Step) (a : Point) → looks_too_far m xs ≡ false →
    ones (outputs n coins xs a).free ≡ 0 → AgreeBack n m (with_coin (point_after n coins xs a).coin a) (point_after n coins xs a) →
    (outputs n coins (rounds k xs) (point_after n coins xs a) ≡ output_copies k (outputs n coins xs a))
    × SameGroup n (member (point_after n coins xs a).trace) (member (point_after n coins (rounds k xs) (point_after n coins xs a)).trace)
