-- Distances: what a call gives that gathers the reply to a request for a distance.
-- Source: this project's own.
use Rattle.std.specs.Prelude.{◌≡◌, ◌⊎◌, Result, Ok, Err}
use Rattle.stab_io.specs.declared.refusal.Refusal.{Refusal}
use Rattle.stab_io.specs.declared.refusal.Refusal.TheVariants.{OutOfMemory, NotDeterministic}
use Rattle.stab_items.specs.Items.{Items}
use Rattle.stab_jobs.specs.declared.job.DistanceOptions.{DistanceOptions}
use Rattle.stab_report.specs.declared.random.Random.{Random}
use Rattle.stab_report.specs.SingleErrorTables.{IsFirstRandom}
use Rattle.stab_report.specs.Distances.{IsDistanceText}
use Rattle.stab_script.specs.Replies.{ReplyBytes}

-- the call gave a reply of a distance, or was refused for a bit that is not deterministic, or for lack of memory
abbrev pub ShowsDistance : DistanceOptions → Items → Result ReplyBytes Refusal → Type 0
ShowsDistance options items (Ok reply) = IsDistanceText options items reply.written
ShowsDistance options items (Err r) = (r ≡ OutOfMemory) ⊎ ((r ≡ NotDeterministic) × (u : Random) × IsFirstRandom items u)
