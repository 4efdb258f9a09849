-- Replays that follow an old run: what their plans and their new beginnings say.
use Rattle.stab_recording.proofs.Names.{ℕ, ◌≤◌, List, length, arith, Step, Plan}
use Rattle.stab_recording.specs.FollowedRuns.{IsPlanned}

-- a planned run has few steps
pub few-steps : {n : ℕ} {p : Plan} {ys : List Step} → IsPlanned n p ys → length ys ≤ 1048576
few-steps planned = omega (arith, planned.total, planned.few)
