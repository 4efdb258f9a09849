-- Folded replays: a replay on its way whose state is that of a checkpoint, up to a frame if there is one, may go on from there.
use Rattle.stab_recording.proofs.Names.{◌≡◌, ℕ, ◌+◌, ◌-◌, ◌≤◌, refl, sym, ◌∙◌, ap, subst, Bool, false, List, length, take, drop, All, Option, None, Some, get_or, arith, option_map, slice_get-get_or, take-take, drop-take, Step, Repeat, ones, all_coins_of, output_of, PropagationState, Checkpoint, Recurrence, Plan, Replay, IsCheckpoint, IsOnWay, IsRoundsAfter, IsOfOwn, StandsAs, AreRoundsFound, IsAlike, MayRecur, IsFolding, with_state}
use Rattle.std.proofs.Common.{IfSome}
use Rattle.stab_recording.proofs.CutLemmas.{ones-take}
use Rattle.stab_recording.proofs.FoldedOverLemmas.{near-at}
use Rattle.stab_recording.proofs.FrameStartLemmas.{frame-again}
use Rattle.stab_recording.proofs.CursorPositionLemmas.{at-number}
use Rattle.stab_recording.proofs.PropagatedWayLemmas.{cursor-set}
use Rattle.stab_recording.proofs.MeetingLemmas.{looked-last}
use Rattle.stab_recording.proofs.ReplayLemmas.{coins-cut}
use Rattle.stab_recording.proofs.RunCheckpointLemmas.{agrees-own, checkpoint-before, lengths-within}

pub own-checkpoints : (n : ℕ) (coins : ℕ → Bool) (begin : ℕ) (p : Plan) (ys : List Step) (checkpoints : List Checkpoint) (old : List Bool) (next : ℕ) (r : Replay)
    → IsOnWay n coins begin p ys checkpoints old next r → All (IsOfOwn r.tableau.qubits (output_of r.outputs)) r.saved.items
own-checkpoints n coins begin p ys checkpoints old next r way = λ k d lt.
    let at = way.stop.replay.at_step in
    let c = get_or r.saved.items k d in
    let here = slice_get-get_or r.saved.items k d lt in
    let is = at-number (IsCheckpoint n coins ys) r.saved.items k c here way.stop.replay.checkpoints in
    let le = near-at p.stride begin r.step k r.saved.items c way.stop.replay.near here in
    let shorter = lengths-within n coins (take r.step ys) (output_of r.outputs) c (checkpoint-before n coins ys r.step c is le at.within) at.run.output in
    record { qubits = is.qubits ∙ sym at.qubits; free = shorter.0; records = shorter.1 }

-- where it stands so, its run was as it is now

stands-alike : (n : ℕ) (coins : ℕ → Bool) (begin : ℕ) (p : Plan) (ys : List Step) (checkpoints : List Checkpoint) (old : List Bool) (next : ℕ) (block : Repeat) (end : ℕ) (r : Replay)
    → MayRecur n coins begin p ys checkpoints old next block end r → (c : Checkpoint) → IsCheckpoint n coins ys c → IsRoundsAfter block r.step c → (frame : Option PropagationState)
    → StandsAs r frame c → IsAlike n coins ys r frame c
stands-alike n coins begin p ys checkpoints old next block end r may c checkpoint following None again =
    let at = may.way.stop.replay.at_step in
    record {
      fixed = again.fixed;
      agree =
          agrees-own n coins ys r.step c r.tableau (output_of r.outputs) r.pivots.window checkpoint (let lt = following.before in omega (arith, lt)) at.within at.run again.same
          (λ k le. sym (looked-last r.pivots.window k r.outputs.records.items (take c.lengths.records r.outputs.records.items) again.records le));
    }
stands-alike n coins begin p ys checkpoints old next block end r may c checkpoint following (Some w) frame =
    let at = may.way.stop.replay.at_step in
    record {
      base = length r.outputs.records.items - frame.compared;
      differs =
          frame-again n coins ys r.step c r.tableau (output_of r.outputs) r.pivots.window w at.qubits checkpoint (let lt = following.before in omega (arith, lt)) at.within at.run may.fits frame;
      size = frame.size ∙ at.qubits;
      coin = frame.coin;
      placed = frame.placed;
      left = at.left;
    }

pub folding-begins : (n : ℕ) (coins : ℕ → Bool) (begin : ℕ) (p : Plan) (ys : List Step) (checkpoints : List Checkpoint) (old : List Bool) (next : ℕ) (block : Repeat) (end : ℕ) (r : Replay) (e : Recurrence)
    → MayRecur n coins begin p ys checkpoints old next block end r → AreRoundsFound block r e → IsFolding n coins begin p ys checkpoints old next block end false r e
folding-begins n coins begin p ys checkpoints old next block end r e may found =
    let stop = may.way.stop in
    let at = stop.replay.at_step in
    record {
      may = subst (MayRecur n coins begin p ys checkpoints old next block end) (sym (cursor-set ys (with_state false r) r.cursor at.all at.left)) may;
      checkpoint = found.checkpoint;
      here = found.here;
      following = found.following;
      alike =
          stands-alike n coins begin p ys checkpoints old next block end r may found.checkpoint (at-number (IsCheckpoint n coins ys) r.saved.items e.number found.checkpoint found.here stop.replay.checkpoints)
          found.following e.frame found.stands;
    }

pub folding-named : {m n : ℕ} {others coins : ℕ → Bool} {zs ys : List Step} (begin : ℕ) (p : Plan) (checkpoints : List Checkpoint) (old : List Bool) (next : ℕ) (block : Repeat) (end : ℕ) (passed : Bool)
    (r : Replay) (e : Recurrence) → m ≡ n → others ≡ coins → zs ≡ ys → IsFolding m others begin p zs checkpoints old next block end passed r e
    → IsFolding n coins begin p ys checkpoints old next block end passed r e
folding-named begin p checkpoints old next block end passed r e qubits coins all =
    subst (λ x. x) (λ i. IsFolding (qubits i) (coins i) begin p (all i) checkpoints old next block end passed r e)

pub position-known : (P : ℕ → Type 0) (o : Option Checkpoint) (position : Checkpoint → ℕ) (q : Option ℕ) → q ≡ option_map position o → IfSome q P → IfSome o (λ c. P (position c))
position-known P None position q is h = tt
position-known P (Some c) position q is h = subst (λ r. IfSome r P) is h

-- after a later step there are no more coins
pub coins-following : (i j : ℕ) (ys : List Step) → i ≤ j → all_coins_of (drop j ys) ≤ all_coins_of (drop i ys)
coins-following i j ys le = omega (arith, coins-cut i j ys (drop i ys) le refl)

-- pivots are stored of all random outcomes up to the second checkpoint
pub preserved-before : (number c m d few : ℕ) (free : List Bool) → number ≡ ones (take c free) → d ≡ c + m → number + ones (drop c (take d free)) ≤ few → ones (take (c + m) free) ≤ few
preserved-before number c m d few free is last le =
    omega (arith, is, le, ap (λ k. ones (take k free)) last, ones-take c (take d free), ap ones (take-take c d free (omega (arith, last))))

-- as many outcomes are random again
pub ones-given : (c m d : ℕ) (free : List Bool) → d ≡ c + m → ones (take m (drop c free)) ≡ ones (drop c (take d free))
ones-given c m d free last = ap ones (sym (drop-take c m free)) ∙ ap (λ k. ones (drop c (take k free))) (sym last)

-- the same number of qubits and the same steps, by a replay's own names and by others

pub way-own : (n : ℕ) (coins : ℕ → Bool) (begin : ℕ) (p : Plan) (ys : List Step) (checkpoints : List Checkpoint) (old : List Bool) (next : ℕ) (r : Replay)
    → IsOnWay n coins begin p ys checkpoints old next r → IsOnWay r.tableau.qubits coins begin p r.cursor.all checkpoints old next r
way-own n coins begin p ys checkpoints old next r way =
    let at = way.stop.replay.at_step in
    subst (λ x. x) (λ i. IsOnWay (sym at.qubits i) coins begin p (sym at.all i) checkpoints old next r) way

pub way-named : (m n : ℕ) (coins : ℕ → Bool) (begin : ℕ) (p : Plan) (zs ys : List Step) (checkpoints : List Checkpoint) (old : List Bool) (next : ℕ) (r : Replay) → m ≡ n → zs ≡ ys
    → IsOnWay m coins begin p zs checkpoints old next r → IsOnWay n coins begin p ys checkpoints old next r
way-named m n coins begin p zs ys checkpoints old next r qubits all = subst (λ x. x) (λ i. IsOnWay (qubits i) coins begin p (all i) checkpoints old next r)
