-- Checkpoints of a run: they are checkpoints of a front of it, and their lists are no longer than its own.
use Rattle.stab_recording.proofs.Names.{◌≡◌, ℕ, ◌≤◌, refl, sym, ◌∙◌, ap, subst, Bool, List, length, take, drop, arith, length-append, length-take, take-take, member, SameGroup, TableauState, stabilises, Step, Lengths, RunOutput, origin, joined, point_after, outputs, lengths_of, looked_up, program_state, AgreeBack, with_coin, cut, front-output, records-are-records, Checkpoint, IsRunFromStart, IsCheckpoint}

-- a checkpoint's lists are no longer than the run's
pub lengths-within : (n : ℕ) (coins : ℕ → Bool) (xs : List Step) (o : RunOutput) (c : Checkpoint) → IsCheckpoint n coins xs c → o ≡ outputs n coins xs origin
    → (c.lengths.free ≤ length o.free) × (c.lengths.records ≤ length o.records)
lengths-within n coins xs o c is preserved = (
  omega (arith, ap (λ (l : Lengths). l.free) is.lengths, ap (λ (q : RunOutput). length q.free) whole, length-append front.free back.free),
  omega (arith, ap (λ (l : Lengths). l.records) is.lengths, ap (λ (q : RunOutput). length q.records) whole, length-append front.records back.records),
)
  where
    front : RunOutput
    front = outputs n coins (take c.step xs) origin

    back : RunOutput
    back = outputs n coins (drop c.step xs) (point_after n coins (take c.step xs) origin)

    whole : o ≡ joined front back
    whole = preserved ∙ cut n coins xs c.step

-- a checkpoint is one of the steps up to a later one
pub checkpoint-before : (n : ℕ) (coins : ℕ → Bool) (ys : List Step) (k : ℕ) (c : Checkpoint) → IsCheckpoint n coins ys c → c.step ≤ k → k ≤ length ys → IsCheckpoint n coins (take k ys) c
checkpoint-before n coins ys k c is le within = record {
  within = omega (arith, length-take k ys, le, within);
  qubits = is.qubits;
  group = subst (λ zs. SameGroup n (stabilises c.tableau) (member (point_after n coins zs origin).trace)) (sym (take-take c.step k ys le)) is.group;
  lengths = is.lengths ∙ ap (λ zs. lengths_of (outputs n coins zs origin)) (sym (take-take c.step k ys le));
}

-- the records of a run at a checkpoint
pub records-at : (n : ℕ) (coins : ℕ → Bool) (xs : List Step) (o : RunOutput) (c : Checkpoint) → IsCheckpoint n coins xs c → o ≡ outputs n coins xs origin
    → take c.lengths.records o.records ≡ (point_after n coins (take c.step xs) origin).records
records-at n coins xs o c is preserved =
    (λ i. take (ap (λ (l : Lengths). l.records) is.lengths i) (preserved i).records)
    ∙ ap (λ (q : RunOutput). q.records) (front-output n coins xs c.step)
    ∙ records-are-records n coins (take c.step xs)

pub own-records : (n : ℕ) (coins : ℕ → Bool) (ys : List Step) (k : ℕ) (o : RunOutput) (c : Checkpoint) → IsCheckpoint n coins ys c → c.step ≤ k → k ≤ length ys
    → o ≡ outputs n coins (take k ys) origin → take c.lengths.records o.records ≡ (point_after n coins (take c.step ys) origin).records
own-records n coins ys k o c is before within preserved =
    records-at n coins (take k ys) o c (checkpoint-before n coins ys k c is before within) preserved
    ∙ ap (λ zs. (point_after n coins zs origin).records) (take-take c.step k ys before)

-- a run that has the state of a checkpoint of its own, and the same newest records, agrees with what it was there
pub agrees-own : (n : ℕ) (coins : ℕ → Bool) (ys : List Step) (k : ℕ) (c : Checkpoint) (t : TableauState) (o : RunOutput) (window : ℕ)
    → IsCheckpoint n coins ys c → c.step ≤ k → k ≤ length ys → IsRunFromStart n coins (take k ys) (program_state t o) → c.tableau ≡ t
    → ((j : ℕ) → j ≤ window → looked_up (take c.lengths.records o.records) j ≡ looked_up o.records j)
    → AgreeBack n window (with_coin (point_after n coins (take k ys) origin).coin (point_after n coins (take c.step ys) origin)) (point_after n coins (take k ys) origin)
agrees-own n coins ys k c t o window is before within run same alike = record {
  group = λ p size. sym (is.group p size) ∙ ap (λ s. stabilises s p) same ∙ run.group p size;
  coin = refl;
  records = λ j le.
      ap (λ bits. looked_up bits j) (sym (own-records n coins ys k o c is before within run.output))
      ∙ alike j le
      ∙ ap (λ bits. looked_up bits j) (ap (λ (q : RunOutput). q.records) run.output ∙ records-are-records n coins (take k ys));
}
