-- Saved checkpoints: how checkpoints of the state are put after others, and how they move with a run.
-- Source: this project's own.
use Rattle.std.specs.Prelude.{ℕ, ◌+◌, ◌-◌, ◌^◌, min, nat_le, List, [], ◌∷◌, if◌then◌else◌}
use Rattle.stab_run.specs.declared.records.Lengths.{Lengths}
use Rattle.stab_recording.specs.declared.checkpoint.Checkpoint.{Checkpoint}
use Rattle.stab_recording.specs.declared.checkpoint.Meeting.{Meeting}

-- a checkpoint put after others: it replaces the last if it is at most K steps from the one before that
abbrev pub saved : ℕ → Checkpoint → List Checkpoint → List Checkpoint
saved K c [] = c ∷ []
saved K c (a ∷ []) = a ∷ c ∷ []
saved K c (a ∷ b ∷ []) = if nat_le (c.step - a.step) K then a ∷ c ∷ [] else a ∷ b ∷ c ∷ []
saved K c (a ∷ b ∷ d ∷ more) = a ∷ saved K c (b ∷ d ∷ more)

-- checkpoints put after others, one after another
abbrev pub all_saved : ℕ → List Checkpoint → List Checkpoint → List Checkpoint
all_saved K [] xs = xs
all_saved K (c ∷ more) xs = all_saved K more (saved K c xs)

-- a step or a length that moves with another after which it is, as far as 64 bits can count
abbrev pub moved : ℕ → ℕ → ℕ → ℕ
moved old new x = min (new + (x - old)) (2 ^ 64 - 1)

-- lengths that move with others
abbrev pub moved_lengths : Lengths → Lengths → Lengths → Lengths
moved_lengths old new l = record {
  records = moved old.records new.records l.records;
  free = moved old.free new.free l.free;
  detectors = moved old.detectors new.detectors l.detectors;
  additions = moved old.additions new.additions l.additions;
}

-- a checkpoint that moves with the one at a meeting
abbrev pub moved_checkpoint : Meeting → Checkpoint → Checkpoint
moved_checkpoint s c = record {
  step = moved s.old_step s.new_step c.step;
  lengths = moved_lengths s.old_lengths s.new_lengths c.lengths;
  tableau = c.tableau;
}
