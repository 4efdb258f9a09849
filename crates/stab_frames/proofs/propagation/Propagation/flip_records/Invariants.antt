use Rattle.stab_frames.proofs.Names.{◌≡◌, ◌++◌, take, flipped}
use Rattle.stab_frames.proofs.propagation.Propagation.flip_records.Given as goal

abbrev pub invariant-loop-position : goal.invariant-loop-position
invariant-loop-position l =
    l.self ≡ record l.initial.self {
      flips = record l.initial.self.flips { records = l.initial.self.flips.records ++ flipped (take l.position l.records) (take l.position l.others) };
    }
