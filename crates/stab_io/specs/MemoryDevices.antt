-- Devices in memory: what is known of each, what it shows of itself as a device, and exactly what its calls do.
-- Source: this project's own.
use Rattle.std.specs.Prelude.{◌≡◌, ℕ, ◌-◌, ◌<◌, min, Bool, true, false, ◌&&◌, nat_lt, nat_le, List, [], ◌++◌, length, take, drop, Result, MatchResult}
use Rattle.stab_io.specs.Devices.{InputView, OutputView, counted_up}

-- an input in memory, of which the unread bytes are known, as a device
abbrev pub list_input : List ℕ → InputView
list_input bytes = record { honest = true; unread = bytes; failures = 0 }

-- a read of an input in memory hands over as much as fits, and never fails
abbrev pub GivesWhatFits : {E : Type 0} → List ℕ → List ℕ → Result ℕ E → List ℕ → Type 0
GivesWhatFits old new r buf = MatchResult r
    (λ n. (n ≡ min (length buf) (length old)) × (take n buf ≡ take n old) × (new ≡ drop n old))
    (λ _. ⊥)

-- an input in memory that is cut into pieces: what is unread, the most that one read gives, the read from which on all fail (0: none), and how many reads and failures there were
pub record CutBytes : Type 0 where
  pub unread : List ℕ
  pub piece : ℕ
  pub fail_at : ℕ
  pub reads : ℕ
  pub failures : ℕ

-- a cut input as a device
abbrev pub cut_input : CutBytes → InputView
cut_input c = record { honest = true; unread = c.unread; failures = c.failures }

-- whether the next read is one of those that fail
abbrev pub fails_next : CutBytes → Bool
fails_next c = nat_lt 0 c.fail_at && nat_le c.fail_at (counted_up c.reads)

-- a read of a cut input hands over at most a piece, and fails from the given read on
abbrev pub GivesAPiece : {E : Type 0} → CutBytes → CutBytes → Result ℕ E → List ℕ → Type 0
GivesAPiece old new r buf = MatchResult r
    (λ n. (fails_next old ≡ false) × (n ≡ min (min (length buf) (length old.unread)) old.piece) × (take n buf ≡ take n old.unread)
    × (new ≡ record old { unread = drop n old.unread; reads = counted_up old.reads }))
    (λ _. (fails_next old ≡ true) × (new ≡ record old { reads = counted_up old.reads; failures = counted_up old.failures }))

-- an input without end as a device: its bytes are no list, so it is no honest one
abbrev pub endless_input : InputView
endless_input = record { honest = false; unread = []; failures = 0 }

-- an output in memory: what was written, how many bytes there is room for, whether flushes fail, and how many flushes and failed calls there were
pub record RoomyBytes : Type 0 where
  pub written : List ℕ
  pub room : ℕ
  pub flush_fails : Bool
  pub flushes : ℕ
  pub failures : ℕ

-- an output in memory as a device
abbrev pub roomy_output : RoomyBytes → OutputView
roomy_output o = record { honest = true; written = o.written; flushes = o.flushes; failures = o.failures }

-- an output in memory takes what fits, and fails if and only if there are bytes and no room is left
abbrev pub TakesWhatFits : {E : Type 0} → RoomyBytes → RoomyBytes → Result ℕ E → List ℕ → Type 0
TakesWhatFits old new r bytes = MatchResult r
    (λ n. (n ≡ min (length bytes) (old.room - length old.written)) × (new ≡ record old { written = old.written ++ take n bytes }))
    (λ _. (0 < length bytes) × (old.room ≡ length old.written) × (new ≡ record old { failures = counted_up old.failures }))

-- a flush of an output in memory fails if and only if flushes fail
abbrev pub FlushesAsSet : {T E : Type 0} → RoomyBytes → RoomyBytes → Result T E → Type 0
FlushesAsSet old new r = MatchResult r
    (λ _. (old.flush_fails ≡ false) × (new ≡ record old { flushes = counted_up old.flushes }))
    (λ _. (old.flush_fails ≡ true) × (new ≡ record old { flushes = counted_up old.flushes; failures = counted_up old.failures }))
