-- Frames: how a point of one run differs from a point of another, by a Pauli string and by flipped records.
-- Source: the Pauli frames of C. Gidney, Stim: a fast stabilizer circuit simulator (2021). It differs in that both runs take
-- numbered coins, so that a frame is exact.
use Rattle.std.specs.Prelude.{◌≡◌, ℕ, Bool, true, false, List, length, replicate}
use Rattle.stab_gates.specs.declared.letter.Letter.{Letter}
use Rattle.stab_gates.specs.declared.letter.Letter.TheVariants.{I}
use Rattle.stab_pauli.specs.Paulis.{Signed, string_product}
use Rattle.stab_tableau.specs.Traces.{member}
use Rattle.stab_tableau.specs.Conjugations.{IsConjugated}
use Rattle.stab_run.specs.Points.{Point}
use Rattle.stab_frames.specs.Flips.{flipped}

-- letters with the sign +
abbrev pub plus : List Letter → Signed
plus letters = record { negative = false; letters = letters }

-- a Pauli string, whose sign is irrelevant, and a bit for each record so far, 1 if it is flipped
pub record Frame : Type 0 where
  pub letters : List Letter
  pub flips : List Bool

-- the point b differs from a by the frame: in the signs of the stabilisers that anticommute with it, and in the flipped records
pub record PointsDifferBy (n : ℕ) (f : Frame) (a b : Point) : Type 0 where
  pub size : length f.letters ≡ n
  pub group : IsConjugated n f.letters (member a.trace) (member b.trace)
  pub coin : b.coin ≡ a.coin
  pub count : length f.flips ≡ length a.records
  pub records : b.records ≡ flipped a.records f.flips

-- a string, and this many records, none of them flipped
abbrev pub frame_of : List Letter → ℕ → Frame
frame_of letters count = record { letters = letters; flips = replicate count false }

-- the frame between a point and itself
abbrev pub identity_frame : ℕ → ℕ → Frame
identity_frame n count = frame_of (replicate n I) count

-- two frames, one after the other
abbrev pub frame_product : Frame → Frame → Frame
frame_product f g = record { letters = string_product f.letters g.letters; flips = flipped f.flips g.flips }

-- letters times others, if the bit is 1
abbrev pub times_where : Bool → List Letter → List Letter → List Letter
times_where true more letters = string_product letters more
times_where false more letters = letters
