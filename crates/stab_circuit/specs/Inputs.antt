-- Inputs: what a call that reads a whole text leaves of the input.
-- Source: this project's own.
use Rattle.std.specs.Prelude.{◌≡◌, ◌<◌, ◌≤◌, ℕ, ◌+◌, List, length, ◌⊎◌, Result, Ok, Err}
use Rattle.std.specs.Global.{Vec}
use Rattle.stab_io.specs.declared.refusal.Refusal.{Refusal}
use Rattle.stab_io.specs.declared.refusal.Refusal.TheVariants.{ReadFault, TooLong, OutOfMemory}
use Rattle.stab_io.specs.declared.refusal.Fault.{Fault}
use Rattle.stab_io.specs.Refusals.{whole}
use Rattle.stab_io.specs.Devices.{InputView, Gave, GaveAndFailed, GaveAll}
use Rattle.stab_items.specs.Circuits.{most_bytes}

-- the most bytes that are asked for at once
abbrev pub most_read : ℕ
most_read = 4096

-- the input gave this text and has no more, and the text is within its limit
pub record GaveText (old new : InputView) (text : List ℕ) : Type 0 where
  pub within : length text ≤ most_bytes
  pub gave : GaveAll old new text

-- the input gave the front of a text over its limit, and at most one read of what is after the limit
pub record GaveTooMuch (old new : InputView) : Type 0 where
  pub front : List ℕ
  pub over : most_bytes < length front
  pub barely : length front ≤ most_bytes + most_read
  pub gave : Gave old new front

-- the input gave a front within the limit, and then failed
pub record GaveAndBroke (old new : InputView) : Type 0 where
  pub front : List ℕ
  pub within : length front ≤ most_bytes
  pub gave : GaveAndFailed old new front

-- the input gave a front within the limit
pub record GaveFront (old new : InputView) : Type 0 where
  pub front : List ℕ
  pub within : length front ≤ most_bytes
  pub gave : Gave old new front

-- why a text was not read whole: it is too long, or the input failed, or the answer is 20
abbrev pub IsUnread : InputView → InputView → Refusal → Type 0
IsUnread old new r = ((r ≡ TooLong) × GaveTooMuch old new) ⊎ ((r ≡ ReadFault) × GaveAndBroke old new) ⊎ ((r ≡ OutOfMemory) × GaveFront old new)

-- the call read the input's whole text, or refused it unread
abbrev pub ReadsText : InputView → InputView → Result (Vec ℕ) Refusal → Type 0
ReadsText old new (Ok text) = GaveText old new text.items
ReadsText old new (Err r) = IsUnread old new r

-- a text was refused: it was read whole and has this fault of its own, or it was not read whole
abbrev pub RefusesText : (List ℕ → Fault → Type 0) → InputView → InputView → Fault → Type 0
RefusesText own old new f = ((text : List ℕ) × GaveText old new text × own text f) ⊎ ((f ≡ whole f.refusal) × IsUnread old new f.refusal)
