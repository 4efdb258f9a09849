-- Devices around readers and writers of std: what they show of themselves.
-- Source: this project's own, over the bytes that std's contracts show of a reader or writer.
use Rattle.std.specs.Prelude.{ℕ, List, [], None, Some, is_some}
use Rattle.std.specs.declared.option.Option.{Option}
use Rattle.stab_io.specs.Devices.{InputView, OutputView}

-- a device around a reader or writer of std: that one, how often it was flushed, and how many of its calls failed
pub record DeviceState (T : Type 0) : Type 0 where
  pub inner : T
  pub flushes : ℕ
  pub failures : ℕ

-- the bytes that std shows of a reader or writer, if any
abbrev pub bytes_shown : Option (List ℕ) → List ℕ
bytes_shown None = []
bytes_shown (Some bytes) = bytes

-- a device as an input, which is honest if std shows the bytes that its reader will give
abbrev pub reader_seen : {T : Type 0} → (T → Option (List ℕ)) → DeviceState T → InputView
reader_seen remaining d = record { honest = is_some (remaining d.inner); unread = bytes_shown (remaining d.inner); failures = d.failures }

-- a device as an output, which is honest if std shows the bytes that its writer holds
abbrev pub writer_seen : {T : Type 0} → (T → Option (List ℕ)) → DeviceState T → OutputView
writer_seen contents d = record { honest = is_some (contents d.inner); written = bytes_shown (contents d.inner); flushes = d.flushes; failures = d.failures }
