-- Replies: what contracts see of a reply while it is gathered.
-- Source: this project's own.
use Rattle.std.specs.Prelude.{ℕ, true, List, []}
use Rattle.stab_io.specs.Devices.{OutputView}

-- the bytes so far, and how many flushes and failed calls there were
pub record ReplyBytes : Type 0 where
  pub written : List ℕ
  pub flushes : ℕ
  pub failures : ℕ

-- no bytes yet
abbrev pub no_reply : ReplyBytes
no_reply = record { written = []; flushes = 0; failures = 0 }

-- a reply as the output that it is
abbrev pub reply_output : ReplyBytes → OutputView
reply_output r = record { honest = true; written = r.written; flushes = r.flushes; failures = r.failures }
