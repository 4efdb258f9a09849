-- Counted answers: what a call gives that gathers the text of a counted reply.
-- Source: this project's own.
use Rattle.std.specs.Prelude.{◌≡◌, ℕ, List, ◌⊎◌, Result, Ok, Err}
use Rattle.stab_io.specs.declared.refusal.Refusal.{Refusal}
use Rattle.stab_io.specs.declared.refusal.Refusal.TheVariants.{OutOfMemory}
use Rattle.stab_script.specs.Replies.{ReplyBytes}

-- the call gave a reply of the text, or was refused as it is, or for lack of memory
abbrev pub GivesText : Result ReplyBytes Refusal → Result (List ℕ) Refusal → Type 0
GivesText (Ok reply) given = given ≡ Ok reply.written
GivesText (Err r) given = (r ≡ OutOfMemory) ⊎ (given ≡ Err r)
