-- Readers: what is known of the bytes that a job reads.
-- Source: this project's own.
use Rattle.std.specs.Prelude.{ℕ, List, [], Option, Some, None}
use Rattle.stabsim.specs.declared.files.Reader.{Reader}
use Rattle.stabsim.specs.declared.files.Reader.TheVariants.{File, Standard, Nothing}

-- of nothing no bytes are left, and of a file or a stream it is not known which
abbrev pub bytes_left : Reader → Option (List ℕ)
bytes_left (File file error) = None
bytes_left (Standard stdin) = None
bytes_left Nothing = Some []
