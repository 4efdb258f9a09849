use Rattle.std.proofs.Common.{◌≡◌, length, take}
use Rattle.std.specs.List.{flat_map}
use Rattle.stab_results.specs.Formats.{digit}
use Rattle.stab_results.proofs.byte_buffer.ByteBuffer.put_digits.Given as goal

abbrev pub invariant-loop-position : goal.invariant-loop-position
invariant-loop-position g l = record {
  room : length l.digits ≡ 64;
  same : take l.position l.digits ≡ flat_map digit (take l.position l.bits);
}
