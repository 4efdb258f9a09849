-- What an input gave when its text was read, whole or not.
use Rattle.stab_circuit.proofs.Names.{◌≡◌, ◌≤◌, ◌<◌, ℕ, ◌+◌, ◌-◌, List, ◌++◌, length, take, Result, Ok, Err, arith, inr, Vec, IsErrAnd, Refusal, OutOfMemory, InputView, Gave, gave_more, GaveTooMuch, GaveFront, ReadsText}
use Rattle.std.proofs.Common.{length-append, length-take}

-- a read that goes past the limit
pub read_past : {a b c : InputView} (held buf : List ℕ) (n : ℕ) → length held ≤ 16777216 → length buf ≡ 4096 → n ≤ length buf → 16777216 - length held < n
    → Gave a b held → Gave b c (take n buf) → GaveTooMuch a c
read_past held buf n small size fits past p q = record {
  front = held ++ take n buf;
  over = omega (arith, long, past);
  barely = omega (arith, long, small, fits, size);
  gave = gave_more held (take n buf) p q;
}
  where
    long : length (held ++ take n buf) ≡ length held + n
    long = omega (arith, length-append held (take n buf), length-take n buf, fits)

-- a read within the limit, after which memory was refused
pub read_within : {a b c : InputView} (held buf : List ℕ) (n : ℕ) → length held ≤ 16777216 → n ≤ length buf → n ≤ 16777216 - length held
    → Gave a b held → Gave b c (take n buf) → GaveFront a c
read_within held buf n small fits room p q = record {
  front = held ++ take n buf;
  within = omega (arith, length-append held (take n buf), length-take n buf, fits, small, room);
  gave = gave_more held (take n buf) p q;
}

-- memory was refused for a text's front
pub front_refused : {a b : InputView} (r : Result (Vec ℕ) Refusal) → IsErrAnd r (λ x. x ≡ OutOfMemory) → GaveFront a b → ReadsText a b r
front_refused (Ok text) is g = absurd is
front_refused (Err x) is g = inr (inr (is, g))
