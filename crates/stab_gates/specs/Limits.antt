-- Limits: how many qubits a state has at most.
-- Source: this project's own.
use Rattle.std.specs.Prelude.{ℕ}

-- the greatest number of qubits
abbrev pub most_qubits : ℕ
most_qubits = 1024
