use Rattle.std.proofs.Common.{length, ◌-◌, ◌≡◌, ◌≤◌, ◌++◌, drop}
use Rattle.stab_script.specs.inner.ErrorNumbers.{letters_numbered}
use Rattle.stab_script.proofs.each.letters_of.Given as goal

abbrev pub invariant-numbers : goal.invariant-numbers
invariant-numbers l = record {
  within : l.k ≤ length l.numbers;
  rest : l.letters.items ++ letters_numbered l.first (drop l.k l.numbers) ≡ letters_numbered l.first l.numbers;
}

abbrev pub decreases-numbers : goal.decreases-numbers
decreases-numbers l = length l.numbers - l.k
