use Rattle.stab_search.proofs.Names.{◌≡◌, ℕ, ◌<◌, false, row, odd_members}
use Rattle.stab_search.proofs.certificate.are_even.Given as goal

abbrev pub invariant-rows : goal.invariant-rows
invariant-rows l = (q : ℕ) → q < l.r → odd_members l.members (row l.rows q) ≡ false
