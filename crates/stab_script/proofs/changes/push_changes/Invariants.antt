use Rattle.stab_script.proofs.Names.{◌≡◌, ◌++◌, take, changes}
use Rattle.stab_script.proofs.changes.push_changes.Given as goal

abbrev pub invariant-indices : goal.invariant-indices
invariant-indices l = l.bits.items ≡ l.initial.bits.items ++ changes (take l.index l.old) (take l.index l.new)
