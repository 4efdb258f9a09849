use Rattle.stab_session.proofs.Names.{◌≡◌, ℕ, ◌^◌, Bool, length, take, drop, Point, outputs, lengths_of, longer, AreBelow}
use Rattle.stab_session.proofs.counting.lengths_after.Given as goal

abbrev pub invariant-loop-left : goal.invariant-loop-left
invariant-loop-left l = record {
  all : l.cursor.all ≡ l.initial.cursor.all;
  left : drop l.left l.cursor.left ≡ drop l.most l.initial.cursor.left;
  few : AreBelow (2 ^ 63) (length l.cursor.left) l.lengths;
  value : (n : ℕ) (coins : ℕ → Bool) (a : Point)
      → longer l.lengths (lengths_of (outputs n coins (take l.left l.cursor.left) a)) ≡ longer l.fn.before (lengths_of (outputs n coins (take l.most l.initial.cursor.left) a));
}

abbrev pub decreases-loop-left : goal.decreases-loop-left
decreases-loop-left l = l.left
