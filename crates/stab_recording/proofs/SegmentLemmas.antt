-- Equal groups: letters that map one of two equal groups to a third map the other to it too.
use Rattle.stab_recording.proofs.Names.{ℕ, sym, ◌∙◌, Bool, List, Letter, Signed, with_sign, strings_anticommute, SameGroup, IsConjugated}

-- letters that map one of two equal groups to a third map the other to it
pub conjugated-from : (n : ℕ) (g : List Letter) (u v w : Signed → Bool) → SameGroup n u v → IsConjugated n g v w → IsConjugated n g u w
conjugated-from n g u v w same conjugated p size = conjugated p size ∙ sym (same (with_sign (strings_anticommute g p.letters) p) size)
