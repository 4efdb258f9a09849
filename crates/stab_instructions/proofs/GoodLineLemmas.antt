-- What is known of a line that is not refused.
use Rattle.stab_instructions.proofs.Names.{◌≡◌, ℕ, ◌-◌, List, length, Bool, Ok, before_first, position_or_len, prefix_len, suffix_len, Line, is_byte, is_spacing, trimmed, trimmed_front, content_of, meaning_of, IsLine}
use Rattle.stab_instructions.proofs.LackLemmas.{Lacks, lacks_take, lacks_drop, lacks_before, lacks_any}
use Rattle.stab_instructions.proofs.SureLemmas.{IsGoodLine, sure_of, meaning_sure}

-- what is left of a line has its bytes alone, and no comment
trimmed_lacks : (p : ℕ → Bool) (bs : List ℕ) → Lacks p bs → Lacks p (trimmed bs)
trimmed_lacks p bs f =
    let front : Lacks p (trimmed_front bs) = lacks_drop p (prefix_len is_spacing bs) bs f in lacks_take p (length (trimmed_front bs) - suffix_len is_spacing (trimmed_front bs)) (trimmed_front bs) front

content_lacks : (line' : List ℕ) → Lacks (is_byte 10) line' → Lacks (is_byte 10) (content_of line') × Lacks (is_byte 35) (content_of line')
unfolding content_of
content_lacks line' f =
    let before = before_first (is_byte 35) line' in (
      trimmed_lacks (is_byte 10) before (lacks_take (is_byte 10) (position_or_len (is_byte 35) line') line' f),
      trimmed_lacks (is_byte 35) before (lacks_before (is_byte 35) line'),
    )

-- what is known of all that a line means
pub line_good : (line : List ℕ) (m : Line) → IsLine line → meaning_of (content_of line) ≡ Ok m → IsGoodLine m
line_good line m one e =
    let lacks = content_lacks line (lacks_any (is_byte 10) line one) in
    sure_of IsGoodLine (meaning_of (content_of line)) m (meaning_sure (content_of line) lacks.0 lacks.1) e
