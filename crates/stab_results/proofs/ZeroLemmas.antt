-- Bits that are 0, and how the positions of 1 bits go past them.
use Rattle.std.proofs.Common.{◌≡◌, ◌<◌, ◌≤◌, ◌+◌, ◌-◌, ◌++◌, ℕ, suc, Bool, true, false, not, ◌||◌, List, [], ◌∷◌, length, take, drop, replicate, get_or, arith, refl, sym, ap, ◌∙◌}
use Rattle.std.proofs.Math.Seq.{drop-cons}
use Rattle.std.proofs.lemmas.List.{take-append-drop, drop-drop, drop_all, length-drop, length-take-le}
use Rattle.stab_results.specs.Formats.{one_positions, one_positions_from, b8_bytes}
use Rattle.stab_results.proofs.OneLemmas.{no_one}

-- a 0 is gone past
pub past_zero : (bits : List Bool) (position : ℕ) → position < length bits → get_or bits position false ≡ false →
    one_positions_from position (drop position bits) ≡ one_positions_from (position + 1) (drop (position + 1) bits)
past_zero bits position within zero =
    let after : suc position ≡ position + 1 = omega arith in
    ap (one_positions_from position) (drop-cons bits position false within)
    ∙ ap (λ b. one_positions_from position (b ∷ drop (suc position) bits)) zero
    ∙ ap (λ n. one_positions_from (position + 1) (drop n bits)) after

-- bits without a 1 have none wherever they begin, and are zeros
pub none_from : (start other : ℕ) (bits : List Bool) → one_positions_from start bits ≡ [] → one_positions_from other bits ≡ []
none_from start other [] none = refl
none_from start other (true ∷ bits) none = absurd (cc)
none_from start other (false ∷ bits) none = none_from (start + 1) (other + 1) bits none

pub are_replicated : (start : ℕ) (bits : List Bool) → one_positions_from start bits ≡ [] → bits ≡ replicate (length bits) false
are_replicated start [] none = refl
are_replicated start (true ∷ bits) none = absurd (cc)
are_replicated start (false ∷ bits) none = ap (λ l. false ∷ l) (are_replicated (start + 1) bits none)

-- a block without a 1 is gone past
pub past_block : (bits rest block : List Bool) (position size : ℕ) → rest ≡ drop position bits → block ≡ take size rest → size ≤ length bits - position →
    one_positions block ≡ [] → one_positions_from (position + size) (drop (position + size) bits) ≡ one_positions_from position (drop position bits)
past_block bits rest block position size after front within none =
    let long : length block ≡ size = ap length front ∙ length-take-le size rest (omega (arith, ap length after, length-drop position bits)) in
    let cut : drop position bits ≡ block ++ drop size rest = sym after ∙ sym (take-append-drop size rest) ∙ ap (λ l. l ++ drop size rest) (sym front) in
    let following : drop size rest ≡ drop (position + size) bits = ap (drop size) after ∙ drop-drop size position bits ∙ ap (λ n. drop n bits) (omega arith) in
    sym (ap (one_positions_from position) cut
    ∙ no_one position block (drop size rest) (none_from 0 position block none)
    ∙ ap (λ n. one_positions_from (position + n) (drop size rest)) long
    ∙ ap (one_positions_from (position + size)) following)

-- if none of some bits and the next is 1, the search for positions goes on after it
pub goes_past : (bits : List Bool) (any : Bool) (position : ℕ) → position < length bits →
    (any ≡ false → one_positions bits ≡ one_positions_from position (drop position bits)) → (any || get_or bits position false) ≡ false →
    one_positions bits ≡ one_positions_from (position + 1) (drop (position + 1) bits)
goes_past bits true position within before none = absurd (cc)
goes_past bits false position within before none = before refl ∙ past_zero bits position within none

-- with no bit left there is no 1
pub none_left : (bits : List Bool) (any : Bool) (position : ℕ) → length bits ≤ position →
    (any ≡ false → one_positions bits ≡ one_positions_from position (drop position bits)) → not any ≡ true → one_positions bits ≡ []
none_left bits true position past before none = absurd (cc)
none_left bits false position past before none = before refl ∙ ap (one_positions_from position) (drop_all position bits past)

-- a block of 64 bits without a 1 is eight bytes 0 in b8
pub zero_bytes : (bits : List Bool) → length bits ≡ 64 → one_positions bits ≡ [] → b8_bytes bits ≡ replicate 8 0
zero_bytes bits long none = ap b8_bytes (are_replicated 0 bits none ∙ ap (λ n. replicate n false) long)
