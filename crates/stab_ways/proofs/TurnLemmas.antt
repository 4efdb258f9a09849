-- Turns: what is listed of a string is the string there.
use Rattle.stab_ways.proofs.Names.{◌≡◌, ℕ, ◌+◌, ◌-◌, ◌<◌, ◌≤◌, refl, sym, ◌∙◌, ap, Bool, true, false, List, [], ◌∷◌, ◌++◌, length, take, drop, All, All-nil, All-cons, All-append, nat_le, arith, take-add, take-append_seam, drop-append_seam, drop-drop, drop-take, drop_all, leb-true, leb-false, if◌then◌else◌, Letter, Items, unroll, Step, Frame, way_over, frame_begun, string_after, Part, rest_of_instruction, carried_parts, parts_after, placed, listed_string, differ, turns, string_turns}
use Rattle.stab_ways.specs.Laws.{IsStringThere}
use Rattle.stab_ways.proofs.FixedLemmas.{way-more}
use Rattle.stab_ways.proofs.WalkedLemmas.{steps_in, drop-into, drop-past}
use Rattle.stab_ways.proofs.ItemLemmas.{steps-unrolled}

-- what comes after k steps has the steps after them
rest-steps : (k : ℕ) (parts : List Part) → steps_in (parts_after k parts) ≡ drop k (steps_in parts)
rest-steps k [] = sym (drop_all k [] (omega arith))
rest-steps k (q ∷ parts) = by_position (nat_le k (length q.steps)) refl (rest-steps (k - length q.steps) parts)
  where
    by_position : (b : Bool) → nat_le k (length q.steps) ≡ b → steps_in (parts_after (k - length q.steps) parts) ≡ drop (k - length q.steps) (steps_in parts)
        → steps_in (if nat_le k (length q.steps) then rest_of_instruction k q ∷ parts else parts_after (k - length q.steps) parts) ≡ drop k (q.steps ++ steps_in parts)
    by_position true e later =
        ap (λ (b : Bool). steps_in (if b then rest_of_instruction k q ∷ parts else parts_after (k - length q.steps) parts)) e
        ∙ sym (drop-into k q.steps (steps_in parts) (leb-true k (length q.steps) e))
    by_position false e later =
        let less : length q.steps < k = leb-false k (length q.steps) e in
        ap (λ (b : Bool). steps_in (if b then rest_of_instruction k q ∷ parts else parts_after (k - length q.steps) parts)) e
        ∙ later
        ∙ sym (drop-past k q.steps (steps_in parts) (omega (arith, less)))

-- after some steps the string is the one there, if it is listed

module _ (n k : ℕ) (string : List Letter) (xs : List Step) where
  one-there : (t : ℕ) (letters : List Letter) → k ≤ t → letters ≡ string_after n k string xs t → IsStringThere n k string xs (record { after = t; string = placed 0 letters })
  one-there t letters le is = record { from = le; is = ap (placed 0) is }

  if-there : (b : Bool) (t : ℕ) (letters : List Letter) → k ≤ t → letters ≡ string_after n k string xs t
      → All (IsStringThere n k string xs) (if b then record { after = t; string = placed 0 letters } ∷ [] else [])
  if-there true t letters le is = All-cons (IsStringThere n k string xs) (record { after = t; string = placed 0 letters }) [] (one-there t letters le is) (All-nil (IsStringThere n k string xs))
  if-there false t letters le is = All-nil (IsStringThere n k string xs)

  listed-there : (every tick : Bool) (t : ℕ) (old new : List Letter) → k ≤ t → new ≡ string_after n k string xs t → All (IsStringThere n k string xs) (listed_string every tick t old new)
  listed-there true tick t old new le is = if-there tick t new le is
  listed-there false tick t old new le is = if-there (differ old new) t new le is

  -- the frame after j steps from there
  abbrev frame_then : ℕ → Frame
  frame_then j = way_over n (take j (drop k xs)) (frame_begun k string xs)

  there : (j t : ℕ) → t ≡ k + j → (frame_then j).letters ≡ string_after n k string xs t
  there j t sum = ap (λ ys. (way_over n ys (frame_begun k string xs)).letters) (sym (ap (λ m. drop k (take m xs)) sum ∙ drop-take k j xs))

  frame-next : (j : ℕ) (ys more : List Step) (f : Frame) → drop j (drop k xs) ≡ ys ++ more → f ≡ frame_then j → way_over n ys f ≡ frame_then (j + length ys)
  frame-next j ys more f e is =
      ap (way_over n ys) is
      ∙ sym (way-more n (take j (drop k xs)) ys (frame_begun k string xs))
      ∙ ap (λ zs. way_over n (take j (drop k xs) ++ zs) (frame_begun k string xs)) (sym (ap (take (length ys)) e ∙ take-append_seam ys more))
      ∙ ap (λ zs. way_over n zs (frame_begun k string xs)) (sym (take-add j (length ys) (drop k xs)))

  all-there : (every : Bool) (parts : List Part) (j t : ℕ) (f : Frame) → t ≡ k + j → drop j (drop k xs) ≡ steps_in parts → f ≡ frame_then j
      → All (IsStringThere n k string xs) (turns every n t f parts)
  all-there every [] j t f sum e is = All-nil (IsStringThere n k string xs)
  all-there every (q ∷ parts) j t f sum e is =
      let ys = q.steps in
      let next : way_over n ys f ≡ frame_then (j + length ys) = frame-next j ys (steps_in parts) f e is in
      let further : t + length ys ≡ k + (j + length ys) = omega (arith, sum) in
      let rest : drop (j + length ys) (drop k xs) ≡ steps_in parts =
      sym (drop-drop (length ys) j (drop k xs)) ∙ ap (drop (length ys)) e ∙ drop-append_seam ys (steps_in parts) in
      All-append (IsStringThere n k string xs) (listed_string every q.tick (t + length ys) f.letters (way_over n ys f).letters) (turns every n (t + length ys) (way_over n ys f) parts)
      (listed-there every q.tick (t + length ys) f.letters (way_over n ys f).letters (omega (arith, sum))
      (ap (λ (g : Frame). g.letters) next ∙ there (j + length ys) (t + length ys) further))
      (all-there every parts (j + length ys) (t + length ys) (way_over n ys f) further rest next)

pub turns-there : (every : Bool) (n k : ℕ) (string : List Letter) (items : Items) → All (IsStringThere n k string (unroll items)) (string_turns every n k string items)
turns-there every n k string items =
    let none : k ≡ k + 0 = omega arith in
    all-there n k string (unroll items) every (parts_after k (carried_parts items)) 0 k (frame_begun k string (unroll items)) none
    (sym (rest-steps k (carried_parts items) ∙ ap (drop k) (steps-unrolled items))) refl
