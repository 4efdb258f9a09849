-- Words of a command line: the end of a circuit, numbers past it, and the steps before an item.
use Rattle.stab_script.proofs.Names.{◌≡◌, sym, ap, ◌∙◌, ℕ, ◌<◌, min, Bool, true, false, List, length, Some, None, Result, Ok, Err, inr, arith}
use Rattle.std.proofs.Common.{length-take}
use Rattle.std.specs.Prelude.{nat_le, nat_eq, Option, ◌&&◌, if◌then◌else◌}
use Rattle.std.specs.Result.{IsErrAnd}
use Rattle.stab_io.specs.declared.refusal.Refusal.{Refusal}
use Rattle.stab_io.specs.declared.refusal.Refusal.TheVariants.{PlaceOutOfRange}
use Rattle.stab_items.proofs.SummaryLemmas.{few_steps}
use Rattle.stab_items.proofs.EditLemmas.{entries-listed}
use Rattle.stab_instructions.specs.Results.{◌>>=◌, Gives}
use Rattle.stab_items.specs.Items.{OneItem, listed, entries}
use Rattle.stab_items.specs.Steps.{unroll, check_of, steps_cap}
use Rattle.stab_items.specs.Paths.{Path}
use Rattle.stab_items.specs.ItemsAt.{item_at}
use Rattle.stab_items.specs.Edits.{steps_before}
use Rattle.stab_script.specs.ItemCounts.{steps_up_to}
use Rattle.stab_script.specs.Words.{is_end, steps_written, steps_in_front}

-- a path with no blocks is that of the end if its position is
pub end_of_items : (circuit items : List OneItem) (path : Path) (blocks : List ℕ) (position : ℕ) → blocks ≡ path.blocks → nat_eq (length blocks) 0 ≡ true → position ≡ path.position → items ≡ circuit
    → nat_eq position (length items) ≡ is_end path (listed circuit)
end_of_items circuit items path blocks position around none at same =
    ap (λ p. nat_eq p (length items)) at
    ∙ ap (λ (xs : List OneItem). nat_eq path.position (length xs)) (same ∙ sym (entries-listed circuit))
    ∙ ap (λ b. b && nat_eq path.position (length (entries (listed circuit)))) (sym none ∙ ap (λ (bs : List ℕ). nat_eq (length bs) 0) around)

-- the steps of a circuit that nothing refuses are counted whole
counted_steps : (circuit : List OneItem) (steps : ℕ) → check_of (listed circuit) ≡ None → steps ≡ min (length (unroll (listed circuit))) steps_cap → steps ≡ length (unroll (listed circuit))
counted_steps circuit steps checked counted = let few = few_steps (listed circuit) checked in omega (arith, few, counted)

over : (n asked : ℕ) → n < asked → nat_le asked n ≡ false
over n asked past = grind (arith, past)

-- a number past the steps
pub past_steps : (circuit : List OneItem) (steps asked : ℕ) (number : Option ℕ) → check_of (listed circuit) ≡ None → steps ≡ min (length (unroll (listed circuit))) steps_cap → steps < asked → number ≡ Some asked
    → steps_written (length (unroll (listed circuit))) number ≡ Err PlaceOutOfRange
past_steps circuit steps asked number checked counted past is =
    let all = counted_steps circuit steps checked counted in
    let n = length (unroll (listed circuit)) in
    let out : n < asked = omega (arith, all, past) in
    ap (steps_written n) is ∙ ap (λ b. if b then Ok asked else Err PlaceOutOfRange) (over n asked out)

-- what is in front of a path, if it is known whether it is that of the end
front_of : (circuit : List OneItem) (path : Option Path) (here : Path) (b : Bool) → path ≡ Some here → is_end here (listed circuit) ≡ b
    → steps_in_front (listed circuit) path ≡ (if b then Ok (length (unroll (listed circuit))) else (item_at here circuit >>= λ item. Ok (length (steps_up_to here (listed circuit)))))
front_of circuit path here b is end =
    let items = listed circuit in
    ap (steps_in_front items) is
    ∙ ap (λ e. if e then Ok (length (unroll items)) else (item_at here (entries items) >>= λ item. Ok (length (steps_up_to here items)))) end
    ∙ ap (λ (xs : List OneItem). if b then Ok (length (unroll items)) else (item_at here xs >>= λ item. Ok (length (steps_up_to here items)))) (entries-listed circuit)

-- all steps are in front of the end
pub front_of_end : (circuit : List OneItem) (path : Option Path) (here : Path) (steps : ℕ) → check_of (listed circuit) ≡ None → path ≡ Some here → is_end here (listed circuit) ≡ true
    → steps ≡ min (length (unroll (listed circuit))) steps_cap → steps_in_front (listed circuit) path ≡ Ok steps
front_of_end circuit path here steps checked is end counted = front_of circuit path here true is end ∙ ap Ok (sym (counted_steps circuit steps checked counted))

-- there is no item
pub front_of_none : (circuit : List OneItem) (path : Option Path) (here : Path) (r : Refusal) (result : Result ℕ Refusal) → path ≡ Some here → is_end here (listed circuit) ≡ false
    → item_at here circuit ≡ Err r → IsErrAnd result (λ x. x ≡ r) → Gives result (steps_in_front (listed circuit) path)
front_of_none circuit path here r (Ok n) is end found err = absurd err
front_of_none circuit path here r (Err x) is end found err =
    inr (front_of circuit path here false is end ∙ ap (λ (f : Result OneItem Refusal). f >>= λ item. Ok (length (steps_up_to here (listed circuit)))) found ∙ ap Err (sym err))

-- those before an item
pub front_of_item : (circuit : List OneItem) (path : Option Path) (here : Path) (x : OneItem) (before steps least : ℕ) → check_of (listed circuit) ≡ None → path ≡ Some here → is_end here (listed circuit) ≡ false
    → item_at here circuit ≡ Ok x → before ≡ min (length (steps_before here circuit)) steps_cap → steps ≡ min (length (unroll (listed circuit))) steps_cap → least ≡ min before steps
    → steps_in_front (listed circuit) path ≡ Ok least
front_of_item circuit path here x before steps least checked is end found at counted both =
    let items = listed circuit in
    let few = few_steps items checked in
    let n = length (steps_before here circuit) in
    let up : length (steps_up_to here items) ≡ min (length (steps_before here (entries items))) (length (unroll items)) = length-take (length (steps_before here (entries items))) (unroll items) in
    let cut : min n (length (unroll items)) ≡ least = omega (arith, few, at, counted, both) in
    front_of circuit path here false is end
    ∙ ap (λ (f : Result OneItem Refusal). f >>= λ item. Ok (length (steps_up_to here items))) found
    ∙ ap Ok (up ∙ ap (λ (xs : List OneItem). min (length (steps_before here xs)) (length (unroll items))) (entries-listed circuit) ∙ cut)
