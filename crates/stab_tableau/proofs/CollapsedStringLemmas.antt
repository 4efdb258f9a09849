-- One string of a table after a measurement, by whether it was multiplied and whether its sign was flipped.
use Rattle.stab_tableau.proofs.Names.{◌≡◌, Bool, true, false, not, ◌∙◌, ap, arith, phase_of_sign, ◌⊕◌, Signed, anticommute, phased, times_phase, product_times_i, product_times_i_if, phased_product-times_phase, collapsed_row}

same_bit : (x y : Bool) → false ≡ x ⊕ y → y ≡ x
same_bit x y e = grind arith

other_bit : (x y : Bool) → true ≡ x ⊕ y → y ≡ not x
other_bit x y e = grind arith

pub collapsed-bit : (s j : Signed) (a with_w with_r : Bool) → anticommute s j ≡ a → a ≡ with_w ⊕ with_r
    → times_phase (phase_of_sign with_r) (phased (product_times_i_if a s j)) ≡ collapsed_row with_w a (phased j) (phased s)
collapsed-bit s j false with_w with_r e f = ap (λ b. times_phase (phase_of_sign b) (phased s)) (same_bit with_w with_r f)
collapsed-bit s j true with_w with_r e f =
    ap (λ b. times_phase (phase_of_sign b) (phased (product_times_i s j))) (other_bit with_w with_r f)
    ∙ ap (times_phase (phase_of_sign (not with_w))) (phased_product-times_phase s j e)
