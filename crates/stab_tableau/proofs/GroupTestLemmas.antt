-- The strings that stabilise a state are a stabiliser group.
use Rattle.stab_tableau.proofs.Names.{◌≡◌, true, false, sym, ◌∙◌, ap, length, phase_add, Phase, Zero, Quarter, Half, ThreeQuarters, Signed, minus, anticommute, Phased, phased, phased-product, phased-minus, TableauState, stabilises_zeros, stabilises, IsStabiliserGroup, string_preimage, extend, IsInverseTable}
use Rattle.stab_tableau.proofs.TestLemmas.{not-true}
use Rattle.stab_tableau.proofs.DiagonalLemmas.{diagonal-blank, diagonal-commute}
use Rattle.stab_tableau.proofs.HomomorphismLemmas.{extend-product, extend-times_phase, preserved-anticommute}
use Rattle.stab_tableau.proofs.StabiliseLemmas.{zeros-phase, zeros-letters, zeros-product}

-- the phase -1 is not 1
half-not : (t : Phase) → t ≡ Zero → phase_add Half t ≡ Zero → ⊥
half-not Zero e f = cc
half-not Quarter e f = cc
half-not Half e f = cc
half-not ThreeQuarters e f = cc

module _ (t : TableauState) (is : IsInverseTable t.qubits t.rows) where
  stabilises-commuting : (p q : Signed) → length p.letters ≡ t.qubits → length q.letters ≡ t.qubits → stabilises t p ≡ true → stabilises t q ≡ true
      → anticommute p q ≡ false
  stabilises-commuting p q lp lq mp mq =
      sym (preserved-anticommute t.qubits t.qubits (string_preimage t.qubits t.rows) is.keeps p.letters q.letters lp lq)
      ∙ diagonal-commute (string_preimage t.qubits t.rows p.letters).letters (string_preimage t.qubits t.rows q.letters).letters
      (zeros-letters (extend (string_preimage t.qubits t.rows) (phased p)) mp)
      (zeros-letters (extend (string_preimage t.qubits t.rows) (phased q)) mq)

  pub group-stabilises : IsStabiliserGroup t.qubits (stabilises t)
  group-stabilises = record {
    has_identity = ap stabilises_zeros is.keeps.unit ∙ diagonal-blank t.qubits;
    closed = λ p q lp lq mp mq.
        ap (λ a. stabilises_zeros (extend (string_preimage t.qubits t.rows) a)) (phased-product p q (stabilises-commuting p q lp lq mp mq))
        ∙ ap stabilises_zeros (extend-product t.qubits t.qubits (string_preimage t.qubits t.rows) is.keeps (phased p) (phased q) lp lq)
        ∙ zeros-product (extend (string_preimage t.qubits t.rows) (phased p)) (extend (string_preimage t.qubits t.rows) (phased q)) mp mq;
    commuting = stabilises-commuting;
    one_sign = λ p lp mp.
        not-true (stabilises t (minus p))
        (λ e. half-not (extend (string_preimage t.qubits t.rows) (phased p)).phase
        (zeros-phase (extend (string_preimage t.qubits t.rows) (phased p)) mp)
        (ap (λ (a : Phased). a.phase) (sym (ap (extend (string_preimage t.qubits t.rows)) (phased-minus p) ∙ extend-times_phase (string_preimage t.qubits t.rows) Half (phased p)))
        ∙ zeros-phase (extend (string_preimage t.qubits t.rows) (phased (minus p))) e));
  }
