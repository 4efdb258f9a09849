use Rattle.stab_tableau.proofs.Names.{◌≡◌, ◌∙◌, sym, ap, subst, length, Z, Signed, with_sign, phased, string_preimage, extend}
use Rattle.stab_tableau.proofs.ColumnLemmas.{length-column}
use Rattle.stab_tableau.proofs.SameStateLemmas.{written-is, written-tableau}
use Rattle.stab_tableau.proofs.group.write_stabiliser.Goals as goal
use Rattle.stab_tableau.proofs.group.write_stabiliser.Goals.{After-write_preimage}

-- the preimage by the table as it was
sent : (c : After-write_preimage) → phased c.write_preimage.new.out ≡ extend (string_preimage (length c.args.table.now) c.args.table.now) (phased c.write_stabiliser_letters.new.out)
sent c =
    subst (λ t. phased c.write_preimage.new.out ≡ extend (string_preimage (length t) t) (phased c.write_stabiliser_letters.new.out)) c.write_stabiliser_letters.ensures.unchanged
    c.write_preimage.ensures.value

pub write_preimage-requires-clause-pauli_length : goal.write_preimage-requires-clause-pauli_length
write_preimage-requires-clause-pauli_length c =
    ap (λ (s : Signed). length s.letters) c.write_stabiliser_letters.ensures.value
    ∙ length-column Z c.args.k c.args.table.now
    ∙ ap length (sym c.write_stabiliser_letters.ensures.unchanged)

pub returns-clause-tableau : goal.returns-clause-tableau
returns-clause-tableau c =
    written-tableau c.args.table.now (record { x = c.args.preimage.now; z = c.args.out.now }) c.requires.tableau c.args.k c.requires.in_range
    c.write_stabiliser_letters.new.out c.write_preimage.new.out c.write_stabiliser_letters.ensures.value (sent (goal.at.returns-clause-tableau c).After-write_preimage) c.negate_if.new.self
    (c.negate_if.ensures.value ∙ ap (λ b. with_sign b c.write_stabiliser_letters.new.out) c.is_negative.ensures.value)

pub returns-clause-value : goal.returns-clause-value
returns-clause-value c =
    c.negate_if.ensures.value
    ∙ ap (λ b. with_sign b c.write_stabiliser_letters.new.out) c.is_negative.ensures.value
    ∙ written-is c.args.table.now (record { x = c.args.preimage.now; z = c.args.out.now }) c.requires.tableau c.args.k c.requires.in_range
    c.write_stabiliser_letters.new.out c.write_preimage.new.out c.write_stabiliser_letters.ensures.value (sent (goal.at.returns-clause-value c).After-write_preimage)
