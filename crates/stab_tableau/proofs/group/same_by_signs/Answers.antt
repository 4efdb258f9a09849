use Rattle.stab_tableau.proofs.Names.{refl, sym, ◌∙◌, ap, length, Signed}
use Rattle.stab_tableau.proofs.FrameLemmas.{length-same, signs-tableau, signs-yes, signs-no, length-sign_frame}
use Rattle.stab_tableau.proofs.group.same_by_signs.Goals as goal

pub write_frame-requires-clause-same_length : goal.write_frame-requires-clause-same_length
write_frame-requires-clause-same_length c = sym (length-same c.args.table.now c.args.others.now c.requires.same_letters)

pub write_preimage-requires-clause-pauli_length : goal.write_preimage-requires-clause-pauli_length
write_preimage-requires-clause-pauli_length c =
    ap (λ (s : Signed). length s.letters) c.write_frame.ensures.value
    ∙ length-sign_frame c.args.table.now c.args.others.now (sym (length-same c.args.table.now c.args.others.now c.requires.same_letters))

pub returns-in-None-clause-tableau : goal.returns-in-None-clause-tableau
returns-in-None-clause-tableau c =
    signs-tableau c.args.table.now c.args.others.now (record { x = c.args.preimage.now; z = c.args.frame.now }) c.requires.tableau c.requires.same_letters
    c.write_frame.new.out c.write_preimage.new.out (ap (λ (s : Signed). s.letters) c.write_frame.ensures.value) c.write_preimage.ensures.value

pub returns-in-None-clause-value : goal.returns-in-None-clause-value
returns-in-None-clause-value c = (
  λ _. signs-yes c.args.table.now c.args.others.now (record { x = c.args.preimage.now; z = c.args.frame.now }) c.requires.tableau c.requires.same_letters
      c.write_frame.new.out c.write_preimage.new.out (ap (λ (s : Signed). s.letters) c.write_frame.ensures.value) c.write_preimage.ensures.value
      c.in-None.ensures.none,
  λ _. refl,
)

pub returns-in-Some-clause-tableau : goal.returns-in-Some-clause-tableau
returns-in-Some-clause-tableau c =
    signs-tableau c.args.table.now c.args.others.now (record { x = c.args.preimage.now; z = c.args.frame.now }) c.requires.tableau c.requires.same_letters
    c.write_frame.new.out c.write_preimage.new.out (ap (λ (s : Signed). s.letters) c.write_frame.ensures.value) c.write_preimage.ensures.value

pub returns-in-Some-clause-value : goal.returns-in-Some-clause-value
returns-in-Some-clause-value c = (
  λ e. cc,
  λ same. absurd
      (signs-no c.args.table.now c.args.others.now (record { x = c.args.preimage.now; z = c.args.frame.now }) c.requires.tableau c.requires.same_letters
      c.write_frame.new.out c.write_preimage.new.out (ap (λ (s : Signed). s.letters) c.write_frame.ensures.value) c.write_preimage.ensures.value
      c.in-Some.field-0 c.in-Some.ensures.has_x same),
)
