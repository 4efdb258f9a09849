use Rattle.stab_tableau.proofs.Names.{rules, ◌≡◌, ◌∙◌, sym, ap, length, Signed, TableauState, SameLetters}
use Rattle.stab_tableau.proofs.SignFrameLemmas.{length-frame}
use Rattle.stab_tableau.proofs.ConjugatedRowLemmas.{determined-conjugated}
use Rattle.stab_tableau.proofs.tableau.compact.CompactTableau.frame_to.Goals as goal

pub returns-clause-length : goal.returns-clause-length
returns-clause-length c =
    let same : SameLetters c.self.inside.table c.tableau.inside.table = c.same_letters.ensures.value.0 (search rules) in
    let size : length c.self.inside.table ≡ c.args.self.now.qubits = ap (λ (t : TableauState). t.qubits) c.self.view_is in
    ap (λ (p : Signed). length p.letters) c.write_stored_frame.ensures.value ∙ length-frame c.self.inside.table c.tableau.inside.table same ∙ size ∙ sym c.requires.same_length

pub returns-clause-conjugated : goal.returns-clause-conjugated
returns-clause-conjugated c _ =
    let same : SameLetters c.self.inside.table c.tableau.inside.table = c.same_letters.ensures.value.0 (search rules) in
    determined-conjugated c.self.inside.table c.tableau.inside.table same c.args.self.now c.args.tableau.now c.self.view_is c.tableau.view_is c.write_stored_frame.new.out.letters
    (ap (λ (p : Signed). p.letters) c.write_stored_frame.ensures.value)
