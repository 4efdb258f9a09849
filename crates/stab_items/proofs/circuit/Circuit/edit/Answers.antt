use Rattle.stab_items.proofs.Names.{◌∙◌, sym, edited, verdict}
use Rattle.stab_items.proofs.EditingLemmas.{verdict_of, call_fault, want_fault, no_want}
use Rattle.stab_items.proofs.circuit.Circuit.edit.Goals as goal

pub returns-in-Some-clause-fault : goal.returns-in-Some-clause-fault
returns-in-Some-clause-fault c =
    let determined = verdict_of c.args.n (edited c.args.edit c.args.self.now) c.in-Ok.edit_result.total c.in-Ok.ensures.ok.total c.in-Ok.ensures.shallow in
    call_fault (verdict c.args.n c.args.edit c.args.self.now) c.in-Some.refusal _ (determined ∙ sym c.in-Some.ensures.value) c.refused-in-Some.ensures.fault

pub returns-in-Some-clause-memory : goal.returns-in-Some-clause-memory
returns-in-Some-clause-memory c =
    let determined = verdict_of c.args.n (edited c.args.edit c.args.self.now) c.in-Ok.edit_result.total c.in-Ok.ensures.ok.total c.in-Ok.ensures.shallow in
    no_want (verdict c.args.n c.args.edit c.args.self.now) c.in-Some.refusal c.args.edit (determined ∙ sym c.in-Some.ensures.value)

pub returns-in-Err-make-clause-fault : goal.returns-in-Err-make-clause-fault
returns-in-Err-make-clause-fault c =
    let determined = verdict_of c.args.n (edited c.args.edit c.args.self.now) c.in-Ok.edit_result.total c.in-Ok.ensures.ok.total c.in-Ok.ensures.shallow in
    want_fault (verdict c.args.n c.args.edit c.args.self.now) _ (determined ∙ sym c.in_default.ensures.value) c.in-Err-make.ensures.fault

pub returns-in-Ok-make-clause-allowed : goal.returns-in-Ok-make-clause-allowed
returns-in-Ok-make-clause-allowed c =
    let determined = verdict_of c.args.n (edited c.args.edit c.args.self.now) c.in-Ok.edit_result.total c.in-Ok.ensures.ok.total c.in-Ok.ensures.shallow in
    determined ∙ sym c.in_default.ensures.value
