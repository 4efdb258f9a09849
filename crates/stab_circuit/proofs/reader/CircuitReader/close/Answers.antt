use Rattle.stab_circuit.proofs.Names.{◌≡◌, ap, ◌∙◌, ◌++◌, ◌∷◌, [], repeat, listed}
use Rattle.stab_circuit.proofs.ReadLineLemmas.{closed_stored}
use Rattle.stab_circuit.proofs.reader.CircuitReader.close.Goals as goal

pub returns-in_ok-push-in-Some-clause-gives : goal.returns-in_ok-push-in-Some-clause-gives
returns-in_ok-push-in-Some-clause-gives c =
    let r = c.args.self.now in
    let f = c.in-Some.open_block in
    let block : c.in_ok-item-in-Some.item ≡ repeat f.count f.tag (listed r.items.items) =
    c.in_ok-item-in-Some.ensures.ok ∙ ap (λ v. repeat f.count f.tag (listed v.items)) c.replace-body.ensures.value in
    let put : c.push.new.self.items ≡ f.before.items ++ repeat f.count f.tag (listed r.items.items) ∷ [] =
    c.in_ok-push-in-Some.ensures.items ∙ (λ i. (c.replace-body.ensures.after i).items ++ block i ∷ []) in
    closed_stored r.outer.items r.open_blocks.items c.pop.new.self.items r.items.items c.push.new.self.items f c.in-Some.ensures.items put
