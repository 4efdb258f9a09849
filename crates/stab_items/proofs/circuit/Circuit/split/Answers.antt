use Rattle.stab_items.proofs.Names.{◌≡◌, err_from_is_err_and, on_ok_weaker, IfErr-weaker, IsCallFault, whole, OutOfMemory, split_refusal}
use Rattle.stab_items.proofs.PartLemmas.{parts_as_deep, some_parts, parts_are_split, path_refused, item_refused, memory_refused}
use Rattle.stab_items.proofs.circuit.Circuit.split.Goals as goal

pub put_parts-requires : goal.put_parts-requires
put_parts-requires c = record {
  some = some_parts c.args.round c.in-Ok.item.now c.in_ok-parts-in-Ok.parts.items c.in_ok-parts-in-Ok.ensures.ok;
  deep = parts_as_deep c.args.path c.args.round c.in-Ok.item.now c.in_ok-parts-in-Ok.parts.items c.args.self.now c.in-Ok.ensures.value c.in_ok-parts-in-Ok.ensures.ok;
}

pub returns-in_err-parts-in-Ok-clause-fault : goal.returns-in_err-parts-in-Ok-clause-fault
returns-in_err-parts-in-Ok-clause-fault c =
    let p = err_from_is_err_and c.from_residual.result c.from_residual.ensures.1 in
    rw (p.1, p.2) (item_refused c.args.path c.args.round c.args.self.now c.in-Ok.item.now c.in_err-parts-in-Ok.field-0.0 c.in-Ok.ensures.value c.in_err-parts-in-Ok.ensures.fault)

pub returns-in-Err-clause-fault : goal.returns-in-Err-clause-fault
returns-in-Err-clause-fault c = path_refused c.args.path c.args.round c.args.self.now c.in-Err.refusal c.whole.result c.in-Err.ensures.value c.whole.ensures.value

pub returns-clause-ok : goal.returns-clause-ok
returns-clause-ok c =
    on_ok_weaker c.put_parts.result
    (parts_are_split c.args.path c.args.round c.in-Ok.item.now c.in_ok-parts-in-Ok.parts.items c.args.self.now c.put_parts.new.self c.in-Ok.ensures.value c.in_ok-parts-in-Ok.ensures.ok)
    c.put_parts.ensures.ok

pub returns-clause-fault : goal.returns-clause-fault
returns-clause-fault c =
    IfErr-weaker c.put_parts.result (λ f. f ≡ whole OutOfMemory) (λ f. IsCallFault (split_refusal c.args.path c.args.round c.args.self.now) f)
    (λ f e. memory_refused c.args.path c.args.round c.args.self.now c.in-Ok.item.now c.in_ok-parts-in-Ok.parts.items f c.in-Ok.ensures.value c.in_ok-parts-in-Ok.ensures.ok e)
    c.put_parts.ensures.fault
