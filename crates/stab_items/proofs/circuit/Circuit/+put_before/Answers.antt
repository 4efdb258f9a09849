use Rattle.stab_items.proofs.Names.{ap, sym, ◌∙◌, arith, length, length-append, Delete, edited, edit_refusal}
use Rattle.stab_items.proofs.PartLemmas.{insert_let, deep_inserted, delete_let, deleted_back, one_before}
use Rattle.stab_items.proofs.circuit.Circuit.+put_before.Goals as goal

pub put_one-requires : goal.put_one-requires
put_one-requires t c = record {
  allowed = insert_let c.args.path c.args.parts.items c.pop.new.self.items c.in-Some.part c.args.self.now c.in-Some.ensures.items c.requires.deep c.items.ensures.shallow;
}

pub put_before-requires : goal.put_before-requires
put_before-requires t c =
    let size = ap length c.in-Some.ensures.items ∙ length-append c.pop.new.self.items _ in (
      omega (arith, c.decreases, size),
      deep_inserted c.args.path c.args.parts.items c.pop.new.self.items c.in-Some.part c.args.self.now c.in-Some.ensures.items c.requires.deep c.put_one.new.self c.in_ok-put_one.ensures.ok,
    )

pub take_one-requires : goal.take_one-requires
take_one-requires t c = record {
  allowed =
      ap (edit_refusal (Delete c.args.path)) c.in-Err.ensures.unchanged
      ∙ delete_let c.args.path c.in-Some.part c.args.self.now c.put_one.new.self c.in_ok-put_one.ensures.ok c.items.ensures.shallow;
}

pub returns-in-Ok-clause-ok : goal.returns-in-Ok-clause-ok
returns-in-Ok-clause-ok t c =
    one_before c.args.path c.args.parts.items c.pop.new.self.items c.in-Some.part c.args.self.now c.put_one.new.self c.put_before.new.self c.in-Some.ensures.items c.in_ok-put_one.ensures.ok c.in-Ok.ensures.ok

pub returns-in-Err-clause-unchanged : goal.returns-in-Err-clause-unchanged
returns-in-Err-clause-unchanged t c =
    deleted_back c.args.path c.in-Some.part c.args.self.now c.put_one.new.self c.take_one.new.self c.in_ok-put_one.ensures.ok
    (sym (ap (edited (Delete c.args.path)) c.in-Err.ensures.unchanged) ∙ c.take_one.ensures.value)
