use Rattle.stab_items.proofs.Names.{ap, sym, ◌∙◌, Replace, edited, edit_refusal}
use Rattle.stab_items.proofs.PartLemmas.{replace_let, deep_replaced, put_back_let, put_back, all_put}
use Rattle.stab_items.proofs.circuit.Circuit.put_parts.Goals as goal

pub exchange-old-requires : goal.exchange-old-requires
exchange-old-requires c = record {
  allowed = replace_let c.args.path c.args.parts.items c.pop.new.self.items c.in-Some.last c.args.self.now c.in-Some.ensures.items c.requires.deep c.items.ensures.shallow;
}

pub put_before-requires : goal.put_before-requires
put_before-requires c = record {
  deep =
      deep_replaced c.args.path c.args.parts.items c.pop.new.self.items c.in-Some.last c.args.self.now c.in-Some.ensures.items c.requires.deep c.exchange-old.new.self c.exchange-old.ensures.value;
}

pub exchange-requires : goal.exchange-requires
exchange-requires c = record {
  allowed =
      ap (edit_refusal (Replace c.args.path c.exchange-old.result)) c.in-Err.ensures.unchanged
      ∙ put_back_let c.args.path c.in-Some.last c.exchange-old.result c.args.self.now c.exchange-old.new.self c.exchange-old.ensures.value c.exchange-old.ensures.taken c.items.ensures.shallow;
}

pub returns-in-Ok-clause-ok : goal.returns-in-Ok-clause-ok
returns-in-Ok-clause-ok c =
    all_put c.args.path c.args.parts.items c.pop.new.self.items c.in-Some.last c.args.self.now c.exchange-old.new.self c.put_before.new.self c.in-Some.ensures.items c.exchange-old.ensures.value c.in-Ok.ensures.ok

pub returns-in-Err-clause-unchanged : goal.returns-in-Err-clause-unchanged
returns-in-Err-clause-unchanged c =
    put_back c.args.path c.in-Some.last c.exchange-old.result c.args.self.now c.exchange-old.new.self c.exchange.new.self c.exchange-old.ensures.value c.exchange-old.ensures.taken
    (sym (ap (edited (Replace c.args.path c.exchange-old.result)) c.in-Err.ensures.unchanged) ∙ c.exchange.ensures.value)
