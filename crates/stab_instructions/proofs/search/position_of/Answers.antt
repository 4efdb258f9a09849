use Rattle.stab_instructions.proofs.Names.{ap, ◌∙◌, position_or_len, is_byte}
use Rattle.stab_instructions.proofs.SearchLemmas.{after_others}
use Rattle.stab_instructions.proofs.search.position_of.Goals as goal

pub returns-clause-value : goal.returns-clause-value
returns-clause-value c =
    after_others c.args.bytes.now c.args.byte c.others_in_front-start.result c.position_near-near.result c.others_in_front-start.ensures.within c.others_in_front-start.ensures.others
    (c.position_near-near.ensures.value ∙ ap (position_or_len (is_byte c.args.byte)) c.split_at.ensures.back)
