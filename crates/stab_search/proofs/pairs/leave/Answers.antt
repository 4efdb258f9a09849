use Rattle.stab_search.proofs.Names.{sym, inl, inr}
use Rattle.stab_search.proofs.pairs.leave.Goals as goal

pub returns : goal.returns
returns c = record {
  pairs = λ rows firsts out are.
      c.in_ok-list_with-2.ensures.pairs rows firsts (λ same. c.if-a-b.false (sym same)) (elim out [ inl x ↦ inr x | inr x ↦ inl x ])
      (c.in_ok-list_with.ensures.pairs rows firsts c.if-a-b.false out are);
}
