use Rattle.stab_search.proofs.Names.{subst, KeepFirst}
use Rattle.stab_search.proofs.PairListLemmas.{earlier}
use Rattle.stab_search.proofs.pairs.leave_earlier.Goals as goal

pub returns : goal.returns
returns c =
    let rows = c.args.errors.now.table.rows in
    let firsts = c.args.errors.now.firsts in record {
      pairs = c.in_ok-leave.ensures.pairs rows firsts
          (earlier rows firsts c.args.a c.args.b c.args.c c.args.d c.requires.inside_c c.requires.inside_d c.requires.same
          (c.are_after.ensures.value c.if-not-are_after.false)
          (subst (λ f. KeepFirst f c.args.a c.args.b c.args.c c.args.d) c.firsts.ensures.value (c.keep_first.ensures.value c.if-not-keep_first.false)))
          c.requires.pairs;
    }
