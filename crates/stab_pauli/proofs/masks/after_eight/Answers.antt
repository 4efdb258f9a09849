use Rattle.stab_pauli.proofs.Names.{arith}
use Rattle.stab_pauli.proofs.Lemmas.{after_several-first, after_several-others, eight-fits, eight-short}
use Rattle.stab_pauli.proofs.masks.after_eight.Goals as goal

pub overflow_mul-result : goal.overflow_mul-result
overflow_mul-result c =
    let all = eight-fits c.args.mask c.args.size c.args.eight c.requires.short c.requires.room c.requires.eight in
    omega (arith, all)

pub overflow_add-result : goal.overflow_add-result
overflow_add-result c =
    let all = eight-fits c.args.mask c.args.size c.args.eight c.requires.short c.requires.room c.requires.eight in
    omega (arith, all)

pub returns-clause-first : goal.returns-clause-first
returns-clause-first c = λ k lt. after_several-first 8 k c.args.mask c.args.eight lt

pub returns-clause-others : goal.returns-clause-others
returns-clause-others c = λ k. after_several-others 8 k c.args.mask c.args.eight c.requires.eight

pub returns-clause-short : goal.returns-clause-short
returns-clause-short c = eight-short c.args.mask c.args.size c.args.eight c.requires.short c.requires.eight
