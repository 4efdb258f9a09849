use Rattle.stab_items.proofs.Names.{◌≡◌, sym, subst, arith, Option, IfOk, OneItem}
use Rattle.stab_items.proofs.CommitLemmas.{found_at, allowed_at, committed_at, taken_through, put_back, allowed_within, committed_within, taken_within, unchanged_within, preserved_shallow}
use Rattle.stab_items.proofs.commit.+commit.Goals as goal

pub commit-commit_within-requires : goal.commit-commit_within-requires
commit-commit_within-requires t c =
    let cut = c.in-Some.ensures.cases.0 in
    let xs = c.args.items.now.items in
    let x = c.index_mut.result.now in (
      omega (arith, c.in-Some.ensures.cases.1),
      allowed_at c.args.edit c.in-Some.block.now c.in-Some.others.now c.args.blocks.now xs x cut
          (found_at c.args.edit c.in-Some.block.now c.in-Some.others.now c.args.blocks.now xs x cut c.requires.allowed c.index_mut.ensures.value) c.requires.allowed,
    )

pub commit-returns-in-Some-clause-ok : goal.commit-returns-in-Some-clause-ok
commit-returns-in-Some-clause-ok t c =
    let cut = c.in-Some.ensures.cases.0 in
    let xs = c.args.items.now.items in
    let x = c.index_mut.result.now in
    committed_at c.commit_within.result c.args.edit c.in-Some.block.now c.in-Some.others.now c.args.blocks.now xs x c.commit_within.new.item cut
    (found_at c.args.edit c.in-Some.block.now c.in-Some.others.now c.args.blocks.now xs x cut c.requires.allowed c.index_mut.ensures.value) c.commit_within.ensures.ok

pub commit-returns-in-Some-clause-taken : goal.commit-returns-in-Some-clause-taken
commit-returns-in-Some-clause-taken t c =
    let cut = c.in-Some.ensures.cases.0 in
    let xs = c.args.items.now.items in
    let x = c.index_mut.result.now in
    let found = found_at c.args.edit c.in-Some.block.now c.in-Some.others.now c.args.blocks.now xs x cut c.requires.allowed c.index_mut.ensures.value in
    subst (λ (v : Option OneItem). IfOk c.commit_within.result (λ old. old ≡ v)) (sym (taken_through c.args.edit c.in-Some.block.now c.in-Some.others.now c.args.blocks.now xs x cut found)) c.commit_within.ensures.taken

pub commit_within-commit-done-requires : goal.commit_within-commit-done-requires
commit_within-commit-done-requires t c = (
  omega arith,
  allowed_within c.args.edit c.args.blocks.now c.args.item.now c.in-Some.body.items c.in-Some.ensures.some c.requires.allowed,
)

pub commit_within-set_body-requires : goal.commit_within-set_body-requires
commit_within-set_body-requires t c = record {
  shallow = preserved_shallow c.commit-done.result c.args.edit c.args.blocks.now c.args.item.now c.in-Some.body.items c.commit-done.new.items.items
      c.in-Some.ensures.some c.requires.allowed c.commit-done.ensures.ok c.commit-done.ensures.unchanged c.in-Some.ensures.shallow;
}

pub commit_within-returns-clause-ok : goal.commit_within-returns-clause-ok
commit_within-returns-clause-ok t c =
    committed_within c.commit-done.result c.args.edit c.args.blocks.now c.args.item.now c.set_body.new.self c.in-Some.body.items c.commit-done.new.items.items c.in-Some.ensures.some
    (put_back c.args.item.now c.take_body.new.self c.set_body.new.self c.commit-done.new.items.items c.take_body.ensures.left c.set_body.ensures.value) c.requires.allowed c.commit-done.ensures.ok

pub commit_within-returns-clause-taken : goal.commit_within-returns-clause-taken
commit_within-returns-clause-taken t c =
    subst (λ (v : Option OneItem). IfOk c.commit-done.result (λ old. old ≡ v))
    (sym (taken_within c.args.edit c.args.blocks.now c.args.item.now c.in-Some.body.items c.in-Some.ensures.some c.requires.allowed))
    c.commit-done.ensures.taken

pub commit_within-returns-clause-unchanged : goal.commit_within-returns-clause-unchanged
commit_within-returns-clause-unchanged t c =
    unchanged_within c.commit-done.result c.args.item.now c.set_body.new.self c.in-Some.body.items c.commit-done.new.items.items c.in-Some.ensures.some
    (put_back c.args.item.now c.take_body.new.self c.set_body.new.self c.commit-done.new.items.items c.take_body.ensures.left c.set_body.ensures.value) c.commit-done.ensures.unchanged
