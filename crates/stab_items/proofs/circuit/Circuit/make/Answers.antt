use Rattle.stab_items.proofs.Names.{◌≡◌, ◌∙◌, ap, sym, subst, length, Some, Ok, IfOk, slice_get, listed, summary_of, edited_in, edit_path, edited, taken_in, numbers, summed, IsShallow, IsGoodList, AreStretches, WereStretches}
use Rattle.stab_items.proofs.EditResultLemmas.{were_stretches}
use Rattle.stab_items.proofs.EditingLemmas.{result_shallow}
use Rattle.stab_items.proofs.circuit.Circuit.make.Goals as goal

pub commit-requires : goal.commit-requires
commit-requires c =
    let e = c.args.edit in
    let blocks : c.blocks-2.result.now ≡ (edit_path e).blocks = c.blocks-2.ensures.value ∙ ap (λ q. q.blocks) c.path-path.ensures.value in
    record {
      allowed = subst IsShallow (λ i. edited_in e (sym blocks i) (sym c.self.view_is i)) (result_shallow (edited e c.args.self.now) c.args.edit_result.total c.requires.judged.total c.requires.shallow);
    }

pub renew_stretch-requires : goal.renew_stretch-requires
renew_stretch-requires c =
    let e = c.args.edit in
    let ss = c.self.inside.stretches.items in
    let first = c.first.result in
    let blocks : c.blocks-2.result.now ≡ (edit_path e).blocks = c.blocks-2.ensures.value ∙ ap (λ q. q.blocks) c.path-path.ensures.value in
    let new : edited e c.args.self.now ≡ Ok c.commit.new.items.items = (λ i. edited_in e (sym blocks i) (sym c.self.view_is i)) ∙ c.in-Ok.ensures.ok in
    let at = subst (λ p. slice_get (numbers p) 0 ≡ Some first) c.path-path.ensures.value c.first.ensures.value in
    let were = were_stretches ss e c.args.self.now c.commit.new.items.items first (subst (AreStretches ss) c.self.view_is c.self.invariant.4) new at in
    let long : length c.args.self.now ≡ c.len-len.result = ap length (sym c.self.view_is) ∙ sym c.self.inside.items.ok.0 ∙ sym c.len-len.ensures in
    record { were = subst (λ n. WereStretches ss first n c.as_slice.result.now) long (subst (WereStretches ss first (length c.args.self.now)) (sym c.as_slice.ensures.value) were) }

pub returns-in-Ok-clause-ok : goal.returns-in-Ok-clause-ok
returns-in-Ok-clause-ok c =
    let e = c.args.edit in
    let blocks : c.blocks-2.result.now ≡ (edit_path e).blocks = c.blocks-2.ensures.value ∙ ap (λ q. q.blocks) c.path-path.ensures.value in
    (λ i. edited_in e (sym blocks i) (sym c.self.view_is i)) ∙ c.in-Ok.ensures.ok

pub returns-in-Ok-clause-taken : goal.returns-in-Ok-clause-taken
returns-in-Ok-clause-taken c =
    let e = c.args.edit in
    let blocks : c.blocks-2.result.now ≡ (edit_path e).blocks = c.blocks-2.ensures.value ∙ ap (λ q. q.blocks) c.path-path.ensures.value in
    c.in-Ok.ensures.taken ∙ (λ i. taken_in e (blocks i) (c.self.view_is i))

pub invariant_of-self : goal.invariant_of-self
invariant_of-self c =
    let e = c.args.edit in
    let blocks : c.blocks-2.result.now ≡ (edit_path e).blocks = c.blocks-2.ensures.value ∙ ap (λ q. q.blocks) c.path-path.ensures.value in
    let new : edited e c.args.self.now ≡ Ok c.commit.new.items.items = (λ i. edited_in e (sym blocks i) (sym c.self.view_is i)) ∙ c.in-Ok.ensures.ok in
    let total : Ok c.args.edit_result.total ≡ Ok (summary_of (listed c.commit.new.items.items)) = c.requires.judged.total ∙ ap summed new in (
      cc,
      c.requires.judged.small,
      c.requires.shallow,
      subst (λ r. IfOk r IsGoodList) new c.requires.judged.good,
      subst (AreStretches c.renew_stretch.new.stretches.items) c.as_slice.ensures.value c.renew_stretch.ensures.are,
    )

pub returns-in-Err-clause-unchanged : goal.returns-in-Err-clause-unchanged
returns-in-Err-clause-unchanged c = c.in-Err.ensures.unchanged ∙ c.self.view_is

pub invariant_of-self-in-Err : goal.invariant_of-self-in-Err
invariant_of-self-in-Err c =
    let same = sym c.in-Err.ensures.unchanged in
    (c.self.invariant.0 ∙ ap (λ l. summary_of (listed l)) same, c.self.invariant.1, c.self.invariant.2, subst IsGoodList same c.self.invariant.3, subst (AreStretches c.self.inside.stretches.items) same c.self.invariant.4)
