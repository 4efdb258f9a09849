use Rattle.stab_search.proofs.Names.{refl, subst, ap, ◌∙◌, ℕ, Bool, false, List, get_or, IfOk-weaker, Edge, RowsFlip, AreCovered, IsFar}
use Rattle.stab_search.proofs.GraphLemmas.{at-least}
use Rattle.stab_search.proofs.bounds.has_bound_for.Goals as goal

pub returns : goal.returns
returns c =
    let g = c.args.graph.now in
    let bits = c.in_ok-bits.bits.items in
    let sources = c.in_ok-sources.sources.items in
    let are_bits : RowsFlip g.table.rows c.args.o bits =
    subst (λ (rows : List (List ℕ)). RowsFlip rows c.args.o bits) c.rows.ensures.value c.in_ok-bits.ensures.bits in
    let covered : AreCovered g.edges bits sources =
    subst (λ (es : List Edge). AreCovered es bits sources) c.edges.ensures.value
    (subst (λ (bs : List Bool). AreCovered c.edges.result.now bs sources) c.as_slice-2.ensures.value
    (subst (λ (ss : List Bool). AreCovered c.edges.result.now c.as_slice-2.result.now ss) c.as_slice-3.ensures.value (c.if-not-are_covered.ensures.yes refl))) in
    record {
      yes = IfOk-weaker c.are_far.result _ _
          (λ b far yes.
          at-least g.table g.edges c.edges.ensures.edges c.args.o bits are_bits sources c.args.bound covered
          (λ s is.
          subst (λ (bs : List Bool). IsFar g.edges bs s c.args.bound) c.as_slice-4.ensures.value
          (far yes s (ap (λ (ss : List Bool). get_or ss s false) c.as_slice-5.ensures.value ∙ is))))
          c.are_far.ensures.yes;
    }
