use Rattle.stab_search.proofs.Names.{List, subst, Edge, AreLabels}
use Rattle.stab_search.proofs.bounds.is_far.Goals as goal

pub returns : goal.returns
returns c = record {
  yes = λ yes is. (
    c.in_ok-labels.labels,
    subst (λ (es : List Edge). AreLabels es c.args.bits.now c.args.node c.args.bound c.in_ok-labels.labels) c.edges.ensures.value (c.are_labels.ensures.yes yes),
  );
}
