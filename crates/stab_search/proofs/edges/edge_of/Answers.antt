use Rattle.stab_search.proofs.Names.{refl}
use Rattle.stab_search.proofs.EdgeLemmas.{edge-is}
use Rattle.stab_search.proofs.edges.edge_of.Goals as goal

pub returns : goal.returns
returns c = record {
  edge = edge-is c.args.detectors c.args.numbers.now c.node_of.result c.node_of-2.result c.requires.ascending (c.if-not-is_graphlike.ensures.yes refl)
      c.node_of.ensures.value c.node_of-2.ensures.value;
}
