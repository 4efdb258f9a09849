use Rattle.std.proofs.Common.{[], refl, sym}
use Rattle.std.proofs.lemmas.List.{append-nil}
use Rattle.std.specs.List.{flat_map}
use Rattle.stab_results.specs.Formats.{entry, one_positions}
use Rattle.stab_results.proofs.PutsLemmas.{begins, goes_on, ends, emptied}
use Rattle.stab_results.proofs.shot.send_ones.Goals as goal

pub returns : goal.returns
returns g c =
    let puts = rw c.new-byte_buffer.ensures.empty at c.in_ok-put_ones.ensures.puts in record {
      puts = emptied c.send.result (ends {left = []} c.send.result (goes_on (begins (g.O.Output.seen c.args.out.now) [] (flat_map (entry c.args.kinds) (one_positions c.args.bits.now))) puts (sym (append-nil _))) c.send.ensures.puts refl) c.send.ensures.empty;
    }
