use Rattle.std.proofs.Common.{[], refl, sym}
use Rattle.std.proofs.lemmas.List.{append-nil}
use Rattle.stab_results.specs.Formats.{shot_bytes}
use Rattle.stab_results.proofs.PutsLemmas.{begins, goes_on, breaks_off, ends, emptied}
use Rattle.stab_results.proofs.shot.send_shot.Goals as goal

pub returns-in_err-put_shot : goal.returns-in_err-put_shot
returns-in_err-put_shot g c =
    let puts = rw c.new-byte_buffer.ensures.empty at c.in_err-put_shot.ensures.puts in record {
      puts = breaks_off c.from_residual.result [] (begins (g.O.Output.seen c.args.out.now) [] (shot_bytes c.args.format c.args.kinds c.args.bits.now)) puts (sym (append-nil _)) c.from_residual.ensures.1;
    }

pub returns : goal.returns
returns g c =
    let puts = rw c.new-byte_buffer.ensures.empty at c.in_ok-put_shot.ensures.puts in record {
      puts = emptied c.send.result (ends {left = []} c.send.result (goes_on (begins (g.O.Output.seen c.args.out.now) [] (shot_bytes c.args.format c.args.kinds c.args.bits.now)) puts (sym (append-nil _))) c.send.ensures.puts refl) c.send.ensures.empty;
    }
