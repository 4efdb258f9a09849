use Rattle.std.proofs.Common.{◌≡◌, ◌++◌, [], sym, subst, ◌∙◌}
use Rattle.std.proofs.lemmas.List.{append-nil}
use Rattle.std.proofs.lemmas.Result.{err_from_is_err_and}
use Rattle.stab_io.specs.Devices.{TookAndFailed}
use Rattle.stab_results.proofs.byte_buffer.ByteBuffer.send.Goals as goal

pub returns-in_err-write_all-clause-puts : goal.returns-in_err-write_all-clause-puts
returns-in_err-write_all-clause-puts g c =
    let p = err_from_is_err_and c.from_residual.result c.from_residual.ensures.1 in
    let all : c.split_at.result.0.now ≡ c.args.self.now ++ [] = c.split_at.ensures.front ∙ c.self.view_is ∙ sym (append-nil c.args.self.now) in
    rw p.1 (record {
      whole = tt;
      cut_off = (
        p.2 ∙ c.in_err-write_all.ensures.writes.0,
        subst (λ l. TookAndFailed (g.O.Output.seen c.args.out.now) (g.O.Output.seen c.write_all.new.out) l) all c.in_err-write_all.ensures.writes.1,
      );
    })
