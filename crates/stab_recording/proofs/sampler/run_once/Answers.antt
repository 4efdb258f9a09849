use Rattle.stab_recording.proofs.Names.{subst, DependsOnCoinsAt, SamplerState}
use Rattle.stab_recording.proofs.sampler.run_once.Goals as goal

pub returns-in-Ok-clause-decided : goal.returns-in-Ok-clause-decided
returns-in-Ok-clause-decided g c =
    subst (λ (s : SamplerState). DependsOnCoinsAt c.in-Ok.shot.free.items s.qubits (g.C.Coins.sequence c.args.coins.now) s.items)
    c.in_ok-sampler.ensures.state c.in-Ok.ensures.decided
