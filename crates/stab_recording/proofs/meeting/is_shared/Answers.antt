use Rattle.stab_recording.proofs.Names.{stabilises, stabiliser_of}
use Rattle.stab_recording.proofs.SameStateLemmas.{some-determined, none-determined}
use Rattle.stab_recording.proofs.meeting.is_shared.Goals as goal

pub returns-in-Some-clause-value : goal.returns-in-Some-clause-value
returns-in-Some-clause-value c =
    some-determined (stabilises c.args.other.now) c.in_ok-stabiliser.stabiliser (stabiliser_of c.args.tableau.now c.args.k) c.in_ok-stabiliser.ensures.value c.sign_of.result
    c.sign_of.ensures.some c.in-Some.negative c.in-Some.is

pub returns-clause-value : goal.returns-clause-value
returns-clause-value c =
    none-determined (stabilises c.args.other.now) c.in_ok-stabiliser.stabiliser (stabiliser_of c.args.tableau.now c.args.k) c.in_ok-stabiliser.ensures.value c.sign_of.result
    c.sign_of.ensures.some c.in-None.is
