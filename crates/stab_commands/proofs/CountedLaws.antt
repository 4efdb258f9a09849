-- Laws of counts: what a call passes on that finds an answer about all errors and how many least sets there are.
use Rattle.stab_commands.proofs.Names.{◌≡◌, ap, subst, ℕ, ◌++◌, Result, Option, OutputView, Fault, Items, DistanceOptions, Distance, SendsFound, SendsAtOnce, IsDistanceOf, answer_text}
use Rattle.stab_items.specs.Steps.{qubits_of}
use Rattle.stab_error_model.specs.Unseen.{IsSetCount}
use Rattle.stab_report.specs.Distances.{IsCountedText, count_line, of_all}
use Rattle.stab_commands.proofs.FoundLaws.{found_at_once}

-- an answer and a count are sent as bytes like those that report both
pub counted_sent : {T : Type 0} (options asked : DistanceOptions) (items : Items) (d : Distance) (count : Option ℕ) (old new : OutputView) (r : Result T Fault) → asked ≡ of_all options
    → IsDistanceOf asked items d.errors d.answer → IsSetCount asked.observable (qubits_of items) items d.errors.errors asked.most count
    → SendsAtOnce (answer_text asked items d.errors d.answer ++ count_line count) old new r → SendsFound (IsCountedText options items) old new r
counted_sent options asked items d count old new r same is counted sent =
    found_at_once (IsCountedText options items) old new (answer_text asked items d.errors d.answer ++ count_line count) r
    (record {
      t = d.errors;
      answer = d.answer;
      distance = subst (λ (o : DistanceOptions). IsDistanceOf o items d.errors d.answer) same is;
      count = count;
      counted = subst (λ (o : DistanceOptions). IsSetCount o.observable (qubits_of items) items d.errors.errors o.most count) same counted;
      text = ap (λ (o : DistanceOptions). answer_text o items d.errors d.answer ++ count_line count) same;
    })
    sent
