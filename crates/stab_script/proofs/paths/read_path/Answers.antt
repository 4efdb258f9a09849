use Rattle.stab_script.proofs.Names.{◌≡◌, length, take, ap, ◌∙◌, arith, length-take, length-set, option_copied, pieces_after, numbers_after, path_if_any}
use Rattle.stab_script.proofs.PathLaws.{too_many, no_number, keeps_number}
use Rattle.stab_script.proofs.paths.read_path.Goals as goal

pub returns-in-None : goal.returns-in-None
returns-in-None c =
    let front = take c.loop-rest.count c.loop-rest.numbers in
    record {
      value = c.loop-rest.invariant.met
          ∙ ap (λ r. path_if_any (numbers_after front (pieces_after 47 (option_copied r)))) c.in-Some.is
          ∙ ap (λ ws. path_if_any (numbers_after front ws)) c.first_piece.ensures.value
          ∙ ap path_if_any (no_number front c.first_piece.result.0.now (pieces_after 47 (option_copied c.first_piece.result.1)) c.in-None.ensures.value);
    }

pub returns-then-count-eq-MOST_NUMBERS : goal.returns-then-count-eq-MOST_NUMBERS
returns-then-count-eq-MOST_NUMBERS c =
    let front = take c.loop-rest.count c.loop-rest.numbers in
    let full : length front ≡ 17 = omega (arith, length-take c.loop-rest.count c.loop-rest.numbers) in
    record {
      value = c.loop-rest.invariant.met
          ∙ ap (λ r. path_if_any (numbers_after front (pieces_after 47 (option_copied r)))) c.in-Some.is
          ∙ ap (λ ws. path_if_any (numbers_after front ws)) c.first_piece.ensures.value
          ∙ ap path_if_any (too_many front c.first_piece.result.0.now (pieces_after 47 (option_copied c.first_piece.result.1)) full);
    }

pub loop-rest-preserved : goal.loop-rest-preserved
loop-rest-preserved c = record {
  room = length-set c.loop-rest.numbers c.loop-rest.count c.in-Some-path_number.number ∙ c.loop-rest.invariant.room;
  few = omega arith;
  some = omega arith;
  met = c.loop-rest.invariant.met
      ∙ ap path_if_any (keeps_number c.loop-rest.numbers c.loop-rest.count (pieces_after 47 (option_copied c.loop-rest.rest)) c.first_piece.result.0.now (pieces_after 47 (option_copied c.first_piece.result.1)) c.in-Some-path_number.number
      (ap (λ r. pieces_after 47 (option_copied r)) c.in-Some.is ∙ c.first_piece.ensures.value) c.in-Some-path_number.ensures.value.0 c.in-Some-path_number.ensures.value.1 (omega arith));
}
