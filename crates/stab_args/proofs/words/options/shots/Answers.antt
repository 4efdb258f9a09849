use Rattle.stab_args.proofs.Names.{rules, ◌≡◌, string_bytes, beyond_fault, ShotRange}
use Rattle.stab_args.proofs.words.options.shots.Goals as goal

pub returns-in_ok-from_str-in-None-clause-refused : goal.returns-in_ok-from_str-in-None-clause-refused
returns-in_ok-from_str-in-None-clause-refused c =
    let reported : string_bytes c.in_ok-from_str-in-None.field-0 ≡ beyond_fault = search rules in
    let shots : ShotRange = record { first = c.first_shot.result; number = c.number_of_shots.result } in
    (reported, shots, (c.first_shot.ensures.first, c.number_of_shots.ensures.written), c.in-None.ensures.none)
