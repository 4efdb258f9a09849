use Rattle.stab_error_model.proofs.Names.{take, each_letter, single_error_of_letter, AddsErrors, Stands}
use Rattle.stab_error_model.proofs.error_lists.add_letters.Given as goal

abbrev pub invariant-letters : goal.invariant-letters
invariant-letters l = AddsErrors (Stands l.site) (each_letter (take l.letter-index l.letters) (single_error_of_letter l.site)) l.initial.errors.items l.errors.items
