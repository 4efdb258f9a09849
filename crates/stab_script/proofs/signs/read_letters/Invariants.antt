use Rattle.stab_script.proofs.Names.{◌≡◌, false, length, map, take, letter_of_byte}
use Rattle.stab_script.proofs.signs.read_letters.Given as goal

abbrev pub invariant-letters : goal.invariant-letters
invariant-letters l = record {
  positive : l.string.negative ≡ false;
  size : length l.string.letters ≡ l.n;
  letters : take l.qubit l.string.letters ≡ map letter_of_byte (take l.qubit l.word);
}
