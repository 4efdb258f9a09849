use Rattle.stab_script.proofs.Names.{◌≡◌, ◌≤◌, ◌<◌, ◌+◌, length, take, option_copied, pieces_after, path_of_word, numbers_after, path_if_any}
use Rattle.stab_script.proofs.PathLaws.{bytes_left}
use Rattle.stab_script.proofs.paths.read_path.Given as goal

abbrev pub invariant-loop-rest : goal.invariant-loop-rest
invariant-loop-rest l = record {
  room : length l.numbers ≡ 17;
  few : l.count ≤ 17;
  some : 0 < l.count + bytes_left (option_copied l.rest);
  met : path_of_word l.word ≡ path_if_any (numbers_after (take l.count l.numbers) (pieces_after 47 (option_copied l.rest)));
}

abbrev pub decreases-loop-rest : goal.decreases-loop-rest
decreases-loop-rest l = bytes_left (option_copied l.rest)
