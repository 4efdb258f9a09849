use Rattle.stab_sampler.proofs.Names.{sym, ◌∙◌, ap, length-map, letters_anticommute, letters_anticommute-comm, strings_anticommute-comm, letter_at, one_letter-anticommute, letter_in, lane_letters}
use Rattle.stab_sampler.proofs.FrameLemmas.{letter-read}
use Rattle.stab_sampler.proofs.frames.Frames.anticommuting_letter.Goals as goal

pub returns : goal.returns
returns g c = record {
  value = λ l lt.
      let letters = lane_letters g.W.Word.at l c.args.self.now.letters.items in
      c.anticommuting.ensures.value l lt
      ∙ ap (λ x. letters_anticommute x c.args.letter) (letter-read g.W.Word.at l c.args.self.now.letters.items c.args.qubit c.index.result.now c.requires.in_range c.index.ensures)
      ∙ letters_anticommute-comm (letter_at letters c.args.qubit) c.args.letter
      ∙ sym (one_letter-anticommute _ c.args.qubit c.args.letter letters (length-map c.args.self.now.letters.items (letter_in g.W.Word.at l)) c.requires.in_range)
      ∙ strings_anticommute-comm _ letters;
}
