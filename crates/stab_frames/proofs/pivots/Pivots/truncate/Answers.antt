use Rattle.stab_frames.proofs.Names.{◌≡◌, ◌∙◌, ap, map, min, take, arith, max, most_strings, cut_to}
use Rattle.stab_frames.proofs.RecordedLemmas.{letters_front}
use Rattle.stab_frames.proofs.pivots.Pivots.truncate.Goals as goal

pub returns : goal.returns
returns c =
    let preserved = c.self.inside in
    let most : c.min-self-inside.result ≡ min preserved.most (max (most_strings preserved.qubits) c.args.count) =
    omega (arith, c.min-self-inside.ensures, c.max.ensures, c.most_strings.ensures.value) in
    let strings : map (λ p. p.value.letters) c.truncate.new.self.items ≡ take c.args.count (map (λ p. p.value.letters) preserved.strings.items) =
    ap (map (λ p. p.value.letters)) c.truncate.ensures.items ∙ letters_front (λ p. p.value.letters) c.args.count preserved.strings.items in
    record {
      value =
          (λ i. record { qubits = preserved.qubits; most = most i; strings = strings i })
          ∙ ap (cut_to c.args.count) c.self.view_is;
    }
