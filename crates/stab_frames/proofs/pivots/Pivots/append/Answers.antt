use Rattle.stab_frames.proofs.Names.{refl, sym, ◌∙◌, ap, arith, append-nil, length, take, take_all, length-map, PivotsState}
use Rattle.stab_frames.proofs.pivots.Pivots.append.Goals as goal

pub loop-string-init : goal.loop-string-init
loop-string-init c = record {
  qubits = refl;
  most = refl;
  strings =
      sym
      (ap (take c.args.self.now.most) (append-nil c.args.self.now.strings)
      ∙ take_all c.args.self.now.most c.args.self.now.strings (omega (arith, length-map c.self.inside.strings.items (λ p. p.value.letters), c.self.invariant.1, ap (λ (k : PivotsState). length k.strings) c.self.view_is, ap (λ (k : PivotsState). k.most) c.self.view_is)));
}
