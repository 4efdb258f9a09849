use Rattle.stab_frames.proofs.Names.{◌≡◌, sym, ◌∙◌, ap, length, map, min, take, arith, length-map, length-take, All-take, PivotsState, front_stored}
use Rattle.stab_frames.proofs.RecordedLemmas.{all-alike, front-limit}
use Rattle.stab_frames.proofs.pivots.Pivots.front.Goals as goal

pub invariant_of-result : goal.invariant_of-result
invariant_of-result c =
    let preserved = c.self.inside in
    let items = preserved.strings.items in
    let new = c.in_ok-strings.strings.items in
    let front = take c.min.result items in
    let same : map (λ p. p.value.letters) new ≡ map (λ p. p.value.letters) front =
    c.in_ok-strings.ensures.letters ∙ ap (map (λ p. p.value.letters)) (c.split_at.ensures.front ∙ ap (take c.min.result) c.as_slice.ensures.value) in
    let long = length-map items (λ p. p.value.letters) in
    let size : length new ≡ min c.args.count (length items) =
    omega (
      arith,
      ap length same,
      length-map new (λ p. p.value.letters),
      length-map front (λ p. p.value.letters),
      length-take c.min.result items,
      c.min.ensures,
      c.len.ensures,
      c.as_slice.ensures.len,
      ap length c.as_slice.ensures.value,
    ) in
    let state : PivotsState = record { qubits = preserved.qubits; most = preserved.most; strings = map (λ p. p.value.letters) items } in
    let most : c.front_limit-most.result ≡ (front_stored c.args.count state).most =
    c.front_limit-most.ensures.value ∙ ap (λ (s : PivotsState). (front_stored c.args.count s).most) (sym c.self.view_is) in
    let limit = front-limit c.args.count state (length new) (omega (arith, size, long)) (omega (arith, c.self.invariant.1, long)) (omega (arith, c.self.invariant.1, long)) in (
      all-alike (λ p. p.value.letters) preserved.qubits new front same (All-take (λ p. length p.value.letters ≡ preserved.qubits) c.min.result items c.self.invariant.0),
      omega (arith, limit.0, most),
      omega (arith, limit.1, most),
    )
