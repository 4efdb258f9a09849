use Rattle.stab_pauli.proofs.Names.{arith, ℕ, ◌≡◌, length, sym, ◌∙◌, ap, replicate, common_steps, identity}
use Rattle.stab_pauli.proofs.Lemmas.{view_of, lies_of, is_of, length-view, written_view, blank_view}
use Rattle.stab_pauli.proofs.pauli.Pauli.clear.Goals as goal

pub invariant_of-self : goal.invariant_of-self
invariant_of-self c =
    let mine = view_of c.self.invariant c.self.view_is in
    let r : c.fill.new.self ≡ replicate (length c.self.inside.words.items) 0 = grind (arith, common_steps) in
    let view = written_view c.fill.new.self c.self.inside.words.len mine c.self.inside.words.ok.0 (blank_view c.self.inside.qubits c.self.inside.blocks c.fill.new.self mine.row.blocks (r ∙ ap (λ n. replicate {A = ℕ} n 0) mine.row.size)) in
    lies_of view

pub returns : goal.returns
returns c =
    let mine = view_of c.self.invariant c.self.view_is in
    let r : c.fill.new.self ≡ replicate (length c.self.inside.words.items) 0 = grind (arith, common_steps) in
    let view = written_view c.fill.new.self c.self.inside.words.len mine c.self.inside.words.ok.0 (blank_view c.self.inside.qubits c.self.inside.blocks c.fill.new.self mine.row.blocks (r ∙ ap (λ n. replicate {A = ℕ} n 0) mine.row.size)) in
    record { value = is_of view ∙ ap identity (sym (length-view mine)) }
