-- Pauli items: the qubits of their gates are there.
use Rattle.stab_session.proofs.Names.{◌≡◌, ℕ, ◌≤◌, ◌<◌, List, [], ◌∷◌, All, None, arith, All-nil, All-cons, Letter, OneItem, listed, past, qubits_of, check_within, check-qubits, ArePauliItems}

below-past : (n : ℕ) (qs : List ℕ) → past qs ≤ n → All (λ q. q < n) qs
below-past n [] le = All-nil (λ q. q < n)
below-past n (q ∷ qs) le = All-cons (λ q. q < n) q qs (omega (arith, le)) (below-past n qs (omega (arith, le)))

-- if nothing refuses a list that the items are of, the qubits of their gates are there
pub gates-fit : (n : ℕ) (l : Letter) (qs : List ℕ) (all xs : List OneItem) → ArePauliItems l qs xs → check_within n (listed all) ≡ None → qubits_of (listed xs) ≤ qubits_of (listed all)
    → All (λ q. q < n) qs
gates-fit n l qs all xs is checked within = below-past n qs (omega (arith, is.named, within, check-qubits n (listed all) checked))
