-- Every text is that of one circuit or has one fault.
use Rattle.stab_circuit.proofs.Names.{◌≡◌, refl, sym, ap, ◌∙◌, ℕ, List, Option, Some, None, ◌⊎◌, inl, inr, Refusal, Fault, whole, Items, text_fault, StandsFor, check_of, IsCircuit, IsFaultOf, IsRefused}
use Rattle.stab_circuit.proofs.RoundLemmas.{some_items, only_items}

-- items that a text stands for are a circuit, or refused as a whole
circuit_or_refused : (text : List ℕ) (items : Items) (check : Option Refusal) → StandsFor text items → check_of items ≡ check → IsCircuit text items ⊎ ((fault : Fault) × IsFaultOf text fault)
circuit_or_refused text items None stands checks = inl (stands, checks)
circuit_or_refused text items (Some r) stands checks = inr (whole r, inr (items, r, stands, checks, refl))

-- a text has a fault by its lines, or stands for items
meaning_by : (text : List ℕ) (found : Option Fault) → text_fault text ≡ found → ((items : Items) × IsCircuit text items) ⊎ ((fault : Fault) × IsFaultOf text fault)
meaning_by text (Some fault) faults = inr (fault, inl faults)
meaning_by text None faults =
    let found = some_items text faults in
    by_check found.0 (circuit_or_refused text found.0 (check_of found.0) found.1 refl)
  where
    by_check : (items : Items) → IsCircuit text items ⊎ ((fault : Fault) × IsFaultOf text fault) → ((other : Items) × IsCircuit text other) ⊎ ((fault : Fault) × IsFaultOf text fault)
    by_check items (inl circuit) = inl (items, circuit)
    by_check items (inr fault) = inr fault

pub some_meaning : (text : List ℕ) → ((items : Items) × IsCircuit text items) ⊎ ((fault : Fault) × IsFaultOf text fault)
some_meaning text = meaning_by text (text_fault text) refl

pub one_circuit : (text : List ℕ) (items other : Items) → IsCircuit text items → IsCircuit text other → other ≡ items
one_circuit text items other first second = only_items text items other first.0 second.0

-- a text's whole refusal is that of the items that it stands for
refused_by : (text : List ℕ) (items : Items) (check : Option Refusal) (fault : Fault) → StandsFor text items → check_of items ≡ check → IsRefused text fault → (r : Refusal) × (check ≡ Some r) × (fault ≡ whole r)
refused_by text items check fault stands checks refused =
    let same = only_items text items refused.0 stands refused.2 in
    (refused.1, sym checks ∙ ap check_of (sym same) ∙ refused.3, refused.4)

pub no_fault : (text : List ℕ) (items : Items) (fault : Fault) → IsCircuit text items → IsFaultOf text fault → ⊥
no_fault text items fault circuit (inl faults) = let none = circuit.0.0 in cc
no_fault text items fault circuit (inr refused) = let by = refused_by text items None fault circuit.0 circuit.1 refused in let none = by.1 in cc

pub one_fault : (text : List ℕ) (fault other : Fault) → IsFaultOf text fault → IsFaultOf text other → other ≡ fault
one_fault text fault other (inl first) (inl second) = let same : Some other ≡ Some fault = sym second ∙ first in cc
one_fault text fault other (inl first) (inr second) = let none = second.2.0 in absurd (cc)
one_fault text fault other (inr first) (inl second) = let none = first.2.0 in absurd (cc)
one_fault text fault other (inr first) (inr second) =
    let by = refused_by text first.0 (Some first.1) other first.2 first.3 second in
    let same : first.1 ≡ by.0 = cc in
    by.2 ∙ ap whole (sym same) ∙ sym first.4
