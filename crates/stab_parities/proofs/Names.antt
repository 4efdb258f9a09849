-- What the proofs of this crate take from std, from the crate below and from its definitions.
pub use Rattle.std.proofs.Common.{◌≡◌, ℕ, zero, suc, ◌+◌, ◌≤◌, ◌<◌, ◌⊎◌, inl, inr, refl, sym, ◌∙◌, subst, arith, Bool, true, false, List, [], ◌∷◌, ◌++◌, length, append-nil, append_assoc, ne_eqb, ap, ◌||◌, drop-cons, drop, get_or}
pub use Rattle.std.proofs.Math.ListN.{drop_of_length-le}
pub use Rattle.std.proofs.lemmas.Bool.{eqb-true}
pub use Rattle.std.specs.List.{list_any}
pub use Rattle.std.specs.Prelude.{◌==◌}
pub use Rattle.stab_gates.proofs.ParityLemmas.{parity-assoc}
pub use Rattle.stab_gates.specs.Letters.{◌⊕◌}
pub use Rattle.stab_parities.specs.Ascending.{AscendsFrom, IsAscending}
pub use Rattle.stab_parities.specs.OddNumbers.{odd, row}
