use Rattle.stab_tableau.proofs.Names.{length, refl}
use Rattle.stab_tableau.proofs.SymmetryLemmas.{IsSymmetry-image, IsSymmetry-pair}
use Rattle.stab_tableau.proofs.gate_laws.gates_keep_products.Goals as goal

pub returns : goal.returns
returns c = record {
  law = (
    (λ g q p r same. (IsSymmetry-image (length r.letters) g q).keeps_product p r same refl),
    (λ g n a b lt_a lt_b distinct. (IsSymmetry-pair n g a b lt_a lt_b distinct).keeps_product),
  );
}
