-- Laws of the sites for single errors: the one of a number among those of a product.
use Rattle.stab_report.proofs.Names.{◌≡◌, refl, ap, ◌∙◌, ℕ, zero, suc, ◌+◌, ◌*◌, ◌/◌, ◌%◌, ◌<◌, ◌≤◌, List, [], ◌∷◌, length, get_or, Option, Some, None, arith, flat_map, slice_get, slice_get_past, Factor, SiteValue, factor_sites, site_found}

length-sites : (fs : List Factor) → length (flat_map factor_sites fs) ≡ 2 * length fs
length-sites [] = refl
length-sites (f ∷ fs) = let more = length-sites fs in omega (arith, more)

-- no site is past the last factor
pub site_past : (fs : List Factor) (k : ℕ) → length fs ≤ k / 2 → slice_get (flat_map factor_sites fs) k ≡ None
site_past fs k h = slice_get_past (flat_map factor_sites fs) k (let n = length-sites fs in omega (arith, n, h))

-- the site of a number, by the factor and the side
site_of : (fs : List Factor) (h b : ℕ) (f : Factor) → h < length fs → b < 2 → slice_get (flat_map factor_sites fs) (2 * h + b) ≡ slice_get (factor_sites (get_or fs h f)) b
site_of [] h b f less small = absurd (omega arith)
site_of (g ∷ fs) zero zero f less small = refl
site_of (g ∷ fs) zero (suc zero) f less small = refl
site_of (g ∷ fs) zero (suc (suc b)) f less small = absurd (omega arith)
site_of (g ∷ fs) (suc h) b f less small =
    let same : 2 * suc h + b ≡ suc (suc (2 * h + b)) = omega arith in
    ap (slice_get (flat_map factor_sites (g ∷ fs))) same ∙ site_of fs h b f (omega arith) small

pub site_of_factor : (fs : List Factor) (k : ℕ) (f : Factor) → k / 2 < length fs → slice_get (flat_map factor_sites fs) k ≡ slice_get (factor_sites (get_or fs (k / 2) f)) (k % 2)
site_of_factor fs k f less =
    let same : k ≡ 2 * (k / 2) + k % 2 = omega arith in
    ap (slice_get (flat_map factor_sites fs)) same ∙ site_of fs (k / 2) (k % 2) f less (omega arith)

-- no site was found
pub found_none : (found : Option SiteValue) → ((s : SiteValue) → found ≡ Some s → ⊥) → site_found found ≡ None
found_none None h = refl
found_none (Some s) h = absurd (h s refl)
