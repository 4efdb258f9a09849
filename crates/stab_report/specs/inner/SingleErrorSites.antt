-- Single error sites: the sites for single errors that the values of the code stand for, and the steps of one item.
-- Source: this project's own.
use Rattle.std.specs.Prelude.{◌≡◌, ℕ, List, [], ◌∷◌, take, drop, replicate, Option, Some, None}
use Rattle.stab_items.specs.Items.{Items}
use Rattle.stab_instructions.specs.declared.product.Factor.{Factor}
use Rattle.stab_regions.specs.SingleErrors.{Site, in_front, following}
use Rattle.stab_items.specs.StepPaths.{paths_of}
use Rattle.stab_items.specs.declared.circuit.step_items.StepItem.{StepItem}
use Rattle.stab_report.specs.declared.single_error_sites.Site.{Site as SiteValue}

-- the site that a value stands for
abbrev pub site_shown : SiteValue → Site
site_shown s = record { qubit = s.qubit; following = s.following }

-- the same, if there is one
abbrev pub site_found : Option SiteValue → Option Site
site_found (Some s) = Some (site_shown s)
site_found None = None

-- the sites at a factor of a product
abbrev pub factor_sites : Factor → List Site
factor_sites f = in_front f.qubit ∷ following f.qubit ∷ []

-- this many steps from a step on are of the item of this path
abbrev pub IsItemStretch : Items → ℕ → StepItem → Type 0
IsItemStretch items step item = take item.steps (drop step (paths_of items)) ≡ replicate item.steps item.path
