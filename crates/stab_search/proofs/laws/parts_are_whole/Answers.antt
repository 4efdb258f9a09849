use Rattle.stab_search.proofs.SearchPartLemmas.{whole, least}
use Rattle.stab_search.proofs.laws.parts_are_whole.Goals as goal

pub returns : goal.returns
returns c = record { whole = whole; least = least }
