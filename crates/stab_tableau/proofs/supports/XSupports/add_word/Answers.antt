use Rattle.stab_tableau.proofs.Names.{◌≡◌, ◌<◌, ◌+◌, ◌*◌, ap, ◌∙◌, length, arith, Supports, has_position}
use Rattle.stab_tableau.proofs.SupportLemmas.{positions-added, positions-unchanged}
use Rattle.stab_tableau.proofs.supports.XSupports.add_word.Goals as goal
use Rattle.stab_tableau.proofs.supports.XSupports.add_word.Goals.{After-index}

in-range : (c : After-index) → 16 * c.args.group + c.args.word < length c.self.inside.words.items
in-range c =
    let e : length c.self.inside.known.items ≡ length c.args.self.now.known = ap (λ (s : Supports). length s.known) c.self.view_is in
    omega (arith, e, c.self.invariant.size, c.requires.in_range, c.requires.word_in_range)

pub returns-clause-preserved : goal.returns-clause-preserved
returns-clause-preserved c = λ g w position one.
    positions-unchanged c.self.inside.words.items (16 * c.args.group + c.args.word) c.index.result.now c.args.positions (in-range (goal.at.returns-clause-preserved c).After-index) c.index.ensures
    (16 * g + w) position (ap (λ (s : Supports). has_position s g w position) c.self.view_is ∙ one)

pub returns-clause-added : goal.returns-clause-added
returns-clause-added c = λ position one.
    positions-added c.self.inside.words.items (16 * c.args.group + c.args.word) c.index.result.now c.args.positions (in-range (goal.at.returns-clause-added c).After-index) c.index.ensures position one
