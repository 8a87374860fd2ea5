-- `is_signed` meets its contract: entries of other keys have other signatures.
use mathlib.Core.Path.{sym, ◌∙◌}
use Rattle.nodes.proofs.Fall.{not_so}
use Rattle.signature.proofs.Reading.{below-count}
use Rattle.resolve_overloads.proofs.Keys.{keys-same}
use Rattle.resolve_overloads.proofs.Kept.is_signed.Goals as goal

pub returns-then-self-g : goal.returns-then-self-g
returns-then-self-g c = λ L. let E = L.pair in sym (not_so _ (λ t. c.if-self-g.true (L.of_g ∙ keys-same E.view.image E.view.shown.admitted c.args.g c.args.e (below-count E.view E.there_g) (below-count E.view E.there_e) E.is_g E.is_e t ∙ sym L.of_e)))

pub returns : goal.returns
returns c = λ L. c.same_signature.ensures L.pair.view
