-- `token` meets its contract: the bytes of the part are those of the tree's node.
use native.Mathlib.Omega.{arith}
use Prim.Native.Nat.{ℕ, ◌+◌, ◌*◌, ◌-◌}
use mathlib.Core.Path.{◌≡◌, sym, ap, ◌∙◌, ap₂}
use Rattle.image.specs.Node.{kind_of, name_of}
use Rattle.nodes.proofs.Parts.{kind-is, number_is}
use Rattle.resolve_overloads.proofs.token.Goals as goal

pub returns : goal.returns
returns c = (
  let a = c.name.ensures.1 in let b = c.kind.ensures.1 in omega arith,
  λ W.
      let z : c.args.p - 0 ≡ c.args.p = omega arith in
      ap₂ (λ (x y : ℕ). x + 65536 * y)
      (c.name.ensures.0 ∙ ap (name_of c.args.nodes.now) (sym z) ∙ number_is W c.requires)
      (c.kind.ensures.0 ∙ ap (kind_of c.args.nodes.now) (sym z) ∙ kind-is W c.requires),
)
