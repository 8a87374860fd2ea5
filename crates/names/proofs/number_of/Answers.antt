-- `number_of` meets its contract: a name with the word's bytes can only be the first that is not before it.
use native.Mathlib.Omega.{arith}
use Prim.Native.Nat.{ℕ, ◌+◌}
use mathlib.Core.Path.{◌≡◌, sym, ap, ◌∙◌}
use mathlib.Core.List.{List}
use Rattle.rules.specs.Sweep.{same}
use Rattle.nodes.specs.Shown.{name_text}
use Rattle.names.proofs.Located.{found_none, found-other, found_here}
use Rattle.names.proofs.number_of.Goals as goal

pub returns-then-head-k : goal.returns-then-head-k
returns-then-head-k c = let n = c.requires.names in found_none c.requires c.count_before-k.ensures (let h = c.if-head-k.true in omega arith)

pub returns-then-not-equal : goal.returns-then-not-equal
returns-then-not-equal c =
    let compared : c.equal.result ≡ same (name_text c.args.image.now (c.count_before-k.result + 1)) c.args.name_text.now = c.equal.ensures ∙ ap (λ (v : List ℕ). same v c.args.name_text.now) c.name_at.ensures in
    found-other c.requires c.count_before-k.ensures (sym (compared) ∙ c.if-not-equal.true)

pub returns : goal.returns
returns c =
    let compared : c.equal.result ≡ same (name_text c.args.image.now (c.count_before-k.result + 1)) c.args.name_text.now = c.equal.ensures ∙ ap (λ (v : List ℕ). same v c.args.name_text.now) c.name_at.ensures in
    let n = c.requires.names in found_here c.requires c.count_before-k.ensures (let h = c.if-head-k.false in omega arith) (sym (compared) ∙ c.if-not-equal.false)
