-- `count_before` meets its contract: the names below `low` are before the word, those from `high` on are not.
use native.Mathlib.Omega.{arith}
use Prim.Native.Nat.{ℕ, ◌+◌, ◌/◌}
use mathlib.Core.Path.{◌≡◌, sym, ap, ◌∙◌}
use mathlib.Core.List.{List}
use Rattle.image.specs.Text.{less}
use Rattle.nodes.specs.Shown.{name_text}
use Rattle.names.proofs.Search.{narrow-starts, narrow-up, narrow-down, narrow-done}
use Rattle.names.proofs.count_before.Goals as goal

pub loop-low-init : goal.loop-low-init
loop-low-init c = narrow-starts _ _ c.requires.names

pub name_at-requires : goal.name_at-requires
name_at-requires c = let n = c.requires.names in let i = c.loop-low.invariant in let h = i.inside in let o = i.ordered in (c.requires, omega arith)

pub loop-low-preserved-then-below : goal.loop-low-preserved-then-below
loop-low-preserved-then-below c =
    let compared : less (name_text c.args.image.now ((c.loop-low.low + c.loop-low.high) / 2 + 1)) c.args.name_text.now ≡ c.below.result = ap (λ (v : List ℕ). less v c.args.name_text.now) (sym c.name_at.ensures) ∙ sym c.below.ensures in
    narrow-up c.requires c.loop-low.invariant _ (omega arith) (compared ∙ c.if-below.true)

pub loop-low-preserved : goal.loop-low-preserved
loop-low-preserved c =
    let compared : less (name_text c.args.image.now ((c.loop-low.low + c.loop-low.high) / 2 + 1)) c.args.name_text.now ≡ c.below.result = ap (λ (v : List ℕ). less v c.args.name_text.now) (sym c.name_at.ensures) ∙ sym c.below.ensures in
    narrow-down c.requires c.loop-low.invariant _ (omega arith) (omega arith) (compared ∙ c.if-below.false)

pub returns : goal.returns
returns c = narrow-done c.loop-low.invariant c.loop-low-test.false
