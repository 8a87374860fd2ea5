-- `layout_ok` meets its contract: the four offsets of the header, in their order.
use Rattle.image.proofs.Verdict.{layout-1, layout-2, layout-3, layout-4, layout-5}
use Prim.Native.Nat.{ℕ}
use native.Mathlib.Omega.{arith}
use mathlib.Core.Path.{◌∙◌, sym, ap}
use lib.Dec.{leb}
use lib.ListN.{length}
use Rattle.image.proofs.layout_ok.Goals as goal

pub returns-then-word_at-ne-HEADER : goal.returns-then-word_at-ne-HEADER
returns-then-word_at-ne-HEADER c = sym (layout-1 c.args.s.now c.args.image.nodes c.args.image.names (omega (arith, c.if-word_at-ne-HEADER.true)))

pub returns-then-word_at-names : goal.returns-then-word_at-names
returns-then-word_at-names c = sym (layout-2 c.args.s.now c.args.image.nodes c.args.image.names (omega arith) (omega (arith, c.if-word_at-names.true)))

pub returns-then-word_at-text : goal.returns-then-word_at-text
returns-then-word_at-text c = sym (layout-3 c.args.s.now c.args.image.nodes c.args.image.names (omega arith) (omega arith) (omega (arith, c.if-word_at-text.true)))

pub returns-then-word_at-s : goal.returns-then-word_at-s
returns-then-word_at-s c = sym (layout-4 c.args.s.now c.args.image.nodes c.args.image.names (omega arith) (omega arith) (omega arith) (omega (arith, c.if-word_at-s.true)))

pub returns : goal.returns
returns c =
    let s = c.args.s.now in
    ap (λ (x : ℕ). leb x (length s)) c.text_at-text.ensures
    ∙ sym (layout-5 s c.args.image.nodes c.args.image.names (omega arith) (omega arith) (omega arith) (omega arith))
