-- `is_write` meets its contract: at each return, the tests passed so far say what the definition says.
use native.Mathlib.Omega.{arith}
use mathlib.Core.Path.{◌∙◌, sym, ap}
use mathlib.Core.Bool.{not}
use Rattle.nodes.specs.Shown.{tree_of}
use Rattle.access.proofs.Laws.{root-in, root-worded, write-over, write-other, write-no-state, write-state}
use Rattle.access.proofs.is_write.Goals as goal

pub returns-then-end-root : goal.returns-then-end-root
returns-then-end-root c = λ T. let W = T.view in sym (write-over (tree_of W) T.entry _ _ (c.down-root.ensures.1 W) (let d = c.end.ensures W in omega arith))

pub kind-requires : goal.kind-requires
kind-requires c = root-in c.requires.0.view c.requires.1 c.down-root.ensures.0 c.end.ensures c.if-end-root.false

pub returns-then-kind-ne-IDENT : goal.returns-then-kind-ne-IDENT
returns-then-kind-ne-IDENT c =
    λ T.
    let W = T.view in
    sym (write-other (tree_of W) T.entry _ _ (c.down-root.ensures.1 W) (let d = c.end.ensures W in omega arith) (λ k. c.if-kind-ne-IDENT.true (c.kind.ensures W ∙ k)))

pub returns-then-not-is_marked : goal.returns-then-not-is_marked
returns-then-not-is_marked c =
    λ T.
    let W = T.view in
    sym
    (write-no-state (tree_of W) T.entry _ _ (c.down-root.ensures.1 W) (let d = c.end.ensures W in omega arith) (sym (c.kind.ensures W) ∙ c.if-kind-ne-IDENT.false)
    (sym (c.is_marked.ensures W _ T.state_marks) ∙ c.if-not-is_marked.true))

pub returns : goal.returns
returns c =
    λ T.
    let W = T.view in
    ap not (c.is_marked-2.ensures W _ T.written_marks)
    ∙ sym
    (write-state (tree_of W) T.entry _ _ (c.down-root.ensures.1 W) (let d = c.end.ensures W in omega arith) (sym (c.kind.ensures W) ∙ c.if-kind-ne-IDENT.false)
    (sym (c.is_marked.ensures W _ T.state_marks) ∙ c.if-not-is_marked.false))

pub is_marked-requires : goal.is_marked-requires
is_marked-requires c = root-worded c.requires.0.view c.requires.1 c.down-root.ensures.0 c.end.ensures c.if-end-root.false c.kind.ensures c.if-kind-ne-IDENT.false

pub is_marked-requires-2 : goal.is_marked-requires-2
is_marked-requires-2 c = root-worded c.requires.0.view c.requires.1 c.down-root.ensures.0 c.end.ensures c.if-end-root.false c.kind.ensures c.if-kind-ne-IDENT.false
