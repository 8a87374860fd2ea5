-- `signer` meets its contract: no parameter, no signer, or what the rule finds at the signer.
use mathlib.Core.Path.{◌∙◌, ◌≡◌, sym}
use native.Mathlib.Omega.{arith}
use Rattle.records.proofs.Laws.{added-nothing, asked}
use Rattle.nodes.specs.Shown.{View, Worded, tree_of}
use Rattle.nodes.specs.Entries.{HeldNode}
use Rattle.nodes.proofs.Parts.{inside}
use Rattle.nodes.proofs.Entries.{end-bytes}
use Rattle.resolve_clauses.specs.Said.{OneTable}
use Rattle.resolve_clauses.proofs.Hits.{signer-in, signer-none, signer-one, signer-other, type-in, signer-after}
use Rattle.resolve_clauses.proofs.signer.Goals as goal

pub returns-then-kind-ne-PARAM : goal.returns-then-kind-ne-PARAM
returns-then-kind-ne-PARAM c = added-nothing (λ h. let W = h.seen.view in signer-other _ (tree_of W) _ (λ e. c.if-kind-ne-PARAM.true (c.kind.ensures W ∙ e)))

pub returns-then-end-s : goal.returns-then-end-s
returns-then-end-s c =
    let is-param : (W : View c.args.nodes.now 0) → (tree_of W).kind c.args.p ≡ 10 = λ W. sym (c.kind.ensures W) ∙ c.if-kind-ne-PARAM.false in
    added-nothing (λ h. let W = h.seen.view in let e = c.end-s.ensures W in let f = c.end.ensures W in let l = c.if-end-s.true in signer-none _ (tree_of W) _ (is-param W) (omega arith))

pub returns : goal.returns
returns c =
    let is-param : (W : View c.args.nodes.now 0) → (tree_of W).kind c.args.p ≡ 10 = λ W. sym (c.kind.ensures W) ∙ c.if-kind-ne-PARAM.false in
    let held : (h : HeldNode c.args.nodes.now c.args.p c.args.entry (OneTable c.args.nodes.now 0 c.args.marks.now)) → h.entries c.end-s.result ≡ c.args.entry = λ h. let W = h.seen.view in
    let i = c.requires.1 in
    let e = c.end-s.ensures W in
    let f = c.end.ensures W in
    let g = c.if-end-s.false in
    let d = end-bytes W c.args.p (inside W i) in
    let l = signer-after W i (is-param W) in
    h.held _ (omega arith) (omega arith) in
    asked (λ h. h.seen) c.args.rule.code _ (held) _
    (λ T. let W = T.view in let f = c.end.ensures W in let h = c.if-end-s.false in signer-one _ (tree_of W) _ (is-param W) (c.end-s.ensures W) (omega arith) ∙ c.is_hit.ensures T)
    c.emit_if.ensures

pub end-s-requires : goal.end-s-requires
end-s-requires c =
    let is-param : (W : View c.args.nodes.now 0) → (tree_of W).kind c.args.p ≡ 10 = λ W. sym (c.kind.ensures W) ∙ c.if-kind-ne-PARAM.false in
    let W = c.requires.0.view in type-in W c.requires.1 (is-param W)

pub is_hit-requires : goal.is_hit-requires
is_hit-requires c =
    let is-param : (W : View c.args.nodes.now 0) → (tree_of W).kind c.args.p ≡ 10 = λ W. sym (c.kind.ensures W) ∙ c.if-kind-ne-PARAM.false in
    let worded : Worded c.args.nodes.now 0 c.end-s.result = let W = c.requires.0.view in let f = c.end.ensures W in signer-in W c.requires.1 (is-param W) (c.end-s.ensures W) (omega arith) in
    worded

pub emit_if-requires : goal.emit_if-requires
emit_if-requires c =
    let is-param : (W : View c.args.nodes.now 0) → (tree_of W).kind c.args.p ≡ 10 = λ W. sym (c.kind.ensures W) ∙ c.if-kind-ne-PARAM.false in
    let worded : Worded c.args.nodes.now 0 c.end-s.result = let W = c.requires.0.view in let f = c.end.ensures W in signer-in W c.requires.1 (is-param W) (c.end-s.ensures W) (omega arith) in
    let h = (worded).here.2 in let l = c.requires.2 in (l, omega arith, let n = c.requires.3 in omega arith)
