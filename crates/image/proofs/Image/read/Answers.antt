-- `Image::read` meets its contract: refusals 1 to 4 in their order.
use Rattle.image.specs.Pick.{pick}
use Rattle.image.specs.Admit.{header_refusal, layout_ok, node_count, name_count, admission_of}
use Rattle.std.specs.Prelude.{Ok}
use Rattle.image.proofs.Verdict.{short, long, version, spare, no-nodes, many-nodes, many-names, laid_out}
use native.Mathlib.Omega.{arith}
use Prim.Native.Nat.{ℕ}
use mathlib.Core.Path.{◌≡◌, ◌∙◌, sym, ap}
use mathlib.Core.Bool.{Bool}
use Rattle.image.proofs.Image.read.Goals as goal

pub returns-then-s-lt-HEADER : goal.returns-then-s-lt-HEADER
returns-then-s-lt-HEADER c = ap (λ (r : ℕ). admission_of r c.args.s.now) (sym (short _ c.if-s-lt-HEADER.true))

pub returns-then-s-gt-LENGTH : goal.returns-then-s-gt-LENGTH
returns-then-s-gt-LENGTH c = ap (λ (r : ℕ). admission_of r c.args.s.now) (sym (long _ c.if-s-lt-HEADER.false c.if-s-gt-LENGTH.true))

pub returns-then-half_at-ne1 : goal.returns-then-half_at-ne1
returns-then-half_at-ne1 c = ap (λ (r : ℕ). admission_of r c.args.s.now) (sym (version c.args.s.now (omega arith) (omega arith) (omega (arith, c.if-half_at-ne1.true))))

pub returns-then-half_at-ne0 : goal.returns-then-half_at-ne0
returns-then-half_at-ne0 c = ap (λ (r : ℕ). admission_of r c.args.s.now) (sym (spare c.args.s.now (omega arith) (omega arith) (omega arith) (omega (arith, c.if-half_at-ne0.true))))

pub returns-then-n-lt1 : goal.returns-then-n-lt1
returns-then-n-lt1 c = ap (λ (r : ℕ). admission_of r c.args.s.now) (sym (no-nodes c.args.s.now (omega arith) (omega arith) (omega arith) (omega arith) (omega arith)))

pub returns-then-n-gt-NODES : goal.returns-then-n-gt-NODES
returns-then-n-gt-NODES c = ap (λ (r : ℕ). admission_of r c.args.s.now) (sym (many-nodes c.args.s.now (omega arith) (omega arith) (omega arith) (omega arith) (omega arith) (omega arith)))

pub returns-then-m-gt-NAMES : goal.returns-then-m-gt-NAMES
returns-then-m-gt-NAMES c = ap (λ (r : ℕ). admission_of r c.args.s.now) (sym (many-names c.args.s.now (omega arith) (omega arith) (omega arith) (omega arith) (omega arith) (omega arith) (omega arith)))

pub returns-then-not-layout_ok : goal.returns-then-not-layout_ok
returns-then-not-layout_ok c =
    let laid-at : header_refusal c.args.s.now ≡ pick c.layout_ok.result 0 4 = let s = c.args.s.now in
    let e : layout_ok s (node_count s) (name_count s) ≡ c.layout_ok.result = cc in
    laid_out s (omega arith) (omega arith) (omega arith) (omega arith) (omega arith) (omega arith) (omega arith) ∙ ap (λ (b : Bool). pick b 0 4) e in
    ap (λ (r : ℕ). admission_of r c.args.s.now) (sym (laid-at ∙ ap (λ (b : Bool). pick b 0 4) c.if-not-layout_ok.true))

pub returns : goal.returns
returns c =
    let laid-at : header_refusal c.args.s.now ≡ pick c.layout_ok.result 0 4 = let s = c.args.s.now in
    let e : layout_ok s (node_count s) (name_count s) ≡ c.layout_ok.result = cc in
    laid_out s (omega arith) (omega arith) (omega arith) (omega arith) (omega arith) (omega arith) (omega arith) ∙ ap (λ (b : Bool). pick b 0 4) e in
    let s = c.args.s.now in
    let p : Ok (record { nodes = c.half_at-n.result; names = c.half_at-m.result }) ≡ admission_of 0 s = cc in
    p ∙ ap (λ (r : ℕ). admission_of r s) (sym (laid-at ∙ ap (λ (b : Bool). pick b 0 4) c.if-not-layout_ok.false))
