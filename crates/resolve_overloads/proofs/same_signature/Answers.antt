-- `same_signature` meets its contract: parameter by parameter, both entries in step.
use native.Mathlib.Omega.{arith}
use Prim.Native.Nat.{ℕ, ◌+◌, ◌<◌, ◌≤◌}
use mathlib.Core.Path.{◌≡◌, refl, sym, ap, ap₂, ◌∙◌, subst}
use mathlib.Core.Bool.{Bool, true, false, not}
use mathlib.Core.List.{List}
use Rattle.std.specs.Prelude.{Option, Some, None, MatchOption}
use Rattle.std.specs.Option.{is_some}
use Rattle.rules.specs.Tree.{Tree}
use Rattle.nodes.specs.Shown.{View, In, tree_of}
use Rattle.nodes.specs.declared.walk.Children.{Children}
use Rattle.nodes.proofs.Iterated.{Over, Turn, begun, turn}
use Rattle.signature.specs.Alike.{same_type}
use Rattle.signature.specs.Keys.{is_param}
use Rattle.signature.proofs.Same.{param-true, param-false}
use Rattle.signature.proofs.Reading.{param-type-in, param-past}
use Rattle.resolve_overloads.specs.Entries.{NextParam, AtParam, AtNoParam}
use Rattle.resolve_overloads.proofs.Turns.{by, name-in-g, name-in-e, pair-names, pair-starts, pair-last, pair-short, pair-differ, pair-on}
use Rattle.resolve_overloads.proofs.same_signature.Goals as goal

same-at : (t : Tree) {p q a b : ℕ} {r : Bool} → p ≡ a → q ≡ b → r ≡ same_type t (p + 2) (q + 2) → r ≡ same_type t (a + 2) (b + 2)
same-at t x y e = e ∙ ap₂ (λ (m n : ℕ). same_type t (m + 2) (n + 2)) x y

-- the walk s over the children of the entry x, up to its end
module _ (x : ℕ) {nodes : List ℕ} {to : ℕ} {s : Children} (o : Over nodes 0 to s) (d : (W : View nodes 0) → to ≡ (tree_of W).end x) where
  -- it stands at no parameter
  no : AtNoParam s → (W : View nodes 0) → is_param (tree_of W) x s.rest.at ≡ false
  no n W =
      let f : (W : View nodes 0) → s.rest.at < to → (tree_of W).kind s.rest.at ≡ 10 → ⊥ = λ W l k. subst (λ (m : List ℕ). (W : View m 0) → s.rest.at < s.rest.end → (tree_of W).kind s.rest.at ≡ 10 → ⊥) o.nodes n.is W (let e = o.last in omega arith) k in
      param-false (tree_of W) x s.rest.at (λ l k. f W (let e = d W in omega arith) k)

  -- or gives the parameter p
  module _ {t : Children} {p : ℕ} (r : NextParam s t × AtParam s t p) where
    goes : Turn nodes 0 to s p t
    goes = turn o (r.0.nodes, r.0.base, r.0.last, r.1.step)

    kind-is : (W : View nodes 0) → (tree_of W).kind p ≡ 10
    kind-is = subst (λ (m : List ℕ). (W : View m 0) → (tree_of W).kind p ≡ 10) o.nodes r.1.is

    before : (W : View nodes 0) → p < (tree_of W).end x
    before W = let b = goes.before in let e = d W in omega arith

    yes : (W : View nodes 0) → is_param (tree_of W) x s.rest.at ≡ true
    yes W = let z = goes.is in param-true (tree_of W) x s.rest.at (let b = before W in omega arith) (ap (tree_of W).kind (sym z) ∙ kind-is W)

    on : (W : View nodes 0) → t.rest.at ≡ (tree_of W).end s.rest.at
    on W = goes.moved W ∙ ap (tree_of W).end goes.is

    module _ (W : View nodes 0) (i : In nodes 0 x) (l : x + 2 ≤ s.rest.at) where
      low : x + 2 ≤ p
      low = let z = goes.is in omega arith

      typed : In nodes 0 (p + 2)
      typed = (param-type-in W i low (before W) (kind-is W)).0

      past : s.rest.at < t.rest.at
      past = let z = goes.is in let m = (param-past W i low (before W) (kind-is W) (goes.moved W)).0 in omega arith

  -- whether it gives one
  gives : (r : Option ℕ) {t : Children} → NextParam s t → MatchOption r (AtNoParam s) (AtParam s t) → (W : View nodes 0) → is_some r ≡ is_param (tree_of W) x s.rest.at
  gives None n m W = sym (no m W)
  gives (Some p) n m W = sym (yes (n, m) W)

turned : (a b : Bool) → a ≡ not b → b ≡ not a
turned a true e = sym (ap not e)
turned a false e = sym (ap not e)

pub name-requires : goal.name-requires
name-requires c = name-in-g c.requires

pub name-requires-2 : goal.name-requires-2
name-requires-2 c = name-in-e c.requires

pub returns-then-name : goal.returns-then-name
returns-then-name c = λ W. pair-names (by c.requires W) (λ e. c.if-name.true (c.name.ensures W ∙ e ∙ sym (c.name-2.ensures W)))

pub loop-p-init : goal.loop-p-init
loop-p-init c =
    let a = c.from-ours.ensures in
    let b = c.from-theirs.ensures in
    let x = a.0.first in
    let y = b.0.first in
    (begun refl a.0, begun refl b.0, omega arith, omega arith, λ F. rw (x, y) (pair-starts F (sym (c.name.ensures F.view) ∙ c.if-name.false ∙ c.name-2.ensures F.view)))

pub returns-in_default-next_param : goal.returns-in_default-next_param
returns-in_default-next_param c =
    let i = c.loop-p.invariant in
    λ W. let F = by c.requires W in pair-short F (i.4 F) i.2 i.3 (yes c.args.g i.0 c.from-ours.ensures.1 c.in-Some.ensures W) (no c.args.e i.1 c.from-theirs.ensures.1 c.in_default-next_param.ensures.1 W)

pub same_type-requires : goal.same_type-requires
same_type-requires c =
    let E = c.requires in
    let i = c.loop-p.invariant in
    (E.view, typed c.args.g i.0 c.from-ours.ensures.1 c.in-Some.ensures E.view E.there_g i.2, typed c.args.e i.1 c.from-theirs.ensures.1 c.in-Some-next_param.ensures E.view E.there_e i.3)

pub returns-then-not-same_type : goal.returns-then-not-same_type
returns-then-not-same_type c =
    let i = c.loop-p.invariant in
    let a = c.from-ours.ensures.1 in
    let b = c.from-theirs.ensures.1 in
    let r = c.in-Some.ensures in
    let s = c.in-Some-next_param.ensures in
    λ W. let F = by c.requires W in pair-differ F (i.4 F) i.2 i.3 (yes c.args.g i.0 a r W) (yes c.args.e i.1 b s W) (same-at (tree_of W) r.1.step.is s.1.step.is (sym c.if-not-same_type.true ∙ c.same_type.ensures W))

pub loop-p-smaller : goal.loop-p-smaller
loop-p-smaller c =
    let E = c.requires in
    let i = c.loop-p.invariant in
    let r = c.in-Some.ensures in
    let b = r.1.step.before in
    let l = r.0.last in
    let p = past c.args.g i.0 c.from-ours.ensures.1 r E.view E.there_g i.2 in
    omega arith

pub loop-p-preserved : goal.loop-p-preserved
loop-p-preserved c =
    let E = c.requires in
    let i = c.loop-p.invariant in
    let a = c.from-ours.ensures.1 in
    let b = c.from-theirs.ensures.1 in
    let r = c.in-Some.ensures in
    let s = c.in-Some-next_param.ensures in
    let x = i.2 in
    let y = i.3 in
    let p = past c.args.g i.0 a r E.view E.there_g x in
    let q = past c.args.e i.1 b s E.view E.there_e y in (
      (goes c.args.g i.0 a r).still,
      (goes c.args.e i.1 b s).still,
      omega arith,
      omega arith,
      λ F. pair-on F (i.4 F) x y (yes c.args.g i.0 a r F.view) (yes c.args.e i.1 b s F.view) (same-at (tree_of F.view) r.1.step.is s.1.step.is (sym c.if-not-same_type.false ∙ c.same_type.ensures F.view)) (on c.args.g i.0 a r F.view) (on c.args.e i.1 b s F.view),
    )

pub returns : goal.returns
returns c =
    let i = c.loop-p.invariant in
    let r = c.next_param-2.ensures in
    λ W.
    let F = by c.requires W in
    turned _ _ c.is_none.ensures
    ∙ pair-last F (i.4 F) i.2 i.3 (no c.args.g i.0 c.from-ours.ensures.1 c.in_default.ensures.1 W) _ (gives c.args.e i.1 c.from-theirs.ensures.1 _ r.0 r.1 W)
