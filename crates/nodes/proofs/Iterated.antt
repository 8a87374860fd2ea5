-- A loop over children: the iterator stays in its part and keeps its end, and each turn goes on to the end of the child.
use Prim.Native.Nat.{ℕ, ◌<◌, ◌≤◌}
use mathlib.Core.Path.{◌≡◌, refl, ◌∙◌}
use mathlib.Core.List.{List}
use native.Mathlib.Omega.{arith}
use Rattle.nodes.specs.Shown.{View, In, tree_of}
use Rattle.nodes.specs.declared.walk.Children.{Children}
use Rattle.nodes.specs.Chain.{Ended, Gave, Begun}

-- the walk is one in the part whose first node is number `b`, up to `to`
pub record Over (part : List ℕ) (b to : ℕ) (s : Children) : Type 0 where
  pub nodes : s.nodes.now ≡ part
  pub base : s.rest.base ≡ b
  pub last : s.rest.end ≡ to

-- one turn: the child, and the walk from its end on
pub record Turn (part : List ℕ) (b to : ℕ) (s : Children) (child : ℕ) (t : Children) : Type 0 where
  pub is : child ≡ s.rest.at
  pub before : child < to
  pub here : In part b child
  pub moved : (W : View part b) → t.rest.at ≡ (tree_of W).end child
  pub still : Over part b to t

-- a walk that was begun: it is what a `for` takes
module _ {part : List ℕ} {b from : ℕ} {s s' : Children} (e : s' ≡ s) (g : Begun part b from s.nodes.now s.rest.base s.rest.at) where
  pub begun : Over part b s'.rest.end s'
  begun = rw e (record { nodes = g.nodes; base = g.base; last = refl })

  -- one whose end is known at once, as that of an entry's head
  pub begun-to : {to : ℕ} → s.rest.end ≡ to → Over part b to s'
  begun-to d = record { nodes = begun.nodes; base = begun.base; last = rw e d }

  pub at-first : s'.rest.at ≡ from
  at-first = rw e g.first

pub ends-at : (a : ℕ) {part : List ℕ} {b : ℕ} {s s' : Children} → s' ≡ s → ((W : View part b) → s.rest.end ≡ (tree_of W).end a) → (W : View part b) → s'.rest.end ≡ (tree_of W).end a
ends-at a e f W = rw e (f W)

pub turn : {part : List ℕ} {b to child : ℕ} {s t : Children} → Over part b to s
    → (t.nodes.now ≡ s.nodes.now) × (t.rest.base ≡ s.rest.base) × (t.rest.end ≡ s.rest.end) × Gave s.nodes.now s.rest.base s.rest.at s.rest.end child t.rest.at → Turn part b to s child t
turn {part} {b} {to} {child} {s} {t} o g =
    let p : Gave part b s.rest.at to child t.rest.at = rw (← o.nodes, ← o.base, ← o.last) g.3 in
    record {
      is = p.is;
      before = let z = p.is in let h = p.before in omega arith;
      here = p.here;
      moved = p.moved;
      still = record { nodes = g.0 ∙ o.nodes; base = g.1 ∙ o.base; last = g.2 ∙ o.last };
    }

pub ended : {part : List ℕ} {b to : ℕ} {s : Children} → Over part b to s → Ended s.rest.at s.rest.end → to ≤ s.rest.at
ended o g = let l = g.done in let e = o.last in omega arith
