-- The passes of document 01: which offences are a pass's, and which one is its first.
use Rattle.std.specs.Prelude.{ℕ, ◌≤◌, ◌≡◌, ◌&&◌, List, [], ◌∷◌, ◌⊎◌, leb}
use Rattle.image.specs.Pick.{pick}
use Rattle.rules.specs.Tree.{Tree}
use Rattle.rules.specs.Record.{Rec}
use Rattle.rules.specs.Resolve.{resolve}
use Rattle.rules.specs.Access.{access}
use Rattle.rules.specs.Linear.{linear}
use Rattle.rules.specs.All.{Offence, Before, key}

-- a pass: its part of the list, and its codes
pub record PassRules : Type 0 where
  pub part : Tree → List Rec
  pub least : ℕ
  pub most : ℕ

abbrev pub resolving : PassRules
resolving = record { part = resolve; least = 20; most = 40 }

abbrev pub accessing : PassRules
accessing = record { part = access; least = 50; most = 51 }

abbrev pub linearity : PassRules
linearity = record { part = linear; least = 60; most = 62 }

-- r is one of the pass's
abbrev pub Of : PassRules → Rec → Type 0
Of p r = (p.least ≤ r.code) × (r.code ≤ p.most)

-- the records of a pass among those of a list
unfoldable pub of_pass : PassRules → List Rec → List Rec
of_pass p [] = []
of_pass p (r ∷ l) =
    pick (leb p.least r.code && leb r.code p.most) (r ∷ of_pass p l) (of_pass p l)

-- no offence of the contract is one of the pass's
abbrev pub None : Tree → PassRules → Type 0
None t p = (r : Rec) → Offence t r → Of p r → ⊥

-- r is the first of them
pub record FirstOffence (t : Tree) (p : PassRules) (r : Rec) : Type 0 where
  pub is : Offence t r
  pub of : Of p r
  pub first : (q : Rec) → Offence t q → Of p q → (q ≡ r) ⊎ Before (key t r) (key t q)
