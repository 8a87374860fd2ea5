-- Document 01, refusal 8, in one sweep: the table of one mark for each name number, after i nodes.
use Prim.Native.Nat.{ℕ, ◌+◌, ◌<◌, ◌≤◌}
use mathlib.Core.Path.{◌≡◌, ap, ◌∙◌, sym}
use mathlib.Core.Bool.{Bool, true, false}
use mathlib.Core.List.{List}
use mathlib.Core.Logic.{⊎_elim}
use native.Mathlib.Omega.{arith}
use borrow.Author.Tests.{eq-eqb, ne_eqb, le-leb, lt-leb}
use lib.Dec.{leb, eqb}
use lib.ListN.{get_or, set, replicate}
use Rattle.image.specs.Pick.{pick, somewhere}
use Rattle.image.specs.Maxima.{max_names}
use Rattle.image.specs.Node.{name_of}
use Rattle.image.specs.Tree.{carries_name, used_in}
use Rattle.image.proofs.Decide.{lt-or-ge}
use Rattle.image.proofs.Every.{some-start, some-here, some_same, some_as}
use Rattle.image.proofs.Tabled.{Tabled, tabled-none, tabled-set}

-- the cell of a name number
abbrev pub cell_of : ℕ → ℕ
cell_of x = pick (leb x max_names) x 0

pub cell-own : (x : ℕ) → x ≤ max_names → cell_of x ≡ x
cell-own x h = simp (le-leb x max_names h)

pub cell-past : (x : ℕ) → max_names < x → cell_of x ≡ 0
cell-past x h = simp (lt-leb x max_names h)

pub cell-inside : (x : ℕ) → cell_of x ≤ max_names
cell-inside x = ⊎_elim (λ (h : max_names < x). rw (cell-past x h) (omega arith)) (λ (h : x ≤ max_names). rw (cell-own x h) h) (lt-or-ge max_names x)

-- the cell of node j's name number is e
unfoldable pub marks : List ℕ → ℕ → ℕ → Bool
marks nodes e j = eqb (cell_of (name_of nodes j)) e

-- a name's cell is that of its number alone
own-cell : (nodes : List ℕ) (k j : ℕ) → k < max_names → marks nodes (k + 1) j ≡ carries_name nodes (k + 1) j
unfolding marks carries_name
own-cell nodes k j l =
    ⊎_elim
    (λ (h : max_names < name_of nodes j). rw (cell-past (name_of nodes j) h) (ne_eqb 0 (k + 1) (omega arith) ∙ sym (ne_eqb (name_of nodes j) (k + 1) (omega arith))))
    (λ (h : name_of nodes j ≤ max_names). ap (λ (x : ℕ). eqb x (k + 1)) (cell-own (name_of nodes j) h))
    (lt-or-ge max_names (name_of nodes j))

abbrev pub marks_so_far : List ℕ → ℕ → ℕ → Bool
marks_so_far nodes e i = somewhere (marks nodes e) i

abbrev pub Marked : List ℕ → ℕ → List Bool → Type 0
Marked nodes i r = Tabled (max_names + 1) false (marks_so_far nodes) i r

pub marked-none : (nodes : List ℕ) → Marked nodes 0 (replicate (max_names + 1) false)
marked-none nodes = tabled-none (max_names + 1) false (marks_so_far nodes) (λ e. some-start (marks nodes e))

pub marked-set : (nodes : List ℕ) (i : ℕ) (r : List Bool) → Marked nodes i r → (x : ℕ) → x ≡ cell_of (name_of nodes i) → Marked nodes (i + 1) (set r x true)
unfolding marks
marked-set nodes i r T x is =
    let h = cell-inside (name_of nodes i) in
    tabled-set (max_names + 1) false (marks_so_far nodes) i r T x true (omega arith)
    (sym (some-here (marks nodes x) (i + 1) i (omega arith) (eq-eqb (cell_of (name_of nodes i)) x (sym is))))
    (λ e n. some_same (marks nodes e) i (ne_eqb (cell_of (name_of nodes i)) e (λ q. n (is ∙ q))))

pub marked_all : (nodes : List ℕ) (n i : ℕ) (r : List Bool) → i ≤ n → n ≤ i → Marked nodes i r → (k : ℕ) → k < max_names → get_or r (k + 1) false ≡ used_in nodes n k
unfolding used_in
marked_all nodes n i r l h T k g =
    let e : i ≡ n = omega arith in
    T.cell (k + 1) (omega arith) ∙ ap (marks_so_far nodes (k + 1)) e ∙ some_as (marks nodes (k + 1)) (carries_name nodes (k + 1)) (λ j. own-cell nodes k j g) n
