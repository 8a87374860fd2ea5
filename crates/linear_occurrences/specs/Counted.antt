-- Counted occurrences node by node ("Linear" of document 01, E5 of document 02): what an Assign or a Call takes, for each of 2,048 nodes, by
-- its number, which one takes it, and what is found at a node.
use Rattle.std.specs.Prelude.{ℕ, ◌-◌, ◌<◌, ◌≤◌, ◌≡◌, Bool, not, List, [], eqb, length, get_or, Option, None, Some}
use Rattle.image.specs.Maxima.{max_nodes}
use Rattle.image.specs.Pick.{pick, both}
use Rattle.rules.specs.Sweep.{either, also, has, has_word}
use Rattle.rules.specs.Tree.{Tree, assigned_of, callee_of, assign, call, peels}
use Rattle.rules.specs.Words.{readers}
use Rattle.rules.specs.Vocabulary.{some_argument, at_bottom, is_field}
use Rattle.rules.specs.Linear.{Consumes, Counted}
use Rattle.nodes.specs.Shown.{View, In, tree_of}
use Rattle.nodes.specs.Marks.{Marks}
use Rattle.nodes.specs.First.{Starts}
use Rattle.places.specs.declared.Note.TheVariants.{Last}
use Rattle.places.specs.Places.{notes}
use Rattle.linear_occurrences.specs.declared.Occurrence.{Occurrence}

-- what is found at node p of the entry e: p itself, with the node that consumes it; or nothing, where no node does
abbrev pub Finding : Tree → ℕ → ℕ → Option Occurrence → Type 0
Finding t e p None = Counted t e p → ⊥
Finding t e p (Some o) = (o.ident ≡ p) × Consumes t e o.consumer p

-- what f gives for the Ident that was found, if one was
abbrev pub for_ident : Option Occurrence → (ℕ → List ℕ) → List ℕ
for_ident None f = []
for_ident (Some o) f = f o.ident

-- the Ident i, by the number that a table has for it: 0 where nothing consumes it
abbrev pub consumed_by : ℕ → ℕ → Option Occurrence
consumed_by i c = pick (eqb c 0) None (Some (record { ident = i; consumer = c }))

-- node i is the value of the Assign s; the argument a peels to it; an argument of the Call c does
abbrev pub is_value : Tree → ℕ → ℕ → Bool
is_value t i s = eqb (assigned_of t s) i

abbrev pub peels_to : Tree → ℕ → ℕ → Bool
peels_to t i a = at_bottom t peels a (λ j. eqb j i)

abbrev pub is_taken : Tree → ℕ → ℕ → Bool
is_taken t i c = some_argument t c (peels_to t i)

-- node p, an Assign or a Call that does not only read, takes node i
abbrev pub takes_node : Tree → ℕ → ℕ → Bool
takes_node t i p =
    either (also (has (t.kind p) assign) (is_value t i) p)
    (also (has (t.kind p) call) (λ c. both (not (is_field t readers (callee_of t c))) (is_taken t i c)) p)

-- the one of the nodes from `base` up to p that takes node i, the last if there were several; 0 if there is none
abbrev pub taker_of : Tree → ℕ → ℕ → ℕ → ℕ
taker_of t i base p = notes Last (takes_node t i) 0 base (p - base)

abbrev pub is_reader : List ℕ → Bool
is_reader w = has_word w readers

abbrev pub IsCall : List ℕ → ℕ → ℕ → Type 0
IsCall nodes base c = In nodes base c × ((W : View nodes base) → (tree_of W).kind c ≡ 43)

-- the statements of an entry from the first one on, `base`, and the words that only read their arguments
pub record Counting (nodes : List ℕ) (base : ℕ) (reader : List Bool) : Type 0 where
  pub view : View nodes base
  pub reader_marks : Marks view.image is_reader reader
  pub entry : ℕ
  pub after : 0 < entry
  pub is_entry : (tree_of view).kind entry ≡ 9
  pub first : Starts view entry base
  pub ends : view.upto ≡ (tree_of view).end entry

-- the table has P i for each node i
pub record Cells (P : ℕ → ℕ) (r : List ℕ) : Type 0 where
  pub size : length r ≡ max_nodes
  pub cell : (i : ℕ) → i < max_nodes → get_or r i 0 ≡ P i

-- a function that is lent the table puts c for the nodes that G names, whichever x the nodes are seen by
abbrev pub Puts : ℕ → {X : Type 0} → (X → ℕ → Bool) → List ℕ → List ℕ → Type 0
Puts c {X} G r r' = (x : X) (P : ℕ → ℕ) → Cells P r → Cells (λ i. pick (G x i) c (P i)) r'

abbrev pub Takes : ℕ → {X : Type 0} → (X → ℕ → Bool) → List ℕ → List ℕ → Type 0
Takes c G consumers consumers' = Puts c G consumers consumers'

-- a sweep from `base` has come to p: for each node from p on the table has the one before p that takes it
pub record Ahead (t : Tree) (base p : ℕ) (r : List ℕ) : Type 0 where
  pub size : length r ≡ max_nodes
  pub cell : (i : ℕ) → p ≤ i → i < max_nodes → get_or r i 0 ≡ taker_of t i base p

-- from p on the table has none
pub record Clear (p : ℕ) (r : List ℕ) : Type 0 where
  pub size : length r ≡ max_nodes
  pub cell : (i : ℕ) → p ≤ i → i < max_nodes → get_or r i 0 ≡ 0

-- the answer for node p of a sweep that has come to p is what is found there
abbrev pub Finds : (nodes : List ℕ) (base : ℕ) (reader : List Bool) (p : ℕ) (consumers : List ℕ) → Option Occurrence → Type 0
Finds nodes base reader p consumers r =
    (T : Counting nodes base reader) → Ahead (tree_of T.view) base p consumers → Finding (tree_of T.view) T.entry p r

-- what node p itself takes is taken by p; and nothing else of the table changes
abbrev pub TakesItsOwn : (nodes : List ℕ) (base : ℕ) (reader : List Bool) (p : ℕ) (consumers consumers' : List ℕ) → Type 0
TakesItsOwn nodes base reader p consumers consumers' = Takes p (λ (T : Counting nodes base reader) i. takes_node (tree_of T.view) i p) consumers consumers'
