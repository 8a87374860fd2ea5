-- The packed form that the code reads of Table's rows; nothing that a reader must believe. Families and parts are numbers, the rows are
-- laid one behind the other with a place for each part, and each kind is one number. proofs/Standing: a walk over the places says what `fits` of Table says.
use Rattle.std.specs.Prelude.{ℕ, zero, suc, ◌+◌, ◌*◌, ◌-◌, ◌/◌, ◌%◌, ◌≤◌, ◌≡◌, List, [], ◌∷◌, ◌++◌, Bool, true, false, ltb, leb, eqb, length, get_or, set, replicate}
use Rattle.image.specs.Maxima.{max_nodes, max_names}
use Rattle.image.specs.Pick.{pick, both}
use Rattle.image.specs.Node.{half, kind_of, name_of, end_of}
use Rattle.image.specs.Table.{Family, Names, Items, FieldDecls, EventParameters, Stmts, Clauses, Parameters, Types, IntLits, MofNs, Durations, Expressions, ◌or◌, NoKind, Part, one_of, maybe_of, any_of, rows}
use Rattle.image.specs.Tree.{carries, name_fits}

-- the numbers of the families that a part asks for: the first and the last of them
abbrev pub lowest : Family → ℕ
lowest Names = 1
lowest Items = 2
lowest FieldDecls = 3
lowest EventParameters = 4
lowest Stmts = 5
lowest Clauses = 6
lowest Parameters = 7
lowest Types = 8
lowest IntLits = 9
lowest MofNs = 10
lowest Durations = 11
lowest Expressions = 12
lowest (f or g) = lowest f
lowest NoKind = 15

abbrev pub highest : Family → ℕ
highest Names = 1
highest Items = 2
highest FieldDecls = 3
highest EventParameters = 4
highest Stmts = 5
highest Clauses = 6
highest Parameters = 7
highest Types = 8
highest IntLits = 9
highest MofNs = 10
highest Durations = 11
highest Expressions = 12
highest (f or g) = highest g
highest NoKind = 0

-- the number of the family of each kind, 0 to 45; a contract's is 13, and 0 stands where there is no such kind
abbrev pub families : List ℕ
families =
    0 ∷ 13 ∷ 2 ∷ 2 ∷ 3 ∷ 2 ∷ 4 ∷ 2 ∷ 2 ∷ 2
    ∷ 7 ∷ 8 ∷ 9 ∷ 10 ∷ 6 ∷ 6 ∷ 6 ∷ 6 ∷ 6 ∷ 6 ∷ 6 ∷ 6 ∷ 11 ∷ 1
    ∷ 5 ∷ 5 ∷ 5 ∷ 5 ∷ 5 ∷ 0 ∷ 0 ∷ 0
    ∷ 12 ∷ 12 ∷ 12 ∷ 12 ∷ 12 ∷ 12 ∷ 12 ∷ 12 ∷ 12 ∷ 12 ∷ 12 ∷ 12 ∷ 12 ∷ 12 ∷ []

unfoldable pub family_of : ℕ → ℕ
family_of k = get_or families k 0

-- a part as a number: how often, and the families that it takes. A row's end takes nothing; and no row gets past what nothing fits.
abbrev pub digit : Part → ℕ
digit (one_of f) = 4 * lowest f + 64 * highest f
digit (maybe_of f) = 1 + 4 * lowest f + 64 * highest f
digit (any_of f) = 2 + 4 * lowest f + 64 * highest f

abbrev pub row_end : ℕ
row_end = 63

abbrev pub never : ℕ
never = digit (one_of NoKind)

-- a row with places for five parts, and all rows
abbrev pub padded : ℕ → List Part → List ℕ
padded zero ps = []
padded (suc n) [] = row_end ∷ padded n []
padded (suc n) (p ∷ ps) = digit p ∷ padded n ps

abbrev pub laid_out : List (List Part) → List ℕ
laid_out [] = []
laid_out (r ∷ rs) = padded 5 r ++ laid_out rs

unfoldable pub part_at : ℕ → ℕ
unfolding rows
part_at q = get_or (laid_out rows) q 0

abbrev pub takes : ℕ → ℕ → Bool
takes part f = both (leb (part / 4 % 16) f) (leb f (part / 64))

-- where in the table a row stands after one more child of family f, from place q: the part that takes it, past those that may be left out. Place 0, which takes nothing, if there is none.
unfoldable pub after_from : ℕ → ℕ → ℕ → ℕ
after_from zero q f = 0
after_from (suc n) q f =
    pick (takes (part_at q) f) (pick (eqb (part_at q % 4) 2) q (q + 1))
    (pick (both (leb 1 (part_at q % 4)) (leb (part_at q % 4) 2)) (after_from n (q + 1) f) 0)

abbrev pub place_after : ℕ → ℕ → ℕ
place_after q f = after_from (230 - q) q f

-- a row may end at place q: all that is left of it may be left out
unfoldable pub ends_from : ℕ → ℕ → Bool
ends_from zero q = false
ends_from (suc n) q =
    pick (eqb (part_at q % 4) 3) true
    (pick (eqb (part_at q % 4) 0) false (ends_from n (q + 1)))

abbrev pub ends : ℕ → Bool
ends q = ends_from (230 - q) q

-- where the row of a kind starts
abbrev pub row_of : ℕ → ℕ
row_of k = pick (ltb k 46) (5 * k) 0

-- a row's rest, from place q, fits the kinds of the children
unfoldable pub fits_from : ℕ → List ℕ → Bool
fits_from q [] = ends q
fits_from q (k ∷ ks) = fits_from (place_after q (family_of k)) ks

-- from `at` on, nodes tile the range up to e, and they fit the row's rest at place q: both at once, as one walk finds them out
unfoldable pub children_from : ℕ → List ℕ → ℕ → ℕ → ℕ → Bool
children_from zero s q at e = false
children_from (suc fuel) s q at e =
    pick (ltb at e)
    (both (ltb at (end_of s at)) (children_from fuel s (place_after q (family_of (kind_of s at))) (end_of s at) e))
    (both (eqb at e) (ends q))

-- what a row still has at place q, up to its end: no row has more than five parts
abbrev pub rest_from : ℕ → ℕ → List ℕ
rest_from zero q = []
rest_from (suc n) q = pick (eqb (part_at q) row_end) [] (part_at q ∷ rest_from n (q + 1))

abbrev pub same_parts : List ℕ → List ℕ → Bool
same_parts [] [] = true
same_parts [] (b ∷ u) = false
same_parts (a ∷ t) [] = false
same_parts (a ∷ t) (b ∷ u) = both (eqb a b) (same_parts t u)

-- the place in the row of kind k behind j parts
abbrev pub in_row : ℕ → ℕ → ℕ
in_row k j = row_of k + j

-- Places at which rows have the same rest have one state, and nothing fits in state 0. The first place of each state, 0 to 30:
abbrev pub places : List ℕ
places =
    in_row 0 0
    -- 1 to 15, a whole row with a part that may not be left out: that of Contract, Asset, FieldDecl, Event
    ∷ in_row 1 0
    ∷ in_row 2 0
    ∷ in_row 4 0
    ∷ in_row 5 0
    -- of Invariant, Entry, Param, Type, MofN
    ∷ in_row 8 0
    ∷ in_row 9 0
    ∷ in_row 10 0
    ∷ in_row 11 0
    ∷ in_row 13 0
    -- of After, Let, Emit, Assign, Field, Call
    ∷ in_row 21 0
    ∷ in_row 25 0
    ∷ in_row 26 0
    ∷ in_row 27 0
    ∷ in_row 42 0
    ∷ in_row 43 0
    -- 16 to 18, such a row behind its first part: that of FieldDecl, Param, MofN
    ∷ in_row 4 1
    ∷ in_row 10 1
    ∷ in_row 13 1
    -- From 19 on a row may end. Up to 22 a whole row: that of State, what has no children, Genesis, Writes
    ∷ in_row 3 0
    ∷ in_row 0 1
    ∷ in_row 7 0
    ∷ in_row 14 0
    -- 23 to 26, a row behind its first part: that of Contract, Event, Entry, Type
    ∷ in_row 1 1
    ∷ in_row 5 1
    ∷ in_row 9 1
    ∷ in_row 11 1
    -- 27 to 30: the default of FieldDecl, the arguments of Emit, the clauses and statements of Entry, the signer of Param
    ∷ in_row 4 2
    ∷ in_row 26 1
    ∷ in_row 9 2
    ∷ in_row 10 2
    ∷ []

-- the number, counted from s, of the first of the places at which a row has the rest r
abbrev pub state_in : List ℕ → List ℕ → ℕ → ℕ
state_in r [] s = 0
state_in r (p ∷ ps) s = pick (same_parts (rest_from 5 p) r) s (state_in r ps (s + 1))

abbrev pub states_from : ℕ → ℕ → List ℕ
states_from zero q = []
states_from (suc n) q = state_in (rest_from 5 q) places 0 ∷ states_from n (q + 1)

-- the state of each place
unfoldable pub states : List ℕ
states = states_from 230 0

unfoldable pub state_of : ℕ → ℕ
state_of q = get_or states q 0

-- the states after one more child at place p, of each family from f on
abbrev pub nexts_from : ℕ → ℕ → ℕ → List ℕ
nexts_from zero p f = []
nexts_from (suc n) p f = state_of (after_from 5 p f) ∷ nexts_from n p (f + 1)

-- for each of the places, those of the families 0 to 15; 0 for a place in the row of a kind from k on
abbrev pub nexts_below : ℕ → List ℕ → List ℕ
nexts_below k [] = []
nexts_below k (p ∷ ps) = pick (ltb p (5 * k)) (nexts_from 16 p 0) (replicate 16 0) ++ nexts_below k ps

-- for each state, the one after one more child of each family, where the rows of the kinds below k are laid down; and where all of them are
unfoldable pub laid_below : ℕ → List ℕ
laid_below k = nexts_below k places

unfoldable pub next_states : List ℕ
next_states = laid_below 46

-- u is the table t with one transition more: a child of family f leads from state s to another
pub record Leads (t u : List ℕ) (s f to : ℕ) : Type 0 where
  pub leads : u ≡ set t (16 * s + f) to

abbrev pub next_state : ℕ → ℕ → ℕ
next_state s f = get_or next_states (16 * s + f) 0

abbrev pub may_end : ℕ → Bool
may_end s = leb 19 s

-- of kind k: its family, the form of the text that it carries, and the state that its row starts in
unfoldable pub kind_facts : ℕ → ℕ
kind_facts k = family_of k + 16 * carries k + 64 * state_of (row_of k)

unfoldable pub kinds_from : ℕ → ℕ → List ℕ
kinds_from zero k = []
kinds_from (suc n) k = kind_facts k ∷ kinds_from n (k + 1)

-- the same for each kind, 0 to 45
unfoldable pub kind_table : List ℕ
kind_table = kinds_from 46 0

-- the fields of node i, but for its end, are as the tree wants them
unfoldable pub fields_ok : List ℕ → List ℕ → List ℕ → ℕ → ℕ → Bool
fields_ok nodes names text m i =
    both (eqb (get_or nodes (16 * i + 1) 0) 0)
    (both (eqb (half nodes (16 * i + 6)) 0)
    (name_fits names text m (kind_of nodes i) (name_of nodes i)))

-- node 0 is the contract and ends at n, of which there is one at least, and its fields are in order
pub record Rooted (nodes names text : List ℕ) (n m : ℕ) : Type 0 where
  pub some : 1 ≤ n
  pub root : kind_of nodes 0 ≡ 1
  pub whole : end_of nodes 0 ≡ n
  pub fields : fields_ok nodes names text m 0 ≡ true

-- what the walk over the nodes is lent: two tables with a cell for each node, and the marks of the names, on which node 0 has left its own
pub record WalkTables (nodes ps es : List ℕ) (marks : List Bool) : Type 0 where
  pub states_long : length ps ≡ max_nodes
  pub ends_long : length es ≡ max_nodes
  pub fresh : marks ≡ set (replicate (max_names + 1) false) (name_of nodes 0) true

-- the mark of the name at place k
unfoldable pub mark_at : List Bool → ℕ → Bool
mark_at marks k = get_or marks (k + 1) false
