-- Contracts written as nested nodes, and the image that holds one: what the worked patterns are written with.
-- Siblings follow one another by ++, and a node holds what stands in its parentheses: an_entry (a_name "e" ++ a_limits (an_ident "x")).
-- mark "x" (..) gives the first node in the parentheses the label x.
use Rattle.std.specs.Prelude.{ℕ, suc, ◌+◌, ◌*◌, ◌/◌, ◌%◌, List, [], ◌∷◌, ◌++◌, eqb, length}
use Prim.Native.String.{String}
use Rattle.image.specs.Pick.{pick}
use Rattle.image.specs.Text.{less}
use Rattle.rules.specs.Sweep.{same}
use Rattle.rules.specs.Spelling.{bytes}

-- a node: its kind, the bytes that it carries ([] for none), and how many nodes it has with all those below it
pub record Piece : Type 0 where
  pub kind : ℕ
  pub text : List ℕ
  pub size : ℕ

-- nodes in preorder
abbrev pub Nodes : Type 0
Nodes = List Piece

abbrev pub leaf : ℕ → List ℕ → Nodes
leaf k w = record { kind = k; text = w; size = 1 } ∷ []

abbrev pub over : ℕ → Nodes → Nodes
over k l = record { kind = k; text = []; size = suc (length l) } ∷ l

-- The names: each once, in ascending order

unfoldable pub put : List ℕ → List (List ℕ) → List (List ℕ)
put w [] = w ∷ []
put w (v ∷ l) = let rest = put w l in pick (same w v) (v ∷ l) (pick (less w v) (w ∷ v ∷ l) (v ∷ rest))

unfoldable pub names : Nodes → List (List ℕ)
names [] = []
names (p ∷ l) = let rest = names l in pick (same p.text []) rest (put p.text rest)

-- the number of a name, from 1
unfoldable pub number_in : List ℕ → List (List ℕ) → ℕ
number_in w [] = 0
number_in w (v ∷ l) = let rest = number_in w l in pick (same w v) 1 (suc rest)

-- The bytes, little-endian

abbrev pub u16 : ℕ → List ℕ
u16 n = (n % 256) ∷ (n / 256) ∷ []

abbrev pub u32 : ℕ → List ℕ
u32 n = u16 (n % 65536) ++ u16 (n / 65536)

-- the nodes from number i on: kind, zero, name number, end, zero, spans 10i and 10i + 1
unfoldable pub node_bytes : List (List ℕ) → ℕ → Nodes → List ℕ
node_bytes ns i [] = []
node_bytes ns i (p ∷ l) =
    let n = pick (same p.text []) 0 (number_in p.text ns) in
    p.kind ∷ 0 ∷ (u16 n ++ u16 (i + p.size) ++ u16 0 ++ u32 (10 * i) ++ u32 (10 * i + 1) ++ node_bytes ns (suc i) l)

-- the text offsets from a on, and the text
unfoldable pub text_offsets : ℕ → List (List ℕ) → List ℕ
text_offsets a [] = u16 a
text_offsets a (w ∷ l) = u16 a ++ text_offsets (a + length w) l

unfoldable pub joined : List (List ℕ) → List ℕ
joined [] = []
joined (w ∷ l) = w ++ joined l

-- the header, for n nodes and m names whose text is so long
unfoldable pub header : ℕ → ℕ → ℕ → List ℕ
header n m long =
    u16 1 ++ u16 n ++ u16 m ++ u16 0
    ++ u32 24 ++ u32 (24 + 16 * n) ++ u32 (24 + 16 * n + 2 * (m + 1)) ++ u32 (24 + 16 * n + 2 * (m + 1) + long)

unfoldable pub image_of : Nodes → List ℕ
unfolding same less put names number_in node_bytes text_offsets joined header
image_of l =
    let ns = names l in
    header (length l) (length ns) (length (joined ns)) ++ node_bytes ns 0 l ++ text_offsets 0 ns ++ joined ns

-- Labels: a contract is written with a labelling. What packs it labels nothing; what looks for a label flags the node that has it.

abbrev pub Labelled : Type 0
Labelled = (String → Nodes → Nodes) → Nodes

abbrev pub unlabelled : Labelled → Nodes
unlabelled c = c (λ w l. l)

unfoldable pub flag : Nodes → Nodes
flag [] = []
flag (p ∷ l) = record { kind = 255; text = []; size = p.size } ∷ l

unfoldable pub flagged : Nodes → ℕ
flagged [] = 0
flagged (p ∷ l) = let rest = flagged l in pick (eqb p.kind 255) 0 (suc rest)

-- the number of the node that has the label w; past the last one if none has
unfoldable pub place : Labelled → String → ℕ
unfolding same bytes flag flagged
place c w = flagged (c (λ v l. pick (same (bytes v) (bytes w)) (flag l) l))

-- The kinds, by document 01's names

abbrev pub a_contract : Nodes → Nodes
a_contract = over 1

abbrev pub an_asset : Nodes → Nodes
an_asset = over 2

abbrev pub a_state : Nodes → Nodes
a_state = over 3

abbrev pub a_field_decl : Nodes → Nodes
a_field_decl = over 4

abbrev pub an_event : Nodes → Nodes
an_event = over 5

abbrev pub an_event_param : Nodes
an_event_param = leaf 6 []

abbrev pub a_genesis : Nodes → Nodes
a_genesis = over 7

abbrev pub an_invariant : Nodes → Nodes
an_invariant = over 8

abbrev pub an_entry : Nodes → Nodes
an_entry = over 9

abbrev pub a_param : Nodes → Nodes
a_param = over 10

abbrev pub a_type : Nodes → Nodes
a_type = over 11

abbrev pub an_int_lit : String → Nodes
unfolding bytes
an_int_lit w = leaf 12 (bytes w)

abbrev pub an_m_of_n : Nodes → Nodes
an_m_of_n = over 13

abbrev pub a_writes : Nodes → Nodes
a_writes = over 14

abbrev pub a_reads : Nodes → Nodes
a_reads = over 15

abbrev pub a_conserves : Nodes → Nodes
a_conserves = over 16

abbrev pub a_mints : Nodes → Nodes
a_mints = over 17

abbrev pub a_burns : Nodes → Nodes
a_burns = over 18

abbrev pub a_limits : Nodes → Nodes
a_limits = over 19

abbrev pub a_denies : Nodes → Nodes
a_denies = over 20

abbrev pub an_after : Nodes → Nodes
an_after = over 21

abbrev pub a_duration : Nodes
a_duration = leaf 22 []

abbrev pub a_name : String → Nodes
unfolding bytes
a_name w = leaf 23 (bytes w)

abbrev pub a_guard : Nodes → Nodes
a_guard = over 24

abbrev pub a_let : Nodes → Nodes
a_let = over 25

abbrev pub an_emit : Nodes → Nodes
an_emit = over 26

abbrev pub an_assign : Nodes → Nodes
an_assign = over 27

-- Stmt::Expr
abbrev pub an_expr : Nodes → Nodes
an_expr = over 28

abbrev pub an_int : Nodes
an_int = leaf 32 []

abbrev pub an_ident : String → Nodes
unfolding bytes
an_ident w = leaf 35 (bytes w)

abbrev pub a_caller : Nodes
a_caller = leaf 36 []

abbrev pub a_binary : Nodes → Nodes
a_binary = over 41

abbrev pub a_field : Nodes → Nodes
a_field = over 42

abbrev pub a_call : Nodes → Nodes
a_call = over 43

abbrev pub a_checked : Nodes → Nodes
a_checked = over 44

abbrev pub a_wrapping : Nodes → Nodes
a_wrapping = over 45
