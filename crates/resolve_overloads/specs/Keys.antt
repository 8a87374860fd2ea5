-- A number that entries of one signature share, from the kinds and name numbers of their nodes; and the entries met so far, found by it.
use Rattle.std.specs.Prelude.{ℕ, zero, suc, ◌+◌, ◌*◌, ◌-◌, ◌/◌, ◌%◌, ◌<◌, ◌≡◌, Bool, true, List, eqb, ltb, length, get_or}
use Rattle.image.specs.Maxima.{max_nodes}
use Rattle.image.specs.Pick.{pick}
use Rattle.rules.specs.Sweep.{also, has}
use Rattle.rules.specs.Tree.{Tree, tree, entry}
use Rattle.rules.specs.Vocabulary.{Rec}
use Rattle.rules.specs.Resolve.{signature, first_signed}
use Rattle.records.specs.Records.{Entered, on}
use Rattle.nodes.specs.Shown.{View, tree_of, number}
use Rattle.signature.specs.Keys.{is_param}
use Rattle.resolve_overloads.specs.declared.Kept.{Kept}
use Rattle.resolve_overloads.specs.Entries.{Entries, EntryAt}

-- one more node in a key: two polynomials side by side, modulo primes below 2 ^ 31
unfoldable pub mix : ℕ → ℕ → ℕ
mix k x = (k % 2147483648 * 982451653 + x) % 2147483647 + 2147483648 * ((k / 2147483648 * 715827883 + x) % 2147483629)

-- what a node adds
abbrev pub token : List ℕ → ℕ → ℕ
token s p = number s p + 65536 * (tree s).kind p

-- the key k, with the n nodes from i on
unfoldable pub keyed : List ℕ → ℕ → ℕ → ℕ → ℕ
keyed s k i zero = k
keyed s k i (suc n) = mix (keyed s k i n) (token s (i + n))

-- with the type y
abbrev pub type_key : List ℕ → ℕ → ℕ → ℕ
type_key s k y = keyed s k y ((tree s).end y - y)

-- with the types of the parameters of the entry e from p on, at most n
unfoldable pub params_key : List ℕ → ℕ → ℕ → ℕ → ℕ → ℕ
params_key s e zero k p = k
params_key s e (suc n) k p = pick (is_param (tree s) e p) (params_key s e n (type_key s k (p + 2)) ((tree s).end p)) k

unfoldable pub key_of : List ℕ → ℕ → ℕ
key_of s e = params_key s e max_nodes (number s (e + 1)) (e + 2)

-- where an entry is looked up by its key: a name alone has a place of its own
unfoldable pub slot : ℕ → ℕ
slot k = pick (ltb k max_nodes) k (max_nodes + k % max_nodes)

-- the last number below n that passes the test; 0 if none does
unfoldable pub last : (ℕ → Bool) → ℕ → ℕ
last p zero = 0
last p (suc n) = pick (p n) n (last p n)

-- i is an entry, and the first of its signature
abbrev pub is_new : List ℕ → ℕ → Bool
is_new s i = also (has ((tree s).kind i) entry) (λ e. eqb (first_signed (tree s) (signature (tree s) e)) e) i

-- and it is looked up at b
abbrev pub falls_to : List ℕ → ℕ → ℕ → Bool
falls_to s b i = also (is_new s i) (λ e. eqb (slot (key_of s e)) b) i

-- The entries before p that are the first of their signature: the last one of each slot, for each entry the one before it there, and its key.
pub record Chains (s : List ℕ) (p : ℕ) (heads links keys : List ℕ) : Type 0 where
  pub sizes : (length heads ≡ 4096) × (length links ≡ max_nodes) × (length keys ≡ max_nodes)
  pub head : (b : ℕ) → b < 4096 → get_or heads b 0 ≡ last (falls_to s b) p
  pub link : (i : ℕ) → 0 < i → i < p → is_new s i ≡ true → get_or links i 0 ≡ last (falls_to s (slot (key_of s i))) i
  pub key : (i : ℕ) → 0 < i → i < p → is_new s i ≡ true → get_or keys i 0 ≡ key_of s i

pub record Chained (nodes : List ℕ) (p : ℕ) (kept : Kept) : Type 0 where
  pub view : View nodes 0
  pub chains : Chains view.image p kept.heads kept.links kept.keys

-- two entries, with the key of e and the table that has the key of g
pub record Likely (nodes : List ℕ) (g e key : ℕ) (kept : Kept) : Type 0 where
  pub pair : Entries nodes g e
  pub of_g : get_or kept.keys g 0 ≡ key_of pair.view.image g
  pub of_e : key ≡ key_of pair.view.image e

-- an entry with its key, and the entries before it
pub record Sought (nodes : List ℕ) (e key : ℕ) (kept : Kept) : Type 0 where
  pub it : EntryAt nodes e
  pub of_e : key ≡ key_of it.view.image e
  pub chains : Chains it.view.image e kept.heads kept.links kept.keys

-- what F says of the tree of the nodes that are lent; and the tables have the item too
abbrev pub chained : (Tree → List Rec) → (nodes : List ℕ) (p : ℕ) (kept : Kept) → Chained nodes p kept → Entered
chained F nodes p kept C = on F (tree_of C.view)

abbrev pub Chaining : (nodes : List ℕ) (p : ℕ) (kept kept' : Kept) → Type 0
Chaining nodes p kept kept' = (C : Chained nodes p kept) → Chains C.view.image (p + 1) kept'.heads kept'.links kept'.keys
