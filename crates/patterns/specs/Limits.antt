-- Both sides of 2,048 nodes and 1,024 names, with whole images. Proved in proofs/Limits: how deep a node is counts the nodes before it, so
-- that an image of so many cannot be computed node by node as the rows of Patterns are.
use Rattle.std.specs.Prelude.{ℕ, zero, suc, ◌+◌, ◌*◌, ◌-◌, ◌/◌, ◌%◌, ◌≡◌, List, [], ◌∷◌, ◌++◌, ltb, length, replicate}
use Rattle.image.specs.Pick.{pick}
use Rattle.image.specs.Admit.{refusal}
use Rattle.rules.specs.Packed.{u16, header}

-- the bytes of a node: its kind, name number and end; its span words are 0
abbrev pub node : ℕ → ℕ → ℕ → List ℕ
node kind name end = kind ∷ 0 ∷ (u16 name ++ (u16 end ++ replicate 10 0))

-- so many nodes without children, from node i on, of one kind; f gives their name numbers
unfoldable pub leaves : ℕ → (ℕ → ℕ) → ℕ → ℕ → List ℕ
leaves kind f i zero = []
leaves kind f i (suc k) = node kind (f i) (i + 1) ++ leaves kind f (suc i) k

-- an image of n nodes and m names
abbrev pub whole : ℕ → ℕ → List ℕ → List ℕ → List ℕ → List ℕ
whole n m nodes offsets text = header n m (length text) ++ (nodes ++ (offsets ++ text))

-- the contract c with so many empty Genesis blocks: two nodes more
abbrev pub flat_nodes : ℕ → List ℕ
flat_nodes k = (node 1 0 (k + 2) ++ node 23 1 2) ++ leaves 7 (λ i. 0) 2 k

abbrev pub one_offset : List ℕ
one_offset = u16 0 ++ u16 1

abbrev pub flat : ℕ → List ℕ
flat k = whole (k + 2) 1 (flat_nodes k) one_offset (99 ∷ [])

-- so many names of two letters each, in ascending order: AA, AB, .. AZ, Aa, .. Af, BA, ..
abbrev pub letter : ℕ → ℕ
letter j = pick (ltb j 26) (65 + j) (71 + j)

unfoldable pub texts : ℕ → ℕ → List ℕ
texts j zero = []
texts j (suc r) = letter (j / 32) ∷ letter (j % 32) ∷ texts (suc j) r

-- their offsets, one more than names
unfoldable pub offsets : ℕ → ℕ → List ℕ
offsets j zero = u16 (2 * j)
offsets j (suc r) = u16 (2 * j) ++ offsets (suc j) r

-- a contract with one entry, whose Writes clause has so many Names: five nodes more and two names more
abbrev pub named_nodes : ℕ → List ℕ
named_nodes k =
    (node 1 0 (k + 5) ++ (node 23 1 2 ++ (node 9 0 (k + 5) ++ (node 23 2 4 ++ node 14 0 (k + 5)))))
    ++ leaves 23 (λ i. i - 2) 5 k

abbrev pub named : ℕ → List ℕ
named k = whole (k + 5) (k + 2) (named_nodes k) (offsets 0 (k + 2)) (texts 0 (k + 2))

pub record Limits : Type 0 where
  -- 2,048 nodes pass, 2,049 give 3
  pub nodes_2048 : refusal (flat 2046) ≡ 0
  pub nodes_2049 : refusal (flat 2047) ≡ 3
  -- 1,024 names pass, 1,025 give 3
  pub names_1024 : refusal (named 1022) ≡ 0
  pub names_1025 : refusal (named 1023) ≡ 3
