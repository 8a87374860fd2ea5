-- Images at the limits: a front of a few nodes, and behind it nodes without children, of which each is in order for the same reason.
use Prim.Native.Nat.{ℕ, zero, suc, ◌+◌, ◌*◌, ◌-◌, ◌<◌, ◌≤◌}
use mathlib.Core.Path.{◌≡◌, refl, ap, ap₂, ◌∙◌, sym}
use mathlib.Core.Bool.{Bool, true, false, ◌&&◌, ◌||◌}
use mathlib.Core.List.{List, [], ◌∷◌, ◌++◌, map}
use native.Mathlib.Omega.{arith}
use borrow.Author.Tests.{ltb-true, ltb-false, lt-ltb, le-ltb, le-leb, eqb-true, eq-eqb}
use lib.Dec.{ltb, leb, eqb}
use lib.ListN.{length, get_or, replicate, get_or-append}
use lib.Seq.{get_or-append-add}
use Rattle.image.specs.Pick.{pick, every, count}
use Rattle.image.specs.Maxima.{max_depth}
use Rattle.image.specs.Node.{half, kind_of, name_of, end_of}
use Rattle.image.specs.Table.{Family, Names, Items, any_of, is_of, rows, children, fits}
use Rattle.image.specs.Text.{class_of, word_at, form_of, less, text_of, name_at, names_ok}
use Rattle.image.specs.Tree.{tiles_from, kids_from, children_fit, carries, name_fits, node_ok, tree_ok, ends_past, ancestors_of, shallow, depth_ok, carries_name, used_in, used_ok}
use Rattle.image.specs.Admit.{layout_ok, nodes_of, names_of, text_part, node_count, name_count, header_refusal, body_refusal, refusal}
use Rattle.image.proofs.Every.{every-so, every-at, some-here}
use Rattle.rules.specs.Packed.{header}
use Rattle.patterns.specs.Limits.{node, leaves, flat_nodes, one_offset, flat, texts, offsets, named_nodes, named, Limits}

and-true : {a b : Bool} → a ≡ true → b ≡ true → (a && b) ≡ true
and-true p q = ap₂ (λ (x y : Bool). x && y) p q

at_most : (q : ℕ → Bool) (n : ℕ) → count q n ≤ n
unfolding count
at_most q zero = omega arith
at_most q (suc n) = go (q n) (at_most q n)
  where
    go : (b : Bool) → count q n ≤ n → pick b (count q n + 1) (count q n) ≤ suc n
    go true h = omega arith
    go false h = omega arith

-- the children of a node, from i on: the one that ends at e, and those behind it; none
module _ (a : List ℕ) (n : ℕ) where
  tile : (fuel i e : ℕ) → i < n → i < e → end_of a i ≡ e → tiles_from (suc fuel) a i n ≡ tiles_from fuel a e n
  unfolding tiles_from
  tile fuel i e h g z =
      ap (λ (b : Bool). pick b (ltb i (end_of a i) && tiles_from fuel a (end_of a i) n) (eqb i n)) (lt-ltb i n h)
      ∙ ap (λ (x : ℕ). ltb i x && tiles_from fuel a x n) z
      ∙ ap (λ (b : Bool). b && tiles_from fuel a e n) (lt-ltb i e g)

  no_tile : (fuel : ℕ) → tiles_from (suc fuel) a n n ≡ true
  unfolding tiles_from
  no_tile fuel =
      ap (λ (b : Bool). pick b (ltb n (end_of a n) && tiles_from fuel a (end_of a n) n) (eqb n n)) (le-ltb n n (omega arith)) ∙ eq-eqb n n refl

  kid : (fuel i e : ℕ) → i < n → end_of a i ≡ e → kids_from (suc fuel) a i n ≡ i ∷ kids_from fuel a e n
  unfolding kids_from
  kid fuel i e h z =
      ap (λ (b : Bool). pick b (i ∷ kids_from fuel a (end_of a i) n) []) (lt-ltb i n h) ∙ ap (λ (x : ℕ). i ∷ kids_from fuel a x n) z

  no-kid : (fuel : ℕ) → kids_from (suc fuel) a n n ≡ []
  unfolding kids_from
  no-kid fuel = ap (λ (b : Bool). pick b (n ∷ kids_from fuel a (end_of a n) n) []) (le-ltb n n (omega arith))

  -- a node whose children tile its range and have kinds that fit
  fit : (i fuel : ℕ) (ks : List ℕ) → n - i ≡ fuel → tiles_from fuel a (i + 1) n ≡ true → map (kind_of a) (kids_from fuel a (i + 1) n) ≡ ks
      → fits (children (kind_of a i)) ks ≡ true → children_fit a i n ≡ true
  unfolding children_fit
  fit i fuel ks d t k e =
      ap (λ (x : ℕ). tiles_from x a (i + 1) n && fits (children (kind_of a i)) (map (kind_of a) (kids_from x a (i + 1) n))) d
      ∙ and-true t (ap (fits (children (kind_of a i))) k ∙ e)

-- the bytes of a leaf
module _ (κ : ℕ) (f : ℕ → ℕ) where
  leaf-byte : (j i q r p : ℕ) → q < j → r < 16 → p ≡ i + q → get_or (leaves κ f i j) (16 * q + r) 0 ≡ get_or (node κ (f p) (p + 1)) r 0
  unfolding leaves
  leaf-byte zero i q r p h g e = absurd (omega arith)
  leaf-byte (suc j) i zero r p h g e =
      let z : 16 * 0 + r ≡ r = omega arith in
      let w : i ≡ p = omega arith in
      ap (λ (x : ℕ). get_or (node κ (f i) (i + 1) ++ leaves κ f (suc i) j) x 0) z
      ∙ get_or-append (node κ (f i) (i + 1)) (leaves κ f (suc i) j) 0 r g
      ∙ ap (λ (x : ℕ). get_or (node κ (f x) (x + 1)) r 0) w
  leaf-byte (suc j) i (suc q) r p h g e =
      let z : 16 * suc q + r ≡ 16 + (16 * q + r) = omega arith in
      ap (λ (x : ℕ). get_or (node κ (f i) (i + 1) ++ leaves κ f (suc i) j) x 0) z
      ∙ get_or-append-add (node κ (f i) (i + 1)) (leaves κ f (suc i) j) (16 * q + r) 0
      ∙ leaf-byte j (suc i) q r p (omega arith) g (omega arith)

  -- a front of k nodes, and j leaves behind it
  module _ (front : List ℕ) (k j : ℕ) (long : length front ≡ 16 * k) where
    abbrev a : List ℕ
    a = front ++ leaves κ f k j

    module _ (p : ℕ) (low : k ≤ p) (high : p < k + j) where
      byte : (r : ℕ) → r < 16 → get_or a (16 * p + r) 0 ≡ get_or (node κ (f p) (p + 1)) r 0
      byte r g =
          let z : 16 * p + r ≡ length front + (16 * (p - k) + r) = omega arith in
          ap (λ (x : ℕ). get_or a x 0) z ∙ get_or-append-add front (leaves κ f k j) (16 * (p - k) + r) 0
          ∙ leaf-byte j k (p - k) r p (omega arith) g (omega arith)

      halves : (r : ℕ) → r < 15 → half a (16 * p + r) ≡ half (node κ (f p) (p + 1)) r
      halves r g =
          let z : 16 * p + r + 1 ≡ 16 * p + (r + 1) = omega arith in
          ap₂ (λ (x y : ℕ). x + 256 * y) (byte r (omega arith)) (ap (λ (x : ℕ). get_or a x 0) z ∙ byte (r + 1) (omega arith))

      leaf-kind : kind_of a p ≡ κ
      leaf-kind = let z : 16 * p ≡ 16 * p + 0 = omega arith in ap (λ (x : ℕ). get_or a x 0) z ∙ byte 0 (omega arith)

      leaf-name : name_of a p ≡ f p
      leaf-name = halves 2 (omega arith) ∙ omega arith

      leaf-end : end_of a p ≡ p + 1
      leaf-end = halves 4 (omega arith) ∙ omega arith

      past : ltb p (end_of a p) ≡ true
      past = ap (ltb p) leaf-end ∙ lt-ltb p (p + 1) (omega arith)

      -- it has no children
      alone : fits (children κ) [] ≡ true → children_fit a p (p + 1) ≡ true
      unfolding children_fit tiles_from kids_from
      alone e =
          let d : p + 1 - p ≡ 1 = omega arith in
          let o : ltb (p + 1) (p + 1) ≡ false = le-ltb (p + 1) (p + 1) (omega arith) in
          ap (λ (x : ℕ). tiles_from x a (p + 1) (p + 1) && fits (children (kind_of a p)) (map (kind_of a) (kids_from x a (p + 1) (p + 1)))) d
          ∙ and-true
          (ap (λ (b : Bool). pick b (ltb (p + 1) (end_of a (p + 1)) && tiles_from 0 a (end_of a (p + 1)) (p + 1)) (eqb (p + 1) (p + 1))) o ∙ eq-eqb (p + 1) (p + 1) refl)
          (ap (λ (b : Bool). fits (children (kind_of a p)) (map (kind_of a) (pick b ((p + 1) ∷ kids_from 0 a (end_of a (p + 1)) (p + 1)) []))) o ∙ ap (λ (x : ℕ). fits (children x) []) leaf-kind ∙ e)

      leaf-ok : (names text : List ℕ) (m : ℕ) → name_fits names text m κ (f p) ≡ true → fits (children κ) [] ≡ true → node_ok a names text (k + j) m p ≡ true
      unfolding node_ok
      leaf-ok names text m fit e =
          and-true (ap (λ (x : ℕ). eqb x 0) (byte 1 (omega arith)))
          (and-true (ap (λ (x : ℕ). eqb x 0) (halves 6 (omega arith)))
          (and-true (ap₂ (name_fits names text m) leaf-kind leaf-name ∙ fit)
          (and-true past
          (and-true (ap (λ (x : ℕ). leb x (k + j)) leaf-end ∙ le-leb (p + 1) (k + j) (omega arith))
          (ap (children_fit a p) leaf-end ∙ alone e)))))

    -- the leaves from i on, as children
    tiles : (l fuel i : ℕ) → i + l ≡ k + j → k ≤ i → l < fuel → tiles_from fuel a i (k + j) ≡ true
    tiles l zero i e h g = absurd (omega arith)
    tiles zero (suc fuel) i e h g =
        let z : i ≡ k + j = omega arith in
        ap (λ (x : ℕ). tiles_from (suc fuel) a x (k + j)) z ∙ no_tile a (k + j) fuel
    tiles (suc l) (suc fuel) i e h g =
        tile a (k + j) fuel i (i + 1) (omega arith) (omega arith) (leaf-end i h (omega arith))
        ∙ tiles l fuel (i + 1) (omega arith) (omega arith) (omega arith)

    kids : (l fuel i : ℕ) → i + l ≡ k + j → k ≤ i → l < fuel → map (kind_of a) (kids_from fuel a i (k + j)) ≡ replicate l κ
    kids l zero i e h g = absurd (omega arith)
    kids zero (suc fuel) i e h g =
        let z : i ≡ k + j = omega arith in
        ap (λ (x : ℕ). map (kind_of a) (kids_from (suc fuel) a x (k + j))) z ∙ ap (map (kind_of a)) (no-kid a (k + j) fuel)
    kids (suc l) (suc fuel) i e h g =
        ap (map (kind_of a)) (kid a (k + j) fuel i (i + 1) (omega arith) (leaf-end i h (omega arith)))
        ∙ ap₂ (λ (x : ℕ) (y : List ℕ). x ∷ y) (leaf-kind i h (omega arith)) (kids l fuel (i + 1) (omega arith) (omega arith) (omega arith))

    -- a node has no more ancestors than the front has nodes
    counted : (i n : ℕ) → n ≤ i → i < k + j → count (ends_past a i) n ≤ k
    unfolding count ends_past
    counted i zero l g = omega arith
    counted i (suc n) l g = go (counted i n (omega arith) g) (ltb n k) refl
      where
        go : count (ends_past a i) n ≤ k → (b : Bool) → ltb n k ≡ b → count (ends_past a i) (suc n) ≤ k
        go d true e = let h = ltb-true n k e in let c = at_most (ends_past a i) (suc n) in omega arith
        go d false e =
            let h = ltb-false n k e in
            let o : ltb i (end_of a n) ≡ false = ap (ltb i) (leaf-end n h (omega arith)) ∙ le-ltb i (n + 1) (omega arith) in
            let c : count (ends_past a i) (suc n) ≡ count (ends_past a i) n = ap (λ (b : Bool). pick b (count (ends_past a i) n + 1) (count (ends_past a i) n)) o in
            omega arith

    few : k ≤ 64 → depth_ok a (k + j) ≡ true
    unfolding shallow
    few h = every-so (shallow a) (k + j) (λ i l. le-leb (ancestors_of a i) max_depth (let c = counted i i (omega arith) l in omega arith))

fits-many : (F : Family) (κ : ℕ) → is_of F κ ≡ true → (l : ℕ) → fits (any_of F ∷ []) (replicate l κ) ≡ true
unfolding fits
fits-many F κ e zero = refl
fits-many F κ e (suc l) = ap₂ (λ (x y : Bool). false || x && y) e (fits-many F κ e l)

-- An image whose parts are in order is admitted

body : (nodes names text : List ℕ) (n m : ℕ) → names_ok names text m ≡ true → tree_ok nodes names text n m ≡ true → depth_ok nodes n ≡ true → used_ok nodes n m ≡ true
    → body_refusal nodes names text n m ≡ 0
unfolding body_refusal
body nodes names text n m p q r s =
    ap (λ (b : Bool). pick b (pick (tree_ok nodes names text n m) (pick (depth_ok nodes n) (pick (used_ok nodes n m) 0 8) 7) 6) 5) p
    ∙ ap (λ (b : Bool). pick b (pick (depth_ok nodes n) (pick (used_ok nodes n m) 0 8) 7) 6) q
    ∙ ap (λ (b : Bool). pick b (pick (used_ok nodes n m) 0 8) 7) r
    ∙ ap (λ (b : Bool). pick b 0 8) s

admitted : (s nodes names text : List ℕ) (n m : ℕ) → header_refusal s ≡ 0 → nodes_of s ≡ nodes → names_of s ≡ names → text_part s ≡ text
    → node_count s ≡ n → name_count s ≡ m → body_refusal nodes names text n m ≡ 0 → refusal s ≡ 0
unfolding refusal
admitted s nodes names text n m h a b c d e z =
    ap (λ (x : ℕ). pick (eqb x 0) (body_refusal (nodes_of s) (names_of s) (text_part s) (node_count s) (name_count s)) x) h
    ∙ ap₂ (λ (x y : List ℕ). body_refusal x y (text_part s) (node_count s) (name_count s)) a b
    ∙ ap (λ (x : List ℕ). body_refusal nodes names x (node_count s) (name_count s)) c
    ∙ ap₂ (λ (x y : ℕ). body_refusal nodes names text x y) d e
    ∙ z

-- The contract c with j empty Genesis blocks

module _ (j : ℕ) where
  abbrev blocks : List ℕ
  blocks = flat_nodes j

  abbrev front : List ℕ
  front = node 1 0 (j + 2) ++ node 23 1 2

  flat-end : end_of blocks 0 ≡ 2 + j
  flat-end = omega arith

  flat-root : children_fit blocks 0 (2 + j) ≡ true
  unfolding children rows fits is_of
  flat-root =
      fit blocks (2 + j) 0 (suc (suc j)) (23 ∷ replicate j 7) (omega arith)
      (tile blocks (2 + j) (suc j) 1 2 (omega arith) (omega arith) refl ∙ tiles 7 (λ i. 0) front 2 j refl j (suc j) 2 (omega arith) (omega arith) (omega arith))
      (ap (map (kind_of blocks)) (kid blocks (2 + j) (suc j) 1 2 (omega arith) refl)
      ∙ ap (λ (l : List ℕ). 23 ∷ l) (kids 7 (λ i. 0) front 2 j refl j (suc j) 2 (omega arith) (omega arith) (omega arith)))
      (fits-many Items 7 refl j)

  flat-node : (i : ℕ) → i < 2 + j → node_ok blocks one_offset (99 ∷ []) (2 + j) 1 i ≡ true
  unfolding node_ok children_fit tiles_from kids_from children rows fits is_of name_fits carries class_of word_at every
  flat-node zero l =
      and-true refl (and-true refl (and-true refl
      (and-true (ap (ltb 0) flat-end ∙ lt-ltb 0 (2 + j) (omega arith))
      (and-true (ap (λ (x : ℕ). leb x (2 + j)) flat-end ∙ le-leb (2 + j) (2 + j) (omega arith)) (ap (children_fit blocks 0) flat-end ∙ flat-root)))))
  flat-node (suc zero) l = and-true refl (and-true refl (and-true refl (and-true refl (and-true (le-leb 2 (2 + j) (omega arith)) refl))))
  flat-node (suc (suc i)) l = leaf-ok 7 (λ i. 0) front 2 j refl (suc (suc i)) (omega arith) l one_offset (99 ∷ []) 1 refl refl

  flat-body : body_refusal blocks one_offset (99 ∷ []) (2 + j) 1 ≡ 0
  unfolding class_of word_at every name_at less carries_name used_in
  flat-body =
      body blocks one_offset (99 ∷ []) (2 + j) 1 refl
      (and-true refl (and-true (ap (λ (x : ℕ). eqb x (2 + j)) flat-end ∙ eq-eqb (2 + j) (2 + j) refl) (every-so (node_ok blocks one_offset (99 ∷ []) (2 + j) 1) (2 + j) flat-node)))
      (few 7 (λ i. 0) front 2 j refl (omega arith))
      (some-here (carries_name blocks 1) (2 + j) 1 (omega arith) refl)

-- what the header says, and where the parts lie, is computed
flat-head : header_refusal (flat 2046) ≡ 0
unfolding header_refusal layout_ok header leaves
flat-head = refl

flat-nodes : nodes_of (flat 2046) ≡ flat_nodes 2046
unfolding header leaves
flat-nodes = refl

flat-names : names_of (flat 2046) ≡ one_offset
unfolding header leaves
flat-names = refl

flat-text : text_part (flat 2046) ≡ 99 ∷ []
unfolding header leaves
flat-text = refl

flat-admitted : refusal (flat 2046) ≡ 0
unfolding header
flat-admitted =
    admitted (flat 2046) (flat_nodes 2046) one_offset (99 ∷ []) 2048 1 flat-head flat-nodes flat-names flat-text refl refl (flat-body 2046)

flat-refused : refusal (flat 2047) ≡ 3
unfolding refusal header_refusal layout_ok header leaves
flat-refused = refl

-- The contract whose Writes clause has j Names, with names of which each is an identifier

module _ (j : ℕ) (names text : List ℕ) (identifier : (x : ℕ) → 1 ≤ x → x ≤ 2 + j → form_of (text_of names text x) ≡ 1) where
  abbrev clauses : List ℕ
  clauses = named_nodes j

  abbrev five : List ℕ
  five = node 1 0 (j + 5) ++ (node 23 1 2 ++ (node 9 0 (j + 5) ++ (node 23 2 4 ++ node 14 0 (j + 5))))

  -- the Contract, the Entry and the Writes clause end with the last node
  end-0 : end_of clauses 0 ≡ 5 + j
  end-0 = omega arith

  end-2 : end_of clauses 2 ≡ 5 + j
  end-2 = omega arith

  end-4 : end_of clauses 4 ≡ 5 + j
  end-4 = omega arith

  name-fits : (x : ℕ) → 1 ≤ x → x ≤ 2 + j → name_fits names text (2 + j) 23 x ≡ true
  unfolding name_fits carries
  name-fits x l h = and-true (le-leb 1 x l) (and-true (le-leb x (2 + j) h) (ap (λ (y : ℕ). eqb y 1) (identifier x l h)))

  contract-fit : children_fit clauses 0 (5 + j) ≡ true
  unfolding children rows fits is_of
  contract-fit =
      fit clauses (5 + j) 0 (suc (suc (suc (j + 2)))) (23 ∷ 9 ∷ []) (omega arith)
      (tile clauses (5 + j) (suc (suc (j + 2))) 1 2 (omega arith) (omega arith) refl ∙ tile clauses (5 + j) (suc (j + 2)) 2 (5 + j) (omega arith) (omega arith) end-2 ∙ no_tile clauses (5 + j) (j + 2))
      (ap (map (kind_of clauses)) (kid clauses (5 + j) (suc (suc (j + 2))) 1 2 (omega arith) refl ∙ ap (λ (l : List ℕ). 1 ∷ l) (kid clauses (5 + j) (suc (j + 2)) 2 (5 + j) (omega arith) end-2 ∙ ap (λ (l : List ℕ). 2 ∷ l) (no-kid clauses (5 + j) (j + 2)))))
      refl

  entry-fit : children_fit clauses 2 (5 + j) ≡ true
  unfolding children rows fits is_of
  entry-fit =
      fit clauses (5 + j) 2 (suc (suc (suc j))) (23 ∷ 14 ∷ []) (omega arith)
      (tile clauses (5 + j) (suc (suc j)) 3 4 (omega arith) (omega arith) refl ∙ tile clauses (5 + j) (suc j) 4 (5 + j) (omega arith) (omega arith) end-4 ∙ no_tile clauses (5 + j) j)
      (ap (map (kind_of clauses)) (kid clauses (5 + j) (suc (suc j)) 3 4 (omega arith) refl ∙ ap (λ (l : List ℕ). 3 ∷ l) (kid clauses (5 + j) (suc j) 4 (5 + j) (omega arith) end-4 ∙ ap (λ (l : List ℕ). 4 ∷ l) (no-kid clauses (5 + j) j))))
      refl

  writes-fit : children_fit clauses 4 (5 + j) ≡ true
  unfolding children rows fits is_of
  writes-fit =
      fit clauses (5 + j) 4 (suc j) (replicate j 23) (omega arith)
      (tiles 23 (λ i. i - 2) five 5 j refl j (suc j) 5 (omega arith) (omega arith) (omega arith))
      (kids 23 (λ i. i - 2) five 5 j refl j (suc j) 5 (omega arith) (omega arith) (omega arith))
      (fits-many Names 23 refl j)

  -- a node that ends with the last one
  ends_last : (i : ℕ) → i < 5 + j → end_of clauses i ≡ 5 + j → children_fit clauses i (5 + j) ≡ true
      → (ltb i (end_of clauses i) && (leb (end_of clauses i) (5 + j) && children_fit clauses i (end_of clauses i))) ≡ true
  ends_last i h e c =
      and-true (ap (ltb i) e ∙ lt-ltb i (5 + j) h)
      (and-true (ap (λ (x : ℕ). leb x (5 + j)) e ∙ le-leb (5 + j) (5 + j) (omega arith)) (ap (children_fit clauses i) e ∙ c))

  named-node : (i : ℕ) → i < 5 + j → node_ok clauses names text (5 + j) (2 + j) i ≡ true
  unfolding node_ok children_fit tiles_from kids_from children rows fits is_of name_fits carries
  named-node zero l = and-true refl (and-true refl (and-true refl (ends_last 0 (omega arith) end-0 contract-fit)))
  named-node (suc zero) l =
      and-true refl (and-true refl (and-true (name-fits 1 (omega arith) (omega arith)) (and-true refl (and-true (le-leb 2 (5 + j) (omega arith)) refl))))
  named-node (suc (suc zero)) l = and-true refl (and-true refl (and-true refl (ends_last 2 (omega arith) end-2 entry-fit)))
  named-node (suc (suc (suc zero))) l =
      and-true refl (and-true refl (and-true (name-fits 2 (omega arith) (omega arith)) (and-true refl (and-true (le-leb 4 (5 + j) (omega arith)) refl))))
  named-node (suc (suc (suc (suc zero)))) l = and-true refl (and-true refl (and-true refl (ends_last 4 (omega arith) end-4 writes-fit)))
  named-node (suc (suc (suc (suc (suc i))))) l =
      leaf-ok 23 (λ i. i - 2) five 5 j refl (suc (suc (suc (suc (suc i))))) (omega arith) l names text (2 + j) (name-fits (suc (suc (suc (suc (suc i)))) - 2) (omega arith) (omega arith)) refl

  -- every name is that of a node: 1 of node 1, 2 of node 3, the others of the leaves
  used : (x : ℕ) → x < 2 + j → used_in clauses (5 + j) x ≡ true
  unfolding used_in carries_name
  used zero l = some-here (carries_name clauses 1) (5 + j) 1 (omega arith) refl
  used (suc zero) l = some-here (carries_name clauses 2) (5 + j) 3 (omega arith) refl
  used (suc (suc x)) l =
      some-here (carries_name clauses (suc (suc x) + 1)) (5 + j) (5 + x) (omega arith)
      (ap (λ (y : ℕ). eqb y (suc (suc x) + 1)) (leaf-name 23 (λ i. i - 2) five 5 j refl (5 + x) (omega arith) (omega arith)) ∙ eq-eqb (5 + x - 2) (suc (suc x) + 1) (omega arith))

  named-body : names_ok names text (2 + j) ≡ true → body_refusal clauses names text (5 + j) (2 + j) ≡ 0
  named-body ok =
      body clauses names text (5 + j) (2 + j) ok
      (and-true refl (and-true (ap (λ (x : ℕ). eqb x (5 + j)) end-0 ∙ eq-eqb (5 + j) (5 + j) refl) (every-so (node_ok clauses names text (5 + j) (2 + j)) (5 + j) named-node)))
      (few 23 (λ i. i - 2) five 5 j refl (omega arith))
      (every-so (used_in clauses (5 + j)) (2 + j) used)

-- the names and where the parts lie are computed
abbrev thousand : List ℕ
thousand = offsets 0 1024

abbrev letters : List ℕ
letters = texts 0 1024

spelled : ℕ → Bool
spelled x = eqb (form_of (text_of thousand letters (x + 1))) 1

all-spelled : every spelled 1024 ≡ true
unfolding spelled every offsets texts class_of word_at
all-spelled = refl

names-ok : names_ok thousand letters 1024 ≡ true
unfolding every offsets texts class_of word_at less name_at
names-ok = refl

identifier : (x : ℕ) → 1 ≤ x → x ≤ 2 + 1022 → form_of (text_of thousand letters x) ≡ 1
unfolding spelled
identifier zero l h = absurd (omega arith)
identifier (suc x) l h =
    let z : x + 1 ≡ suc x = omega arith in
    sym (ap (λ (y : ℕ). form_of (text_of thousand letters y)) z) ∙ eqb-true _ 1 (every-at spelled 1024 x all-spelled (omega arith))

named-head : header_refusal (named 1022) ≡ 0
unfolding header_refusal layout_ok header leaves offsets texts
named-head = refl

named-nodes : nodes_of (named 1022) ≡ named_nodes 1022
unfolding header leaves offsets texts
named-nodes = refl

named-names : names_of (named 1022) ≡ thousand
unfolding header leaves offsets texts
named-names = refl

named-text : text_part (named 1022) ≡ letters
unfolding header leaves offsets texts
named-text = refl

named-admitted : refusal (named 1022) ≡ 0
unfolding header
named-admitted =
    admitted (named 1022) (named_nodes 1022) thousand letters 1027 1024 named-head named-nodes named-names named-text refl refl
    (named-body 1022 thousand letters identifier names-ok)

named-refused : refusal (named 1023) ≡ 3
unfolding refusal header_refusal layout_ok header leaves offsets texts
named-refused = refl

pub limits : Limits
limits = record { nodes_2048 = flat-admitted; nodes_2049 = flat-refused; names_1024 = named-admitted; names_1025 = named-refused }
