-- Span words are never judged: of two images that differ in them alone the nodes' other fields, the names and the text are the same,
-- and admission and the tree read no others.
use Prim.Native.Nat.{ℕ, zero, suc, ◌+◌, ◌*◌, ◌-◌, ◌<◌, ◌≤◌, min}
use mathlib.Core.Path.{◌≡◌, refl, ap, ap₂, ◌∙◌, sym, fun_ext}
use mathlib.Core.Bool.{Bool, true, false, ◌&&◌}
use mathlib.Core.List.{List, [], ◌∷◌, map}
use native.Mathlib.Omega.{arith}
use borrow.Author.Tests.{ltb-true, ltb-false}
use lib.Dec.{ltb, leb, eqb}
use lib.ListN.{length, get_or, drop, length-take, length-drop, get_or-eq_default}
use lib.Seq.{get_or-take, get_or-drop, ext_get_or}
use Rattle.image.specs.Pick.{pick, every, somewhere, count}
use Rattle.image.specs.Maxima.{max_depth}
use Rattle.image.specs.Node.{half, full_word, kind_of, name_of, end_of}
use Rattle.image.specs.Text.{slice, text_of}
use Rattle.image.specs.Table.{fits, children}
use Rattle.image.specs.Tree.{tiles_from, kids_from, children_fit, name_fits, node_ok, tree_ok, ends_past, shallow, depth_ok, carries_name, used_in, used_ok}
use Rattle.image.specs.Admit.{node_count, name_count, names_at, text_at, nodes_of, names_of, text_part, layout_ok, header_refusal, body_refusal, refusal}
use Rattle.rules.specs.Tree.{tree, tree_in}
use Rattle.rules.specs.Spans.{ButForSpans, Unjudged}

-- Two node areas of the same fields

module _ (a b : List ℕ) (low : (i k : ℕ) → k < 8 → get_or a (16 * i + k) 0 ≡ get_or b (16 * i + k) 0) where
  low_half : (i k : ℕ) → k < 7 → half a (16 * i + k) ≡ half b (16 * i + k)
  low_half i k h =
      let z : 16 * i + k + 1 ≡ 16 * i + (k + 1) = omega arith in
      ap₂ (λ (x y : ℕ). x + 256 * y) (low i k (omega arith))
      (ap (λ (j : ℕ). get_or a j 0) z ∙ low i (k + 1) (omega arith) ∙ ap (λ (j : ℕ). get_or b j 0) (sym z))

  kinds : (i : ℕ) → kind_of a i ≡ kind_of b i
  kinds i = let z : 16 * i ≡ 16 * i + 0 = omega arith in ap (λ (j : ℕ). get_or a j 0) z ∙ low i 0 (omega arith) ∙ ap (λ (j : ℕ). get_or b j 0) (sym z)

  numbers : (i : ℕ) → name_of a i ≡ name_of b i
  numbers i = low_half i 2 (omega arith)

  ends : (i : ℕ) → end_of a i ≡ end_of b i
  ends i = low_half i 4 (omega arith)

  tiles : (fuel at e : ℕ) → tiles_from fuel a at e ≡ tiles_from fuel b at e
  unfolding tiles_from
  tiles zero at e = refl
  tiles (suc fuel) at e =
      ap (λ (x : ℕ). pick (ltb at e) (ltb at x && tiles_from fuel a x e) (eqb at e)) (ends at)
      ∙ ap (λ (c : Bool). pick (ltb at e) (ltb at (end_of b at) && c) (eqb at e)) (tiles fuel (end_of b at) e)

  kids : (fuel at e : ℕ) → kids_from fuel a at e ≡ kids_from fuel b at e
  unfolding kids_from
  kids zero at e = refl
  kids (suc fuel) at e =
      ap (λ (x : ℕ). pick (ltb at e) (at ∷ kids_from fuel a x e) []) (ends at)
      ∙ ap (λ (l : List ℕ). pick (ltb at e) (at ∷ l) []) (kids fuel (end_of b at) e)

  fit : (i e : ℕ) → children_fit a i e ≡ children_fit b i e
  unfolding children_fit
  fit i e =
      ap₂ (λ (c d : Bool). c && d) (tiles (e - i) (i + 1) e)
      (ap₂ (λ (k : ℕ) (l : List ℕ). fits (children k) l) (kinds i)
      (ap (λ (f : ℕ → ℕ). map f (kids_from (e - i) a (i + 1) e)) (fun_ext kinds) ∙ ap (map (kind_of b)) (kids (e - i) (i + 1) e)))

  module _ (names text : List ℕ) (n m : ℕ) where
    node-same : (i : ℕ) → node_ok a names text n m i ≡ node_ok b names text n m i
    unfolding node_ok
    node-same i =
        ap₂ (λ (c d : Bool). c && d) (ap (λ (x : ℕ). eqb x 0) (low i 1 (omega arith)))
        (ap₂ (λ (c d : Bool). c && d) (ap (λ (x : ℕ). eqb x 0) (low_half i 6 (omega arith)))
        (ap₂ (λ (c d : Bool). c && d) (ap₂ (name_fits names text m) (kinds i) (numbers i))
        (ap (λ (e : ℕ). ltb i e && (leb e n && children_fit a i e)) (ends i)
        ∙ ap (λ (c : Bool). ltb i (end_of b i) && (leb (end_of b i) n && c)) (fit i (end_of b i)))))

    tree-same : tree_ok a names text n m ≡ tree_ok b names text n m
    tree-same =
        ap₂ (λ (c d : Bool). c && d) (ap (λ (x : ℕ). eqb x 1) (kinds 0))
        (ap₂ (λ (c d : Bool). c && d) (ap (λ (x : ℕ). eqb x n) (ends 0)) (ap (λ (p : ℕ → Bool). every p n) (fun_ext node-same)))

    depth_same : depth_ok a n ≡ depth_ok b n
    unfolding ends_past shallow
    depth_same = ap (λ (p : ℕ → Bool). every p n) (fun_ext shallow-same)
      where
        past_same : (i j : ℕ) → ends_past a i j ≡ ends_past b i j
        past_same i j = ap (λ (e : ℕ). ltb i e) (ends j)

        shallow-same : (i : ℕ) → shallow a i ≡ shallow b i
        shallow-same i = ap (λ (p : ℕ → Bool). leb (count p i) max_depth) (fun_ext (past_same i))

    used-same : used_ok a n m ≡ used_ok b n m
    unfolding carries_name used_in
    used-same = ap (λ (p : ℕ → Bool). every p m) (fun_ext in-same)
      where
        carries_same : (k i : ℕ) → carries_name a k i ≡ carries_name b k i
        carries_same k i = ap (λ (x : ℕ). eqb x k) (numbers i)

        in-same : (k : ℕ) → used_in a n k ≡ used_in b n k
        in-same k = ap (λ (p : ℕ → Bool). somewhere p n) (fun_ext (carries_same (k + 1)))

    body_same : body_refusal a names text n m ≡ body_refusal b names text n m
    unfolding body_refusal
    body_same = rw (tree-same, depth_same, used-same) refl

  -- the tree that they hold
  alike : (names text : List ℕ) → tree_in a names text 0 ≡ tree_in b names text 0
  alike names text =
      ap₂ (λ (k : ℕ → ℕ) (e : ℕ → ℕ). record { root = 0; kind = k; end = e; text = λ i. text_of names text (name_of a i) }) (fun_ext kinds) (fun_ext ends)
      ∙ ap (λ (w : ℕ → List ℕ). record { root = 0; kind = kind_of b; end = end_of b; text = w }) (fun_ext (λ i. ap (text_of names text) (numbers i)))

-- Two images that differ in span words alone

module _ (s r : List ℕ) (d : ButForSpans s r) where
  abbrev n : ℕ
  n = node_count s

  header : (k : ℕ) → k < 24 → get_or s k 0 ≡ get_or r k 0
  header k h = d.same k (λ x. let l = x.2 in omega arith)

  header-half : (k : ℕ) → k < 23 → half s k ≡ half r k
  header-half k h = ap₂ (λ (x y : ℕ). x + 256 * y) (header k (omega arith)) (header (k + 1) (omega arith))

  header-word : (k : ℕ) → k < 21 → full_word s k ≡ full_word r k
  header-word k h = ap₂ (λ (x y : ℕ). x + 65536 * y) (header-half k (omega arith)) (header-half (k + 2) (omega arith))

  nodes-same : node_count s ≡ node_count r
  nodes-same = header-half 2 (omega arith)

  names_same : name_count s ≡ name_count r
  names_same = header-half 4 (omega arith)

  -- what follows the nodes
  behind : (from to : ℕ) → names_at n ≤ from → slice s from to ≡ slice r from to
  behind from to h =
      ext_get_or 0 (slice s from to) (slice r from to) long (λ i l. at i l)
    where
      long : length (slice s from to) ≡ length (slice r from to)
      long = length-take (to - from) (drop from s) ∙ ap (min (to - from)) (length-drop from s ∙ ap (λ (x : ℕ). x - from) d.long ∙ sym (length-drop from r)) ∙ sym (length-take (to - from) (drop from r))

      at : (i : ℕ) → i < length (slice s from to) → get_or (slice s from to) i 0 ≡ get_or (slice r from to) i 0
      at i l =
          let m : i < to - from = short i l in
          get_or-take (to - from) (drop from s) i 0 m ∙ get_or-drop from s i 0
          ∙ d.same (from + i) (λ x. let l = x.1 in let u = x.3 in omega arith)
          ∙ sym (get_or-take (to - from) (drop from r) i 0 m ∙ get_or-drop from r i 0)
        where
          short : (i : ℕ) → i < length (slice s from to) → i < to - from
          short i l = let e = length-take (to - from) (drop from s) in omega arith

  -- byte j of the nodes of an image t
  inside : (t : List ℕ) (j : ℕ) → j < 16 * n → get_or (slice t 24 (names_at n)) j 0 ≡ get_or t (24 + j) 0
  inside t j h = get_or-take (names_at n - 24) (drop 24 t) j 0 (omega arith) ∙ get_or-drop 24 t j 0

  past : (t : List ℕ) (j : ℕ) → 16 * n ≤ j → get_or (slice t 24 (names_at n)) j 0 ≡ 0
  past t j h = get_or-eq_default (slice t 24 (names_at n)) 0 (let e = length-take (names_at n - 24) (drop 24 t) in omega arith)

  -- the fields of a node
  fields : (i k : ℕ) → k < 8 → get_or (slice s 24 (names_at n)) (16 * i + k) 0 ≡ get_or (slice r 24 (names_at n)) (16 * i + k) 0
  fields i k h = go (ltb i n) refl
    where
      go : (b : Bool) → ltb i n ≡ b → get_or (slice s 24 (names_at n)) (16 * i + k) 0 ≡ get_or (slice r 24 (names_at n)) (16 * i + k) 0
      go true e =
          let l = ltb-true i n e in
          inside s (16 * i + k) (omega arith)
          ∙ d.same (24 + (16 * i + k)) (λ x. let f = x.2 in let u = x.3 in omega arith)
          ∙ sym (inside r (16 * i + k) (omega arith))
      go false e = let l = ltb-false i n e in past s (16 * i + k) (omega arith) ∙ sym (past r (16 * i + k) (omega arith))

  head-same : header_refusal s ≡ header_refusal r
  unfolding header_refusal layout_ok
  head-same =
      rw (d.long, header-half 0 (omega arith), header-half 6 (omega arith), nodes-same, names_same, header-word 8 (omega arith), header-word 12 (omega arith), header-word 16 (omega arith), header-word 20 (omega arith)) refl

  -- names and text
  table_same : names_of s ≡ names_of r
  table_same =
      behind (names_at n) (text_at n (name_count s)) (omega arith)
      ∙ ap₂ (λ (x y : ℕ). slice r (names_at x) (text_at x y)) nodes-same names_same

  text_same : text_part s ≡ text_part r
  text_same =
      behind (text_at n (name_count s)) (length s) (omega arith)
      ∙ ap (slice r (text_at n (name_count s))) d.long
      ∙ ap₂ (λ (x y : ℕ). slice r (text_at x y) (length r)) nodes-same names_same

  refusal-same : refusal s ≡ refusal r
  unfolding refusal
  refusal-same =
      ap (λ (x : ℕ). pick (eqb x 0) (body_refusal (nodes_of s) (names_of s) (text_part s) n (name_count s)) x) head-same
      ∙ ap (λ (x : ℕ). pick (eqb (header_refusal r) 0) x (header_refusal r))
      (body_same (nodes_of s) (slice r 24 (names_at n)) fields (names_of s) (text_part s) n (name_count s)
      ∙ ap₂ (λ (u v : List ℕ). body_refusal (slice r 24 (names_at n)) u v n (name_count s)) table_same text_same
      ∙ ap₂ (λ (x y : ℕ). body_refusal (slice r 24 (names_at x)) (names_of r) (text_part r) x y) nodes-same names_same)

  tree_is : tree s ≡ tree r
  tree_is =
      alike (nodes_of s) (slice r 24 (names_at n)) fields (names_of s) (text_part s)
      ∙ ap₂ (λ (u v : List ℕ). tree_in (slice r 24 (names_at n)) u v 0) table_same text_same
      ∙ ap (λ (x : ℕ). tree_in (slice r 24 (names_at x)) (names_of r) (text_part r) 0) nodes-same

pub unjudged : Unjudged
unjudged s r d = (refusal-same s r d, tree_is s r d)
