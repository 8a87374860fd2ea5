-- How long a signature is: at most 261 bytes for each node of its entry, as no name has over 128.
use Prim.Native.Nat.{ℕ, zero, suc, ◌+◌, ◌*◌, ◌-◌, ◌<◌, ◌≤◌}
use mathlib.Core.Path.{◌≡◌, ap, ◌∙◌}
use mathlib.Core.Bool.{true}
use mathlib.Core.List.{List, [], ◌∷◌, ◌++◌}
use mathlib.Core.Logic.{⊎_elim}
use native.Mathlib.Omega.{arith}
use borrow.Author.Tests.{leb-true}
use lib.Dec.{ltb, leb, eqb}
use lib.ListN.{length, drop, length-take, length-append}
use Rattle.image.specs.Pick.{every}
use Rattle.image.specs.Maxima.{max_text, max_name}
use Rattle.image.specs.Node.{name_of}
use Rattle.image.specs.Text.{slice, off_of, text_of, name_at, name_ok, names_ok}
use Rattle.image.specs.Tree.{carries}
use Rattle.image.specs.Admit.{refusal, node_count, name_count, nodes_of, names_of, text_part}
use Rattle.image.proofs.Decide.{eq-or-ne, lt-or-ge}
use Rattle.image.proofs.Every.{both_left, both_right, every-at}
use Rattle.image.proofs.Given.{given, named, unnamed}
use Rattle.rules.specs.Tree.{tree}
use Rattle.rules.specs.Resolve.{comma, type_text, signature}
use Rattle.nodes.specs.Shown.{tree_of}
use Rattle.nodes.proofs.Parts.{inside}
use Rattle.signature.specs.Wrote.{Room, Wrote}
use Rattle.signature.specs.Texts.{IsType, args_from, params_from, Signing}
use Rattle.signature.proofs.Types.{ChildAt, type-none, type-number, type-quorum, type-bare, type-args, args-done, signature-is, tree-past, tree-nests, named-at, quorum-at, child-first, child-next, argument_is, args_more, comma-first, comma-later, AtParams, params-start, params-next, params_more, params-done, params_first, param-type, entry-name}

slice-short : (t : List ℕ) (a b : ℕ) → length (slice t a b) ≤ b - a
slice-short t a b = let e = length-take (b - a) (drop a t) in omega arith

comma-short : (start i : ℕ) → length (comma start i) ≤ 1
comma-short start i =
    ⊎_elim
    (λ (e : i ≡ start). let z = ap length (comma-first start i e) in omega arith)
    (λ (n : i ≡ start → ⊥). let z = ap length (comma-later start i n) in omega arith)
    (eq-or-ne i start)

-- the name of number n
name-short : (names text : List ℕ) (m n : ℕ) → names_ok names text m ≡ true → 1 ≤ n → n ≤ m → length (text_of names text n) ≤ 128
unfolding name_at
name-short names text m n t l h =
    let e : n - 1 + 1 ≡ n = omega arith in
    let all : every (name_ok names text) m ≡ true = both_right (leb (length text) max_text) _ (both_right (eqb (off_of names m) (length text)) _ (both_right (eqb (off_of names 0) 0) _ t)) in
    let here : name_at text (off_of names (n - 1 - 1)) (off_of names (n - 1)) (off_of names n) ≡ true = rw e at (every-at (name_ok names text) m (n - 1) all (omega arith)) in
    let a = both_right (ltb (off_of names (n - 1)) (off_of names n)) _ here in
    let b = both_right (leb (off_of names n) (length text)) _ a in
    let c : off_of names n - off_of names (n - 1) ≤ 128 = leb-true (off_of names n - off_of names (n - 1)) max_name (both_left (leb (off_of names n - off_of names (n - 1)) max_name) _ b) in
    let d = slice-short text (off_of names (n - 1)) (off_of names n) in
    omega arith

module _ (s : List ℕ) (adm : refusal s ≡ 0) where
  text_short : (i : ℕ) → i < node_count s → length ((tree s).text i) ≤ 128
  text_short i h =
      ⊎_elim
      (λ (z : carries ((tree s).kind i) ≡ 0).
      let u = unnamed s (given s adm) i h z in
      let e = ap (λ (x : ℕ). length (text_of (names_of s) (text_part s) x)) u in
      let d = slice-short (text_part s) (off_of (names_of s) (0 - 1)) (off_of (names_of s) 0) in
      omega arith)
      (λ (n : carries ((tree s).kind i) ≡ 0 → ⊥). let u = named s (given s adm) i h n in name-short (names_of s) (text_part s) (name_count s) (name_of (nodes_of s) i) (given s adm).names u.0 u.1)
      (eq-or-ne (carries ((tree s).kind i)) 0)

  abbrev Short : ℕ → Type 0
  Short l = (y : ℕ) → y < node_count s → IsType (tree s) y → length (type_text l (tree s) y) + 1 ≤ 261 * ((tree s).end y - y)

  args-short : (l : ℕ) → Short l → (y : ℕ) → y < node_count s → (tree s).kind y ≡ 11 → (m c : ℕ) → (tree s).end y - c ≤ m → y + 2 ≤ c → ChildAt (tree s) y c → length (args_from l (tree s) y c) ≤ 261 * ((tree s).end y - c)
  args-short l f y h k zero c d a x = let e = ap length (args-done (tree s) y l c (omega arith)) in omega arith
  args-short l f y h k (suc m) c d a x =
      ⊎_elim
      (λ (g : c < (tree s).end y).
      let v = tree-past s adm y h in
      let p = tree-past s adm c (omega arith) in
      let n = tree-nests s adm y c h (omega arith) g in
      let e = ap length (args_more s adm y h l c x (omega arith) g) in
      let i = length-append (comma (y + 2) c) (type_text l (tree s) c ++ args_from l (tree s) y ((tree s).end c)) in
      let j = length-append (type_text l (tree s) c) (args_from l (tree s) y ((tree s).end c)) in
      let o = comma-short (y + 2) c in
      let t = f c (omega arith) (argument_is s adm y h k c x a g) in
      let r = args-short l f y h k m ((tree s).end c) (omega arith) (omega arith) (child-next s adm y h c x (omega arith) g) in
      omega (arith, e, i, j, o, t, r, p.0, n))
      (λ (g : (tree s).end y ≤ c). let e = ap length (args-done (tree s) y l c g) in omega arith)
      (lt-or-ge c ((tree s).end y))

  type-short : (l : ℕ) → Short l
  type-short zero y h t = let v = (tree-past s adm y h).0 in let e = ap length (type-none (tree s) y) in omega arith
  type-short (suc l) y h t =
      ⊎_elim
      (λ (k : (tree s).kind y ≡ 12).
      let v = (tree-past s adm y h).0 in
      let e = ap length (type-number (tree s) y (suc l) (omega arith) k) in
      let w = text_short y h in
      omega arith)
      (λ (n12 : (tree s).kind y ≡ 12 → ⊥).
      ⊎_elim
      (λ (k : (tree s).kind y ≡ 13).
      let v = (tree-past s adm y h).1 in
      let q = (quorum-at s adm y h k).0 in
      let e = ap length (type-quorum (tree s) y (suc l) (omega arith) k) in
      let a = text_short (y + 1) (omega arith) in
      let b = text_short (y + 2) (omega arith) in
      let i = length-append ((tree s).text (y + 1)) ((32 ∷ 111 ∷ 102 ∷ 32 ∷ []) ++ (tree s).text (y + 2)) in
      omega arith)
      (λ (n13 : (tree s).kind y ≡ 13 → ⊥).
      let lo = t.0 in
      let hi = t.1 in
      let k : (tree s).kind y ≡ 11 = omega (arith, n12, n13) in
      let v = (tree-past s adm y h).1 in
      let q = (named-at s adm y h k).0 in
      let a = text_short (y + 1) (omega arith) in
      ⊎_elim
      (λ (g : y + 2 < (tree s).end y).
      let z : suc l - 1 ≡ l = omega arith in
      let e = ap length (type-args (tree s) y (suc l) (omega arith) k g ∙ ap (λ (x : ℕ). (tree s).text (y + 1) ++ ((60 ∷ []) ++ (args_from x (tree s) y (y + 2) ++ (62 ∷ [])))) z) in
      let i = length-append ((tree s).text (y + 1)) ((60 ∷ []) ++ (args_from l (tree s) y (y + 2) ++ (62 ∷ []))) in
      let j = length-append (args_from l (tree s) y (y + 2)) (62 ∷ []) in
      let r = args-short l (type-short l) y h k ((tree s).end y) (y + 2) (omega arith) (omega arith) (child-first s adm y h k) in
      omega (arith, e, i, j, r, a, g))
      (λ (g : (tree s).end y ≤ y + 2). let e = ap length (type-bare (tree s) y (suc l) (omega arith) k g) in omega arith)
      (lt-or-ge (y + 2) ((tree s).end y)))
      (eq-or-ne ((tree s).kind y) 13))
      (eq-or-ne ((tree s).kind y) 12)

  module _ (e : ℕ) (h : e < node_count s) (k : (tree s).kind e ≡ 9) where
    params-short : (m p : ℕ) → (tree s).end e - p ≤ m → e + 2 ≤ p → AtParams s adm e p → length (params_from (tree s) e p) ≤ 261 * ((tree s).end e - p)
    params-short zero p d a A = let z = ap length (params-done s adm e h p A (λ g q. omega arith)) in omega arith
    params-short (suc m) p d a A =
        ⊎_elim
        (λ (g : p < (tree s).end e).
        ⊎_elim
        (λ (q : (tree s).kind p ≡ 10).
        let v = tree-past s adm e h in
        let t = param-type s adm e h p (omega arith) g q in
        let t0 = t.0 in
        let t1 = t.1 in
        let t2 = t.2 in
        let pp = tree-past s adm p (omega arith) in
        let n = tree-nests s adm p (p + 2) (omega arith) (omega arith) t0 in
        let z = ap length (params_more s adm e h p (omega arith) g q) in
        let i = length-append (comma (e + 2) p) (type_text 64 (tree s) (p + 2) ++ params_from (tree s) e ((tree s).end p)) in
        let j = length-append (type_text 64 (tree s) (p + 2)) (params_from (tree s) e ((tree s).end p)) in
        let o = comma-short (e + 2) p in
        let w = type-short 64 (p + 2) (omega arith) (omega arith, omega arith) in
        let r = params-short m ((tree s).end p) (omega arith) (omega arith) (params-next s adm e h p A g q) in
        omega (arith, z, i, j, o, w, r, pp.0, n, t0, t2))
        (λ (q : (tree s).kind p ≡ 10 → ⊥). let z = ap length (params-done s adm e h p A (λ x y. q y)) in omega arith)
        (eq-or-ne ((tree s).kind p) 10))
        (λ (g : (tree s).end e ≤ p). let z = ap length (params-done s adm e h p A (λ x y. omega arith)) in omega arith)
        (lt-or-ge p ((tree s).end e))

    pub signature-short : length (signature (tree s) e) ≤ 261 * ((tree s).end e - e)
    signature-short =
        let v = (tree-past s adm e h).1 in
        let n = (entry-name s adm e h k).0 in
        let a = text_short (e + 1) (omega arith) in
        let z = ap length (signature-is (tree s) e ∙ ap (λ (m : List ℕ). (tree s).text (e + 1) ++ ((40 ∷ []) ++ (m ++ (41 ∷ [])))) (params_first s adm e h k)) in
        let i = length-append ((tree s).text (e + 1)) ((40 ∷ []) ++ (params_from (tree s) e (e + 2) ++ (41 ∷ []))) in
        let j = length-append (params_from (tree s) e (e + 2)) (41 ∷ []) in
        let r = params-short ((tree s).end e) (e + 2) (omega arith) (omega arith) (params-start s adm e h k) in
        omega (arith, z, i, j, r, a, n)

-- there is room for any signature
module _ {part : List ℕ} {b : ℕ} {names text : List ℕ} {e at : ℕ} (P : Signing part b names text e at) where
  bounded : length (signature (tree_of P.texts.view) e) ≤ 534528
  bounded =
      let W = P.texts.view in
      let s = W.image in
      let adm = W.shown.admitted in
      let u = inside W P.there in
      let v = W.shown.high in
      let h : e < node_count s = omega arith in
      let n = (given s adm).header.nodes in
      let w = (tree-past s adm e h).1 in
      let l = signature-short s adm e h P.is_entry in
      omega (arith, n, w, l)

  pub room-any : Room at (signature (tree_of P.texts.view) e)
  room-any = let l = bounded in let a = P.low in record { fits = omega arith }

  pub wrote-few : {out out' : List ℕ} {r : ℕ} → Wrote out at (signature (tree_of P.texts.view) e) out' r → r ≤ at + 534528
  wrote-few w = let l = bounded in let z = w.size in omega arith
