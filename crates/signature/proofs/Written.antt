-- Types that are the same node by node have one text.
use Prim.Native.Nat.{ℕ, zero, suc, ◌+◌, ◌-◌, ◌<◌, ◌≤◌}
use native.Mathlib.Omega.{arith}
use mathlib.Core.Path.{◌≡◌, sym, ap, ap₂, ◌∙◌}
use mathlib.Core.List.{List, [], ◌∷◌, ◌++◌}
use mathlib.Core.Logic.{⊎_elim}
use Rattle.image.specs.Admit.{refusal, node_count}
use Rattle.image.proofs.Decide.{eq-or-ne, lt-or-ge}
use Rattle.rules.specs.Tree.{tree}
use Rattle.rules.specs.Resolve.{comma, type_text}
use Rattle.signature.specs.Texts.{IsType, args_from}
use Rattle.signature.proofs.Types.{ChildAt, type-none, type-number, type-quorum, type-bare, type-args, args-done, tree-past, tree-nests, named-at, quorum-at, child-first, child-next, argument_is, args_more, comma-first, comma-later}
use Rattle.signature.proofs.Nodes.{Same, Alike, Shape, is_named, is_number, is_quorum, shape_of}

-- the comma before a node depends on how far behind the first it stands
pub comma-as : (a b i j : ℕ) → i + b ≡ j + a → comma a i ≡ comma b j
comma-as a b i j e =
    ⊎_elim
    (λ (q : i ≡ a). comma-first a i q ∙ sym (comma-first b j (omega arith)))
    (λ (n : i ≡ a → ⊥). comma-later a i n ∙ sym (comma-later b j (λ q. n (omega arith))))
    (eq-or-ne i a)

module _ (s : List ℕ) (adm : refusal s ≡ 0) where
  -- a part of types that are alike
  pub alike-below : {i j c d : ℕ} → Alike (tree s) i j → i < node_count s → i ≤ c → c < (tree s).end i → c + j ≡ d + i → Alike (tree s) c d
  alike-below {i} {j} {c} {d} A h l g e = record {
    size = let S = (A.each c d l g e).sizes in omega arith;
    each = λ p q a b f. A.each p q (omega arith) (inner p a b) (omega arith);
  }
    where
      inner : (p : ℕ) → c ≤ p → p < (tree s).end c → p < (tree s).end i
      inner p a b = ⊎_elim (λ (x : i < c). let m = tree-nests s adm i c h x g in omega arith) (λ (x : c ≤ i). let z : c ≡ i = omega arith in let w = ap (tree s).end z in omega arith) (lt-or-ge i c)

  abbrev Text : ℕ → Type 0
  Text l = (i j : ℕ) → i < node_count s → j < node_count s → IsType (tree s) i → IsType (tree s) j → Alike (tree s) i j → type_text l (tree s) i ≡ type_text l (tree s) j

  module _ (l : ℕ) (ih : Text l) (i j : ℕ) (hi : i < node_count s) (hj : j < node_count s) (ki : (tree s).kind i ≡ 11) (kj : (tree s).kind j ≡ 11) (A : Alike (tree s) i j) where
    args-same : (m c d : ℕ) → (tree s).end i - c ≤ m → i + 2 ≤ c → c ≤ (tree s).end i → c + j ≡ d + i → ChildAt (tree s) i c → ChildAt (tree s) j d → args_from l (tree s) i c ≡ args_from l (tree s) j d
    args-same zero c d f a g e x y = let S = A.size in args-done (tree s) i l c (omega arith) ∙ sym (args-done (tree s) j l d (omega arith))
    args-same (suc m) c d f a g e x y =
        ⊎_elim
        (λ (h : c < (tree s).end i).
        let S = A.size in
        let u = tree-past s adm i hi in
        let v = tree-past s adm j hj in
        let hd : d < (tree s).end j = omega arith in
        let B = alike-below A hi (omega arith) h e in
        let p = tree-past s adm c (omega arith) in
        let z = B.size in
        let nc = tree-nests s adm i c hi (omega arith) h in
        args_more s adm i hi l c x (omega arith) h
        ∙ ap₂ ◌++◌ (comma-as (i + 2) (j + 2) c d (omega arith))
        (ap₂ ◌++◌
        (ih c d (omega arith) (omega arith) (argument_is s adm i hi ki c x a h) (argument_is s adm j hj kj d y (omega arith) hd) B)
        (args-same m ((tree s).end c) ((tree s).end d) (omega arith) (omega arith) nc (omega arith) (child-next s adm i hi c x (omega arith) h) (child-next s adm j hj d y (omega arith) hd)))
        ∙ sym (args_more s adm j hj l d y (omega arith) hd))
        (λ (h : (tree s).end i ≤ c). let S = A.size in args-done (tree s) i l c h ∙ sym (args-done (tree s) j l d (omega arith)))
        (lt-or-ge c ((tree s).end i))

    named-same : type_text (suc l) (tree s) i ≡ type_text (suc l) (tree s) j
    named-same =
        let S = A.size in
        let u = (named-at s adm i hi ki).0 in
        let w = (A.each (i + 1) (j + 1) (omega arith) (omega arith) (omega arith)).texts in
        let z : suc l - 1 ≡ l = omega arith in
        ⊎_elim
        (λ (h : i + 2 < (tree s).end i).
        type-args (tree s) i (suc l) (omega arith) ki h
        ∙ ap₂ (λ (a b : List ℕ). a ++ ((60 ∷ []) ++ (b ++ (62 ∷ [])))) w
        (ap (λ (k : ℕ). args_from k (tree s) i (i + 2)) z
        ∙ args-same ((tree s).end i - (i + 2)) (i + 2) (j + 2) (omega arith) (omega arith) (omega arith) (omega arith) (child-first s adm i hi ki) (child-first s adm j hj kj)
        ∙ ap (λ (k : ℕ). args_from k (tree s) j (j + 2)) (sym z))
        ∙ sym (type-args (tree s) j (suc l) (omega arith) kj (omega arith)))
        (λ (h : (tree s).end i ≤ i + 2). type-bare (tree s) i (suc l) (omega arith) ki h ∙ w ∙ sym (type-bare (tree s) j (suc l) (omega arith) kj (omega arith)))
        (lt-or-ge (i + 2) ((tree s).end i))

  pub same_text : (l : ℕ) → Text l
  same_text zero i j hi hj ti tj A = type-none (tree s) i ∙ sym (type-none (tree s) j)
  same_text (suc l) i j hi hj ti tj A =
      let p = tree-past s adm i hi in
      let S0 = A.each i j (omega arith) p.0 (omega arith) in
      go (same_text l) S0 (shape_of (tree s) i ti)
    where
      go : Text l → Same (tree s) i j → Shape (tree s) i → type_text (suc l) (tree s) i ≡ type_text (suc l) (tree s) j
      go f S0 (is_named k) = named-same l f i j hi hj k (sym S0.kinds ∙ k) A
      go f S0 (is_number k) = type-number (tree s) i (suc l) (omega arith) k ∙ S0.texts ∙ sym (type-number (tree s) j (suc l) (omega arith) (sym S0.kinds ∙ k))
      go f S0 (is_quorum k) =
          let e = (quorum-at s adm i hi k).0 in
          type-quorum (tree s) i (suc l) (omega arith) k
          ∙ ap₂ (λ (a b : List ℕ). a ++ ((32 ∷ 111 ∷ 102 ∷ 32 ∷ []) ++ b)) (A.each (i + 1) (j + 1) (omega arith) (omega arith) (omega arith)).texts (A.each (i + 2) (j + 2) (omega arith) (omega arith) (omega arith)).texts
          ∙ sym (type-quorum (tree s) j (suc l) (omega arith) (sym S0.kinds ∙ k))
