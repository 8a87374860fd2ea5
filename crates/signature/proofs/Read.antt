-- Types of one text are the same node by node: a text is read off the front in one way.
use Prim.Native.Nat.{ℕ, zero, suc, ◌+◌, ◌-◌, ◌<◌, ◌≤◌}
use native.Mathlib.Omega.{arith}
use mathlib.Core.Path.{◌≡◌, refl, sym, ap, ◌∙◌, subst}
use mathlib.Core.List.{List, [], ◌∷◌, ◌++◌, append_assoc}
use mathlib.Core.Logic.{◌⊎◌, inl, inr, ⊎_elim}
use native.Mathlib.Nat.{eq-or-lt_of_le}
use Rattle.image.specs.Admit.{refusal, node_count}
use Rattle.image.specs.Text.{form_of, class_of}
use Rattle.image.specs.Tree.{carries}
use Rattle.image.proofs.Decide.{eq-or-ne, lt-or-ge}
use Rattle.rules.specs.Tree.{tree}
use Rattle.rules.specs.Resolve.{comma, type_text}
use Rattle.signature.specs.Texts.{IsType, args_from}
use Rattle.signature.proofs.Types.{ChildAt, type-number, type-quorum, type-bare, type-args, args-done, tree-past, tree-nests, number-ends, named-at, quorum-at, child-first, child-next, argument_is, args_more, comma-first, comma-later}
use Rattle.signature.proofs.Words.{Word, Break, Stop, stop-break, byte-breaks, head-is, tail-is, none-some, split, form-word, word-starts}
use Rattle.signature.proofs.Nodes.{Same, same_at, Alike, Shape, is_named, is_number, is_quorum, shape_of, blank-types, name-form, number-form}
use Rattle.signature.proofs.Written.{comma-as}

-- the same front can be taken off
pub cancel : (w a b : List ℕ) → w ++ a ≡ w ++ b → a ≡ b
cancel [] a b e = e
cancel (x ∷ w) a b e = cancel w a b (tail-is e)

not-open : (r : List ℕ) {m : List ℕ} {A : Type 0} → Stop r → r ≡ 60 ∷ m → A
not-open [] s e = none-some e
not-open (x ∷ r) s e = absurd (s.1 (head-is e))

not-space : (r : List ℕ) {m : List ℕ} {A : Type 0} → Stop r → r ≡ 32 ∷ m → A
not-space [] s e = none-some e
not-space (x ∷ r) s e = absurd (s.2 (head-is e))

close-stops : (r : List ℕ) → Stop (62 ∷ r)
close-stops r = (byte-breaks.5, (λ e. omega arith), (λ e. omega arith))

pub comma-stops : (r : List ℕ) → Stop (44 ∷ r)
comma-stops r = (byte-breaks.3, (λ e. omega arith), (λ e. omega arith))

module _ (s : List ℕ) (adm : refusal s ≡ 0) where
  -- a type begins with a word
  pub type-starts : (l y : ℕ) → 0 < l → y < node_count s → IsType (tree s) y → (r : List ℕ) (x : ℕ) (m : List ℕ) → type_text l (tree s) y ++ r ≡ x ∷ m → 1 ≤ class_of x
  type-starts l y z h t r x m e = go (shape_of (tree s) y t)
    where
      u : (y < (tree s).end y) × ((tree s).end y ≤ node_count s)
      u = tree-past s adm y h

      go : Shape (tree s) y → 1 ≤ class_of x
      go (is_number k) = let f = number-form s adm y h k in word-starts ((tree s).text y) r x m (omega arith) (ap (λ (a : List ℕ). a ++ r) (sym (type-number (tree s) y l z k)) ∙ e)
      go (is_quorum k) =
          let q = quorum-at s adm y h k in
          let d = q.0 in
          let v = u.1 in
          let f = number-form s adm (y + 1) (omega arith) q.1 in
          word-starts ((tree s).text (y + 1)) _ x m (omega arith) (sym (append_assoc ((tree s).text (y + 1)) _ r) ∙ ap (λ (a : List ℕ). a ++ r) (sym (type-quorum (tree s) y l z k)) ∙ e)
      go (is_named k) =
          let q = named-at s adm y h k in
          let d = q.0 in
          let v = u.1 in
          let f = name-form s adm (y + 1) (omega arith) q.1 in
          ⊎_elim
          (λ (g : y + 2 < (tree s).end y). word-starts ((tree s).text (y + 1)) _ x m (omega arith) (sym (append_assoc ((tree s).text (y + 1)) _ r) ∙ ap (λ (a : List ℕ). a ++ r) (sym (type-args (tree s) y l z k g)) ∙ e))
          (λ (g : (tree s).end y ≤ y + 2). word-starts ((tree s).text (y + 1)) r x m (omega arith) (ap (λ (a : List ℕ). a ++ r) (sym (type-bare (tree s) y l z k g)) ∙ e))
          (lt-or-ge (y + 2) ((tree s).end y))

  abbrev Reads : ℕ → Type 0
  Reads l = (i j : ℕ) → i < node_count s → j < node_count s → IsType (tree s) i → IsType (tree s) j → (tree s).end i - i ≤ l → (tree s).end j - j ≤ l
      → (r u : List ℕ) → Stop r → Stop u → type_text l (tree s) i ++ r ≡ type_text l (tree s) j ++ u → Alike (tree s) i j × (r ≡ u)

  -- the arguments of two types, from c and from d on, up to `>`
  module _ (l : ℕ) (ih : Reads l) (i j : ℕ) (hi : i < node_count s) (hj : j < node_count s) (ki : (tree s).kind i ≡ 11) (kj : (tree s).kind j ≡ 11) (si : (tree s).end i - i ≤ suc l) (sj : (tree s).end j - j ≤ suc l) where
    abbrev Rest : ℕ → List ℕ → List ℕ → Type 0
    Rest c r u = ((tree s).end i + j ≡ (tree s).end j + i) × ((p q : ℕ) → c ≤ p → p < (tree s).end i → p + j ≡ q + i → Same (tree s) p q) × (r ≡ u)

    -- what follows an argument is `,` or `>`
    after-stops : (y c : ℕ) → y < node_count s → ChildAt (tree s) y c → y + 2 < c → (r : List ℕ) → Stop (args_from l (tree s) y c ++ (62 ∷ r))
    after-stops y c h x a r =
        ⊎_elim
        (λ (g : c < (tree s).end y).
        subst Stop
        (sym (ap (λ (m : List ℕ). m ++ (62 ∷ r)) (args_more s adm y h l c x (omega arith) g ∙ ap (λ (m : List ℕ). m ++ (type_text l (tree s) c ++ args_from l (tree s) y ((tree s).end c))) (comma-later (y + 2) c (λ q. omega arith)))))
        (comma-stops ((type_text l (tree s) c ++ args_from l (tree s) y ((tree s).end c)) ++ (62 ∷ r))))
        (λ (g : (tree s).end y ≤ c). subst Stop (sym (ap (λ (m : List ℕ). m ++ (62 ∷ r)) (args-done (tree s) y l c g))) (close-stops r))
        (lt-or-ge c ((tree s).end y))

    -- an argument, or its comma, is no `>`
    not-close : (y c : ℕ) → y < node_count s → (tree s).kind y ≡ 11 → (tree s).end y - y ≤ suc l → ChildAt (tree s) y c → y + 2 ≤ c → c < (tree s).end y → (r : List ℕ) {m : List ℕ} {A : Type 0} → args_from l (tree s) y c ++ r ≡ 62 ∷ m → A
    not-close y c h k sy x a g r {m} e =
        let b = byte-breaks.5 in
        let v = tree-past s adm y h in
        let T = type_text l (tree s) c ++ args_from l (tree s) y ((tree s).end c) in
        let f = ap (λ (n : List ℕ). n ++ r) (sym (args_more s adm y h l c x (omega arith) g)) ∙ e in
        ⊎_elim
        (λ (q : c ≡ y + 2).
        let w = type-starts l c (omega arith) (omega arith) (argument_is s adm y h k c x a g) _ 62 m
        (sym (append_assoc (type_text l (tree s) c) _ r) ∙ ap (λ (n : List ℕ). (n ++ T) ++ r) (sym (comma-first (y + 2) c q)) ∙ f) in
        absurd (omega arith))
        (λ (n : c ≡ y + 2 → ⊥).
        let w = head-is (ap (λ (o : List ℕ). (o ++ T) ++ r) (sym (comma-later (y + 2) c n)) ∙ f) in
        absurd (omega arith))
        (eq-or-ne c (y + 2))

    args_read : (m c d : ℕ) → (tree s).end i - c ≤ m → i + 2 ≤ c → c ≤ (tree s).end i → d ≤ (tree s).end j → c + j ≡ d + i → ChildAt (tree s) i c → ChildAt (tree s) j d
        → (r u : List ℕ) → args_from l (tree s) i c ++ (62 ∷ r) ≡ args_from l (tree s) j d ++ (62 ∷ u) → Rest c r u
    args_read zero c d f a g b e x y r u q =
        let q1 : 62 ∷ r ≡ args_from l (tree s) j d ++ (62 ∷ u) = ap (λ (n : List ℕ). n ++ (62 ∷ r)) (sym (args-done (tree s) i l c (omega arith))) ∙ q in
        ⊎_elim
        (λ (h : d < (tree s).end j). not-close j d hj kj sj y (omega arith) h (62 ∷ u) (sym q1))
        (λ (h : (tree s).end j ≤ d). (omega arith, (λ p o k w z. absurd (omega arith)), tail-is (q1 ∙ ap (λ (n : List ℕ). n ++ (62 ∷ u)) (args-done (tree s) j l d h))))
        (lt-or-ge d ((tree s).end j))
    args_read (suc m) c d f a g b e x y r u q =
        ⊎_elim
        (λ (hc : c < (tree s).end i).
        ⊎_elim
        (λ (hd : d < (tree s).end j). both-more hc hd (λ f2 g2 b2 e2 x2 y2 q2. args_read m ((tree s).end c) ((tree s).end d) f2 (let p = tree-past s adm c (let v = tree-past s adm i hi in omega arith) in omega arith) g2 b2 e2 x2 y2 r u q2))
        (λ (hd : (tree s).end j ≤ d). not-close i c hi ki si x a hc (62 ∷ r) (q ∙ ap (λ (n : List ℕ). n ++ (62 ∷ u)) (args-done (tree s) j l d hd)))
        (lt-or-ge d ((tree s).end j)))
        (λ (hc : (tree s).end i ≤ c).
        let q1 : 62 ∷ r ≡ args_from l (tree s) j d ++ (62 ∷ u) = ap (λ (n : List ℕ). n ++ (62 ∷ r)) (sym (args-done (tree s) i l c hc)) ∙ q in
        ⊎_elim
        (λ (h : d < (tree s).end j). not-close j d hj kj sj y (omega arith) h (62 ∷ u) (sym q1))
        (λ (h : (tree s).end j ≤ d). (omega arith, (λ p o k w z. absurd (omega arith)), tail-is (q1 ∙ ap (λ (n : List ℕ). n ++ (62 ∷ u)) (args-done (tree s) j l d h))))
        (lt-or-ge d ((tree s).end j)))
        (lt-or-ge c ((tree s).end i))
      where
        both-more : c < (tree s).end i → d < (tree s).end j
            → ((tree s).end i - (tree s).end c ≤ m → (tree s).end c ≤ (tree s).end i → (tree s).end d ≤ (tree s).end j → (tree s).end c + j ≡ (tree s).end d + i → ChildAt (tree s) i ((tree s).end c) → ChildAt (tree s) j ((tree s).end d)
            → args_from l (tree s) i ((tree s).end c) ++ (62 ∷ r) ≡ args_from l (tree s) j ((tree s).end d) ++ (62 ∷ u) → Rest ((tree s).end c) r u)
            → Rest c r u
        both-more hc hd more =
            let vi = tree-past s adm i hi in
            let vj = tree-past s adm j hj in
            let pc = tree-past s adm c (omega arith) in
            let pd = tree-past s adm d (omega arith) in
            let nc = tree-nests s adm i c hi (omega arith) hc in
            let nd = tree-nests s adm j d hj (omega arith) hd in
            let xc = child-next s adm i hi c x (omega arith) hc in
            let yd = child-next s adm j hj d y (omega arith) hd in
            let Tc = type_text l (tree s) c in
            let Td = type_text l (tree s) d in
            let Rc = args_from l (tree s) i ((tree s).end c) in
            let Rd = args_from l (tree s) j ((tree s).end d) in
            let K = comma (i + 2) c in
            let q1 : K ++ (Tc ++ (Rc ++ (62 ∷ r))) ≡ K ++ (Td ++ (Rd ++ (62 ∷ u)))
            = sym (append_assoc K (Tc ++ Rc) (62 ∷ r) ∙ ap (λ (n : List ℕ). K ++ n) (append_assoc Tc Rc (62 ∷ r)))
            ∙ ap (λ (n : List ℕ). n ++ (62 ∷ r)) (sym (args_more s adm i hi l c x (omega arith) hc))
            ∙ q
            ∙ ap (λ (n : List ℕ). n ++ (62 ∷ u)) (args_more s adm j hj l d y (omega arith) hd ∙ ap (λ (n : List ℕ). n ++ (Td ++ Rd)) (comma-as (j + 2) (i + 2) d c (omega arith)))
            ∙ append_assoc K (Td ++ Rd) (62 ∷ u) ∙ ap (λ (n : List ℕ). K ++ n) (append_assoc Td Rd (62 ∷ u))
            in
            let w = ih c d (omega arith) (omega arith) (argument_is s adm i hi ki c x a hc) (argument_is s adm j hj kj d y (omega arith) hd) (omega arith) (omega arith) (Rc ++ (62 ∷ r)) (Rd ++ (62 ∷ u))
            (after-stops i ((tree s).end c) hi xc (omega arith) r) (after-stops j ((tree s).end d) hj yd (omega arith) u) (cancel K _ _ q1) in
            let z = w.0.size in
            let t = more (omega arith) nc nd (omega arith) xc yd w.1 in (
              t.0,
              (λ p o lo hi2 eq. ⊎_elim (λ (in_c : p < (tree s).end c). w.0.each p o lo in_c (omega arith)) (λ (past-c : (tree s).end c ≤ p). t.1 p o past-c hi2 eq) (lt-or-ge p ((tree s).end c))),
              t.2,
            )

    -- the nodes of a named type: itself, its Name and its arguments
    alike-named : (tree s).text (i + 1) ≡ (tree s).text (j + 1) → (tree s).end i + j ≡ (tree s).end j + i → ((p q : ℕ) → i + 2 ≤ p → p < (tree s).end i → p + j ≡ q + i → Same (tree s) p q) → Alike (tree s) i j
    unfolding carries
    alike-named w z f =
        let ni = named-at s adm i hi ki in
        let nj = named-at s adm j hj kj in
        record {
          size = z;
          each = λ p q a b e.
              ⊎_elim
              (λ (x : i ≡ p). same_at (tree s) p q x (omega arith) (record { kinds = ki ∙ sym kj; texts = blank-types s adm i j hi hj 11 refl ki kj; sizes = z }))
              (λ (x : i < p).
              ⊎_elim
              (λ (y : i + 1 ≡ p). same_at (tree s) p q y (omega arith) (record { kinds = ni.1 ∙ sym nj.1; texts = w; sizes = let g = ni.2 in let h = nj.2 in omega arith }))
              (λ (y : i + 1 < p). f p q (omega arith) b e)
              (eq-or-lt_of_le (let v : i + 1 ≤ p = omega arith in v)))
              (eq-or-lt_of_le a);
        }

    named-read : (r u : List ℕ) → Stop r → Stop u → type_text (suc l) (tree s) i ++ r ≡ type_text (suc l) (tree s) j ++ u → Alike (tree s) i j × (r ≡ u)
    named-read r u hr hu e =
        let z : suc l - 1 ≡ l = omega arith in
        let ni = named-at s adm i hi ki in
        let nj = named-at s adm j hj kj in
        let vi = tree-past s adm i hi in
        let vj = tree-past s adm j hj in
        let li = ni.0 in
        let lj = nj.0 in
        let fi = name-form s adm (i + 1) (omega arith) ni.1 in
        let fj = name-form s adm (j + 1) (omega arith) nj.1 in
        let wi = form-word ((tree s).text (i + 1)) (omega arith) in
        let wj = form-word ((tree s).text (j + 1)) (omega arith) in
        let oi : i + 2 < (tree s).end i → type_text (suc l) (tree s) i ++ r ≡ (tree s).text (i + 1) ++ (60 ∷ (args_from l (tree s) i (i + 2) ++ (62 ∷ r)))
        = λ h. ap (λ (n : List ℕ). n ++ r) (type-args (tree s) i (suc l) (omega arith) ki h ∙ ap (λ (k : ℕ). (tree s).text (i + 1) ++ ((60 ∷ []) ++ (args_from k (tree s) i (i + 2) ++ (62 ∷ [])))) z)
        ∙ append_assoc ((tree s).text (i + 1)) _ r ∙ ap (λ (n : List ℕ). (tree s).text (i + 1) ++ (60 ∷ n)) (append_assoc (args_from l (tree s) i (i + 2)) (62 ∷ []) r)
        in
        let oj : j + 2 < (tree s).end j → type_text (suc l) (tree s) j ++ u ≡ (tree s).text (j + 1) ++ (60 ∷ (args_from l (tree s) j (j + 2) ++ (62 ∷ u)))
        = λ h. ap (λ (n : List ℕ). n ++ u) (type-args (tree s) j (suc l) (omega arith) kj h ∙ ap (λ (k : ℕ). (tree s).text (j + 1) ++ ((60 ∷ []) ++ (args_from k (tree s) j (j + 2) ++ (62 ∷ [])))) z)
        ∙ append_assoc ((tree s).text (j + 1)) _ u ∙ ap (λ (n : List ℕ). (tree s).text (j + 1) ++ (60 ∷ n)) (append_assoc (args_from l (tree s) j (j + 2)) (62 ∷ []) u)
        in
        let bi : (tree s).end i ≤ i + 2 → type_text (suc l) (tree s) i ++ r ≡ (tree s).text (i + 1) ++ r = λ h. ap (λ (n : List ℕ). n ++ r) (type-bare (tree s) i (suc l) (omega arith) ki h) in
        let bj : (tree s).end j ≤ j + 2 → type_text (suc l) (tree s) j ++ u ≡ (tree s).text (j + 1) ++ u = λ h. ap (λ (n : List ℕ). n ++ u) (type-bare (tree s) j (suc l) (omega arith) kj h) in
        ⊎_elim
        (λ (x : i + 2 < (tree s).end i).
        ⊎_elim
        (λ (y : j + 2 < (tree s).end j).
        let p = split _ _ _ _ wi wj byte-breaks.4 byte-breaks.4 (sym (oi x) ∙ e ∙ oj y) in
        let t = args_read ((tree s).end i) (i + 2) (j + 2) (omega arith) (omega arith) (omega arith) (omega arith) (omega arith) (child-first s adm i hi ki) (child-first s adm j hj kj) r u (tail-is p.1) in
        (alike-named p.0 t.0 t.1, t.2))
        (λ (y : (tree s).end j ≤ j + 2). not-open u {m = args_from l (tree s) i (i + 2) ++ (62 ∷ r)} hu (sym (split ((tree s).text (i + 1)) ((tree s).text (j + 1)) (60 ∷ (args_from l (tree s) i (i + 2) ++ (62 ∷ r))) u wi wj byte-breaks.4 (stop-break u hu) (sym (oi x) ∙ e ∙ bj y)).1))
        (lt-or-ge (j + 2) ((tree s).end j)))
        (λ (x : (tree s).end i ≤ i + 2).
        ⊎_elim
        (λ (y : j + 2 < (tree s).end j). not-open r {m = args_from l (tree s) j (j + 2) ++ (62 ∷ u)} hr (split ((tree s).text (i + 1)) ((tree s).text (j + 1)) r (60 ∷ (args_from l (tree s) j (j + 2) ++ (62 ∷ u))) wi wj (stop-break r hr) byte-breaks.4 (sym (bi x) ∙ e ∙ oj y)).1)
        (λ (y : (tree s).end j ≤ j + 2).
        let p = split _ _ _ _ wi wj (stop-break r hr) (stop-break u hu) (sym (bi x) ∙ e ∙ bj y) in
        (alike-named p.0 (omega arith) (λ q o a b c. absurd (omega arith)), p.1))
        (lt-or-ge (j + 2) ((tree s).end j)))
        (lt-or-ge (i + 2) ((tree s).end i))

  module _ (l y : ℕ) (z : 0 < l) (h : y < node_count s) (r : List ℕ) (hr : Stop r) where
    number-spelt : (tree s).kind y ≡ 12 → type_text l (tree s) y ++ r ≡ (tree s).text y ++ r
    number-spelt k = ap (λ (n : List ℕ). n ++ r) (type-number (tree s) y l z k)

    quorum-spelt : (tree s).kind y ≡ 13 → type_text l (tree s) y ++ r ≡ (tree s).text (y + 1) ++ (32 ∷ 111 ∷ 102 ∷ 32 ∷ ((tree s).text (y + 2) ++ r))
    quorum-spelt k = ap (λ (n : List ℕ). n ++ r) (type-quorum (tree s) y l z k) ∙ append_assoc ((tree s).text (y + 1)) _ r

    -- a named type begins with an identifier
    named-head : (tree s).kind y ≡ 11 → (m : List ℕ) × (type_text l (tree s) y ++ r ≡ (tree s).text (y + 1) ++ m) × Break m
    named-head k =
        ⊎_elim
        (λ (g : y + 2 < (tree s).end y). (60 ∷ ((args_from (l - 1) (tree s) y (y + 2) ++ (62 ∷ [])) ++ r), ap (λ (n : List ℕ). n ++ r) (type-args (tree s) y l z k g) ∙ append_assoc ((tree s).text (y + 1)) _ r, byte-breaks.4))
        (λ (g : (tree s).end y ≤ y + 2). (r, ap (λ (n : List ℕ). n ++ r) (type-bare (tree s) y l z k g), stop-break r hr))
        (lt-or-ge (y + 2) ((tree s).end y))

  -- the words that the two texts begin with
  module _ (y : ℕ) (h : y < node_count s) where
    name-word : (tree s).kind y ≡ 11 → (form_of ((tree s).text (y + 1)) ≡ 1) × Word ((tree s).text (y + 1))
    name-word k =
        let n = named-at s adm y h k in
        let a = n.0 in
        let v = tree-past s adm y h in
        let f = name-form s adm (y + 1) (omega arith) n.1 in
        (f, form-word ((tree s).text (y + 1)) (omega arith))

    number_word : (tree s).kind y ≡ 12 → (form_of ((tree s).text y) ≡ 2) × Word ((tree s).text y)
    number_word k = let f = number-form s adm y h k in (f, form-word ((tree s).text y) (omega arith))

    quorum-words : (tree s).kind y ≡ 13 → (form_of ((tree s).text (y + 1)) ≡ 2) × Word ((tree s).text (y + 1)) × Word ((tree s).text (y + 2))
    quorum-words k =
        let q = quorum-at s adm y h k in
        let a = q.0 in
        let v = tree-past s adm y h in
        let f = number-form s adm (y + 1) (omega arith) q.1 in
        let g = number-form s adm (y + 2) (omega arith) q.3 in
        (f, form-word ((tree s).text (y + 1)) (omega arith), form-word ((tree s).text (y + 2)) (omega arith))

  -- an identifier is no number
  forms-differ : {w v : List ℕ} {A : Type 0} → form_of w ≡ 1 → form_of v ≡ 2 → w ≡ v → A
  forms-differ a b e = let c = ap form_of e in absurd (omega arith)

  module _ (l : ℕ) (i j : ℕ) (hi : i < node_count s) (hj : j < node_count s) (r u : List ℕ) (hr : Stop r) (hu : Stop u) (e : type_text (suc l) (tree s) i ++ r ≡ type_text (suc l) (tree s) j ++ u) where
    numbers-read : (tree s).kind i ≡ 12 → (tree s).kind j ≡ 12 → Alike (tree s) i j × (r ≡ u)
    numbers-read ki kj =
        let p = split ((tree s).text i) ((tree s).text j) r u (number_word i hi ki).1 (number_word j hj kj).1 (stop-break r hr) (stop-break u hu)
        (sym (number-spelt (suc l) i (omega arith) hi r hr ki) ∙ e ∙ number-spelt (suc l) j (omega arith) hj u hu kj) in
        let ei = number-ends s adm i hi ki in
        let ej = number-ends s adm j hj kj in (
          record {
            size = omega arith;
            each = λ x y a b f. same_at (tree s) x y (omega arith) (omega arith) (record { kinds = ki ∙ sym kj; texts = p.0; sizes = omega arith });
          },
          p.1,
        )

    quorums-read : (tree s).kind i ≡ 13 → (tree s).kind j ≡ 13 → Alike (tree s) i j × (r ≡ u)
    unfolding carries
    quorums-read ki kj =
        let qi = quorum-at s adm i hi ki in
        let qj = quorum-at s adm j hj kj in
        let p = split ((tree s).text (i + 1)) ((tree s).text (j + 1)) (32 ∷ 111 ∷ 102 ∷ 32 ∷ ((tree s).text (i + 2) ++ r)) (32 ∷ 111 ∷ 102 ∷ 32 ∷ ((tree s).text (j + 2) ++ u)) (quorum-words i hi ki).1 (quorum-words j hj kj).1 byte-breaks.0 byte-breaks.0
        (sym (quorum-spelt (suc l) i (omega arith) hi r hr ki) ∙ e ∙ quorum-spelt (suc l) j (omega arith) hj u hu kj) in
        let o = split ((tree s).text (i + 2)) ((tree s).text (j + 2)) r u (quorum-words i hi ki).2 (quorum-words j hj kj).2 (stop-break r hr) (stop-break u hu) (tail-is (tail-is (tail-is (tail-is p.1)))) in
        let ei = qi.0 in
        let ej = qj.0 in
        let ai = qi.2 in
        let aj = qj.2 in
        let bi = qi.4 in
        let bj = qj.4 in (
          record {
            size = omega arith;
            each = λ x y a b f.
                ⊎_elim
                (λ (g : i ≡ x). same_at (tree s) x y g (omega arith) (record { kinds = ki ∙ sym kj; texts = blank-types s adm i j hi hj 13 refl ki kj; sizes = omega arith }))
                (λ (g : i < x).
                ⊎_elim
                (λ (k : i + 1 ≡ x). same_at (tree s) x y k (omega arith) (record { kinds = qi.1 ∙ sym qj.1; texts = p.0; sizes = omega arith }))
                (λ (k : i + 1 < x). same_at (tree s) x y (let v : i + 2 ≡ x = omega arith in v) (omega arith) (record { kinds = qi.3 ∙ sym qj.3; texts = o.0; sizes = omega arith }))
                (eq-or-lt_of_le (let v : i + 1 ≤ x = omega arith in v)))
                (eq-or-lt_of_le a);
          },
          o.1,
        )

    mixed : {A : Type 0} → Shape (tree s) i → Shape (tree s) j → ((tree s).kind i ≡ (tree s).kind j → ⊥) → A
    mixed (is_named a) (is_named b) n = absurd (n (a ∙ sym b))
    mixed (is_number a) (is_number b) n = absurd (n (a ∙ sym b))
    mixed (is_quorum a) (is_quorum b) n = absurd (n (a ∙ sym b))
    mixed (is_named a) (is_number b) n =
        let m = named-head (suc l) i (omega arith) hi r hr a in
        let w = name-word i hi a in
        let v = number_word j hj b in
        forms-differ w.0 v.0 (split _ _ m.0 u w.1 v.1 m.2 (stop-break u hu) (sym m.1 ∙ e ∙ number-spelt (suc l) j (omega arith) hj u hu b)).0
    mixed (is_number a) (is_named b) n =
        let m = named-head (suc l) j (omega arith) hj u hu b in
        let w = name-word j hj b in
        let v = number_word i hi a in
        forms-differ w.0 v.0 (sym (split _ _ r m.0 v.1 w.1 (stop-break r hr) m.2 (sym (number-spelt (suc l) i (omega arith) hi r hr a) ∙ e ∙ m.1)).0)
    mixed (is_named a) (is_quorum b) n =
        let m = named-head (suc l) i (omega arith) hi r hr a in
        let w = name-word i hi a in
        let v = quorum-words j hj b in
        forms-differ w.0 v.0 (split _ _ m.0 (32 ∷ 111 ∷ 102 ∷ 32 ∷ ((tree s).text (j + 2) ++ u)) w.1 v.1 m.2 byte-breaks.0 (sym m.1 ∙ e ∙ quorum-spelt (suc l) j (omega arith) hj u hu b)).0
    mixed (is_quorum a) (is_named b) n =
        let m = named-head (suc l) j (omega arith) hj u hu b in
        let w = name-word j hj b in
        let v = quorum-words i hi a in
        forms-differ w.0 v.0 (sym (split _ _ (32 ∷ 111 ∷ 102 ∷ 32 ∷ ((tree s).text (i + 2) ++ r)) m.0 v.1 w.1 byte-breaks.0 m.2 (sym (quorum-spelt (suc l) i (omega arith) hi r hr a) ∙ e ∙ m.1)).0)
    mixed (is_number a) (is_quorum b) n =
        not-space r {m = 111 ∷ 102 ∷ 32 ∷ ((tree s).text (j + 2) ++ u)} hr
        (split ((tree s).text i) ((tree s).text (j + 1)) r (32 ∷ 111 ∷ 102 ∷ 32 ∷ ((tree s).text (j + 2) ++ u)) (number_word i hi a).1 (quorum-words j hj b).1 (stop-break r hr) byte-breaks.0 (sym (number-spelt (suc l) i (omega arith) hi r hr a) ∙ e ∙ quorum-spelt (suc l) j (omega arith) hj u hu b)).1
    mixed (is_quorum a) (is_number b) n =
        not-space u {m = 111 ∷ 102 ∷ 32 ∷ ((tree s).text (i + 2) ++ r)} hu
        (sym (split ((tree s).text (i + 1)) ((tree s).text j) (32 ∷ 111 ∷ 102 ∷ 32 ∷ ((tree s).text (i + 2) ++ r)) u (quorum-words i hi a).1 (number_word j hj b).1 byte-breaks.0 (stop-break u hu) (sym (quorum-spelt (suc l) i (omega arith) hi r hr a) ∙ e ∙ number-spelt (suc l) j (omega arith) hj u hu b)).1)

  pub reads : (l : ℕ) → Reads l
  reads zero i j hi hj ti tj si sj r u hr hu e = let v = tree-past s adm i hi in absurd (omega arith)
  reads (suc l) i j hi hj ti tj si sj r u hr hu e = go (reads l) (eq-or-ne ((tree s).kind i) ((tree s).kind j)) (shape_of (tree s) i ti) (shape_of (tree s) j tj)
    where
      go : Reads l → ((tree s).kind i ≡ (tree s).kind j) ⊎ ((tree s).kind i ≡ (tree s).kind j → ⊥) → Shape (tree s) i → Shape (tree s) j → Alike (tree s) i j × (r ≡ u)
      go f (inl k) (is_named a) y = named-read l f i j hi hj a (sym k ∙ a) si sj r u hr hu e
      go f (inl k) (is_number a) y = numbers-read l i j hi hj r u hr hu e a (sym k ∙ a)
      go f (inl k) (is_quorum a) y = quorums-read l i j hi hj r u hr hu e a (sym k ∙ a)
      go f (inr n) x y = mixed l i j hi hj r u hr hu e x y n
