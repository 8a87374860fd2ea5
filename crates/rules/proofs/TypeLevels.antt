-- 23: the levels to which the types of a signature text are written are enough. On an admitted image, where no node has over 64
-- ancestors, more levels write the same.
use Prim.Native.Nat.{ℕ, zero, suc, ◌+◌, ◌-◌, ◌<◌, ◌≤◌}
use mathlib.Core.Path.{◌≡◌, refl, ap, ap₂, ◌∙◌, sym, subst}
use mathlib.Core.Bool.{Bool, true, false, true≢false}
use mathlib.Core.List.{List, [], ◌∷◌, ◌++◌}
use mathlib.Core.Logic.{⊎_elim}
use native.Mathlib.Nat.{eq-or-lt_of_le}
use native.Mathlib.Omega.{arith}
use borrow.Author.Tests.{ltb-true, lt-ltb}
use lib.Dec.{ltb, eqb}
use Rattle.image.specs.Maxima.{max_depth}
use Rattle.image.specs.Pick.{pick, count}
use Rattle.image.specs.Node.{end_of}
use Rattle.image.specs.Tree.{ends_past, ancestors_of}
use Rattle.image.specs.Admit.{refusal, node_count, nodes_of}
use Rattle.image.proofs.Given.{given}
use Rattle.rules.specs.Sweep.{keep, run}
use Rattle.rules.specs.Tree.{Tree, tree}
use Rattle.rules.specs.Vocabulary.{is_child, arguments}
use Rattle.rules.specs.Resolve.{comma, type_text}
use Rattle.rules.proofs.Admitted.{admitted}

-- Counts grow with the test, and with the range

count-more : (p q : ℕ → Bool) (n : ℕ) → ((j : ℕ) → j < n → p j ≡ true → q j ≡ true) → count p n ≤ count q n
unfolding count
count-more p q zero h = omega arith
count-more p q (suc n) h = go (p n) refl (q n) refl (count-more p q n (λ j l. h j (omega arith)))
  where
    go : (a : Bool) → p n ≡ a → (b : Bool) → q n ≡ b → count p n ≤ count q n → pick a (count p n + 1) (count p n) ≤ pick b (count q n + 1) (count q n)
    go true x true y l = omega arith
    go true x false y l = absurd (true≢false (sym (h n (omega arith) x) ∙ y))
    go false x true y l = omega arith
    go false x false y l = l

count-on : (q : ℕ → Bool) (n m : ℕ) → n ≤ m → count q n ≤ count q m
unfolding count
count-on q n zero l = let e : n ≡ 0 = omega arith in subst (λ (k : ℕ). count q k ≤ 0) (sym e) (omega arith)
count-on q n (suc m) l = ⊎_elim (λ e. subst (λ (k : ℕ). count q k ≤ count q (suc m)) (sym e) (omega arith)) (λ h. go (q m) (count-on q n m (omega arith))) (eq-or-lt_of_le l)
  where
    go : (b : Bool) → count q n ≤ count q m → count q n ≤ pick b (count q m + 1) (count q m)
    go true h = omega arith
    go false h = h

-- Sweeps of functions that agree in the range

run-same : {A : Type 0} (f g : ℕ → List A) (a n : ℕ) → ((i : ℕ) → a ≤ i → i < a + n → f i ≡ g i) → run f a n ≡ run g a n
unfolding run
run-same f g a zero h = refl
run-same f g a (suc n) h = ap₂ ◌++◌ (run-same f g a n (λ i x y. h i x (omega arith))) (h (a + n) (omega arith) (omega arith))

keep_same : {A : Type 0} (b : Bool) (f g : ℕ → List A) (i : ℕ) → f i ≡ g i → keep b f i ≡ keep b g i
unfolding keep
keep_same true f g i e = e
keep_same false f g i e = refl

arguments-same : {A : Type 0} (t : Tree) (y : ℕ) (f g : ℕ → List A) → ((a : ℕ) → y < a → a < t.end y → f a ≡ g a) → arguments t y f ≡ arguments t y g
unfolding arguments
arguments-same t y f g h = run-same _ _ (suc (suc y)) (t.end y - suc (suc y)) (λ c l k. keep_same (is_child t y c) f g c (h c (omega arith) (omega arith)))

module _ (s : List ℕ) (e : refusal s ≡ 0) where
  abbrev depth : ℕ → ℕ
  depth i = ancestors_of (nodes_of s) i

  -- what stands below a node has one ancestor more
  deeper : (y c : ℕ) → y < node_count s → y < c → c < end_of (nodes_of s) y → depth y < depth c
  unfolding ends_past count
  deeper y c n l h =
      let root : end_of (nodes_of s) 0 ≡ node_count s = (given s e).nodes.root_end in
      let a : count (ends_past (nodes_of s) y) y ≤ count (ends_past (nodes_of s) c) y
      = count-more (ends_past (nodes_of s) y) (ends_past (nodes_of s) c) y (λ j k q.
      let u = ltb-true y (end_of (nodes_of s) j) q in
      let v = (admitted s e).nests j y (omega arith) (omega arith) k u in
      lt-ltb c (end_of (nodes_of s) j) (omega arith))
      in
      let b : count (ends_past (nodes_of s) c) (suc y) ≤ count (ends_past (nodes_of s) c) c = count-on (ends_past (nodes_of s) c) (suc y) c l in
      let d : count (ends_past (nodes_of s) c) (suc y) ≡ count (ends_past (nodes_of s) c) y + 1
      = ap (λ (x : Bool). pick x (count (ends_past (nodes_of s) c) y + 1) (count (ends_past (nodes_of s) c) y)) (lt-ltb c (end_of (nodes_of s) y) h)
      in
      omega arith

  same_text : (l m y : ℕ) → l ≤ m → y < node_count s → 65 ≤ depth y + l → type_text m (tree s) y ≡ type_text l (tree s) y
  unfolding type_text
  same_text zero m y h n d = let g = (given s e).depth y n in absurd (omega arith)
  same_text (suc l) zero y h n d = absurd (omega arith)
  same_text (suc l) (suc m) y h n d =
      ap (λ (types : List ℕ).
      pick (eqb ((tree s).kind y) 12) ((tree s).text y)
      (pick (eqb ((tree s).kind y) 13) ((tree s).text (y + 1) ++ (32 ∷ 111 ∷ 102 ∷ 32 ∷ (tree s).text (y + 2)))
      ((tree s).text (y + 1) ++ pick (ltb (y + 2) ((tree s).end y)) (60 ∷ (types ++ (62 ∷ []))) [])))
      (arguments-same (tree s) y (λ a. comma (y + 2) a ++ type_text m (tree s) a) (λ a. comma (y + 2) a ++ type_text l (tree s) a) (λ a u v.
      let i = ((given s e).nodes.node y n).inside in
      let k = deeper y a n u v in
      ap (λ (w : List ℕ). comma (y + 2) a ++ w) (same_text l m a (omega arith) (omega arith) (omega arith))))

  -- every node but the contract
  pub enough : (y m : ℕ) → 0 < y → y < node_count s → max_depth ≤ m → type_text m (tree s) y ≡ type_text max_depth (tree s) y
  enough y m h n l =
      let root : end_of (nodes_of s) 0 ≡ node_count s = (given s e).nodes.root_end in
      let k = deeper 0 y (omega arith) h (omega arith) in
      same_text max_depth m y l n (omega arith)
