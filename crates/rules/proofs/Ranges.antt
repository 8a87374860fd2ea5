-- Where nodes stand in the tree of an admitted image: kinds of kinds, ranges that follow one another, the node that holds another; and the order of the sweeps over them.
use Prim.Native.Nat.{ℕ, zero, suc, ◌+◌, ◌-◌, ◌<◌, ◌≤◌}
use mathlib.Core.Path.{◌≡◌, refl, ap, ◌∙◌, sym, subst}
use mathlib.Core.Bool.{Bool, true, false, not, true≢false}
use mathlib.Core.List.Memᴰ
use mathlib.Core.List.{List, [], ◌∷◌, Memᴰ}
use mathlib.Core.Logic.{⊎_elim}
use native.Mathlib.Omega.{arith}
use borrow.Author.Tests.{ltb-true, ltb-false}
use lib.Dec.{ltb, eqb}
use Rattle.image.specs.Pick.{pick, both}
use Rattle.image.proofs.Every.{both_left, both_right}
use Rattle.rules.specs.Sweep.{either, has}
use Rattle.rules.specs.Tree.{Tree, param}
use Rattle.rules.specs.Vocabulary.{Rec, Below, below, CallIn, calls, Signer, signers}
use Rattle.rules.specs.All.{key, latest, holder}
use Rattle.rules.specs.Standing.{Flat, apart, parts, Formed}
use Rattle.rules.proofs.Reflect.{Tells, tells-has, tells_both, tells-eqb, tells-ltb, tells-either, tells-not, tells_as, narrow}
use Rattle.rules.proofs.Level.{Level, level-wide, level-keep, level-below}

-- Kinds: that some are among others, or not, is computed

abbrev pub among : ℕ → List ℕ → Bool
among k [] = false
among k (j ∷ js) = either (eqb k j) (among k js)

abbrev pub subset : List ℕ → List ℕ → Bool
subset [] js = true
subset (k ∷ ks) js = both (among k js) (subset ks js)

abbrev pub disjoint : List ℕ → List ℕ → Bool
disjoint [] js = true
disjoint (k ∷ ks) js = both (not (among k js)) (disjoint ks js)

tells-among : (k : ℕ) (ks : List ℕ) → Tells (among k ks) (Memᴰ k ks)
unfolding has
tells-among k [] = tells-has k []
tells-among k (j ∷ ks) = tells_as (⊎_elim mathlib.Core.List.Memᴰ.head mathlib.Core.List.Memᴰ.tail) Memᴰ.cases_cons (tells-either (tells-eqb k j) (tells-among k ks))

pub sub : (ks js : List ℕ) {k : ℕ} → subset ks js ≡ true → Memᴰ k ks → Memᴰ k js
sub [] js e m = absurd (Memᴰ.not-nil m)
sub (i ∷ ks) js {k} e m =
    ⊎_elim (λ q. subst (λ (n : ℕ). Memᴰ n js) (sym q) ((tells-among i js).so (both_left (among i js) _ e))) (sub ks js (both_right (among i js) _ e)) (Memᴰ.cases_cons m)

pub other : (ks js : List ℕ) {k : ℕ} → disjoint ks js ≡ true → Memᴰ k ks → Memᴰ k js → ⊥
other [] js e m n = Memᴰ.not-nil m
other (i ∷ ks) js {k} e m n =
    ⊎_elim (λ q. (tells-not (tells-among i js)).so (both_left (not (among i js)) _ e) (subst (λ (x : ℕ). Memᴰ x js) q n)) (λ o. other ks js (both_right (not (among i js)) _ e) o n) (Memᴰ.cases_cons m)

pub wider : {t : Tree} {ks : List ℕ} {a i : ℕ} (js : List ℕ) → subset ks js ≡ true → Below t ks a i → Below t js a i
wider {ks = ks} js e b = narrow b (sub ks js e b.kind)

-- Holders

latest-is : (p : ℕ → Bool) (a n x : ℕ) → a ≤ x → x < a + n → p x ≡ true → ((y : ℕ) → x < y → y < a + n → p y ≡ true → ⊥) → latest p a n ≡ x
unfolding latest
latest-is p a zero x l h e n = absurd (omega arith)
latest-is p a (suc m) x l h e n = go (λ z. latest-is p a m x l z e (λ y u v. n y u (omega arith))) (p (a + m)) refl (ltb x (a + m)) refl
  where
    go : (x < a + m → latest p a m ≡ x) → (b : Bool) → p (a + m) ≡ b → (c : Bool) → ltb x (a + m) ≡ c → pick b (a + m) (latest p a m) ≡ x
    go below true q true r = let z = ltb-true x (a + m) r in absurd (n (a + m) z (omega arith) q)
    go below true q false r = let z = ltb-false x (a + m) r in omega arith
    go below false q true r = below (ltb-true x (a + m) r)
    go below false q false r = let z = ltb-false x (a + m) r in let w : x ≡ a + m = omega arith in absurd (true≢false (sym e ∙ ap p w ∙ q))

latest-none : (p : ℕ → Bool) (a n : ℕ) → ((y : ℕ) → a ≤ y → y < a + n → p y ≡ true → ⊥) → latest p a n ≡ 0
unfolding latest
latest-none p a zero h = refl
latest-none p a (suc m) h = go (latest-none p a m (λ y u v. h y u (omega arith))) (p (a + m)) refl
  where
    go : latest p a m ≡ 0 → (b : Bool) → p (a + m) ≡ b → pick b (a + m) (latest p a m) ≡ 0
    go below true e = absurd (h (a + m) (omega arith) (omega arith) e)
    go below false e = below

module _ (t : Tree) (F : Formed t) where
  -- what stands below an item stands in the contract, and ends within the item
  pub deep : {ks js : List ℕ} {e x : ℕ} → Below t ks t.root e → Below t js e x → Below t js t.root x
  deep {e = e} b c =
      let u = b.after in
      let v = b.inside in
      let w = c.after in
      let y = c.inside in
      let n = F.nests t.root e (omega arith) (omega arith) u v in
      record { after = omega arith; inside = omega arith; kind = c.kind }

  pub ends-in : {ks js : List ℕ} {e x : ℕ} → Below t ks t.root e → Below t js e x → t.end x ≤ t.end e
  ends-in {e = e} {x = x} b c = let u = b.after in F.nests e x (omega arith) b.inside c.after c.inside

  pub item-ends : {ks : List ℕ} {e : ℕ} → Below t ks t.root e → t.end e ≤ t.end t.root
  item-ends {e = e} b = let u = b.after in let v = b.inside in F.nests t.root e (omega arith) (omega arith) u v

  pub longer : {ks : List ℕ} {e : ℕ} → Below t ks t.root e → e < t.end e
  longer {e = e} b = let u = b.after in F.past e (omega arith) b.inside

  -- of two nodes of kinds that do not hold each other, the earlier ends before the later begins
  follows : (ks : List ℕ) {i j : ℕ} → Flat t ks → Below t ks t.root i → Below t ks t.root j → i < j → t.end i ≤ j
  follows ks {i} {j} f a b l = go (ltb j (t.end i)) refl
    where
      go : (x : Bool) → ltb j (t.end i) ≡ x → t.end i ≤ j
      go true e = absurd (f i j a (record { after = l; inside = ltb-true j (t.end i) e; kind = b.kind }))
      go false e = ltb-false j (t.end i) e

  pub items-follow : {ks : List ℕ} {i j : ℕ} → subset ks apart ≡ true → Below t ks t.root i → Below t ks t.root j → i < j → t.end i ≤ j
  items-follow e a b l = follows apart F.items_flat (wider apart e a) (wider apart e b) l

  pub parts-follow : {ks js : List ℕ} {e i j : ℕ} → subset ks parts ≡ true → Below t js t.root e → Below t ks e i → Below t ks e j → i < j → t.end i ≤ j
  parts-follow q b x y l = follows parts F.parts_flat (wider parts q (deep b x)) (wider parts q (deep b y)) l

  -- the node of kind ks that holds p
  module _ (ks : List ℕ) where
    pub told : (p i : ℕ) → Tells (both (has (t.kind i) ks) (ltb p (t.end i))) (Memᴰ (t.kind i) ks × (p < t.end i))
    told p i = tells_both (tells-has (t.kind i) ks) (tells-ltb p (t.end i))

    holder-is : (x p : ℕ) → Flat t ks → Below t ks t.root x → x ≤ p → p < t.end x → holder t ks p ≡ x
    unfolding holder
    holder-is x p f b l h =
        let a = b.after in
        latest-is _ (suc t.root) (p - t.root) x a (omega arith) ((told p x).back (b.kind, h))
        (λ y u v e. f x y b (record { after = u; inside = omega arith; kind = ((told p y).so e).0 }))

    holder-none : (p : ℕ) → t.root < p → p < t.end t.root → ((y : ℕ) → Below t ks t.root y → y ≤ p → p < t.end y → ⊥) → holder t ks p ≡ 0
    unfolding holder
    holder-none p r z h =
        latest-none _ (suc t.root) (p - t.root)
        (λ y u v e. let w = (told p y).so e in h y (record { after = u; inside = omega arith; kind = w.0 }) (omega arith) w.1)

  -- of kinds that do not hold each other: a node held by one of some of them is held by that one alone
  module _ (all : List ℕ) (f : Flat t all) where
    held_by : {ks : List ℕ} {x : ℕ} (js : List ℕ) (p : ℕ) → subset js all ≡ true → subset ks js ≡ true → Below t ks t.root x → x ≤ p → p < t.end x → holder t js p ≡ x
    held_by {x = x} js p q e b l h = holder-is js x p (λ i j u v. f i j (wider all q u) (wider all q v)) (wider js e b) l h

    one-holder : {x y : ℕ} (p : ℕ) → Below t all t.root x → Below t all t.root y → x ≤ p → p < t.end x → y ≤ p → p < t.end y → x ≡ y
    one-holder {x} {y} p a b l h m n = go (ltb x y) refl (ltb y x) refl
      where
        go : (u : Bool) → ltb x y ≡ u → (v : Bool) → ltb y x ≡ v → x ≡ y
        go true u v w = let z = follows all f a b (ltb-true x y u) in absurd (omega arith)
        go false u true w = let z = follows all f b a (ltb-true y x w) in absurd (omega arith)
        go false u false w = let z = ltb-false x y u in let v = ltb-false y x w in omega arith

    held-by-none : {js : List ℕ} {x : ℕ} (ks : List ℕ) (p : ℕ) → subset js all ≡ true → subset ks all ≡ true → disjoint js ks ≡ true → Below t js t.root x → x ≤ p → p < t.end x → holder t ks p ≡ 0
    held-by-none {js} {x} ks p q e d b l g =
        let a = b.after in
        let n = item-ends b in
        holder-none ks p (omega arith) (omega arith)
        (λ y c u v.
        let w : x ≡ y = one-holder p (wider all q b) (wider all e c) l g u v in
        other js ks d b.kind (subst (λ (z : ℕ). Memᴰ (t.kind z) ks) (sym w) c.kind))

  -- the item that holds p, and the part
  pub item_of : {ks : List ℕ} {i : ℕ} (js : List ℕ) (p : ℕ) → subset js apart ≡ true → subset ks js ≡ true → Below t ks t.root i → i ≤ p → p < t.end i → holder t js p ≡ i
  item_of = held_by apart F.items_flat

  pub not-item : {js : List ℕ} {x : ℕ} (ks : List ℕ) (p : ℕ) → subset js apart ≡ true → subset ks apart ≡ true → disjoint js ks ≡ true → Below t js t.root x → x ≤ p → p < t.end x → holder t ks p ≡ 0
  not-item = held-by-none apart F.items_flat

  pub part_of : {ks : List ℕ} {x : ℕ} (js : List ℕ) (p : ℕ) → subset js parts ≡ true → subset ks js ≡ true → Below t ks t.root x → x ≤ p → p < t.end x → holder t js p ≡ x
  part_of = held_by parts F.parts_flat

  pub not-held : {js : List ℕ} {x : ℕ} (ks : List ℕ) (p : ℕ) → subset js parts ≡ true → subset ks parts ≡ true → disjoint js ks ≡ true → Below t js t.root x → x ≤ p → p < t.end x → holder t ks p ≡ 0
  not-held = held-by-none parts F.parts_flat

  -- Sweeps. Each node gives records of its own place;
  pub own-after : {k ks : List ℕ} {f : ℕ → List Rec} (a : ℕ) → a < t.end a → ((i : ℕ) → Below t ks a i → Level (key t) k i (suc i) (f i)) → Level (key t) k (suc a) (t.end a) (below t ks a f)
  own-after a l h = level-below (suc a) (t.end a) (λ i. i) (λ i. suc i) l h (λ i j b c m. m) (λ i b. (b.after, b.inside))

  pub own-level : {k ks : List ℕ} {f : ℕ → List Rec} (a : ℕ) → a < t.end a → ((i : ℕ) → Below t ks a i → Level (key t) k i (suc i) (f i)) → Level (key t) k a (t.end a) (below t ks a f)
  own-level a l h = level-wide a (t.end a) (omega arith) (omega arith) (own-after a l h)

  -- or of places within it, and such nodes do not hold each other: the parts of an item, the items of the contract.
  pub parts-level :
      {k ks js : List ℕ} {e : ℕ} {f : ℕ → List Rec} → subset ks parts ≡ true → Below t js t.root e → ((i : ℕ) → Below t ks e i → Level (key t) k i (t.end i) (f i))
      → Level (key t) k e (t.end e) (below t ks e f)
  parts-level {e = e} q b h =
      level-below e (t.end e) (λ i. i) t.end (let l = longer b in omega arith) h (λ i j x y l. parts-follow q b x y l) (λ i x. let u = x.after in (omega arith, ends-in b x))

  pub items-level :
      {k ks : List ℕ} {f : ℕ → List Rec} → subset ks apart ≡ true → ((i : ℕ) → Below t ks t.root i → Level (key t) k i (t.end i) (f i))
      → Level (key t) k 0 (t.end t.root) (below t ks t.root f)
  items-level q h =
      level-below 0 (t.end t.root) (λ i. i) t.end (omega arith) h (λ i j x y l. items-follow q x y l) (λ i x. (omega arith, item-ends x))

  -- an item's number is the level itself
  pub each_item :
      {k ks : List ℕ} {f : ℕ → List Rec} → ((i : ℕ) → Below t ks t.root i → Level (key t) k i (suc i) (f i)) → Level (key t) k 0 (t.end t.root) (below t ks t.root f)
  each_item h = level-below 0 (t.end t.root) (λ i. i) (λ i. suc i) (omega arith) h (λ i j x y l. l) (λ i x. (omega arith, x.inside))

  -- the Calls of an item
  pub calls-level :
      {k js : List ℕ} {e : ℕ} {f : ℕ → List Rec} → subset js apart ≡ true → Below t js t.root e → ((c : ℕ) → CallIn t e c → Level (key t) k c (suc c) (f c))
      → Level (key t) k e (t.end e) (calls t e f)
  unfolding calls
  calls-level q b h = parts-level refl b (λ s x. own-level s (longer (deep b x)) (λ c y. h c (s, x, y)))

  pub call-inside : {js : List ℕ} {e c : ℕ} → Below t js t.root e → CallIn t e c → (e ≤ c) × (c < t.end e)
  call-inside b x = let u = x.1.after in let v = x.2.after in let w = x.2.inside in let l = ends-in b x.1 in (omega arith, omega arith)

  -- the signers of an entry: each stands after its Type, within its Param
  module _ {js : List ℕ} {e : ℕ} (b : Below t js t.root e) where
    signer-in : (x : ℕ) → Below t param e x → x < t.end (x + 2)
    signer-in x c =
        let d = deep b c in
        let l = F.param_long x d in
        let a = d.after in
        let n = item-ends d in
        let p = F.past (x + 2) (omega arith) (omega arith) in
        omega arith

    pub signer-inside : (p : ℕ) → Signer t e p → (e ≤ p) × (p < t.end e)
    signer-inside p s =
        let u = s.1.after in
        let v = signer-in s.0 s.1 in
        let w = s.2 in
        let z = s.3 in
        let l = ends-in b s.1 in
        (omega arith, omega arith)

    pub signer-param : (p : ℕ) → (s : Signer t e p) → (s.0 ≤ p) × (p < t.end s.0)
    signer-param p s = let v = signer-in s.0 s.1 in let w = s.2 in let z = s.3 in (omega arith, omega arith)

    pub signers-level : {k : List ℕ} {f : ℕ → List Rec} → ((p : ℕ) → Signer t e p → Level (key t) k p (suc p) (f p)) → Level (key t) k e (t.end e) (signers t e f)
    unfolding signers
    signers-level {f = f} h =
        parts-level refl b
        (λ x c.
        let l = signer-in x c in
        let g = longer (deep b c) in
        level-keep (ltb (t.end (x + 2)) (t.end x)) f (t.end (x + 2)) (omega arith)
        (λ q. let m = ltb-true (t.end (x + 2)) (t.end x) q in level-wide x (t.end x) (omega arith) (omega arith) (h (t.end (x + 2)) (x, c, refl, m))))
