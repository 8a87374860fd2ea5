-- Room for every answer: marks and occurrences are different nodes of one entry, so there are fewer entries than nodes.
use Prim.Native.Nat.{ℕ, suc, ◌+◌, ◌<◌}
use mathlib.Core.Path.{◌≡◌, refl}
use mathlib.Core.List.Memᴰ
use mathlib.Core.List.{List, [], ◌∷◌, Memᴰ}
use mathlib.Core.Logic.{⊎_elim}
use native.Mathlib.Omega.{arith}
use lib.ListN.{length}
use Rattle.image.specs.Admit.{refusal, node_count}
use Rattle.image.proofs.Given.{given}
use Rattle.rules.specs.Tree.{Tree, tree, entry, statement}
use Rattle.rules.specs.Vocabulary.{Below, Rising, AllOf}
use Rattle.rules.specs.Linear.{Mark, Use}
use Rattle.rules.proofs.Admitted.{admitted}
use Rattle.rules.proofs.Ranges.{item-ends, wider}
use Rattle.rules.proofs.Consumers.{value-inside}

-- numbers that rise between a and b are fewer than those between them
rising-room : (l : List ℕ) (a b : ℕ) → a < b → Rising l → ((i : ℕ) → Memᴰ i l → (a < i) × (i < b)) → length l + a < b
rising-room [] a b h r f = omega arith
rising-room (i ∷ l) a b h r f =
    let p = f i (Memᴰ.head refl) in
    let q = p.0 in
    let n = rising-room l i b p.1 r.1 (λ j m. (r.0 j m, (f j (Memᴰ.tail m)).1)) in
    let s : length (i ∷ l) ≡ suc (length l) = refl in
    omega arith

module _ (s : List ℕ) (z : refusal s ≡ 0) (e x : ℕ) (E : Below (tree s) entry 0 e) where
  abbrev t : Tree
  t = tree s

  inside : (i : ℕ) → i < t.end e → i < node_count s
  inside i h = let l = item-ends t (admitted s z) E in let r = (given s z).nodes.root_end in omega arith

  -- parameters stand before statements, and a counted occurrence in one
  mark-before : (y i : ℕ) → Mark t e x y → Use t e x i → y < i
  mark-before y i M U =
      ⊎_elim
      (λ v.
      let c = U.0.0 in
      let first = (admitted s z).params_first e y c E M.0.0 (wider statement refl v.0) in
      let value = (value-inside s z c (inside c v.0.inside) (Memᴰ.eq_of_singleton v.0.kind)).0 in
      let is = v.1 in
      omega arith)
      (λ v.
      let first = (admitted s z).params_first e y v.0.0 E M.0.0 v.0.1 in
      let call = v.0.2.after in
      let argument = v.2.1.after in
      let down = v.2.2.from in
      omega arith)
      U.0.1.1

  pub fewer-than-nodes : (m l : List ℕ) → AllOf (Mark t e x) m → AllOf (Use t e x) l → length m + length l < node_count s
  fewer-than-nodes m [] M L =
      let h = E.after in
      let k = rising-room m e (node_count s) (inside e ((admitted s z).past e (omega arith) E.inside)) M.rising (λ y n. let b = (M.sound y n).0.0 in (b.after, inside y b.inside)) in
      omega arith
  fewer-than-nodes m (i ∷ l) M L =
      let U = L.sound i (Memᴰ.head refl) in
      let b = U.0.1.0 in
      let k = rising-room m e i b.after M.rising (λ y n. let Y = M.sound y n in (Y.0.0.after, mark-before y i Y U)) in
      let j = rising-room l i (node_count s) (inside i b.inside) L.rising.1 (λ o n. (L.rising.0 o n, let c = (L.sound o (Memᴰ.tail n)).0.1.0 in inside o c.inside)) in
      let s : length (i ∷ l) ≡ suc (length l) = refl in
      omega arith
