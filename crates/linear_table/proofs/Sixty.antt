-- The first 60 of an entry, from a buffer of one record's words.
use Prim.Native.Nat.{ℕ, zero, suc, ◌+◌, ◌-◌, ◌<◌}
use mathlib.Core.Path.{◌≡◌, refl, ap, ◌∙◌, sym}
use mathlib.Core.Bool.{Bool, true, false}
use mathlib.Core.List.{List, [], ◌∷◌, ◌++◌}
use mathlib.Core.Logic.{◌⊎◌, inl, inr, ⊎_elim}
use native.Mathlib.Omega.{arith}
use lib.ListN.{length, get_or, set, replicate}
use lib.Seq.{sets, get_or-set_other}
use Rattle.rules.specs.Sweep.{run, keep, has}
use Rattle.rules.specs.Tree.{Tree, «let», peels}
use Rattle.rules.specs.Vocabulary.{Rec, rec, only, below, at_bottom}
use Rattle.rules.specs.Linear.{rule60, is_alias}
use Rattle.records.specs.Records.{words, Laid}
use Rattle.linear_table.specs.Table.{entry60s, First60}

-- nothing, or a 60 first, and its place is no node 0
abbrev Begins : List Rec → Type 0
Begins l = (l ≡ []) ⊎ ((i : ℕ) × (m : List Rec) × (0 < i) × (l ≡ rec 60 i 0 ∷ m))

begins-run : (f : ℕ → List Rec) (a n : ℕ) → 0 < a → ((i : ℕ) → (f i ≡ []) ⊎ (f i ≡ rec 60 i 0 ∷ [])) → Begins (run f a n)
unfolding run
begins-run f a zero z h = inl refl
begins-run f a (suc n) z h =
    ⊎_elim
    (λ (e : run f a n ≡ []). ⊎_elim (λ (d : f (a + n) ≡ []). inl (rw (e, d))) (λ (d : f (a + n) ≡ rec 60 (a + n) 0 ∷ []). inr (a + n, [], omega arith, rw (e, d))) (h (a + n)))
    (λ (q : (i : ℕ) × (m : List Rec) × (0 < i) × (run f a n ≡ rec 60 i 0 ∷ m)). inr (q.0, q.1 ++ f (a + n), q.2, ap (λ (l : List Rec). l ++ f (a + n)) q.3))
    (begins-run f a n z h)

begins-60 : (t : Tree) (e : ℕ) → Begins (entry60s t e)
unfolding entry60s below rule60 keep only
begins-60 t e = begins-run (λ i. keep (has (t.kind i) «let») (rule60 t e) i) (suc e) (t.end e - suc e) (omega arith) (λ i. go i (has (t.kind i) «let»))
  where
    one : (i : ℕ) (b : Bool) → (only b (rec 60 i 0) ≡ []) ⊎ (only b (rec 60 i 0) ≡ rec 60 i 0 ∷ [])
    one i true = inr refl
    one i false = inl refl

    go : (i : ℕ) (k : Bool) → (keep k (rule60 t e) i ≡ []) ⊎ (keep k (rule60 t e) i ≡ rec 60 i 0 ∷ [])
    go i true = one i (at_bottom t peels (i + 2) (is_alias t e i))
    go i false = inl refl

-- words that are laid further on leave a word as it is
sets-keep : (ws l : List ℕ) (i j : ℕ) → j < i → get_or (sets l i ws) j 0 ≡ get_or l j 0
sets-keep [] l i j h = refl
sets-keep (w ∷ ws) l i j h = sets-keep ws (set l i w) (suc i) j (omega arith) ∙ get_or-set_other l i j w 0 (λ e. omega arith)

second_word : (r : Rec) (m : List Rec) {f : ℕ → ℕ} {o : List ℕ} {k : ℕ} → Laid f (replicate 4 0) 0 (r ∷ m) o k → get_or o 1 0 ≡ r.place
second_word r m {f} L = ap (λ (o : List ℕ). get_or o 1 0) L.words ∙ sets-keep (words f m) (r.code ∷ r.place ∷ r.related ∷ f r.place ∷ []) 4 1 (omega arith)

none-laid : (l : List Rec) {f : ℕ → ℕ} {o : List ℕ} {k : ℕ} → Laid f (replicate 4 0) 0 l o k → k ≡ 0 → l ≡ []
none-laid [] L e = refl
none-laid (r ∷ m) {k = k} L e = let c : k ≡ 0 + suc (length m) = L.count in absurd (omega arith)

module _ (t : Tree) (e : ℕ) {f : ℕ → ℕ} {o : List ℕ} {k : ℕ} (L : Laid f (replicate 4 0) 0 (entry60s t e) o k) where
  pub sixty-none : k ≡ 0 → entry60s t e ≡ []
  sixty-none z = none-laid (entry60s t e) L z

  pub first60-some : (k ≡ 0 → ⊥) → First60 (entry60s t e) (get_or o 1 0)
  first60-some n =
      ⊎_elim (λ (z : entry60s t e ≡ []). absurd (n (let c : k ≡ 0 + length (entry60s t e) = L.count in let l : length (entry60s t e) ≡ 0 = ap length z in omega arith)))
      (λ (q : (i : ℕ) × (m : List Rec) × (0 < i) × (entry60s t e ≡ rec 60 i 0 ∷ m)).
      let b : get_or o 1 0 ≡ q.0 = second_word (rec 60 q.0 0) q.1 (rw q.3 at L) in
      let p : 0 < q.0 = q.2 in
      record { after = omega arith; rest = q.1; is = q.3 ∙ ap (λ (i : ℕ). rec 60 i 0 ∷ q.1) (sym b) })
      (begins-60 t e)
