-- The list that is computed is the row's: its entries say what the facts ask for, and there is no other such list.
use Prim.Native.Nat.{ℕ, suc, ◌+◌, ◌-◌, ◌*◌, ◌<◌}
use mathlib.Core.Path.{◌≡◌, refl, ap, ap₂, sym, ◌∙◌, subst}
use mathlib.Core.List.{List, ◌++◌, Memᴰ}
use mathlib.Core.Logic.{◌⊎◌, inl, inr, ⊎_elim}
use native.Mathlib.Omega.{arith}
use lib.ListN.{length, length-append}
use Rattle.image.specs.Admit.{refusal}
use Rattle.rules.specs.Sweep.{also, has}
use Rattle.rules.specs.Tree.{Tree, tree, entry, burns, statement, assign, call, ident, peels}
use Rattle.rules.specs.Words.{readers}
use Rattle.rules.specs.Vocabulary.{Below, Argument, IsFirst, AllOf, Down, Field, first_below}
use Rattle.rules.specs.Model.{inner}
use Rattle.rules.specs.Linear.{GivesMark, Mark, Consumes, Use, marks, uses}
use Rattle.rules.specs.Standing.{Formed}
use Rattle.rules.proofs.Reflect.{Tells, tells_both, tells-either, tells-not, tells-eqb, tells-ltb, tells-has, tells-also, tells-some_below, tells-some_argument, tells-is_field, tells-at_bottom, first-from, first-is, first-at, first_so}
use Rattle.rules.proofs.Model.{tells-inner}
use Rattle.rules.proofs.Linear.{marks-listed, uses-listed}
use Rattle.rules.proofs.Unique.{all-unique}
use Rattle.rules.proofs.Admitted.{admitted}
use Rattle.rules.proofs.Ranges.{ends-in}
use Rattle.rules.proofs.Consumers.{one-consumer}
use Rattle.reasons.specs.Reasons.{SaysClause, SaysUse, Reasons}
use Rattle.reasons.specs.Compute.{clause_of, takes, consumer_of, each, clause_words, use_words, reasons}
use Rattle.reasons.proofs.Said.{said_each, said-long, said-one}

-- Clauses

module _ (t : Tree) (e y : ℕ) where
  -- the first one is in the entry, if one is
  clause-inside : (c : ℕ) → GivesMark t e y c → clause_of t e y < t.end e
  unfolding clause_of first_below
  clause-inside c g =
      let a = g.0.after in
      let b = g.0.inside in
      let l = first-at (λ i. also (has (t.kind i) burns) (λ d. inner t (t.text (d + 1)) (y + 2)) i) (suc e) (t.end e - suc e) c a (omega arith) ((tells-also (λ d. inner t (t.text (d + 1)) (y + 2)) c (tells-has (t.kind c) burns) (tells-inner t (t.text (c + 1)) (y + 2))).back (g.0.kind, g.1)) in
      omega arith

  pub clause-first : (c : ℕ) → GivesMark t e y c → IsFirst (GivesMark t e y) (clause_of t e y)
  unfolding clause_of
  clause-first c g = first_so t burns e (λ d. tells-inner t (t.text (d + 1)) (y + 2)) (clause-inside c g)

  pub says-clause : (c : ℕ) → GivesMark t e y c → SaysClause t e y (clause_of t e y + 1) 0
  says-clause c g = record { clause = clause_of t e y; is_first = clause-first c g; its_name = refl; nothing = refl }

  -- the first that gives the mark is one node
  pub one-first : (c d : ℕ) → IsFirst (GivesMark t e y) c → IsFirst (GivesMark t e y) d → c ≡ d
  one-first c d C D = let l : c < d → ⊥ = λ h. D.none c h C.is in let m : d < c → ⊥ = λ h. C.none d h D.is in omega (arith, l, m)

  one-clause : (a b c d : ℕ) → SaysClause t e y a b → SaysClause t e y c d → (a ≡ c) × (b ≡ d)
  one-clause a b c d A C = (A.its_name ∙ ap (λ (n : ℕ). n + 1) (one-first A.clause C.clause A.is_first C.is_first) ∙ sym C.its_name, A.nothing ∙ sym C.nothing)

-- Uses

-- what the test of a node says of it
abbrev Taking : Tree → ℕ → ℕ → ℕ → Type 0
Taking t e i c =
    (Memᴰ (t.kind c) assign × (t.end (c + 1) ≡ i))
    ⊎ (Memᴰ (t.kind c) call × (((s : ℕ) × Below t statement e s × ((s < c) × (c < t.end s)))
    × ((Field t readers (c + 1) → ⊥) × ((a : ℕ) × Argument t c a × ((j : ℕ) × Down t peels a j × (j ≡ i))))))

tells-takes : (t : Tree) (e i c : ℕ) → Tells (takes t e i c) (Taking t e i c)
unfolding takes
tells-takes t e i c =
    tells-either (tells_both (tells-has (t.kind c) assign) (tells-eqb (t.end (c + 1)) i))
    (tells_both (tells-has (t.kind c) call)
    (tells_both (tells-some_below t statement e (λ s. tells_both (tells-ltb s c) (tells-ltb c (t.end s))))
    (tells_both (tells-not (tells-is_field t readers (c + 1))) (tells-some_argument t c (λ a. tells-at_bottom t peels a (λ j. tells-eqb j i))))))

module _ (t : Tree) (e i : ℕ) where
  taking-consumes : (c : ℕ) → Below t ident e i → e < c → c < t.end e → Taking t e i c → Consumes t e c i
  taking-consumes c b l h =
      ⊎_elim
      (λ f. (b, inl (record { after = l; inside = h; kind = f.0 }, f.1)))
      (λ f.
      let S = f.1.0 in
      let A = f.1.1.1 in
      (b, inr ((S.0, S.1, record { after = S.2.0; inside = S.2.1; kind = f.0 }), f.1.1.0, (A.0, A.1, subst (λ (j : ℕ). Down t peels A.0 j) A.2.2 A.2.1))))

  consumes-taking : (c : ℕ) → Consumes t e c i → Taking t e i c
  consumes-taking c f =
      ⊎_elim
      (λ a. inl (a.0.kind, a.1))
      (λ a. inr (a.0.2.kind, ((a.0.0, a.0.1, (a.0.2.after, a.0.2.inside)), (a.1, (a.2.0, a.2.1, (i, a.2.2, refl))))))
      f.1

  module _ (F : Formed t) (E : Below t entry t.root e) where
    consumer-inside : (c : ℕ) → Consumes t e c i → (e < c) × (c < t.end e)
    consumer-inside c f =
        ⊎_elim
        (λ a. (a.0.after, a.0.inside))
        (λ a.
        let s = a.0.1 in
        let d = a.0.2 in
        let n = ends-in t F E s in
        let p = s.after in
        let q = d.after in
        let r = d.inside in
        (omega arith, omega arith))
        f.1

    pub consumer-is : (c : ℕ) → Consumes t e c i → Consumes t e (consumer_of t e i) i
    unfolding consumer_of
    consumer-is c f =
        let n = consumer-inside c f in
        let u = n.0 in
        let v = n.1 in
        let a = first-at (takes t e i) (suc e) (t.end e - suc e) c u (omega arith) ((tells-takes t e i c).back (consumes-taking c f)) in
        let b = first-from (takes t e i) (suc e) (t.end e - suc e) in
        taking-consumes (consumer_of t e i) f.0 b (omega arith) ((tells-takes t e i (consumer_of t e i)).so (first-is (takes t e i) (suc e) (t.end e - suc e) (omega arith)))

-- The list

module _ (s : List ℕ) (z : refusal s ≡ 0) (e x : ℕ) (E : Below (tree s) entry 0 e) where
  abbrev t : Tree
  t = tree s

  pub reasons-are : Reasons t e x (reasons t e x)
  unfolding reasons
  reasons-are = record {
    burned = marks t e x;
    used = uses t e x;
    v = each (clause_words t e) (marks t e x);
    u = each (use_words t e) (uses t e x);
    all_marks = marks-listed t e x;
    all_uses = uses-listed t e x;
    clauses = said_each (SaysClause t e) (λ y. clause_of t e y + 1) (λ y. 0) (marks t e x) (λ y m. let M = (marks-listed t e x).sound y m in says-clause t e y M.0.1.0 M.0.1.1);
    occurrences = said_each (SaysUse t e) (λ i. i) (consumer_of t e) (uses t e x) (λ i m.
        let U = (uses-listed t e x).sound i m in
        record { its_ident = refl; its_consumer = consumer-is t e i (admitted s z) E U.0.0 U.0.1 });
    both = refl;
  }

  -- two lists of all of them are one
  module _ {v w : List ℕ} (A : Reasons t e x v) (B : Reasons t e x w) where
    same-clauses : A.v ≡ B.v
    same-clauses =
        let d = all-unique (Mark t e x) A.burned B.burned A.all_marks B.all_marks in
        said-one (SaysClause t e) B.burned A.v B.v (λ y a b c d m. one-clause t e y a b c d) (rw d at A.clauses) B.clauses

    same-uses : A.u ≡ B.u
    same-uses =
        let d = all-unique (Use t e x) A.used B.used A.all_uses B.all_uses in
        said-one (SaysUse t e) B.used A.u B.u (λ i a b c d m p q. (p.its_ident ∙ sym q.its_ident, one-consumer s z e e b d i E E p.its_consumer q.its_consumer)) (rw d at A.occurrences) B.occurrences

    pub one_list : v ≡ w
    one_list = A.both ∙ ap₂ ◌++◌ same-clauses same-uses ∙ sym B.both

  -- as many entries as marks and occurrences
  pub entries-are : {w m l : List ℕ} → Reasons t e x w → AllOf (Mark t e x) m → AllOf (Use t e x) l → length w ≡ 2 * (length m + length l)
  entries-are {w} {m} {l} W M L =
      let a = ap length (all-unique (Mark t e x) W.burned m W.all_marks M) in
      let b = ap length (all-unique (Use t e x) W.used l W.all_uses L) in
      let c = said-long (SaysClause t e) W.burned W.v W.clauses in
      let d = said-long (SaysUse t e) W.used W.u W.occurrences in
      let f = ap length W.both ∙ length-append W.v W.u in
      omega arith
