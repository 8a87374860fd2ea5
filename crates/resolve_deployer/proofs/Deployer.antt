-- 32 in a clause, an entry and an item; and that there is nothing where no name is `deployer`.
use Prim.Native.Nat.{ℕ, ◌-◌, ◌<◌, ◌≤◌}
use mathlib.Core.Path.{◌≡◌, refl, ap, ◌∙◌, sym}
use mathlib.Core.Bool.{Bool, true, false}
use mathlib.Core.List.Memᴰ
use mathlib.Core.List.{List, [], ◌∷◌, ◌++◌, append-nil}
use mathlib.Core.Logic.{inl, inr}
use native.Mathlib.Omega.{arith}
use borrow.Author.Tests.{ne_eqb}
use Rattle.image.specs.Pick.{every}
use lib.ListN.{replicate}
use Rattle.image.specs.Admit.{refusal}
use Rattle.rules.specs.Sweep.{either, run, keep, has, same}
use Rattle.rules.specs.Tree.{Tree, ident, invariant, limits_denies_after, statement}
use Rattle.rules.specs.Words.{deployer}
use Rattle.rules.specs.Vocabulary.{Rec, Below, below, Signer}
use Rattle.rules.specs.Resolve.{rule32, deployer_in, deployer_of, group32, Offence32}
use Rattle.rules.proofs.Reflect.{finds-nothing}
use Rattle.rules.proofs.Resolve.{finds32}
use Rattle.records.proofs.Sweep.{keep_one, keep-none, has_one, has-not}
use Rattle.nodes.proofs.Spans.{Span}
use Rattle.nodes.specs.Shown.{View, Shown, In, tree_of}
use Rattle.nodes.specs.First.{Starts}
use Rattle.nodes.specs.Marks.{Marks}
use Rattle.nodes.proofs.Names.{marks-none}
use Rattle.nodes.proofs.Ranges.{ranged, into}
use Rattle.nodes.proofs.Shapes.{within}
use Rattle.nodes.proofs.Flat.{flat}
use Rattle.names.specs.Found.{Numbered}
use Rattle.names.proofs.Said.{unsaid}
use Rattle.resolve_clauses.specs.Said.{OneTable}
use Rattle.resolve_deployer.specs.Deployed.{Deployed, DeployerIs, ident_rules, item32}
use Rattle.resolve_clauses.proofs.Hits.{signer-in}

abbrev pub table_of : {nodes : List ℕ} {base : ℕ} {marks : List Bool} → Deployed nodes base marks → OneTable nodes base marks
table_of T = record { view = T.view; says = λ w. same w deployer; tells = T.tells }

-- a fresh table in which the word of this number was marked
abbrev pub deployed-of : {nodes : List ℕ} {number : ℕ} {marks : List Bool} (T : DeployerIs nodes number)
    → ((s w : List ℕ) (P : List ℕ → Bool) → refusal s ≡ 0 → Numbered s w number → Marks s P (replicate 1024 false) → Marks s (λ v. either (P v) (same v w)) marks) → Deployed nodes 0 marks
deployed-of T f = let s = T.view.image in let a = T.view.shown.admitted in record { view = T.view; tells = f s deployer (λ w. false) a T.is (marks-none s a) }

-- Limits, Denies, After are the kinds 19 to 21
pub expressions-in : (k : ℕ) → 19 ≤ k → k ≤ 21 → has k limits_denies_after ≡ true
unfolding ranged every has
expressions-in k l h = sym (into limits_denies_after 19 21 refl k l h (omega arith))

pub expressions-out : (k : ℕ) → ((j : ℕ) → 19 ≤ j → j ≤ 21 → k ≡ j → ⊥) → has k limits_denies_after ≡ false
unfolding has
expressions-out k f = simp (ne_eqb k 19 (f 19 (omega arith) (omega arith)), ne_eqb k 20 (f 20 (omega arith) (omega arith)), ne_eqb k 21 (f 21 (omega arith) (omega arith)))

-- the statements of an entry, lent as their own part
abbrev pub lent-table : {nodes part : List ℕ} {marks : List Bool} {f : ℕ} (e : ℕ) (T : Deployed nodes 0 marks) → Shown T.view.image part f ((tree_of T.view).end e) → OneTable part f marks
lent-table e T S = record { view = record { image = T.view.image; upto = (tree_of T.view).end e; shown = S }; says = λ w. same w deployer; tells = T.tells }

pub lent-range : {s part : List ℕ} {f u to : ℕ} → Shown s part f u → u ≤ 2048 → to ≡ u → Span part f f to
lent-range S l e = let a = S.low in let y = S.bytes in record { start = omega arith; order = omega arith; held = omega arith; under = omega arith }

pub body-32 : {nodes : List ℕ} {e f to : ℕ} (W : View nodes 0) → In nodes 0 e → 0 < e → (tree_of W).kind e ≡ 9 → Starts W e f → to ≡ (tree_of W).end e
    → run (λ p. keep (has ((tree_of W).kind p) (35 ∷ [])) (rule32 (tree_of W)) p) f (to - f) ≡ below (tree_of W) statement e (ident_rules (tree_of W))
unfolding has keep
body-32 {f = f} W i z k S e =
    ap (λ (u : ℕ). run (λ p. keep (has ((tree_of W).kind p) (35 ∷ [])) (rule32 (tree_of W)) p) f (u - f)) e
    ∙ flat W i z k S [] ident (λ j e. refl) (λ j l h. has-not j 35 (λ d. omega arith)) (λ _. []) (rule32 (tree_of W))

module _ (t : Tree) (i : ℕ) where
  pub item-entry : t.kind i ≡ 9 → item32 t i ≡ deployer_in t i
  unfolding has deployer_of
  item-entry k =
      keep_one (deployer_of t) i (ap (λ (x : ℕ). has x (8 ∷ 9 ∷ [])) k)
      ∙ ap (λ (l : List Rec). l ++ keep (has (t.kind i) invariant) (ident_rules t) i) (keep_one (deployer_in t) i (has_one _ 9 k))
      ∙ ap (λ (l : List Rec). deployer_in t i ++ l) (keep-none (ident_rules t) i (has-not (t.kind i) 8 (λ e. omega arith)))
      ∙ append-nil (deployer_in t i)

  pub item-invariant : t.kind i ≡ 8 → item32 t i ≡ ident_rules t i
  unfolding has deployer_of
  item-invariant k =
      keep_one (deployer_of t) i (ap (λ (x : ℕ). has x (8 ∷ 9 ∷ [])) k)
      ∙ ap (λ (l : List Rec). l ++ keep (has (t.kind i) invariant) (ident_rules t) i) (keep-none (deployer_in t) i (has-not (t.kind i) 9 (λ e. omega arith)))
      ∙ keep_one (ident_rules t) i (has_one _ 8 k)

  pub item-other : (t.kind i ≡ 9 → ⊥) → (t.kind i ≡ 8 → ⊥) → item32 t i ≡ []
  unfolding has
  item-other a b = keep-none (deployer_of t) i (simp (ne_eqb (t.kind i) 8 b, ne_eqb (t.kind i) 9 a))

-- no name is `deployer`: it stands nowhere
module _ {part : List ℕ} {b : ℕ} (W : View part b) (root : In part b 0) (N : Numbered W.image deployer 0) where
  below_in : {ks : List ℕ} {a p : ℕ} → In part b a → Below (tree_of W) ks a p → In part b p
  below_in i B = within W i B.after B.inside

  an_ident : {a p : ℕ} → In part b a → Below (tree_of W) ident a p → (tree_of W).text p ≡ deployer → ⊥
  an_ident i B e = unsaid (record { view = W; here = below_in i B; carries = inr (Memᴰ.eq_of_singleton B.kind) }) W deployer N (omega arith) e

  a-signer : {a p : ℕ} → In part b a → Signer (tree_of W) a p → (tree_of W).text p ≡ deployer → ⊥
  a-signer i (x, B, d, l) e = unsaid (signer-in W (below_in i B) (Memᴰ.eq_of_singleton B.kind) d l) W deployer N (omega arith) e

  no-offence : (p q : ℕ) → Offence32 (tree_of W) p q → ⊥
  no-offence p q (i, z, e, inl (a, inl s)) = a-signer (below_in root a) s e
  no-offence p q (i, z, e, inl (a, inr (inl (s, B, c)))) = an_ident (below_in (below_in root a) B) c e
  no-offence p q (i, z, e, inl (a, inr (inr (s, B, c)))) = an_ident (below_in (below_in root a) B) c e
  no-offence p q (i, z, e, inr (a, c)) = an_ident (below_in root a) c e

  pub group32-none : group32 (tree_of W) ≡ []
  group32-none = finds-nothing (finds32 (tree_of W)) (λ r o. no-offence r.place r.related o.1)
