-- What is found at a node of an entry: its Ident is kept by the test of the sweep, and there is no second answer.
use Prim.Native.Nat.{ℕ, ◌<◌}
use mathlib.Core.Path.{◌≡◌, refl, ap, ◌∙◌, sym}
use mathlib.Core.Bool.{Bool}
use mathlib.Core.List.Memᴰ
use mathlib.Core.List.{List}
use native.Mathlib.Omega.{arith}
use Rattle.std.specs.Prelude.{Option, None, Some}
use Rattle.rules.specs.Sweep.{also, keep, has}
use Rattle.rules.specs.Tree.{Tree, entry, ident}
use Rattle.rules.specs.Vocabulary.{Below}
use Rattle.rules.specs.Linear.{is_counted}
use Rattle.rules.proofs.Consumers.{one-consumer}
use Rattle.rules.proofs.Linear.{tells-counted}
use Rattle.records.proofs.Sweep.{keep-none, keep_one}
use Rattle.nodes.specs.Shown.{tree_of}
use Rattle.nodes.proofs.Fall.{not_so}
use Rattle.nodes.proofs.Parts.{formed}
use Rattle.linear_occurrences.specs.declared.Occurrence.{Occurrence}
use Rattle.linear_occurrences.specs.Counted.{Counting, Finding, for_ident}

-- what f gives for the Ident is what it gives for a node that is counted
pub finding-keeps : (t : Tree) (e p : ℕ) → e < p → p < t.end e → (r : Option Occurrence) → Finding t e p r → (f : ℕ → List ℕ) → for_ident r f ≡ keep (also (has (t.kind p) ident) (is_counted t e) p) f p
finding-keeps t e p l h None n f = sym (keep-none f p (not_so _ (λ x. n ((tells-counted t e p l h).so x))))
finding-keeps t e p l h (Some o) q f = ap f q.0 ∙ sym (keep_one f p ((tells-counted t e p l h).back (o.consumer, q.1)))

-- what the contract of `occurrence_at` settles: two answers that it allows for a node are one
module _ {nodes : List ℕ} {base : ℕ} {reader : List Bool} (T : Counting nodes base reader) where
  abbrev t : Tree
  t = tree_of T.view

  pub below_root : Below t entry 0 T.entry
  below_root = let W = T.view in let a = T.first.after in let l = W.shown.low in let h = W.shown.high in let r = (formed W).root_end in record { after = T.after; inside = omega arith; kind = Memᴰ.head T.is_entry }

  pub finding-settles : (p : ℕ) (r r' : Option Occurrence) → Finding t T.entry p r → Finding t T.entry p r' → r ≡ r'
  finding-settles p None None m n = refl
  finding-settles p None (Some o) m n = absurd (m (o.consumer, n.1))
  finding-settles p (Some o) None m n = absurd (n (o.consumer, m.1))
  finding-settles p (Some o) (Some u) m n =
      ap (λ (k : ℕ). Some (record { ident = k; consumer = o.consumer })) (m.0 ∙ sym n.0)
      ∙ ap (λ (k : ℕ). Some (record { ident = u.ident; consumer = k })) (one-consumer T.view.image T.view.shown.admitted T.entry T.entry o.consumer u.consumer p below_root below_root m.1 n.1)
