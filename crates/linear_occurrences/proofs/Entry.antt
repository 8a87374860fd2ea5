-- One entry: its statements lent as their own part, and the occurrences of a row's name as the sweep over them finds them.
use Prim.Native.Nat.{ℕ, suc, ◌+◌, ◌-◌, ◌<◌, ◌≤◌}
use mathlib.Core.Path.{◌≡◌, refl, ◌∙◌, sym}
use mathlib.Core.Bool.{Bool, true, false, true≢false}
use mathlib.Core.List.{List, []}
use native.Mathlib.Omega.{arith}
use Rattle.rules.specs.Sweep.{also, has, keep, run, same}
use Rattle.rules.specs.Tree.{Tree, ident}
use Rattle.rules.specs.Vocabulary.{alone, below}
use Rattle.rules.specs.Linear.{is_counted, is_later, uses}
use Rattle.rules.proofs.Linear.{tells-counted}
use Rattle.records.proofs.Sweep.{run-later, run-same, keep_one, keep-none}
use Rattle.nodes.specs.Shown.{View, Shown, tree_of}
use Rattle.nodes.specs.Marks.{Marks}
use Rattle.nodes.specs.First.{Starts}
use Rattle.nodes.proofs.Fall.{not_so}
use Rattle.linear_occurrences.specs.Counted.{Counting, is_reader}
use Rattle.linear_occurrences.proofs.Counted.{untaken, consumes-takes}

-- what the sweep is lent
abbrev pub counting-of : {nodes part : List ℕ} {e f : ℕ} {reader : List Bool} (W : View nodes 0) → Marks W.image is_reader reader → 0 < e → (tree_of W).kind e ≡ 9 → Starts W e f → Shown W.image part f ((tree_of W).end e) → Counting part f reader
counting-of {e = e} W M z k S H = record {
  view = record { image = W.image; upto = (tree_of W).end e; shown = H };
  reader_marks = M;
  entry = e;
  after = z;
  is_entry = k;
  first = record { after = S.after; inside = S.inside; none = S.none; is = S.is };
  ends = refl;
}

-- two tests in either order
keep-swap : (a : Bool) (b c : ℕ → Bool) (i : ℕ) → keep a (λ i. keep (b i) (λ j. keep (c j) alone j) i) i ≡ keep (also a c i) (λ i. keep (b i) alone i) i
unfolding keep
keep-swap false b c i = refl
keep-swap true b c i = go (b i) refl
  where
    go : (x : Bool) → b i ≡ x → keep (b i) (λ j. keep (c j) alone j) i ≡ keep (c i) (λ j. keep (b j) alone j) i
    go true d = keep_one (λ j. keep (c j) alone j) i d ∙ one (c i)
      where
        one : (y : Bool) → keep y alone i ≡ keep y (λ j. keep (b j) alone j) i
        one true = sym (keep_one alone i d)
        one false = refl
    go false d = keep-none (λ j. keep (c j) alone j) i d ∙ sym (none (c i))
      where
        none : (y : Bool) → keep y (λ j. keep (b j) alone j) i ≡ []
        none true = keep-none alone i d
        none false = refl

module _ {nodes : List ℕ} {base : ℕ} {reader : List Bool} (T : Counting nodes base reader) where
  abbrev t : Tree
  t = tree_of T.view

  -- no Ident before the first statement is counted
  uncounted : (i : ℕ) → T.entry < i → i ≤ base → i < t.end T.entry → also (has (t.kind i) ident) (is_counted t T.entry) i ≡ false
  uncounted i a l h = not_so (also (has (t.kind i) ident) (is_counted t T.entry) i)
      (λ e.
      let c = (tells-counted t T.entry i a h).so e in
      let q = consumes-takes T c.0 i c.1 in
      let g = q.0 in
      true≢false (sym q.2 ∙ untaken T i c.0 g q.1 (λ d. let k = d.0 in omega arith)))

  -- the uses of the last row of its name are the counted occurrences of the name, in the order of the sweep
  pub uses-are : (x : ℕ) → is_later t T.entry x ≡ false
      → uses t T.entry x ≡ run (λ p. keep (also (has (t.kind p) ident) (is_counted t T.entry) p) (λ i. keep (same (t.text i) (t.text (x + 1))) alone i) p) base (T.view.upto - base)
  unfolding uses below
  uses-are x n =
      let a = T.first.after in
      let h = T.first.inside in
      rw (n, T.ends)
      (run-same _ f (suc T.entry) _ (λ i l g. keep-swap (has (t.kind i) ident) (λ i. same (t.text i) (t.text (x + 1))) (is_counted t T.entry) i)
      ∙ run-later f (suc T.entry) base (t.end T.entry) (omega arith) h (λ i l g. keep-none _ i (uncounted i (omega arith) (omega arith) (omega arith))))
    where
      f : ℕ → List ℕ
      f p = keep (also (has (t.kind p) ident) (is_counted t T.entry) p) (λ i. keep (same (t.text i) (t.text (x + 1))) alone i) p
