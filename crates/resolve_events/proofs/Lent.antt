-- What each function is lent: the statements of an item, the contract.
use Prim.Native.Nat.{ℕ, ◌-◌, ◌<◌}
use mathlib.Core.Path.{◌≡◌, refl, sym, subst}
use mathlib.Core.Bool.{true}
use mathlib.Core.List.{List, [], ◌∷◌}
use mathlib.Core.Logic.{⊎_elim}
use lib.ListN.{replicate}
use Rattle.rules.specs.Sweep.{run, keep, has}
use Rattle.rules.specs.Standing.{all_items}
use Rattle.rules.specs.Tree.{event, emit, statement}
use Rattle.rules.specs.Vocabulary.{below}
use Rattle.records.proofs.Sweep.{run-below-later}
use Rattle.nodes.specs.Shown.{View, Shown, In, tree_of}
use Rattle.nodes.specs.First.{Starts}
use Rattle.nodes.proofs.Shapes.{all_in, not_in}
use Rattle.nodes.proofs.Steps.{statements-of}
use Rattle.places.specs.Places as places
use Rattle.places.specs.Places.{notes_below}
use Rattle.places.specs.declared.Note.TheVariants as note
use Rattle.places.proofs.Noting.{places-none}
use Rattle.resolve_emits.specs.Emitted.{Emitted, emit_rules}
pub use Rattle.items.proofs.Bodied.{is-bodied}
use Rattle.resolve_events.specs.Events.{Bodied, Events}

pub is-item : (k : ℕ) → Bodied k → all_in (k ∷ []) all_items ≡ true
unfolding all_in has
is-item k b = ⊎_elim (λ (e : k ≡ 7). rw e refl) (λ (e : k ≡ 9). rw e refl) (is-bodied k b)

-- an item's statements, lent
abbrev pub lent : {nodes part last : List ℕ} {f k item : ℕ} (T : Events nodes last) → In nodes 0 item → 0 < item → (tree_of T.emitting.view).kind item ≡ k → Bodied k → Starts T.emitting.view item f → Shown T.emitting.view.image part f ((tree_of T.emitting.view).end item)
    → Emitted part f nodes last
lent T i z e k S P = record { body = statements-of T.emitting.view i z (is-bodied _ (subst Bodied (sym e) k)) S P; lasts = T.emitting.lasts; upto = T.emitting.view.upto; shown = T.emitting.view.shown; root = T.root }

-- the Emits from the first statement of an item on are those of the item
pub item-emits : {nodes : List ℕ} {p f : ℕ} (W : View nodes 0) → Starts W p f → run (λ i. keep (has ((tree_of W).kind i) emit) (emit_rules (tree_of W)) i) f ((tree_of W).end p - f) ≡ below (tree_of W) emit p (emit_rules (tree_of W))
unfolding all_in has
item-emits {p = p} {f = f} W S = run-below-later (tree_of W) emit (emit_rules (tree_of W)) p f S.after S.inside (λ i a b. not_in statement ((tree_of W).kind i) emit refl (S.none i a b))

-- the contract, with the last event of each name noted in a fresh table
abbrev pub events-of : {nodes last : List ℕ} (W : View nodes 0) → In nodes 0 0 → places.Noted (λ (W : View nodes 0). W.image) (λ W. notes_below note.Last (tree_of W) event 0) (replicate 1024 0) last → Events nodes last
events-of W i f = record { emitting = record { view = W; lasts = f W (λ w. 0) (places-none W.image W.shown.admitted) }; root = i }
