-- What a scan of an item's statements, lent as their own part, is lent.
use Prim.Native.Nat.{ℕ}
use mathlib.Core.Bool.{Bool}
use mathlib.Core.List.{List}
use Rattle.nodes.specs.Shown.{View, Shown, tree_of}
use Rattle.nodes.specs.Marks.{Marks}
use Rattle.rules.specs.Words.{Q_Address}
use Rattle.rules.specs.Model.{is_state_typed}
use Rattle.resolve_calls.specs.Called.{CallWords, Calling, is_builtin, is_method, param_typed}

module _ {nodes part : List ℕ} {f : ℕ} (item : ℕ) where
  abbrev pub lent-known : {builtin method : List Bool} (W : View nodes 0) → Shown W.image part f ((tree_of W).end item) → Marks W.image is_builtin builtin → Marks W.image is_method method → CallWords part f builtin method
  lent-known W S M N = record { view = record { image = W.image; upto = (tree_of W).end item; shown = S }; builtin_marks = M; method_marks = N }

  abbrev pub lent-calling : {fields params : List Bool} (W : View nodes 0) → Shown W.image part f ((tree_of W).end item) → Marks W.image (is_state_typed (tree_of W) Q_Address) fields → Marks W.image (param_typed (tree_of W) item) params → Calling part f fields params
  lent-calling W S M N = record { view = record { image = W.image; upto = (tree_of W).end item; shown = S }; field_marks = M; entry = item; param_marks = N }
