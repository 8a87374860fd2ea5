-- The parts of an entry ("Linear" of document 01): the rows of those before one, noted by name, and what it is itself: a part that declares a row, one that is a 60, or neither.
use Rattle.std.specs.Prelude.{ℕ, ◌+◌, ◌-◌, ◌<◌, ◌≡◌, Bool, true, false, List, [], ◌∷◌}
use Rattle.image.specs.Pick.{both}
use Rattle.rules.specs.Sweep.{either, run, keep, has}
use Rattle.rules.specs.Tree.{Tree, entry as entries, «let», param_let, peels}
use Rattle.rules.specs.Words.{Q_Asset, split, mint}
use Rattle.rules.specs.Vocabulary.{alone, Below, below, named, is_field, is_ident, at_bottom}
use Rattle.rules.specs.Linear.{is_row, is_alias}
use Rattle.nodes.specs.Shown.{View, In, tree_of}
use Rattle.names.specs.Found.{Numbered}
use Rattle.places.specs.declared.Note.{Note}
use Rattle.places.specs.declared.Note.TheVariants.{First, Last}
use Rattle.places.specs.Places.{Places, noting}
use Rattle.linear_parts.specs.declared.Words.{Words}
use Rattle.linear_parts.specs.declared.Part.{Part}
use Rattle.linear_parts.specs.declared.Part.TheVariants.{Row, Alias, Other}

-- the nodes of an image, with the numbers of the three words
pub record KnownWords (nodes : List ℕ) (words : Words) : Type 0 where
  pub view : View nodes 0
  pub asset_number : Numbered view.image Q_Asset words.asset
  pub split_number : Numbered view.image split words.split
  pub mint_number : Numbered view.image mint words.mint

-- a question answers what F says of the tree
abbrev pub SaysOf : (Tree → Bool) → List ℕ → Words → Bool → Type 0
SaysOf F nodes words r = (T : KnownWords nodes words) → r ≡ F (tree_of T.view)

-- a callee Field `split` or Ident `mint`
abbrev pub is_maker : ℕ → Tree → Bool
is_maker x t = either (is_field t (split ∷ []) x) (is_ident t (mint ∷ []) x)

-- node p, if it declares a row; the rows of an entry
abbrev pub row_at : ℕ → Tree → List ℕ
row_at p t = keep (has (t.kind p) param_let) (λ x. keep (is_row t x) alone x) p

abbrev pub rows_of : ℕ → Tree → List ℕ
rows_of e t = below t param_let e (λ x. keep (is_row t x) alone x)

-- those of its parts before p
abbrev pub rows_before : ℕ → ℕ → Tree → List ℕ
rows_before e p t = run (λ i. row_at i t) (e + 1) (p - (e + 1))

-- 60 at a node, as a test
abbrev pub is60 : ℕ → ℕ → Tree → Bool
is60 e p t = both (has (t.kind p) «let») (at_bottom t peels (p + 2) (is_alias t e p))

-- the number, from k + 1 on, that is noted among the nodes xs that pass the test; v was noted before
unfoldable pub noted : Note → (ℕ → Bool) → ℕ → ℕ → List ℕ → ℕ
noted note q v k [] = v
noted note q v k (x ∷ xs) = noted note q (noting note v (q x) (k + 1)) (k + 1) xs

-- the first, the last of the rows xs whose name is w, plus one; 0 where there is none
abbrev pub first_row : Tree → List ℕ → List ℕ → ℕ
first_row t xs w = noted First (named t w) 0 0 xs

abbrev pub last_row : Tree → List ℕ → List ℕ → ℕ
last_row t xs w = noted Last (named t w) 0 0 xs

-- part p of an entry; the rows of the parts before it are noted by name
pub record PartAt (nodes : List ℕ) (words : Words) (p : ℕ) (first : List ℕ) : Type 0 where
  pub known : KnownWords nodes words
  pub entry : ℕ
  pub is_entry : Below (tree_of known.view) entries 0 entry
  pub here : In nodes 0 entry
  pub after : entry < p
  pub inside : p < (tree_of known.view).end entry
  pub first_rows : Places known.view.image (first_row (tree_of known.view) (rows_before entry p (tree_of known.view))) first

-- what is answered of a part: it declares a row, it is a 60
abbrev pub says_row : Part → Bool
says_row Row = true
says_row Alias = false
says_row Other = false

abbrev pub says60 : Part → Bool
says60 Row = false
says60 Alias = true
says60 Other = false

abbrev pub SaysPart : (nodes : List ℕ) (words : Words) (p : ℕ) (first : List ℕ) → Part → Type 0
SaysPart nodes words p first r =
    (T : PartAt nodes words p first) → (is_row (tree_of T.known.view) p ≡ says_row r) × (is60 T.entry p (tree_of T.known.view) ≡ says60 r)

abbrev pub IsLet : List ℕ → ℕ → Type 0
IsLet nodes p = (W : View nodes 0) → (tree_of W).kind p ≡ 25
