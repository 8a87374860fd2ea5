-- The texts of types and signatures (23 of document 01) piece by piece, and what their writers are lent: a part of the node area with the table of text offsets and the text of the same image.
use Rattle.std.specs.Prelude.{ℕ, ◌+◌, ◌-◌, ◌<◌, ◌≤◌, ◌^◌, ◌≡◌, Bool, List, [], ◌∷◌, ◌++◌, ◌⊎◌, eqb, ltb}
use Rattle.image.specs.Maxima.{max_depth}
use Rattle.image.specs.Pick.{pick, both}
use Rattle.image.specs.Admit.{names_of, text_part}
use Rattle.rules.specs.Sweep.{run, keep, has}
use Rattle.rules.specs.Tree.{Tree, param}
use Rattle.rules.specs.Vocabulary.{is_child}
use Rattle.rules.specs.Resolve.{comma, type_text}
use Rattle.nodes.specs.Shown.{View, In, tree_of}
use Rattle.signature.specs.Wrote.{Room}

-- the arguments of the type y from node c on, each after its comma
unfoldable pub args_from : ℕ → Tree → ℕ → ℕ → List ℕ
args_from levels t y c = run (λ i. keep (is_child t y i) (λ a. comma (y + 2) a ++ type_text levels t a) i) c (t.end y - c)

-- the types of the parameters of the entry e from node p on, each after its comma
unfoldable pub params_from : Tree → ℕ → ℕ → List ℕ
params_from t e p = run (λ i. keep (has (t.kind i) param) (λ x. comma (e + 2) x ++ type_text max_depth t (x + 2)) i) p (t.end e - p)

-- node y is a type or a type argument: 11 Type, 12 IntLit of a type, 13 MofN
abbrev pub IsType : Tree → ℕ → Type 0
IsType t y = (11 ≤ t.kind y) × (t.kind y ≤ 13)

pub record Texts (part : List ℕ) (b : ℕ) (names text : List ℕ) : Type 0 where
  pub view : View part b
  pub is_names : names ≡ names_of view.image
  pub is_text : text ≡ text_part view.image

-- node p carries a text; position `at` has room for it
pub record Carrying (part : List ℕ) (b : ℕ) (names text : List ℕ) (p at : ℕ) : Type 0 where
  pub texts : Texts part b names text
  pub there : In part b p
  pub carries : ((tree_of texts.view).kind p ≡ 12) ⊎ ((tree_of texts.view).kind p ≡ 23)
  pub room : Room at ((tree_of texts.view).text p)

-- the MofN y: `m of n`
abbrev pub quorum_text : Tree → ℕ → List ℕ
quorum_text t y = t.text (y + 1) ++ ((32 ∷ 111 ∷ 102 ∷ 32 ∷ []) ++ t.text (y + 2))

pub record CountingRoom (part : List ℕ) (b : ℕ) (names text : List ℕ) (y at : ℕ) : Type 0 where
  pub texts : Texts part b names text
  pub there : In part b y
  pub is_quorum : (tree_of texts.view).kind y ≡ 13
  pub room : Room at (quorum_text (tree_of texts.view) y)

-- what the type or type argument y begins with: all of an IntLit or a MofN, the Name of a type; whether arguments follow it
unfoldable pub head_text : Tree → ℕ → List ℕ
head_text t y = pick (eqb (t.kind y) 12) (t.text y) (pick (eqb (t.kind y) 13) (quorum_text t y) (t.text (y + 1)))

unfoldable pub has_arguments : Tree → ℕ → Bool
has_arguments t y = both (eqb (t.kind y) 11) (ltb (y + 2) (t.end y))

pub record Heading (part : List ℕ) (b : ℕ) (names text : List ℕ) (y at : ℕ) : Type 0 where
  pub texts : Texts part b names text
  pub there : In part b y
  pub is_type : IsType (tree_of texts.view) y
  pub room : Room at (head_text (tree_of texts.view) y)

-- the same for the text of the type y
pub record Typing (part : List ℕ) (b : ℕ) (names text : List ℕ) (levels y at : ℕ) : Type 0 where
  pub texts : Texts part b names text
  pub there : In part b y
  pub is_type : IsType (tree_of texts.view) y
  pub room : Room at (type_text levels (tree_of texts.view) y)

-- for the arguments of the type y
pub record Arguing (part : List ℕ) (b : ℕ) (names text : List ℕ) (levels y at : ℕ) : Type 0 where
  pub texts : Texts part b names text
  pub there : In part b y
  pub is_named : (tree_of texts.view).kind y ≡ 11
  pub room : Room at (args_from levels (tree_of texts.view) y (y + 2))

-- for the parameters' types of the entry e
pub record Listing (part : List ℕ) (b : ℕ) (names text : List ℕ) (e at : ℕ) : Type 0 where
  pub texts : Texts part b names text
  pub there : In part b e
  pub is_entry : (tree_of texts.view).kind e ≡ 9
  pub room : Room at (params_from (tree_of texts.view) e (e + 2))

-- the entry e, and a position that leaves room for any signature
pub record Signing (part : List ℕ) (b : ℕ) (names text : List ℕ) (e at : ℕ) : Type 0 where
  pub texts : Texts part b names text
  pub there : In part b e
  pub is_entry : (tree_of texts.view).kind e ≡ 9
  pub low : at < 2 ^ 60
