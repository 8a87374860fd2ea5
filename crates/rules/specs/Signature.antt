-- 23, the text: name, `(`, types joined by `,`, `)`; type arguments `<a,b>`, nothing where there are none; 13 as `m of n`.
-- In bytes `,` is 44, `<` 60, `>` 62, ` of ` 32 111 102 32, `(` 40, `)` 41.
use Rattle.std.specs.Prelude.{ℕ, zero, suc, List, [], ◌∷◌, ◌++◌, ltb, eqb}
use Rattle.image.specs.Maxima.{max_depth}
use Rattle.image.specs.Pick.{pick}
use Rattle.rules.specs.Tree.{Tree, the_name, first_param, type_of, first_argument, m_of, n_of, param}
use Rattle.rules.specs.Preorder.{below, arguments}

-- a comma before all but the first, which stands at start
unfoldable pub comma : ℕ → ℕ → List ℕ
comma start i = pick (eqb i start) [] (44 ∷ [])

-- the type, or the type argument (12, 13), at y; types nest in at most so many levels
unfoldable pub type_text : ℕ → Tree → ℕ → List ℕ
type_text zero t y = []
type_text (suc levels) t y =
    let types = arguments t y (λ a. comma (first_argument t y) a ++ type_text levels t a) in
    pick (eqb (t.kind y) 12) (t.text y)
    (pick (eqb (t.kind y) 13) (t.text (m_of t y) ++ (32 ∷ 111 ∷ 102 ∷ 32 ∷ t.text (n_of t y)))
    (t.text (the_name t y) ++ pick (ltb (first_argument t y) (t.end y)) (60 ∷ (types ++ (62 ∷ []))) []))

-- as many levels as a node may have ancestors are enough: of an admitted image more write the same text (proofs/TypeLevels)
unfoldable pub signature : Tree → ℕ → List ℕ
signature t e =
    t.text (the_name t e) ++ (40 ∷ (below t param e (λ x. comma (first_param t e) x ++ type_text max_depth t (type_of t x)) ++ (41 ∷ [])))
