-- E3 of document 02, worked: lots with their reasons, and places that are no lot. Contracts and labels as in Patterns; a row says what
-- is answered at a place, and what stands in the buffer then.
use Rattle.std.specs.Prelude.{ℕ, ◌+◌, ◌≡◌, refl, List, [], ◌∷◌, ◌++◌, length, replicate}
use Prim.Native.String.{String}
use Rattle.rules.specs.Spelling.{bytes}
use Rattle.rules.specs.Packed.{Nodes, Labelled, unlabelled, place, image_of, an_entry, a_contract, an_asset, a_param, a_type, a_burns, a_name, a_let, an_assign, an_expr, an_int, an_ident, a_field, a_call, a_checked}
use Rattle.rules.specs.Outcome.{outcome}
use Rattle.reasons.specs.Compute.{clause_of, takes, consumer_of, each, reasons, reasons_at}
use Rattle.reasons.specs.Answer.{WhyReply, why_refused, why_told, why_answer, why_buffer}
use Rattle.patterns.specs.Patterns.{in_entry, u64, q_asset, q_asset_t, asset_x}

-- the answer, and the buffer afterwards
pub record Explanation : Type 0 where
  pub answer : WhyReply
  pub buffer : List ℕ

unfoldable pub explained : List ℕ → ℕ → List ℕ → Explanation
unfolding outcome clause_of takes consumer_of each reasons reasons_at why_answer why_buffer
explained s p o = record { answer = why_answer s p (length o); buffer = why_buffer s p o }

-- the lot at p has these reasons; they stand in a buffer with a word to spare, which keeps its value
abbrev Lot : Labelled → ((String → ℕ) → ℕ) → ((String → ℕ) → List ℕ) → Type 0
Lot c p w =
    explained (image_of (unlabelled c)) (p (place c)) (replicate (length (w (place c)) + 1) 7)
    ≡ record { answer = why_told (length (w (place c))); buffer = w (place c) ++ 7 ∷ [] }

-- refused at p, for a buffer of so many words, which keep their values
abbrev Refused : Labelled → ((String → ℕ) → ℕ) → ℕ → ℕ → Type 0
Refused c p size n = explained (image_of (unlabelled c)) (p (place c)) (replicate size 7) ≡ record { answer = why_refused n; buffer = replicate size 7 }

-- `send(..)`, labelled call
abbrev send : (String → Nodes → Nodes) → Nodes → Nodes
send mark l = an_expr (mark "call" (a_call (an_ident "send" ++ l)))

-- P5 and P9
abbrev P5 : Labelled
P5 mark = in_entry (asset_x mark ++ send mark (mark "x1" (an_ident "x") ++ mark "x2" (an_ident "x")))

abbrev P9 : Labelled
P9 mark =
    a_contract (a_name "c" ++ an_asset (a_name "T") ++ an_entry (a_name "e" ++ mark "parameter" (a_param (mark "x" (a_name "x") ++ q_asset_t))
    ++ a_burns (mark "T" (a_name "T")) ++ send mark (an_ident "to" ++ mark "use" (an_ident "x"))))

-- e(x: Q_Asset<T>, x: ..), with these clauses and statements
abbrev two_of_a_name : (String → Nodes → Nodes) → Nodes → Nodes → Nodes
two_of_a_name mark second l = in_entry (a_param (mark "x" (a_name "x") ++ q_asset_t) ++ a_param (mark "x2" (a_name "x") ++ second) ++ l)

abbrev burns : (String → Nodes → Nodes) → String → Nodes
burns mark w = a_burns (mark w (a_name w))

abbrev two_marks : Labelled
two_marks mark = two_of_a_name mark q_asset_t (burns mark "T")

abbrev mark_and_use : Labelled
mark_and_use mark = two_of_a_name mark q_asset (burns mark "T" ++ send mark (mark "use" (an_ident "x")))

-- e(x: Q_Asset<T>) burns T { let x = mint(); send(x) }; e(n: u64) { let y = 1; s = x }, which has no lot
abbrev let_of_the_name : Labelled
let_of_the_name mark =
    in_entry (a_param (mark "x" (a_name "x") ++ q_asset_t) ++ burns mark "T"
    ++ mark "let" (a_let (a_name "x" ++ a_call (an_ident "mint"))) ++ send mark (mark "use" (an_ident "x")))

abbrev no_lots : Labelled
no_lots mark = in_entry (a_param (mark "n" (a_name "n") ++ u64) ++ mark "let" (a_let (a_name "y" ++ an_int)) ++ an_assign (an_ident "s" ++ mark "x" (an_ident "x")))

pub record Lots : Type 0 where
  -- 61 has none
  pub P2-none : Lot (λ mark. in_entry (asset_x mark)) (λ the. the "x") (λ the. [])
  -- each use with its Call; 62 at least two
  pub P5-uses : Lot P5 (λ the. the "x") (λ the. the "x1" ∷ the "call" ∷ the "x2" ∷ the "call" ∷ [])
  -- the inner Call consumes: `s.get(s.set(checked(x)))`; the Assign: `s = x`
  pub inner_call :
      Lot (λ mark. in_entry (asset_x mark ++ an_expr (a_call (a_field (an_ident "s" ++ a_name "get") ++ mark "set" (a_call (a_field (an_ident "s" ++ a_name "set")
      ++ a_checked (mark "use" (an_ident "x"))))))))
      (λ the. the "x") (λ the. the "use" ∷ the "set" ∷ [])
  pub bare_value :
      Lot (λ mark. in_entry (asset_x mark ++ mark "assign" (an_assign (an_ident "s" ++ mark "use" (an_ident "x")))))
      (λ the. the "x") (λ the. the "use" ∷ the "assign" ∷ [])
  -- a clause's Name and 0, then the use
  pub P9-clause-and-use : Lot P9 (λ the. the "x") (λ the. the "T" ∷ 0 ∷ the "use" ∷ the "call" ∷ [])
  -- two parameters of one name, both marked: two entries on the first row, the same Name; none on the second
  pub two_marks_first : Lot two_marks (λ the. the "x") (λ the. the "T" ∷ 0 ∷ the "T" ∷ 0 ∷ [])
  pub two_marks_second : Lot two_marks (λ the. the "x2") (λ the. [])
  -- the first of two clauses that give the mark
  pub first_clause :
      Lot (λ mark. in_entry (a_param (mark "x" (a_name "x") ++ q_asset_t) ++ burns mark "T" ++ a_burns (a_name "T")))
      (λ the. the "x") (λ the. the "T" ∷ 0 ∷ [])
  -- by parameter, where the clauses stand the other way round
  pub by_parameter :
      Lot (λ mark. two_of_a_name mark (a_type (a_name "Q_Asset" ++ a_type (a_name "U"))) (burns mark "U" ++ burns mark "T"))
      (λ the. the "x") (λ the. the "T" ∷ 0 ∷ the "U" ∷ 0 ∷ [])
  -- marks stand on the first row of a name, uses on the last: two parameters; a parameter and a Let
  pub marks_first : Lot mark_and_use (λ the. the "x") (λ the. the "T" ∷ 0 ∷ [])
  pub uses_last : Lot mark_and_use (λ the. the "x2") (λ the. the "use" ∷ the "call" ∷ [])
  pub parameter_of_the_name : Lot let_of_the_name (λ the. the "x") (λ the. the "T" ∷ 0 ∷ [])
  pub let_of_the_name_too : Lot let_of_the_name (λ the. the "let") (λ the. the "use" ∷ the "call" ∷ [])
  -- 13: a Param and not its Name, a clause, an Ident; a parameter of another type, a Let that is not tracked; node 0, the
  -- number past the last node, numbers that a word does not hold. 13 comes before 10
  pub its_param : Refused P9 (λ the. the "parameter") 0 13
  pub its_clause : Refused P9 (λ the. the "T") 9 13
  pub its_use : Refused P9 (λ the. the "use") 9 13
  pub other_type : Refused no_lots (λ the. the "n") 9 13
  pub untracked_let : Refused no_lots (λ the. the "let") 9 13
  pub node_0 : Refused P9 (λ the. 0) 9 13
  pub past_the_nodes : Refused P9 (λ the. the "use" + 1) 9 13
  pub word_65535 : Refused P9 (λ the. 65535) 9 13
  pub over_a_word : Refused P9 (λ the. 65536 + the "x") 9 13
  -- 10: one word short, and empty
  pub one_short : Refused P9 (λ the. the "x") 3 10
  pub empty : Refused P9 (λ the. the "x") 0 10
  -- 1 comes before both
  pub no_image : explained [] 0 (7 ∷ []) ≡ record { answer = why_refused 1; buffer = 7 ∷ [] }

pub lots : Lots
unfolding image_of explained bytes place
lots = record {
  P2-none = refl;
  P5-uses = refl;
  inner_call = refl;
  bare_value = refl;
  P9-clause-and-use = refl;
  two_marks_first = refl;
  two_marks_second = refl;
  first_clause = refl;
  by_parameter = refl;
  marks_first = refl;
  uses_last = refl;
  parameter_of_the_name = refl;
  let_of_the_name_too = refl;
  its_param = refl;
  its_clause = refl;
  its_use = refl;
  other_type = refl;
  untracked_let = refl;
  node_0 = refl;
  past_the_nodes = refl;
  word_65535 = refl;
  over_a_word = refl;
  one_short = refl;
  empty = refl;
  no_image = refl;
}
