-- E8 of document 02, worked: the records of a contract as the list lays them, each with the Entry that contains its place, or 0.
-- Contracts and labels as in Patterns.
use Rattle.std.specs.Prelude.{ℕ, ◌≡◌, refl, List, [], ◌∷◌, ◌++◌, length, replicate}
use Prim.Native.String.{String}
use Rattle.rules.specs.Spelling.{bytes}
use Rattle.rules.specs.Answers.{list_has}
use Rattle.rules.specs.Packed.{Nodes, Labelled, unlabelled, place, image_of, a_contract, a_state, a_field_decl, an_event, a_genesis, an_invariant, an_entry, a_param, a_writes, a_name, a_let, an_emit, an_assign, an_int, an_ident}
use Rattle.rules.specs.Outcome.{filled}
use Rattle.patterns.specs.Patterns.{u64, asset_x}

-- the list has k records, and their words are these, in a buffer that has just room
abbrev Entered : Labelled → ℕ → ((String → ℕ) → List ℕ) → Type 0
Entered c k w = filled (image_of (unlabelled c)) (replicate (length (w (place c))) 7) ≡ record { answer = list_has k; buffer = w (place c) }

-- an entry without an offence; an entry that emits what is not declared
abbrev idle : Nodes
idle = an_entry (a_name "i")

abbrev emits : (String → Nodes → Nodes) → Nodes
emits mark = mark "emit" (an_emit (a_name "v"))

pub record Entries : Type 0 where
  -- P2: the parameter x of the entry e
  pub P2 :
      Entered (λ mark. a_contract (a_name "c" ++ mark "e" (an_entry (a_name "e" ++ asset_x mark)))) 1
      (λ the. 61 ∷ the "x" ∷ 0 ∷ the "e" ∷ [])
  -- the entry that the place stands in, of three
  pub the_second :
      Entered (λ mark. a_contract (a_name "c" ++ idle ++ mark "g" (an_entry (a_name "g" ++ emits mark)) ++ an_entry (a_name "h"))) 1
      (λ the. 30 ∷ the "emit" ∷ 0 ∷ the "g" ∷ [])
  -- 23: the entry whose Name it is, and not the one that the related Name is of
  pub namesakes :
      Entered (λ mark. a_contract (a_name "c" ++ an_entry (mark "f" (a_name "f")) ++ mark "second" (an_entry (mark "f2" (a_name "f"))))) 1
      (λ the. 23 ∷ the "f2" ∷ the "f" ∷ the "second" ∷ [])
  -- the head of an entry is in it: a signer, a clause's Name; and so is what is named in a Let
  pub head_and_body :
      Entered
      (λ mark. a_contract (a_name "c" ++ mark "e" (an_entry (a_name "e" ++ a_param (a_name "p" ++ u64 ++ mark "signer" (a_name "q"))
      ++ a_writes (mark "w" (a_name "w")) ++ a_let (a_name "y" ++ mark "y" (an_ident "y")))))) 3
      (λ the.
      26 ∷ the "y" ∷ 0 ∷ the "e"
      ∷ 35 ∷ the "signer" ∷ 0 ∷ the "e"
      ∷ 36 ∷ the "w" ∷ 0 ∷ the "e" ∷ [])
  -- behind an entry that has ended: a field, an event, an Invariant, a Genesis
  pub outside :
      Entered
      (λ mark. a_contract (a_name "c" ++ idle ++ a_state (a_field_decl (mark "a" (a_name "a") ++ u64) ++ a_field_decl (mark "a2" (a_name "a") ++ u64))
      ++ an_event (mark "b" (a_name "b")) ++ an_event (mark "b2" (a_name "b")) ++ an_invariant (mark "z" (an_ident "z"))
      ++ a_genesis (emits mark ++ mark "assign" (an_assign (an_ident "z" ++ an_int))))) 5
      (λ the.
      20 ∷ the "a2" ∷ the "a" ∷ 0
      ∷ 21 ∷ the "b2" ∷ the "b" ∷ 0
      ∷ 30 ∷ the "emit" ∷ 0 ∷ 0
      ∷ 33 ∷ the "assign" ∷ 0 ∷ 0
      ∷ 50 ∷ the "z" ∷ 0 ∷ 0 ∷ [])

pub entries : Entries
unfolding image_of filled bytes place
entries = record {
  P2 = refl;
  the_second = refl;
  namesakes = refl;
  head_and_body = refl;
  outside = refl;
}
