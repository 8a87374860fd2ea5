-- What an image is answered, all at once: for the table of the crate `patterns`. `Answered` speaks of the real definitions, `refusal`,
-- `pass_answer` of each pass, `offences` and `list_answer`, and of no others. `outcome` only puts them side by side, so that a row is
-- computed as one value. Their bodies are not written out a second time: a form with each pass computed once was no faster, since of
-- a pass's answer antt computes the list up to its first record. What the list answers is not computed: it follows from the row, for
-- a buffer of every length. To unfold `outcome` is to unfold all that its `unfolding` line names: every definition of the rules.
use Rattle.std.specs.Prelude.{ℕ, ◌*◌, ◌<◌, ◌≤◌, ◌≡◌, Bool, List, [], ltb, eqb, length}
use Rattle.std.proofs.Common.{ap, ◌∙◌, sym, lt-ltb, le-ltb, ne_eqb}
use Rattle.image.specs.Pick.{pick, every, somewhere, count}
use Rattle.image.specs.Table.{is_of, rows, children, fits}
use Rattle.image.specs.Text.{class_of, word_at, less, name_at}
use Rattle.image.specs.Tree.{tiles_from, kids_from, children_fit, carries, name_fits, node_ok, ends_past, shallow, carries_name, used_in}
use Rattle.image.specs.Admit.{layout_ok, header_refusal, body_refusal, refusal}
use Rattle.rules.specs.Sweep.{keep, some, first, run, has, same, has_word}
use Rattle.rules.specs.Tree.{tree}
use Rattle.rules.specs.Vocabulary.{Rec, only, below, some_below, first_below, calls, some_call, is_child, arguments, some_argument, named, declares, first_named, down, at_bottom, is_ident, is_field, signers, typed}
use Rattle.rules.specs.Model.{is_state, is_state_typed, is_declared_asset, inner, is_known_asset}
use Rattle.rules.specs.Resolve.{rule20, group20, rule21, group21, many_assets, rule22, mint_calls, group22, comma, type_text, signature, first_signed, rule23, group23, rule24, rule25, rule26, rule27, rule28, rule29, let_rules, entry_names, group24, rule30, last_event, unlike, rule31, emits, group30, rule32, deployer_in, deployer_of, group32, rule33, rule34, genesis_rules, group33, rule35, clause_rule, is_address, rule40, entry_rules, group35, resolve}
use Rattle.rules.specs.Access.{rule50, group50, is_unwritten, is_write, assign_rule, call_rule, statement_rules, group51, access}
use Rattle.rules.specs.Linear.{produces, is_row, place_of, is_alias, rule60, is_burned, is_earlier, is_later, marks, is_counted, uses, judged, row_rule, linear_entry, linear}
use Rattle.rules.specs.All.{offences, latest, holder}
use Rattle.rules.specs.Answers.{Answer, pass_answer, NameReply, ask, ListReply, list_refused, list_has, list_answer, list_buffer}

-- the refusal, the answers of the three passes, and the full list (none where the image is refused)
pub record Outcome : Type 0 where
  pub refused : ℕ
  pub resolving : Answer
  pub accessing : Answer
  pub linearity : Answer
  pub list : List Rec

unfoldable pub outcome : List ℕ → Outcome
unfolding every somewhere count is_of rows children fits class_of word_at less name_at tiles_from kids_from children_fit carries name_fits node_ok ends_past shallow carries_name used_in layout_ok header_refusal body_refusal refusal
    keep some first run has same has_word only below some_below first_below calls some_call is_child arguments some_argument named declares first_named down at_bottom is_ident is_field signers typed is_state is_state_typed is_declared_asset inner is_known_asset
    rule20 group20 rule21 group21 many_assets rule22 mint_calls group22 comma type_text signature first_signed rule23 group23 rule24 rule25 rule26 rule27 rule28 rule29 let_rules entry_names group24 rule30 last_event unlike rule31 emits group30 rule32 deployer_in deployer_of group32 rule33 rule34 genesis_rules group33 rule35 clause_rule is_address rule40 entry_rules group35 resolve
    rule50 group50 is_unwritten is_write assign_rule call_rule statement_rules group51 access produces is_row place_of is_alias rule60 is_burned is_earlier is_later marks is_counted uses judged row_rule linear_entry linear offences pass_answer
outcome s = record {
  refused = refusal s;
  resolving = pass_answer resolve s;
  accessing = pass_answer access s;
  linearity = pass_answer linear s;
  list = pick (eqb (refusal s) 0) (offences (tree s)) [];
}

-- the image s is answered as v says
pub record Answered (s : List ℕ) (v : Outcome) : Type 0 where
  pub refused : refusal s ≡ v.refused
  pub resolving : pass_answer resolve s ≡ v.resolving
  pub accessing : pass_answer access s ≡ v.accessing
  pub linearity : pass_answer linear s ≡ v.linearity
  -- of an admitted image the full list, and what it answers for a buffer of so many words
  pub list : v.refused ≡ 0 → offences (tree s) ≡ v.list
  pub room : v.refused ≡ 0 → (size : ℕ) → 4 * length v.list ≤ size → list_answer s size ≡ list_has (length v.list)
  pub short : v.refused ≡ 0 → (size : ℕ) → size < 4 * length v.list → list_answer s size ≡ list_refused 9
  -- of a refused one
  pub unlisted : (v.refused ≡ 0 → ⊥) → (size : ℕ) → list_answer s size ≡ list_refused v.refused

pub answers : {s : List ℕ} {v : Outcome} → outcome s ≡ v → Answered s v
unfolding outcome list_answer
answers {s} {v} e = record {
  refused = n;
  resolving = ap (λ (o : Outcome). o.resolving) e;
  accessing = ap (λ (o : Outcome). o.accessing) e;
  linearity = ap (λ (o : Outcome). o.linearity) e;
  list = list;
  room = λ z size h. lists z size ∙ ap (λ (b : Bool). pick b (list_refused 9) (list_has k)) (le-ltb size (4 * k) h);
  short = λ z size h. lists z size ∙ ap (λ (b : Bool). pick b (list_refused 9) (list_has k)) (lt-ltb size (4 * k) h);
  unlisted = λ z size. ap (λ (m : ℕ). pick (eqb m 0) (given size (offences (tree s))) (list_refused m)) n ∙ ap (λ (b : Bool). pick b (given size (offences (tree s))) (list_refused v.refused)) (ne_eqb v.refused 0 z);
}
  where
    n : refusal s ≡ v.refused
    n = ap (λ (o : Outcome). o.refused) e

    k : ℕ
    k = length v.list

    -- what the list l answers
    given : ℕ → List Rec → ListReply
    given size l = pick (ltb size (4 * length l)) (list_refused 9) (list_has (length l))

    list : v.refused ≡ 0 → offences (tree s) ≡ v.list
    list z = ap (λ (m : ℕ). pick (eqb m 0) (offences (tree s)) []) (sym (n ∙ z)) ∙ ap (λ (o : Outcome). o.list) e

    lists : v.refused ≡ 0 → (size : ℕ) → list_answer s size ≡ given size v.list
    lists z size = ap (λ (m : ℕ). pick (eqb m 0) (given size (offences (tree s))) (list_refused m)) (n ∙ z) ∙ ap (given size) (list z)

-- the answers to the three questions about a name
pub record Replies : Type 0 where
  pub is_state : NameReply
  pub is_declared_asset : NameReply
  pub is_known_asset : NameReply

unfoldable pub replies : List ℕ → List ℕ → Replies
unfolding outcome ask
replies s w = record { is_state = ask is_state s w; is_declared_asset = ask is_declared_asset s w; is_known_asset = ask is_known_asset s w }

-- the answer of the list, and its buffer afterwards
pub record Filled : Type 0 where
  pub answer : ListReply
  pub buffer : List ℕ

unfoldable pub filled : List ℕ → List ℕ → Filled
unfolding outcome latest holder list_answer list_buffer
filled s o = record { answer = list_answer s (length o); buffer = list_buffer s o }

-- 23's text of entry e
unfoldable pub signature_of : List ℕ → ℕ → List ℕ
unfolding outcome
signature_of s e = signature (tree s) e
