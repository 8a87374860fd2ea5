-- To be skipped by a reader: what access finds, in document 01's order. Demands 2 and 3 tie the whole, `access`, to the facts.
use Rattle.std.specs.Prelude.{ℕ, Bool, not, ◌&&◌, List, ◌++◌, eqb}
use Rattle.rules.specs.Sweep.{keep, has, same}
use Rattle.rules.specs.Tree.{Tree, target_of, callee_of, called_base, invariant, entry, writes, name, statement, assign, ident, call, peels_fields}
use Rattle.rules.specs.Words.{writers}
use Rattle.rules.specs.Record.{Rec, rec}
use Rattle.rules.specs.Preorder.{below}
use Rattle.rules.specs.ComputeVocabulary.{only, some_below, at_bottom, is_field}
use Rattle.rules.specs.ComputeModel.{is_state}

unfoldable pub rule50 : Tree → ℕ → List Rec
rule50 t i = only (not (is_state t (t.text i))) (rec 50 i 0)

unfoldable pub group50 : Tree → List Rec
group50 t = below t invariant t.root (λ v. below t ident v (rule50 t))

unfoldable pub is_unwritten : Tree → ℕ → List ℕ → Bool
is_unwritten t e w =
    is_state t w && not (some_below t writes e (λ c. some_below t name c (λ n. same (t.text n) w)))

unfoldable pub is_write : Tree → ℕ → ℕ → Bool
is_write t e x = at_bottom t peels_fields x (λ r. eqb (t.kind r) 35 && is_unwritten t e (t.text r))

unfoldable pub assign_rule : Tree → ℕ → ℕ → List Rec
assign_rule t e s = only (is_write t e (target_of t s)) (rec 51 s 0)

unfoldable pub call_rule : Tree → ℕ → ℕ → List Rec
call_rule t e c = only (is_field t writers (callee_of t c) && is_write t e (called_base t c)) (rec 51 c 0)

unfoldable pub statement_rules : Tree → ℕ → ℕ → List Rec
statement_rules t e s = keep (has (t.kind s) assign) (assign_rule t e) s ++ below t call s (call_rule t e)

unfoldable pub group51 : Tree → List Rec
group51 t = below t entry t.root (λ e. below t statement e (statement_rules t e))

unfoldable pub access : Tree → List Rec
access t = group50 t ++ group51 t
