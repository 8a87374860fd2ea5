-- To be skipped by a reader: what resolve finds, group by group in document 01's order. For each code of Resolve the rule that finds
-- it out at a node, and the sweep of its group. Demands 2 and 3 tie the whole, `resolve`, to the facts.
use Rattle.std.specs.Prelude.{ℕ, Bool, not, ◌&&◌, ◌||◌, List, [], ◌∷◌, ◌++◌, ltb, eqb, length}
use Rattle.image.specs.Pick.{pick}
use Rattle.rules.specs.Sweep.{keep, has, same}
use Rattle.rules.specs.Tree.{Tree, the_name, target_of, callee_of, asset, field, event, event_param, genesis, invariant, entry, bodied, invariant_entry, param, writes_reads, conserves, mints, burns, naming, limits_denies_after, name, statement, «let», emit, assign, ident, fields, peels_fields}
use Rattle.rules.specs.Words.{Q_Address, deployer, mint_asset, builtins, methods}
use Rattle.rules.specs.Record.{Rec, rec}
use Rattle.rules.specs.Preorder.{below, arguments}
use Rattle.rules.specs.ComputeVocabulary.{only, alone, some_below, first_below, calls, named, declares, first_named, at_bottom, is_ident, is_field, signers, typed}
use Rattle.rules.specs.ComputeModel.{is_state, is_state_typed, is_declared_asset, is_known_asset}
use Rattle.rules.specs.Signature.{signature}

unfoldable pub rule20 : Tree → ℕ → List Rec
rule20 t f = let g = first_named t field t.root f in only (ltb g f) (rec 20 (the_name t f) (the_name t g))

unfoldable pub group20 : Tree → List Rec
group20 t = below t field t.root (rule20 t)

unfoldable pub rule21 : Tree → ℕ → List Rec
rule21 t f = let g = first_named t event t.root f in only (ltb g f) (rec 21 (the_name t f) (the_name t g))

unfoldable pub group21 : Tree → List Rec
group21 t = below t event t.root (rule21 t)

unfoldable pub many_assets : Tree → Bool
many_assets t = some_below t asset t.root (λ b. some_below t asset t.root (λ a. ltb a b))

unfoldable pub rule22 : Tree → ℕ → List Rec
rule22 t c = only (is_ident t (mint_asset ∷ []) (callee_of t c)) (rec 22 c 0)

unfoldable pub mint_calls : Tree → List Rec
mint_calls t = below t bodied t.root (λ i. calls t i (rule22 t))

unfoldable pub group22 : Tree → List Rec
group22 t = pick (many_assets t) (mint_calls t) []

unfoldable pub first_signed : Tree → List ℕ → ℕ
first_signed t w = first_below t entry t.root (λ e. same (signature t e) w)

unfoldable pub rule23 : Tree → ℕ → List Rec
rule23 t e = let g = first_signed t (signature t e) in only (ltb g e) (rec 23 (the_name t e) (the_name t g))

unfoldable pub group23 : Tree → List Rec
group23 t = below t entry t.root (rule23 t)

unfoldable pub rule24 : Tree → ℕ → List Rec
rule24 t x = only (is_state t (t.text (the_name t x))) (rec 24 (the_name t x) 0)

unfoldable pub rule25 : Tree → ℕ → ℕ → List Rec
rule25 t e x = let g = first_named t param e x in only (ltb g x) (rec 25 (the_name t x) (the_name t g))

unfoldable pub rule26 : Tree → ℕ → ℕ → ℕ → List Rec
rule26 t e s i =
    only
    (declares t «let» e (t.text i) && (not (some_below t «let» e (λ l. ltb l s && named t (t.text i) l))))
    (rec 26 i 0)

unfoldable pub rule27 : Tree → ℕ → ℕ → List Rec
rule27 t e l = let g = first_named t «let» e l in only (ltb g l) (rec 27 l g)

unfoldable pub rule28 : Tree → ℕ → List Rec
rule28 t l = only (is_state t (t.text (the_name t l))) (rec 28 l 0)

unfoldable pub rule29 : Tree → ℕ → ℕ → List Rec
rule29 t e l = only (declares t param e (t.text (the_name t l))) (rec 29 l 0)

unfoldable pub let_rules : Tree → ℕ → ℕ → List Rec
let_rules t e l = rule27 t e l ++ (rule28 t l ++ rule29 t e l)

unfoldable pub entry_names : Tree → ℕ → List Rec
entry_names t e =
    below t param e (λ x. rule24 t x ++ rule25 t e x)
    ++ below t statement e (λ s. below t ident s (rule26 t e s) ++ keep (has (t.kind s) «let») (let_rules t e) s)

unfoldable pub group24 : Tree → List Rec
group24 t = below t entry t.root (entry_names t)

unfoldable pub rule30 : Tree → ℕ → List Rec
rule30 t m = only (not (declares t event t.root (t.text (the_name t m)))) (rec 30 m 0)

-- v is the last event of the name w; it has another number of parameters than the Emit m has arguments
unfoldable pub last_event : Tree → List ℕ → ℕ → Bool
last_event t w v =
    named t w v && (not (some_below t event t.root (λ u. ltb v u && named t w u)))

unfoldable pub unlike : Tree → ℕ → ℕ → Bool
unlike t m v = not (eqb (length (arguments t m alone)) (length (below t event_param v alone)))

unfoldable pub rule31 : Tree → ℕ → List Rec
rule31 t m =
    only (some_below t event t.root (λ v. last_event t (t.text (the_name t m)) v && unlike t m v)) (rec 31 m 0)

unfoldable pub emits : Tree → List ℕ → List Rec
emits t ks = below t ks t.root (λ i. below t emit i (λ m. rule30 t m ++ rule31 t m))

unfoldable pub group30 : Tree → List Rec
group30 t = emits t entry ++ emits t genesis

unfoldable pub rule32 : Tree → ℕ → List Rec
rule32 t p = only (same (t.text p) deployer) (rec 32 p 0)

unfoldable pub deployer_in : Tree → ℕ → List Rec
deployer_in t i =
    signers t i (rule32 t)
    ++ (below t statement i (λ s. below t ident s (rule32 t))
    ++ below t limits_denies_after i (λ c. below t ident c (rule32 t)))

unfoldable pub deployer_of : Tree → ℕ → List Rec
deployer_of t i =
    keep (has (t.kind i) entry) (deployer_in t) i
    ++ keep (has (t.kind i) invariant) (λ v. below t ident v (rule32 t)) i

unfoldable pub group32 : Tree → List Rec
group32 t = below t invariant_entry t.root (deployer_of t)

unfoldable pub rule33 : Tree → ℕ → List Rec
rule33 t s =
    only (at_bottom t fields (target_of t s) (λ r. eqb (t.kind r) 35 && not (is_state t (t.text r)))) (rec 33 s 0)

unfoldable pub rule34 : Tree → ℕ → List Rec
rule34 t c =
    only (not (is_ident t builtins (callee_of t c) || is_field t methods (callee_of t c))) (rec 34 c 0)

unfoldable pub genesis_rules : Tree → ℕ → List Rec
genesis_rules t g = below t assign g (rule33 t) ++ calls t g (rule34 t)

unfoldable pub group33 : Tree → List Rec
group33 t = below t genesis t.root (genesis_rules t)

unfoldable pub rule35 : Tree → ℕ → List Rec
rule35 t p = only (not (is_state t (t.text p))) (rec 35 p 0)

unfoldable pub clause_rule : Tree → ℕ → ℕ → List Rec
clause_rule t k p =
    only (has k writes_reads && not (is_state t (t.text p))) (rec 36 p 0)
    ++ (only (has k conserves && not (is_known_asset t (t.text p))) (rec 37 p 0)
    ++ (only (has k mints && not (is_declared_asset t (t.text p))) (rec 38 p 0)
    ++ only (has k burns && not (is_declared_asset t (t.text p))) (rec 39 p 0)))

unfoldable pub is_address : Tree → ℕ → ℕ → Bool
is_address t e b =
    eqb (t.kind b) 36
    || (eqb (t.kind b) 35
    && (is_state_typed t Q_Address (t.text b)
    || (some_below t param e (λ x. named t (t.text b) x && typed t Q_Address x))))

unfoldable pub rule40 : Tree → ℕ → ℕ → List Rec
rule40 t e c = only (at_bottom t peels_fields (callee_of t c) (is_address t e)) (rec 40 c 0)

-- all 40s of an entry, then its 34s
unfoldable pub entry_rules : Tree → ℕ → List Rec
entry_rules t e =
    signers t e (rule35 t)
    ++ (below t naming e (λ c. below t name c (clause_rule t (t.kind c)))
    ++ (calls t e (rule40 t e) ++ calls t e (rule34 t)))

unfoldable pub group35 : Tree → List Rec
group35 t = below t entry t.root (entry_rules t)

-- Resolve, groups in this order
unfoldable pub resolve : Tree → List Rec
resolve t =
    group20 t
    ++ (group21 t
    ++ (group22 t
    ++ (group23 t
    ++ (group24 t
    ++ (group30 t
    ++ (group32 t
    ++ (group33 t ++ group35 t)))))))
