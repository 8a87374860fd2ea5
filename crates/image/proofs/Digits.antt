-- The code's numbers for rows and kinds (specs/Digits.antt), read: the states of the rows, and the facts of a kind.
use Prim.Native.Nat.{ℕ, zero, suc, ◌+◌, ◌*◌, ◌-◌, ◌/◌, ◌%◌, ◌<◌, ◌≤◌}
use mathlib.Core.Path.{◌≡◌, refl, ap, ◌∙◌, sym}
use mathlib.Core.Bool.{Bool, true, false, beq, true≢false}
use mathlib.Core.Logic.{⊎_elim}
use native.Mathlib.Omega.{arith}
use borrow.Author.Tests.{ltb-true, eqb-true, le-ltb, lt-ltb, ne_eqb}
use lib.Dec.{ltb, leb, eqb}
use mathlib.Core.List.{List}
use lib.ListN.{get_or, set, get_or-eq_default}
use Rattle.image.specs.Pick.{pick, both, every}
use Rattle.image.specs.Digits.{families, family_of, part_at, takes, after_from, place_after, ends_from, ends, row_of, states, state_of, laid_below, next_states, Leads, next_state, may_end, kind_facts, kinds_from, kind_table}
use Rattle.image.specs.Tree.{carries}
use Rattle.image.proofs.Decide.{lt-or-ge}
use Rattle.image.proofs.Every.{both_left, both_right, every-at}
use Rattle.image.proofs.Rows.{nothing, fails-one, done, done_end}

-- within n places from q on there stands a part that may not be left out, or a row's end
stops_in : ℕ → ℕ → Bool
stops_in zero q = false
stops_in (suc n) q = pick (eqb (part_at q % 4) 3) true (pick (eqb (part_at q % 4) 0) true (stops_in n (q + 1)))

-- so no more turns are needed
module _ (q f : ℕ) where
  taking : ℕ → ℕ
  taking x = pick (takes (part_at q) f) (pick (eqb (part_at q % 4) 2) q (q + 1)) (pick (both (leb 1 (part_at q % 4)) (leb (part_at q % 4) 2)) x 0)

  taking-same : (a b : Bool) (x y : ℕ) (s : Bool) → eqb (part_at q % 4) 3 ≡ a → eqb (part_at q % 4) 0 ≡ b → pick a true (pick b true s) ≡ true → (s ≡ true → x ≡ y) → taking x ≡ taking y
  unfolding taking
  taking-same true b x y s u v t g = rw (eqb-true (part_at q % 4) 3 u) refl
  taking-same false true x y s u v t g = rw (eqb-true (part_at q % 4) 0 v) refl
  taking-same false false x y s u v t g = ap taking (g t)

  closing : Bool → Bool
  closing x = pick (eqb (part_at q % 4) 3) true (pick (eqb (part_at q % 4) 0) false x)

  closing_same : (a b : Bool) (x y s : Bool) → eqb (part_at q % 4) 3 ≡ a → eqb (part_at q % 4) 0 ≡ b → pick a true (pick b true s) ≡ true → (s ≡ true → x ≡ y) → closing x ≡ closing y
  unfolding closing
  closing_same true b x y s u v t g = simp u
  closing_same false true x y s u v t g = simp (u, v)
  closing_same false false x y s u v t g = ap closing (g t)

after_more : (n k q f : ℕ) → n ≤ k → stops_in n q ≡ true → after_from k q f ≡ after_from n q f
unfolding stops_in after_from taking
after_more zero k q f l e = absurd (true≢false (sym e))
after_more (suc n) zero q f l e = absurd (omega arith)
after_more (suc n) (suc k) q f l e = taking-same q f (eqb (part_at q % 4) 3) (eqb (part_at q % 4) 0) _ _ (stops_in n (q + 1)) refl refl e (λ t. after_more n k (q + 1) f (omega arith) t)

ends_more : (n k q : ℕ) → n ≤ k → stops_in n q ≡ true → ends_from k q ≡ ends_from n q
unfolding stops_in ends_from closing
ends_more zero k q l e = absurd (true≢false (sym e))
ends_more (suc n) zero q l e = absurd (omega arith)
ends_more (suc n) (suc k) q l e = closing_same q 0 (eqb (part_at q % 4) 3) (eqb (part_at q % 4) 0) _ _ (stops_in n (q + 1)) refl refl e (λ t. ends_more n k (q + 1) (omega arith) t)

-- what the states are to say of place q, and of a child of family f there
turns : ℕ → ℕ
turns q = pick (ltb q 226) 5 1

family_at : ℕ → ℕ → Bool
family_at q f = eqb (next_state (state_of q) f) (state_of (after_from (turns q) q f))

rule_at : ℕ → Bool
rule_at q = both (stops_in (turns q) q) (both (beq (ends_from (turns q) q) (may_end (state_of q))) (both (ltb (state_of q) 31) (every (family_at q) 16)))

rules-hold : every rule_at 230 ≡ true
unfolding every rule_at family_at turns stops_in after_from ends_from part_at states state_of laid_below next_states
rules-hold = refl

beq-so : (a b : Bool) → beq a b ≡ true → a ≡ b
beq-so true true e = refl
beq-so true false e = absurd (true≢false (sym e))
beq-so false true e = absurd (true≢false (sym e))
beq-so false false e = refl

turns-few : (q : ℕ) → q < 230 → turns q ≤ 230 - q
unfolding turns
turns-few q l = ⊎_elim (λ (h : q < 226). rw (lt-ltb q 226 h) (omega arith)) (λ (h : 226 ≤ q). rw (le-ltb q 226 h) (omega arith)) (lt-or-ge q 226)

state-none : state_of 0 ≡ 0
unfolding state_of states part_at
state-none = refl

state-past : (q : ℕ) → 230 ≤ q → state_of q ≡ 0
unfolding state_of states
state-past q h = get_or-eq_default states 0 h

none_after : (f : ℕ) → place_after 0 f ≡ 0
unfolding part_at
none_after f = fails-one 0 f 60 (omega arith) refl (nothing 60 f refl refl) (omega arith)

module _ (q : ℕ) (l : q < 230) where
  stops : stops_in (turns q) q ≡ true
  unfolding rule_at
  stops = both_left (stops_in (turns q) q) _ (every-at rule_at 230 q rules-hold l)

  rest : both (beq (ends_from (turns q) q) (may_end (state_of q))) (both (ltb (state_of q) 31) (every (family_at q) 16)) ≡ true
  unfolding rule_at
  rest = both_right (stops_in (turns q) q) _ (every-at rule_at 230 q rules-hold l)

  ends-in : ends q ≡ may_end (state_of q)
  ends-in = ends_more (turns q) (230 - q) q (turns-few q l) stops ∙ beq-so _ _ (both_left (beq (ends_from (turns q) q) (may_end (state_of q))) _ rest)

  small-in : state_of q < 31
  small-in = ltb-true _ _ (both_left (ltb (state_of q) 31) _ (both_right (beq (ends_from (turns q) q) (may_end (state_of q))) _ rest))

  next-in : (f : ℕ) → f < 16 → next_state (state_of q) f ≡ state_of (place_after q f)
  unfolding family_at
  next-in f h =
      eqb-true _ _ (every-at (family_at q) 16 f (both_right (ltb (state_of q) 31) _ (both_right (beq (ends_from (turns q) q) (may_end (state_of q))) _ rest)) h)
      ∙ ap state_of (sym (after_more (turns q) (230 - q) q f (turns-few q l) stops))

-- a place and its state go on alike
pub state-ends : (q : ℕ) → ends q ≡ may_end (state_of q)
state-ends q = ⊎_elim (ends-in q) (λ (h : 230 ≤ q). done_end q h ∙ sym (ap may_end (state-past q h))) (lt-or-ge q 230)

pub state-small : (q : ℕ) → state_of q < 31
state-small q = ⊎_elim (small-in q) (λ (h : 230 ≤ q). let z = state-past q h in omega arith) (lt-or-ge q 230)

pub state-next : (q f : ℕ) → f < 16 → next_state (state_of q) f ≡ state_of (place_after q f)
state-next q f h =
    ⊎_elim (λ (l : q < 230). next-in q l f h)
    (λ (l : 230 ≤ q). ap (λ (s : ℕ). next_state s f) (state-past q l ∙ sym state-none) ∙ next-in 0 (omega arith) f h ∙ ap state_of (none_after f ∙ sym (done q f l)))
    (lt-or-ge q 230)

small_at : ℕ → Bool
small_at x = ltb (get_or next_states x 0) 31

smalls-hold : every small_at 496 ≡ true
unfolding every small_at part_at states state_of after_from laid_below next_states
smalls-hold = refl

pub next_small : (x : ℕ) → x < 496 → get_or next_states x 0 < 31
unfolding small_at
next_small x l = ltb-true _ _ (every-at small_at 496 x smalls-hold l)

-- the table with one transition more
pub led : {t u v : List ℕ} {s f to : ℕ} → Leads t u s f to → t ≡ v → u ≡ set v (16 * s + f) to
led {s = s} {f = f} {to = to} l e = l.leads ∙ ap (λ (w : List ℕ). set w (16 * s + f) to) e

-- the table of kinds, at each kind and past them
table_at : ℕ → Bool
table_at k = both (eqb (get_or kind_table k 0) (kind_facts k)) (ltb (family_of k) 16)

table-holds : every table_at 46 ≡ true
unfolding every table_at kind_table kinds_from kind_facts state_of states part_at family_of carries
table-holds = refl

pub facts_at : (k : ℕ) → k < 46 → get_or kind_table k 0 ≡ kind_facts k
unfolding table_at
facts_at k l = eqb-true _ _ (both_left (eqb (get_or kind_table k 0) (kind_facts k)) _ (every-at table_at 46 k table-holds l))

pub family-past : (k : ℕ) → 46 ≤ k → family_of k ≡ 0
unfolding family_of
family-past k h = get_or-eq_default families 0 h

pub facts-past : (k : ℕ) → 46 ≤ k → 0 ≡ kind_facts k
unfolding kind_facts carries
facts-past k h =
    let a : k ≡ 12 → ⊥ = omega arith in
    let b : k ≡ 23 → ⊥ = omega arith in
    let c : k ≡ 35 → ⊥ = omega arith in
    simp (family-past k h, ne_eqb k 12 a, ne_eqb k 23 b, ne_eqb k 35 c, le-ltb k 46 h, state-none)

-- what the code takes from the facts of a kind
pub family-small : (k : ℕ) → family_of k < 16
unfolding table_at
family-small k = ⊎_elim (λ (l : k < 46). ltb-true _ _ (both_right (eqb (get_or kind_table k 0) (kind_facts k)) _ (every-at table_at 46 k table-holds l))) (λ (h : 46 ≤ k). let z = family-past k h in omega arith) (lt-or-ge k 46)

pub carries-small : (k : ℕ) → carries k < 3
unfolding carries
carries-small k = go (eqb k 12) (eqb k 23) (eqb k 35)
  where
    go : (a b c : Bool) → pick a 2 (pick b 1 (pick c 1 0)) < 3
    go true b c = omega arith
    go false true c = omega arith
    go false false true = omega arith
    go false false false = omega arith

module _ (k r : ℕ) (is : r ≡ kind_facts k) where
  parts : r ≡ family_of k + 16 * carries k + 64 * state_of (row_of k)
  unfolding kind_facts
  parts = is

  pub facts-family : r % 16 ≡ family_of k
  facts-family = let a = parts in let b = family-small k in omega arith

  pub facts-text : r / 16 % 4 ≡ carries k
  facts-text = let a = parts in let b = family-small k in let c = carries-small k in omega arith

  pub facts-row : r / 64 ≡ state_of (row_of k)
  facts-row = let a = parts in let b = family-small k in let c = carries-small k in omega arith
