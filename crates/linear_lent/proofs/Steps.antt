-- What a step does to the state, and to all the steps that are left.
use Prim.Native.Nat.{ℕ, suc, ◌-◌, ◌<◌}
use mathlib.Core.Path.{◌≡◌, refl, ap, ◌∙◌, sym, subst}
use mathlib.Core.Bool.{Bool, true, false}
use mathlib.Core.List.{List}
use native.Mathlib.Omega.{arith}
use lib.Dec.{eqb, leb}
use lib.ListN.{set, get_or}
use Rattle.image.specs.Pick.{pick}
use Rattle.linear_table.specs.declared.Row.{Row}
use Rattle.linear_table.specs.Table.{nth_row, row_in, blank_row}
use Rattle.linear_steps.specs.declared.State.{State}
use Rattle.linear_steps.specs.declared.Turn.{Turn}
use Rattle.linear_steps.specs.Step.{judge_row, row_before, next_of, step_of, state_with, first_found, found_at, start_of}
use Rattle.linear_lent.specs.Lent.{drove}

before-in : (i : ℕ) → i < 511 → row_before i < 511
before-in i h = go (eqb i 0)
  where
    go : (b : Bool) → pick b 510 (i - 1) < 511
    go true = omega arith
    go false = omega arith

pub start-in : (cells : List ℕ) → (start_of cells).at < 511
unfolding start_of
start-in cells = go (eqb (get_or cells 2045 0) 0)
  where
    go : (b : Bool) → (pick b (state_with 1022 (first_found (get_or cells 2044 0))) (state_with 0 (found_at (get_or cells 2045 0) 0))).at < 511
    go true = omega arith
    go false = omega arith

module _ (cells : List ℕ) (c : State) (r : Row) where
  step_left : (step_of cells c r).state.left ≡ c.left - 1
  unfolding step_of
  step_left = go (leb 512 c.left)
    where
      go : (b : Bool) → (pick {A = Turn} b (record { row = row_in cells c.at; state = next_of c c.found }) (record { row = blank_row; state = next_of c (judge_row r c.found) })).state.left ≡ c.left - 1
      go true = refl
      go false = refl

  step-at : (step_of cells c r).state.at ≡ row_before c.at
  unfolding step_of
  step-at = go (leb 512 c.left)
    where
      go : (b : Bool) → (pick {A = Turn} b (record { row = row_in cells c.at; state = next_of c c.found }) (record { row = blank_row; state = next_of c (judge_row r c.found) })).state.at ≡ row_before c.at
      go true = refl
      go false = refl

-- no step is left
pub none_left : (cells : List ℕ) (c : State) (zs : List Row) → 0 ≡ c.left → (c, zs) ≡ drove cells c.left c zs
unfolding drove
none_left cells c zs e = ap (λ (n : ℕ). drove cells n c zs) e

module _ (cells : List ℕ) (c : State) (zs : List Row) (t : Turn) (e : t ≡ step_of cells c (nth_row zs c.at)) (more : 0 < c.left) where
  pub falls : t.state.left < c.left
  falls = let l = ap (λ (u : Turn). u.state.left) e ∙ step_left cells c (nth_row zs c.at) in omega (arith, more, l)

  pub stays-in : c.at < 511 → t.state.at < 511
  stays-in h = let l : t.state.at ≡ row_before c.at = ap (λ (u : Turn). u.state.at) e ∙ step-at cells c (nth_row zs c.at) in let k = before-in c.at h in subst (λ (n : ℕ). n < 511) (sym l) k

  left_is : c.left ≡ suc (c.left - 1)
  left_is = omega (arith, more)

  pub stepped : drove cells t.state.left t.state (set zs c.at t.row) ≡ drove cells c.left c zs
  unfolding drove
  stepped =
      let u = step_of cells c (nth_row zs c.at) in
      subst (λ (u : Turn). drove cells u.state.left u.state (set zs c.at u.row) ≡ drove cells c.left c zs) (sym e)
      (ap (λ (n : ℕ). drove cells n u.state (set zs c.at u.row)) (step_left cells c (nth_row zs c.at)) ∙ sym (ap (λ (n : ℕ). drove cells n c zs) left_is))
