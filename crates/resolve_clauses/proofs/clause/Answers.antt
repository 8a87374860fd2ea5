-- `clause` meets its contract: each kind of clause with its table.
use mathlib.Core.Path.{◌∙◌, sym}
use native.Mathlib.Omega.{arith}
use Rattle.records.proofs.Laws.{added-by, added-nothing}
use Rattle.records.proofs.Sweep.{keep-none}
use Rattle.nodes.specs.Shown.{tree_of}
use Rattle.records.proofs.Laws.{held-as}
use Rattle.resolve_clauses.proofs.Names.{burns-39, by-declared, by-known, by_state, conserves-37, mints-38, other-36, state-36}
use Rattle.resolve_clauses.proofs.clause.Goals as goal

pub returns-in-16 : goal.returns-in-16
returns-in-16 c = added-by (held-as (λ T. by-known T)) (λ h. conserves-37 (tree_of h.seen.view) _ (sym (c.kind.ensures h.seen.view) ∙ c.in-16.is)) c.unmarked.ensures

pub returns-in-17 : goal.returns-in-17
returns-in-17 c = added-by (held-as (λ T. by-declared T)) (λ h. mints-38 (tree_of h.seen.view) _ (sym (c.kind.ensures h.seen.view) ∙ c.in-17.is)) c.unmarked-in-17.ensures

pub returns-in-18 : goal.returns-in-18
returns-in-18 c = added-by (held-as (λ T. by-declared T)) (λ h. burns-39 (tree_of h.seen.view) _ (sym (c.kind.ensures h.seen.view) ∙ c.in-18.is)) c.unmarked-in-18.ensures

pub returns-in-14-to-15 : goal.returns-in-14-to-15
returns-in-14-to-15 c = added-by (held-as (λ T. by_state T)) (λ h. let e = c.kind.ensures h.seen.view in state-36 (tree_of h.seen.view) _ (omega arith) (omega arith)) c.unmarked-in-14-to-15.ensures

pub returns-in_default : goal.returns-in_default
returns-in_default c = added-nothing (λ h. let e = c.kind.ensures h.seen.view in keep-none _ _ (other-36 (tree_of h.seen.view) _ (λ d. omega arith) (λ d. omega arith) (λ d. omega arith) (λ d. omega arith) (λ d. omega arith)))

pub returns-in_default-2 : goal.returns-in_default-2
returns-in_default-2 c = added-nothing (λ h. let e = c.kind.ensures h.seen.view in keep-none _ _ (other-36 (tree_of h.seen.view) _ (λ d. omega arith) (λ d. omega arith) (λ d. omega arith) (λ d. omega arith) (λ d. omega arith)))

pub unmarked-requires : goal.unmarked-requires
unmarked-requires c = (by-known c.requires.0, c.requires.1, c.requires.2, c.requires.3)

pub unmarked-requires-in-17 : goal.unmarked-requires-in-17
unmarked-requires-in-17 c = (by-declared c.requires.0, c.requires.1, c.requires.2, c.requires.3)

pub unmarked-requires-in-18 : goal.unmarked-requires-in-18
unmarked-requires-in-18 c = (by-declared c.requires.0, c.requires.1, c.requires.2, c.requires.3)

pub unmarked-requires-in-14-to-15 : goal.unmarked-requires-in-14-to-15
unmarked-requires-in-14-to-15 c = (by_state c.requires.0, c.requires.1, c.requires.2, c.requires.3)
