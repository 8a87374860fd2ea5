-- `clause_of` meets its contract: no name is inside the parameter's type, or the first clause of that name gives the mark.
use native.Mathlib.Omega.{arith}
use Prim.Native.Nat.{◌<◌}
use mathlib.Core.Path.{◌∙◌}
use mathlib.Core.Logic.{inl}
use Rattle.linear_parts.proofs.Parts.{param-type}
use Rattle.lot_words.proofs.Marks.{assets-of, no-clause, clause-is, clause-few}
use Rattle.lot_words.proofs.clause_of.Goals as goal

pub inner_of-inner-requires : goal.inner_of-inner-requires
inner_of-inner-requires c = let T = c.requires.0 in (assets-of T, (param-type T.view c.requires.1 (c.requires.2 T.view)).0)

pub returns-then-inner-eq0 : goal.returns-then-inner-eq0
returns-then-inner-eq0 c = (omega arith, λ T. no-clause T c.args.p (param-type T.view c.requires.1 (c.requires.2 T.view)).1 (c.inner_of-inner.ensures (assets-of T)) c.if-inner-eq0.true)

pub at-requires : goal.at-requires
at-requires c =
    let A = assets-of c.requires.0 in
    let I = c.inner_of-inner.ensures A in
    let n = c.if-inner-eq0.false in
    let l : 0 < c.inner_of-inner.result = omega (arith, n) in
    record { view = A.view; here = I.here l; carries = inl (I.name l) }

pub returns : goal.returns
returns c =
    let n = c.if-inner-eq0.false in
    let l : 0 < c.inner_of-inner.result = omega (arith, n) in
    let T = c.requires.0 in
    let f = clause-few T c.args.p (param-type T.view c.requires.1 (c.requires.2 T.view)).1 (c.inner_of-inner.ensures (assets-of T)) l in
    let e = c.at.ensures.1 T.view _ T.first_clauses in (
      omega arith,
      λ T. c.at.ensures.1 T.view _ T.first_clauses ∙ clause-is T c.args.p (param-type T.view c.requires.1 (c.requires.2 T.view)).1 (c.inner_of-inner.ensures (assets-of T)) l,
    )
