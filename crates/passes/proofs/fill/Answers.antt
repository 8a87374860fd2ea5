-- `fill` meets its contract: the three passes, each from where the last one stopped.
use native.Mathlib.Omega.{arith}
use Rattle.rules.specs.Tree.{tree}
use Rattle.passes.proofs.Laws.{room-resolve, room-access, room-linear, laid-all}
use Rattle.passes.proofs.fill.Goals as goal

pub list_after-resolve-requires : goal.list_after-resolve-requires
list_after-resolve-requires c =
    let a = c.args in
    let p = c.requires in
    let r = room-resolve (tree a.image.now) a.words.now p.1 in
    (p.0, omega arith)

pub list_after-access-requires : goal.list_after-access-requires
list_after-access-requires c =
    let a = c.args in
    let p = c.requires in
    let r = room-access (tree a.image.now) a.words.now p.1 c.list_after-resolve.ensures in
    (p.0, omega arith)

pub list_after-requires : goal.list_after-requires
list_after-requires c =
    let a = c.args in
    let p = c.requires in
    let r = room-linear (tree a.image.now) a.words.now p.1 c.list_after-resolve.ensures c.list_after-access.ensures in
    (p.0, omega arith)

pub returns : goal.returns
returns c =
    let a = c.args in
    let p = c.requires in
    laid-all (tree a.image.now) a.words.now p.1 c.list_after-resolve.ensures c.list_after-access.ensures c.list_after.ensures
