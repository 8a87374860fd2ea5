-- `questions_differ` meets its contract: one question after the other.
use borrow.Author.Rules.{rules}
use Prim.Native.Nat.{◌+◌}
use Rattle.rules.specs.Model.{is_state, is_declared_asset, is_known_asset}
use Rattle.replay.proofs.Laws.{replied-differs, replied-told}
use Rattle.replay.proofs.questions_differ.Goals as goal

pub returns-in_err-a-clause-err : goal.returns-in_err-a-clause-err
returns-in_err-a-clause-err g c =
    let one = replied-told is_state c.args.file.now c.args.at c.args.case.refusal c.args.image.now c.args.name.now c.is_state-state.ensures c.in_err-a.ensures.err in search rules

pub returns-in_err-b-clause-err : goal.returns-in_err-b-clause-err
returns-in_err-b-clause-err g c =
    let one = replied-told is_declared_asset c.args.file.now (c.args.at + 1) c.args.case.refusal c.args.image.now c.args.name.now c.is_declared_asset-declared.ensures c.in_err-b.ensures.err in search rules

pub returns-in_err-c-clause-err : goal.returns-in_err-c-clause-err
returns-in_err-c-clause-err g c =
    let one = replied-told is_known_asset c.args.file.now (c.args.at + 2) c.args.case.refusal c.args.image.now c.args.name.now c.is_known_asset-known.ensures c.in_err-c.ensures.err in search rules

pub returns-clause-ok : goal.returns-clause-ok
returns-clause-ok g c =
    let a' = replied-differs is_state c.args.file.now c.args.at c.args.case.refusal c.args.image.now c.args.name.now c.in_ok-a.ensures.ok.0 c.is_state-state.ensures in
    let b' = replied-differs is_declared_asset c.args.file.now (c.args.at + 1) c.args.case.refusal c.args.image.now c.args.name.now c.in_ok-b.ensures.ok.0 c.is_declared_asset-declared.ensures in
    let c' = replied-differs is_known_asset c.args.file.now (c.args.at + 2) c.args.case.refusal c.args.image.now c.args.name.now c.in_ok-c.ensures.ok.0 c.is_known_asset-known.ensures in
    search rules
