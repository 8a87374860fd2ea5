-- `last_groups` meets its contract: the tables are made, and the groups follow in order.
use native.Mathlib.Omega.{arith}
use mathlib.Core.Path.{refl}
use Rattle.records.proofs.Laws.{added-most, added-by, added-join}
use Rattle.resolve.proofs.Lent.{none, typing-of, asset-words-of, worded-of, tables-of}
use Rattle.resolve.proofs.last_groups.Goals as goal

pub group33-total-requires : goal.group33-total-requires
group33-total-requires c =
    let T = c.requires.0 in
    let e = T.view.shown.admitted in
    (worded-of T refl (c.mark_builtins.ensures _ e T.words_are.builtins_are (none T)) (c.mark_methods.ensures _ e T.words_are.methods_are (none T)), T.root, omega arith, c.requires.2)

pub group35-requires : goal.group35-requires
group35-requires c =
    let T = c.requires.0 in
    let e = T.view.shown.admitted in
    let f = c.group33-total.ensures.few in
    let g = c.requires.1 in
    let a = c.mark_declared.ensures T.view (none T) in
    (tables-of T refl (c.mark_builtins.ensures _ e T.words_are.builtins_are (none T)) (c.mark_methods.ensures _ e T.words_are.methods_are (none T)) refl a (c.mark_known.ensures (asset-words-of T) a) (c.mark_fields.ensures (typing-of T) (none T)), T.root, omega arith)

pub returns : goal.returns
returns c =
    added-most (omega arith)
    (added-join (added-by (λ T. let e = T.view.shown.admitted in worded-of T refl (c.mark_builtins.ensures _ e T.words_are.builtins_are (none T)) (c.mark_methods.ensures _ e T.words_are.methods_are (none T))) (λ T. refl) c.group33-total.ensures)
    (added-by (λ T. let e = T.view.shown.admitted in let a = c.mark_declared.ensures T.view (none T) in tables-of T refl (c.mark_builtins.ensures _ e T.words_are.builtins_are (none T)) (c.mark_methods.ensures _ e T.words_are.methods_are (none T)) refl a (c.mark_known.ensures (asset-words-of T) a) (c.mark_fields.ensures (typing-of T) (none T))) (λ T. refl) c.group35.ensures))
