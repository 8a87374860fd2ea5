-- What the contracts settle: of each function, two results that its contract allows are equal, and so is what it leaves in lent memory.
use Prim.Native.Nat.{ℕ}
use mathlib.Core.Path.{◌≡◌, refl, ◌∙◌, ap}
use mathlib.Core.List.{List, [], ◌∷◌}
use Rattle.typeck.proofs.Settles.{Settles, SettlesBoth, same}
use Rattle.isonkaypu.proofs.isonkaypu_refusal.Kinds as refusal-kinds
use Rattle.isonkaypu.proofs.isonkaypu_refusal.Reads as refusal-reads
use Rattle.isonkaypu.proofs.isonkaypu_resolve.Kinds as resolve-kinds
use Rattle.isonkaypu.proofs.isonkaypu_resolve.Reads as resolve-reads
use Rattle.isonkaypu.proofs.isonkaypu_access.Kinds as access-kinds
use Rattle.isonkaypu.proofs.isonkaypu_access.Reads as access-reads
use Rattle.isonkaypu.proofs.isonkaypu_linear.Kinds as linear-kinds
use Rattle.isonkaypu.proofs.isonkaypu_linear.Reads as linear-reads
use Rattle.isonkaypu.proofs.isonkaypu_verdicts.Kinds as verdicts-kinds
use Rattle.isonkaypu.proofs.isonkaypu_verdicts.Reads as verdicts-reads
use Rattle.isonkaypu.proofs.isonkaypu_is_state.Kinds as is-state-kinds
use Rattle.isonkaypu.proofs.isonkaypu_is_state.Reads as is-state-reads
use Rattle.isonkaypu.proofs.isonkaypu_is_declared_asset.Kinds as is-declared-asset-kinds
use Rattle.isonkaypu.proofs.isonkaypu_is_declared_asset.Reads as is-declared-asset-reads
use Rattle.isonkaypu.proofs.isonkaypu_is_known_asset.Kinds as is-known-asset-kinds
use Rattle.isonkaypu.proofs.isonkaypu_is_known_asset.Reads as is-known-asset-reads
use Rattle.isonkaypu.proofs.isonkaypu_list.Kinds as list-kinds
use Rattle.isonkaypu.proofs.isonkaypu_list.Reads as list-reads
use Rattle.isonkaypu.proofs.isonkaypu_resolve_list.Kinds as resolve-list-kinds
use Rattle.isonkaypu.proofs.isonkaypu_resolve_list.Reads as resolve-list-reads
use Rattle.isonkaypu.proofs.isonkaypu_access_list.Kinds as access-list-kinds
use Rattle.isonkaypu.proofs.isonkaypu_access_list.Reads as access-list-reads
use Rattle.isonkaypu.proofs.isonkaypu_linear_list.Kinds as linear-list-kinds
use Rattle.isonkaypu.proofs.isonkaypu_linear_list.Reads as linear-list-reads
use Rattle.isonkaypu.proofs.isonkaypu_why.Kinds as why-kinds
use Rattle.isonkaypu.proofs.isonkaypu_why.Reads as why-reads

also : {a b : ℕ} {l m : List ℕ} → a ≡ b → l ≡ m → a ∷ l ≡ b ∷ m
also {a} {b} {l} {m} e f = ap (λ (x : ℕ). x ∷ l) e ∙ ap (λ (x : List ℕ). b ∷ x) f

pub refusal-settles : Settles refusal-kinds.ps refusal-kinds.r refusal-reads.Learnt
refusal-settles κs a x y e f p q = same p q

-- place and span words
pub resolve-settles : SettlesBoth resolve-kinds.ps resolve-kinds.r resolve-reads.Learnt (λ κs e. e.1.0.now ∷ e.1.1.0.now ∷ e.1.1.1.0.now ∷ [])
resolve-settles κs a x y e f p q = (same p.0 q.0, also (same p.1 q.1) (also (same p.2 q.2) (also (same p.3 q.3) refl)))

-- place and span words
pub access-settles : SettlesBoth access-kinds.ps access-kinds.r access-reads.Learnt (λ κs e. e.1.0.now ∷ e.1.1.0.now ∷ e.1.1.1.0.now ∷ [])
access-settles κs a x y e f p q = (same p.0 q.0, also (same p.1 q.1) (also (same p.2 q.2) (also (same p.3 q.3) refl)))

-- place and span words
pub linear-settles : SettlesBoth linear-kinds.ps linear-kinds.r linear-reads.Learnt (λ κs e. e.1.0.now ∷ e.1.1.0.now ∷ e.1.1.1.0.now ∷ [])
linear-settles κs a x y e f p q = (same p.0 q.0, also (same p.1 q.1) (also (same p.2 q.2) (also (same p.3 q.3) refl)))

pub verdicts-settles : SettlesBoth verdicts-kinds.ps verdicts-kinds.r verdicts-reads.Learnt (λ κs e. e.1.0.now)
verdicts-settles κs a x y e f p q = (refl, same p q)

pub is-state-settles : SettlesBoth is-state-kinds.ps is-state-kinds.r is-state-reads.Learnt (λ κs e. e.1.1.0.now)
is-state-settles κs a x y e f p q = (same p.0 q.0, same p.1 q.1)

pub is-declared-asset-settles : SettlesBoth is-declared-asset-kinds.ps is-declared-asset-kinds.r is-declared-asset-reads.Learnt (λ κs e. e.1.1.0.now)
is-declared-asset-settles κs a x y e f p q = (same p.0 q.0, same p.1 q.1)

pub is-known-asset-settles : SettlesBoth is-known-asset-kinds.ps is-known-asset-kinds.r is-known-asset-reads.Learnt (λ κs e. e.1.1.0.now)
is-known-asset-settles κs a x y e f p q = (same p.0 q.0, same p.1 q.1)

-- count and words
pub list-settles : SettlesBoth list-kinds.ps list-kinds.r list-reads.Learnt (λ κs e. e.1.1.0.now ∷ e.1.0.now)
list-settles κs a x y e f p q = (same p.0.0 q.0.0, also (same p.0.1 q.0.1) (same p.1 q.1))

-- count and words
pub resolve-list-settles : SettlesBoth resolve-list-kinds.ps resolve-list-kinds.r resolve-list-reads.Learnt (λ κs e. e.1.1.0.now ∷ e.1.0.now)
resolve-list-settles κs a x y e f p q = (same p.0.0 q.0.0, also (same p.0.1 q.0.1) (same p.1 q.1))

-- count and words
pub access-list-settles : SettlesBoth access-list-kinds.ps access-list-kinds.r access-list-reads.Learnt (λ κs e. e.1.1.0.now ∷ e.1.0.now)
access-list-settles κs a x y e f p q = (same p.0.0 q.0.0, also (same p.0.1 q.0.1) (same p.1 q.1))

-- count and words
pub linear-list-settles : SettlesBoth linear-list-kinds.ps linear-list-kinds.r linear-list-reads.Learnt (λ κs e. e.1.1.0.now ∷ e.1.0.now)
linear-list-settles κs a x y e f p q = (same p.0.0 q.0.0, also (same p.0.1 q.0.1) (same p.1 q.1))

-- count and words
pub why-settles : SettlesBoth why-kinds.ps why-kinds.r why-reads.Learnt (λ κs e. e.1.1.1.0.now ∷ e.1.1.0.now)
why-settles κs a x y e f p q = (same p.0.0 q.0.0, also (same p.0.1 q.0.1) (same p.1 q.1))
