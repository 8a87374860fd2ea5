-- An image whose header is in order: where its three parts lie, and that the refusal is the one that they are judged with.
use Prim.Native.Nat.{ℕ, ◌+◌, ◌*◌, ◌≤◌}
use mathlib.Core.Path.{◌≡◌, ◌∙◌, sym, ap}
use mathlib.Core.List.{List}
use native.Mathlib.Omega.{arith}
use lib.ListN.{length}
use Rattle.std.specs.Prelude.{Result, Ok, Err}
use Rattle.image.specs.declared.Image.{Image}
use Rattle.image.specs.declared.Refusal.{Refusal}
use Rattle.image.specs.Refusals.{refusal_of, number_of}
use Rattle.image.specs.Text.{slice}
use Rattle.image.specs.Admit.{names_at, text_at, node_count, name_count, header_refusal, body_refusal, refusal, admission_of}
use Rattle.image.proofs.Refusals.{known, positive}
use Rattle.image.proofs.Verdict.{laid, admitted-is, refused-is, refused-early, judged-at, admission-no}

abbrev failed : Refusal → Result Image Refusal
failed k = Err k

module _ (s : List ℕ) {i : Image} (e : Ok i ≡ admission_of (header_refusal s) s) where
  got : (header_refusal s ≡ 0) × (i ≡ record { nodes = node_count s; names = name_count s })
  got = admitted-is _ s i (sym e)

  pub bounds : (1 ≤ i.nodes) × (i.nodes ≤ 2048) × (i.names ≤ 1024) × (24 + 16 * i.nodes + 2 * (i.names + 1) ≤ length s)
  bounds =
      let l = laid s got.0 in
      let n = ap (λ (j : Image). j.nodes) got.1 in
      let m = ap (λ (j : Image). j.names) got.1 in
      omega arith

  -- the parts from a and from b on
  module _ {r a b : ℕ} (at-names : a ≡ names_at i.nodes) (at-text : b ≡ text_at i.nodes i.names) (judged : r ≡ body_refusal (slice s 24 a) (slice s a b) (slice s b (length s)) i.nodes i.names) where
    pub found : r ≡ refusal s
    found =
        judged
        ∙ ap (λ (x : ℕ). body_refusal (slice s 24 x) (slice s x b) (slice s b (length s)) i.nodes i.names) at-names
        ∙ ap (λ (x : ℕ). body_refusal (slice s 24 (names_at i.nodes)) (slice s (names_at i.nodes) x) (slice s x (length s)) i.nodes i.names) at-text
        ∙ judged-at s i got.0 got.1

    pub admits : r ≡ 0 → Ok i ≡ admission_of (refusal s) s
    admits z = e ∙ ap (λ (x : ℕ). admission_of x s) (got.0 ∙ sym z ∙ found)

    pub refuses : (k : Refusal) → r ≡ number_of k → Err k ≡ admission_of (refusal s) s
    refuses k z =
        ap failed (sym (known k) ∙ ap refusal_of (sym z))
        ∙ admission-no s r (λ n. positive k (sym z ∙ n))
        ∙ ap (λ (x : ℕ). admission_of x s) found

pub refuses-early : (s : List ℕ) {k : Refusal} → Err k ≡ admission_of (header_refusal s) s → Err k ≡ admission_of (refusal s) s
refuses-early s {k} e = e ∙ ap (λ (x : ℕ). admission_of x s) (sym (refused-early s (refused-is _ s k (sym e)).0))
