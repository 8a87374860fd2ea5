-- Span words are carried, never judged (document 01, "The image"): what it is that two images differ in them alone.
use Rattle.std.specs.Prelude.{ℕ, ◌+◌, ◌*◌, ◌<◌, ◌≤◌, ◌≡◌, List, length, get_or}
use Rattle.image.specs.Admit.{node_count, refusal}
use Rattle.rules.specs.Tree.{tree}

-- byte k of the image s is one of the last eight, the two span words, of a node
abbrev pub SpanByte : List ℕ → ℕ → Type 0
SpanByte s k = (i : ℕ) × (i < node_count s) × (24 + 16 * i + 8 ≤ k) × (k < 24 + 16 * i + 16)

pub record ButForSpans (s r : List ℕ) : Type 0 where
  pub long : length s ≡ length r
  pub same : (k : ℕ) → (SpanByte s k → ⊥) → get_or s k 0 ≡ get_or r k 0

-- two such images are refused by the same number, and have the same tree
abbrev pub Unjudged : Type 0
Unjudged = (s r : List ℕ) → ButForSpans s r → (refusal s ≡ refusal r) × (tree s ≡ tree r)
