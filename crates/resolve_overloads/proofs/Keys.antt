-- Entries of one signature have one key; and the key of an entry parameter by parameter.
use Prim.Native.Nat.{ℕ, zero, suc, ◌+◌, ◌*◌, ◌-◌, ◌<◌, ◌≤◌}
use native.Mathlib.Omega.{arith}
use mathlib.Core.Path.{◌≡◌, refl, sym, ap, ap₂, ◌∙◌}
use mathlib.Core.Bool.{Bool, true, false, true≢false, not}
use mathlib.Core.List.{List}
use Rattle.image.specs.Pick.{pick, both}
use Rattle.image.specs.Admit.{refusal, node_count}
use Rattle.image.proofs.Every.{both_left, both_right}
use Rattle.rules.specs.Sweep.{same}
use Rattle.rules.specs.Tree.{tree}
use Rattle.rules.proofs.Reflect.{tells-same}
use Rattle.rules.proofs.Numbers.{same_numbers}
use Rattle.nodes.specs.Shown.{View, In, tree_of, number}
use Rattle.signature.proofs.Types.{tree-past, entry-name, param-type}
use Rattle.signature.specs.Alike.{same_type, signed_as}
use Rattle.signature.specs.Keys.{is_param, same_params, same_nodes}
use Rattle.resolve_overloads.specs.Keys.{mix, token, keyed, type_key, params_key, key_of}
use Rattle.signature.proofs.Nodes.{Alike, tells-type, number-high}
use Rattle.signature.proofs.Pairs.{type-there}
use Rattle.signature.proofs.Reading.{param-past}
use Rattle.signature.proofs.Same.{yes-param, param-true, param-false}
use Rattle.signature.proofs.Same.{same-text-same-nodes}

pub keyed-none : (s : List ℕ) (k i : ℕ) → k ≡ keyed s k i (i - i)
unfolding keyed
keyed-none s k i = let z : i - i ≡ 0 = omega arith in sym (ap (keyed s k i) z)

pub keyed-more : (s : List ℕ) (k i p : ℕ) {r : ℕ} → i ≤ p → r ≡ keyed s k i (p - i) → mix r (token s p) ≡ keyed s k i (p + 1 - i)
unfolding keyed
keyed-more s k i p l e =
    let y : p + 1 - i ≡ suc (p - i) = omega arith in
    let z : i + (p - i) ≡ p = omega arith in
    ap₂ mix e (ap (token s) (sym z)) ∙ sym (ap (keyed s k i) y)

keyed-same : (s : List ℕ) (k i j n : ℕ) → ((d : ℕ) → d < n → token s (i + d) ≡ token s (j + d)) → keyed s k i n ≡ keyed s k j n
unfolding keyed
keyed-same s k i j zero f = refl
keyed-same s k i j (suc n) f = ap₂ mix (keyed-same s k i j n (λ d l. f d (omega arith))) (f n (omega arith))

-- one parameter more, and none
pub params-key-more : (s : List ℕ) (e n k p : ℕ) → is_param (tree s) e p ≡ true → 0 < n → params_key s e n k p ≡ params_key s e (n - 1) (type_key s k (p + 2)) ((tree s).end p)
unfolding params_key
params-key-more s e zero k p b l = absurd (omega arith)
params-key-more s e (suc n) k p b l = let z : suc n - 1 ≡ n = omega arith in rw (b, z) refl

pub params-key-done : (s : List ℕ) (e n k p : ℕ) → is_param (tree s) e p ≡ false → params_key s e n k p ≡ k
unfolding params_key
params-key-done s e zero k p b = refl
params-key-done s e (suc n) k p b = rw b refl

module _ (s : List ℕ) (adm : refusal s ≡ 0) where
  numbers-same : (i j : ℕ) → i < node_count s → j < node_count s → (tree s).text i ≡ (tree s).text j → number s i ≡ number s j
  numbers-same i j h g e = same_numbers s adm _ _ (number-high s adm i h) (number-high s adm j g) e

  type-keys : (k i j : ℕ) → i < node_count s → j < node_count s → Alike (tree s) i j → type_key s k i ≡ type_key s k j
  type-keys k i j hi hj A =
      let S = A.size in
      let u = tree-past s adm i hi in
      let v = tree-past s adm j hj in
      let z : (tree s).end i - i ≡ (tree s).end j - j = omega arith in
      keyed-same s k i j ((tree s).end i - i) (λ d l. let m = A.each (i + d) (j + d) (omega arith) (omega arith) (omega arith) in ap₂ (λ (x y : ℕ). x + 65536 * y) (numbers-same (i + d) (j + d) (omega arith) (omega arith) m.texts) m.kinds)
      ∙ ap (keyed s k j) z

  module _ (g e : ℕ) (hg : g < node_count s) (he : e < node_count s) (kg : (tree s).kind g ≡ 9) (ke : (tree s).kind e ≡ 9) where
    abbrev OneKey : ℕ → ℕ → ℕ → Type 0
    OneKey n p q = (k : ℕ) → g + 2 ≤ p → e + 2 ≤ q → same_params (tree s) g e n p q ≡ true → params_key s g n k p ≡ params_key s e n k q

    params-keys : (n p q : ℕ) → OneKey n p q
    unfolding same_params params_key
    params-keys zero p q k lp lq f = refl
    params-keys (suc n) p q k lp lq f = cases (is_param (tree s) g p) refl (is_param (tree s) e q) refl f (λ k' a b c. params-keys n ((tree s).end p) ((tree s).end q) k' a b c)
      where
        cases : (x : Bool) → is_param (tree s) g p ≡ x → (y : Bool) → is_param (tree s) e q ≡ y → pick x (both y (both (same_type (tree s) (p + 2) (q + 2)) (same_params (tree s) g e n ((tree s).end p) ((tree s).end q)))) (not y) ≡ true → OneKey n ((tree s).end p) ((tree s).end q)
            → pick x (params_key s g n (type_key s k (p + 2)) ((tree s).end p)) k ≡ pick y (params_key s e n (type_key s k (q + 2)) ((tree s).end q)) k
        cases false a false b f m = refl
        cases false a true b f m = absurd (true≢false (sym f))
        cases true a false b f m = absurd (true≢false (sym f))
        cases true a true b f m =
            let x = yes-param (tree s) g p a in
            let y = yes-param (tree s) e q b in
            let u = (param-type s adm g hg p (omega arith) x.0 x.1).0 in
            let v = (param-type s adm e he q (omega arith) y.0 y.1).0 in
            let A = (tells-type (tree s) (p + 2) (q + 2)).so (both_left (same_type (tree s) (p + 2) (q + 2)) _ f) in
            ap (λ (k' : ℕ). params_key s g n k' ((tree s).end p)) (type-keys k (p + 2) (q + 2) (type-there s adm g hg kg p lp x.0 x.1).0 (type-there s adm e he ke q lq y.0 y.1).0 A)
            ∙ m (type_key s k (q + 2)) (omega arith) (omega arith) (both_right (same_type (tree s) (p + 2) (q + 2)) _ f)

    pub keys-same : signed_as (tree s) e g ≡ true → key_of s g ≡ key_of s e
    unfolding key_of same_nodes
    keys-same f =
        let h : both (same ((tree s).text (g + 1)) ((tree s).text (e + 1))) (same_params (tree s) g e 2048 (g + 2) (e + 2)) ≡ true = sym (same-text-same-nodes s adm g e hg he kg ke) ∙ f in
        let a = (entry-name s adm g hg kg).0 in
        let b = (entry-name s adm e he ke).0 in
        let u = (tree-past s adm g hg).1 in
        let v = (tree-past s adm e he).1 in
        ap (λ (k : ℕ). params_key s g 2048 k (g + 2)) (numbers-same (g + 1) (e + 1) (omega arith) (omega arith) ((tells-same ((tree s).text (g + 1)) ((tree s).text (e + 1))).so (both_left (same ((tree s).text (g + 1)) ((tree s).text (e + 1))) _ h)))
        ∙ params-keys 2048 (g + 2) (e + 2) (number s (e + 1)) (omega arith) (omega arith) (both_right (same ((tree s).text (g + 1)) ((tree s).text (e + 1))) _ h)

-- the key of the entry e is what k becomes with its parameters from p on
pub record KeyFrom (s : List ℕ) (e k p : ℕ) : Type 0 where
  pub most : ℕ
  pub enough : (tree s).end e < p + most
  pub is : key_of s e ≡ params_key s e most k p

pub key-start : (s : List ℕ) (e : ℕ) {k : ℕ} → k ≡ number s (e + 1) → (tree s).end e ≤ 2048 → KeyFrom s e k (e + 2)
unfolding key_of
key-start s e d h = record { most = 2048; enough = omega arith; is = ap (λ (x : ℕ). params_key s e 2048 x (e + 2)) (sym d) }

module _ {nodes : List ℕ} {e : ℕ} (W : View nodes 0) {p : ℕ} where
  pub key-done : {k : ℕ} → KeyFrom W.image e k p → (p < (tree_of W).end e → (tree_of W).kind p ≡ 10 → ⊥) → k ≡ key_of W.image e
  key-done {k} K n = sym (K.is ∙ params-key-done W.image e K.most k p (param-false (tree_of W) e p n))

  pub key-on : {k q r : ℕ} → In nodes 0 e → e + 2 ≤ p → p < (tree_of W).end e → (tree_of W).kind p ≡ 10 → KeyFrom W.image e k p → r ≡ type_key W.image k (p + 2) → q ≡ (tree_of W).end p → KeyFrom W.image e r q
  key-on {k} {q} {r} i l h t K dr dq =
      let n = K.enough in
      let a = (param-past W i l h t dq).0 in
      record {
        most = K.most - 1;
        enough = omega arith;
        is = K.is ∙ params-key-more W.image e K.most k p (param-true (tree_of W) e p h t) (omega arith) ∙ ap₂ (params_key W.image e (K.most - 1)) (sym dr) (sym dq);
      }
