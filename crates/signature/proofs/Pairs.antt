-- Two signatures read side by side: what is left of them from a pair of parameters on.
use Prim.Native.Nat.{ℕ, ◌+◌, ◌<◌, ◌≤◌}
use native.Mathlib.Omega.{arith}
use mathlib.Core.Path.{◌≡◌, refl, sym, ap, ap₂, ◌∙◌, subst}
use mathlib.Core.Bool.{true, false, true≢false}
use mathlib.Core.List.{List, [], ◌∷◌, ◌++◌, append_assoc}
use mathlib.Core.Logic.{⊎_elim}
use borrow.Author.Tests.{eq-eqb}
use Rattle.image.specs.Admit.{refusal, node_count}
use Rattle.image.proofs.Decide.{eq-or-ne, lt-or-ge}
use Rattle.image.proofs.Given.{given}
use Rattle.rules.specs.Sweep.{same}
use Rattle.rules.specs.Tree.{Tree, tree}
use Rattle.rules.specs.Resolve.{comma, type_text, signature}
use Rattle.rules.proofs.TypeLevels.{enough}
use Rattle.nodes.proofs.Names.{same-is, same_not}
use Rattle.signature.specs.Texts.{IsType, params_from}
use Rattle.signature.proofs.Types.{tree-past, comma-first, comma-later, signature-is, AtParams, params-start, params-next, params_more, params-done, params_first, entry-name, param-type}
use Rattle.signature.specs.Alike.{same_type, signed_as}
use Rattle.signature.proofs.Words.{Word, Stop, byte-breaks, head-is, split, form-word}
use Rattle.signature.proofs.Nodes.{tells-type, name-form}
use Rattle.signature.proofs.Written.{same_text}
use Rattle.signature.proofs.Read.{cancel, comma-stops, type-starts, reads}

same-cancel : (w a b : List ℕ) → same (w ++ a) (w ++ b) ≡ same a b
unfolding same
same-cancel [] a b = refl
same-cancel (x ∷ w) a b = rw (eq-eqb x x refl) (same-cancel w a b)

end-stops : Stop (41 ∷ [])
end-stops = (byte-breaks.2, (λ e. omega arith), (λ e. omega arith))

-- what is left of the signature of e from its parameter p on
abbrev rest : Tree → ℕ → ℕ → List ℕ
rest t e p = params_from t e p ++ (41 ∷ [])

module _ (s : List ℕ) (adm : refusal s ≡ 0) where
  few : node_count s ≤ 2048
  few = (given s adm).header.nodes

  -- one entry
  module _ (e : ℕ) (h : e < node_count s) (k : (tree s).kind e ≡ 9) where
    sig-is : signature (tree s) e ≡ (tree s).text (e + 1) ++ (40 ∷ rest (tree s) e (e + 2))
    sig-is = signature-is (tree s) e ∙ ap (λ (m : List ℕ). (tree s).text (e + 1) ++ (40 ∷ (m ++ (41 ∷ [])))) (params_first s adm e h k)

    name-word : Word ((tree s).text (e + 1))
    name-word =
        let n = entry-name s adm e h k in
        let a = n.0 in
        let v = tree-past s adm e h in
        let f = name-form s adm (e + 1) (omega arith) n.1 in
        form-word ((tree s).text (e + 1)) (omega arith)

    module _ (p : ℕ) (l : e + 2 ≤ p) (g : p < (tree s).end e) (kp : (tree s).kind p ≡ 10) where
      T : List ℕ
      T = type_text 64 (tree s) (p + 2)

      R : List ℕ
      R = rest (tree s) e ((tree s).end p)

      pub type-there : (p + 2 < node_count s) × IsType (tree s) (p + 2)
      type-there =
          let t = param-type s adm e h p (omega arith) g kp in
          let v = tree-past s adm e h in
          let a = t.0 in
          let b = t.1 in
          let c = t.2 in
          (omega arith, (omega arith, omega arith))

      rest-is : rest (tree s) e p ≡ comma (e + 2) p ++ (T ++ R)
      unfolding T R
      rest-is =
          ap (λ (m : List ℕ). m ++ (41 ∷ [])) (params_more s adm e h p (omega arith) g kp)
          ∙ append_assoc (comma (e + 2) p) (T ++ params_from (tree s) e ((tree s).end p)) (41 ∷ [])
          ∙ ap (λ (m : List ℕ). comma (e + 2) p ++ m) (append_assoc T (params_from (tree s) e ((tree s).end p)) (41 ∷ []))

      -- a parameter, or its comma, is no `)`
      not_end : rest (tree s) e p ≡ 41 ∷ [] → ⊥
      unfolding T R
      not_end q =
          let b = byte-breaks.2 in
          let t = type-there in
          ⊎_elim
          (λ (x : p ≡ e + 2).
          let w = type-starts s adm 64 (p + 2) (omega arith) t.0 t.1 R 41 [] (ap (λ (m : List ℕ). m ++ (T ++ R)) (sym (comma-first (e + 2) p x)) ∙ sym rest-is ∙ q) in
          omega arith)
          (λ (x : p ≡ e + 2 → ⊥). let w = head-is (ap (λ (m : List ℕ). m ++ (T ++ R)) (sym (comma-later (e + 2) p x)) ∙ sym rest-is ∙ q) in omega arith)
          (eq-or-ne p (e + 2))

    rest_end : (p : ℕ) → AtParams s adm e p → (p < (tree s).end e → (tree s).kind p ≡ 10 → ⊥) → rest (tree s) e p ≡ 41 ∷ []
    rest_end p A n = ap (λ (m : List ℕ). m ++ (41 ∷ [])) (params-done s adm e h p A n)

    -- what follows a type is `,` or `)`
    rest-stops : (p : ℕ) → AtParams s adm e p → e + 2 < p → Stop (rest (tree s) e p)
    rest-stops p A l =
        ⊎_elim
        (λ (g : p < (tree s).end e).
        ⊎_elim
        (λ (k : (tree s).kind p ≡ 10). subst Stop (sym (rest-is p (omega arith) g k ∙ ap (λ (m : List ℕ). m ++ (T p (omega arith) g k ++ R p (omega arith) g k)) (comma-later (e + 2) p (λ q. omega arith)))) (comma-stops (T p (omega arith) g k ++ R p (omega arith) g k)))
        (λ (n : (tree s).kind p ≡ 10 → ⊥). subst Stop (sym (rest_end p A (λ a b. n b))) end-stops)
        (eq-or-ne ((tree s).kind p) 10))
        (λ (g : (tree s).end e ≤ p). subst Stop (sym (rest_end p A (λ a b. omega arith))) end-stops)
        (lt-or-ge p ((tree s).end e))

  -- 64 levels are as many as a type has nodes
  wide : (y : ℕ) → 0 < y → y < node_count s → type_text 64 (tree s) y ≡ type_text 2112 (tree s) y
  wide y z h = sym (enough s adm y 2112 z h (omega arith))

  pub same_names : (g e : ℕ) → g < node_count s → e < node_count s → (tree s).kind g ≡ 9 → (tree s).kind e ≡ 9 → signature (tree s) g ≡ signature (tree s) e → (tree s).text (g + 1) ≡ (tree s).text (e + 1)
  same_names g e hg he kg ke q = (split _ _ _ _ (name-word g hg kg) (name-word e he ke) byte-breaks.1 byte-breaks.1 (sym (sig-is g hg kg) ∙ q ∙ sig-is e he ke)).0

  module _ (g e : ℕ) (hg : g < node_count s) (he : e < node_count s) (kg : (tree s).kind g ≡ 9) (ke : (tree s).kind e ≡ 9) where
    -- the signatures are equal if what is left of them is
    pub record Pairing (p q : ℕ) : Type 0 where
      pub at_g : AtParams s adm g p
      pub at-e : AtParams s adm e q
      pub commas : comma (g + 2) p ≡ comma (e + 2) q
      pub left : signed_as (tree s) e g ≡ same (rest (tree s) g p) (rest (tree s) e q)

    pub names-other : ((tree s).text (g + 1) ≡ (tree s).text (e + 1) → ⊥) → signed_as (tree s) e g ≡ false
    names-other n = same_not _ _ (λ q. n (same_names g e hg he kg ke q))

    pub pairs_start : (tree s).text (g + 1) ≡ (tree s).text (e + 1) → Pairing (g + 2) (e + 2)
    pairs_start w = record {
      at_g = params-start s adm g hg kg;
      at-e = params-start s adm e he ke;
      commas = comma-first (g + 2) (g + 2) refl ∙ sym (comma-first (e + 2) (e + 2) refl);
      left =
          ap₂ same (sig-is g hg kg) (sig-is e he ke ∙ ap (λ (m : List ℕ). m ++ (40 ∷ rest (tree s) e (e + 2))) (sym w))
          ∙ same-cancel ((tree s).text (g + 1)) (40 ∷ rest (tree s) g (g + 2)) (40 ∷ rest (tree s) e (e + 2))
          ∙ same-cancel (40 ∷ []) (rest (tree s) g (g + 2)) (rest (tree s) e (e + 2));
    }

    module _ {p q : ℕ} (P : Pairing p q) (lp : g + 2 ≤ p) (lq : e + 2 ≤ q) where
      abbrev NoG : Type 0
      NoG = p < (tree s).end g → (tree s).kind p ≡ 10 → ⊥

      abbrev NoE : Type 0
      NoE = q < (tree s).end e → (tree s).kind q ≡ 10 → ⊥

      pub pairs_end : NoG → NoE → signed_as (tree s) e g ≡ true
      pairs_end n m = P.left ∙ ap₂ same (rest_end g hg kg p P.at_g n) (rest_end e he ke q P.at-e m) ∙ same-is (41 ∷ [])

      pub pairs-long : NoG → q < (tree s).end e → (tree s).kind q ≡ 10 → signed_as (tree s) e g ≡ false
      pairs-long n b k = P.left ∙ same_not _ _ (λ x. not_end e he ke q lq b k (sym x ∙ rest_end g hg kg p P.at_g n))

      module _ (a : p < (tree s).end g) (kp : (tree s).kind p ≡ 10) where
        pub pairs-short : NoE → signed_as (tree s) e g ≡ false
        pairs-short m = P.left ∙ same_not _ _ (λ x. not_end g hg kg p lp a kp (x ∙ rest_end e he ke q P.at-e m))

        module _ (b : q < (tree s).end e) (kq : (tree s).kind q ≡ 10) where
          next-g : AtParams s adm g ((tree s).end p)
          next-g = params-next s adm g hg p P.at_g a kp

          next-e : AtParams s adm e ((tree s).end q)
          next-e = params-next s adm e he q P.at-e b kq

          further : (p < (tree s).end p) × (q < (tree s).end q)
          further = let u = tree-past s adm g hg in let v = tree-past s adm e he in ((tree-past s adm p (omega arith)).0, (tree-past s adm q (omega arith)).0)

          pub pairs-differ : same_type (tree s) (p + 2) (q + 2) ≡ false → signed_as (tree s) e g ≡ false
          unfolding T R
          pairs-differ f =
              let tp = type-there g hg kg p lp a kp in
              let tq = type-there e he ke q lq b kq in
              let i = tp.0 in
              let j = tq.0 in
              let ep = (tree-past s adm (p + 2) i).1 in
              let eq = (tree-past s adm (q + 2) j).1 in
              let n = few in
              let m = further in
              let m0 = m.0 in
              let m1 = m.1 in
              P.left
              ∙ same_not _ _ (λ x.
              let K = comma (g + 2) p in
              let y : K ++ (type_text 64 (tree s) (p + 2) ++ rest (tree s) g ((tree s).end p)) ≡ K ++ (type_text 64 (tree s) (q + 2) ++ rest (tree s) e ((tree s).end q))
              = sym (rest-is g hg kg p lp a kp) ∙ x ∙ rest-is e he ke q lq b kq ∙ ap (λ (w : List ℕ). w ++ (type_text 64 (tree s) (q + 2) ++ rest (tree s) e ((tree s).end q))) (sym P.commas)
              in
              let z = cancel K _ _ y in
              let r = reads s adm 2112 (p + 2) (q + 2) i j tp.1 tq.1 (omega arith) (omega arith) (rest (tree s) g ((tree s).end p)) (rest (tree s) e ((tree s).end q))
              (rest-stops g hg kg ((tree s).end p) next-g (omega arith)) (rest-stops e he ke ((tree s).end q) next-e (omega arith))
              (ap (λ (w : List ℕ). w ++ rest (tree s) g ((tree s).end p)) (sym (wide (p + 2) (omega arith) i)) ∙ z ∙ ap (λ (w : List ℕ). w ++ rest (tree s) e ((tree s).end q)) (wide (q + 2) (omega arith) j)) in
              true≢false (sym ((tells-type (tree s) (p + 2) (q + 2)).back r.0) ∙ f))

          pub pairs-on : same_type (tree s) (p + 2) (q + 2) ≡ true → Pairing ((tree s).end p) ((tree s).end q)
          unfolding T R
          pairs-on f =
              let tp = type-there g hg kg p lp a kp in
              let tq = type-there e he ke q lq b kq in
              let m = further in
              let m0 = m.0 in
              let m1 = m.1 in
              let w = same_text s adm 64 (p + 2) (q + 2) tp.0 tq.0 tp.1 tq.1 ((tells-type (tree s) (p + 2) (q + 2)).so f) in
              record {
                at_g = next-g;
                at-e = next-e;
                commas = comma-later (g + 2) ((tree s).end p) (λ x. omega arith) ∙ sym (comma-later (e + 2) ((tree s).end q) (λ x. omega arith));
                left =
                    P.left
                    ∙ ap₂ same (rest-is g hg kg p lp a kp) (rest-is e he ke q lq b kq ∙ ap₂ (λ (k t : List ℕ). k ++ (t ++ rest (tree s) e ((tree s).end q))) (sym P.commas) (sym w))
                    ∙ same-cancel (comma (g + 2) p) (type_text 64 (tree s) (p + 2) ++ rest (tree s) g ((tree s).end p)) (type_text 64 (tree s) (p + 2) ++ rest (tree s) e ((tree s).end q))
                    ∙ same-cancel (type_text 64 (tree s) (p + 2)) (rest (tree s) g ((tree s).end p)) (rest (tree s) e ((tree s).end q));
              }
