-- The order of resolve: the keys rise along each group, 20 to 40.
use Prim.Native.Nat.{ℕ, suc, ◌+◌, ◌<◌, ◌≤◌}
use mathlib.Core.Path.{◌≡◌, refl}
use mathlib.Core.Bool.{Bool, true, false}
use mathlib.Core.List.Memᴰ
use mathlib.Core.List.{List, [], ◌∷◌, ◌++◌, Memᴰ}
use mathlib.Core.Logic.{⊎_elim}
use native.Mathlib.Omega.{arith}
use Rattle.image.specs.Pick.{pick, both}
use Rattle.image.proofs.Every.{both_left}
use Rattle.rules.specs.Sweep.{keep, has}
use Rattle.rules.specs.Tree.{Tree, genesis, invariant, entry, bodied, param, writes_reads, conserves, mints, burns, limits_denies_after, statement, «let», ident}
use Rattle.rules.specs.Vocabulary.{Rec, rec, only, Below, below, calls, signers}
use Rattle.rules.specs.Resolve.{rule20, group20, rule21, group21, rule22, mint_calls, many_assets, group22, rule23, group23, rule24, rule25, rule26, rule27, rule28, rule29, let_rules, entry_names, group24, rule30, rule31, emits, group30, rule32, deployer_in, deployer_of, group32, rule33, rule34, genesis_rules, group33, rule35, clause_rule, rule40, entry_rules, group35, resolve}
use Rattle.rules.specs.All.{key, holder, is_held, items, param_statement, invariant_param}
use Rattle.rules.specs.Standing.{apart, parts, Formed}
use Rattle.rules.proofs.Reflect.{tells-has, narrow}
use Rattle.rules.proofs.Resolve.{finds-rule30, finds-rule31}
use Rattle.rules.proofs.Level.{Level, level-between, level-both, level-append, level-up, level-none, level-only, level-keep, level-below, group, member_below, member-keep, test-only}
use Rattle.rules.proofs.Keys.{part-key, later-key, emit_key, entry-emit, genesis-emit, Turned, turned-1, turned-2, turned-3, deployer-key}
use Rattle.rules.proofs.Ranges.{other, subset, disjoint, deep, ends-in, longer, item_of, not-item, part_of, not-held, own-level, parts-level, items-level, each_item, calls-level, call-inside, signer-inside, signer-param, signers-level}

module _ (t : Tree) (F : Formed t) where
  -- 20, 21, 23: records of the Names of items

  names-level : {k ks : List ℕ} {f : ℕ → List Rec} → ((i : ℕ) → Below t ks t.root i → Level (key t) k (i + 1) (suc (i + 1)) (f i)) → Level (key t) k 0 (t.end t.root + 1) (below t ks t.root f)
  names-level h = level-below 0 (t.end t.root + 1) (λ i. i + 1) (λ i. suc (i + 1)) (omega arith) h (λ i j b c l. omega arith) (λ i b. let u = b.inside in (omega arith, omega arith))

  ordered20 : Level (key t) [] 1 2 (group20 t)
  unfolding group20 rule20 key
  ordered20 = group (names-level (λ i b. level-only {k = 1 ∷ 0 ∷ 1 ∷ []} _ _ (i + 1) refl))

  ordered21 : Level (key t) [] 2 3 (group21 t)
  unfolding group21 rule21 key
  ordered21 = group (names-level (λ i b. level-only {k = 2 ∷ 0 ∷ 1 ∷ []} _ _ (i + 1) refl))

  ordered23 : Level (key t) [] 4 5 (group23 t)
  unfolding group23 rule23 key
  ordered23 = group (names-level (λ i b. level-only {k = 4 ∷ 0 ∷ 1 ∷ []} _ _ (i + 1) refl))

  -- 22

  ordered22 : Level (key t) [] 3 4 (group22 t)
  unfolding group22 mint_calls rule22 key
  ordered22 = go (many_assets t)
    where
      go : (b : Bool) → Level (key t) [] 3 4 (pick b (below t bodied t.root (λ i. calls t i (rule22 t))) [])
      go true = group (items-level t F refl (λ i b. calls-level t F refl b (λ c x. level-only {k = 3 ∷ 0 ∷ 1 ∷ []} _ _ c refl)))
      go false = level-none (omega arith)

  -- 24 to 29

  module _ {e : ℕ} (be : Below t entry t.root e) where
    param-level : (x : ℕ) → Below t param e x → Level (key t) (5 ∷ []) x (suc x) (rule24 t x ++ rule25 t e x)
    unfolding rule24 rule25 key
    param-level x b =
        let d = deep t F be b in
        let l = F.param_long x d in
        let a : 0 < x = (let u = d.after in omega arith) in
        let q : holder t param_statement (x + 1) ≡ x = part_of t F param_statement (x + 1) refl refl d (omega arith) (omega arith) in
        level-up {k = 5 ∷ []} {x = x}
        (level-append
        (level-up {k = 5 ∷ x ∷ []} {x = 1} (level-only _ _ (x + 1) (part-key 5 1 (x + 1) [] q a)))
        (level-up {k = 5 ∷ x ∷ []} {x = 2} (level-only _ _ (x + 1) (part-key 5 2 (x + 1) [] q a))))

    statement-level : (s : ℕ) → Below t statement e s → Level (key t) (5 ∷ []) s (suc s) (below t ident s (rule26 t e s) ++ keep (has (t.kind s) «let») (let_rules t e) s)
    unfolding rule26 let_rules rule27 rule28 rule29 key
    statement-level s b =
        let d = deep t F be b in
        let l = longer t F d in
        let a : 0 < s = (let u = d.after in omega arith) in
        let q : holder t param_statement s ≡ s = held s (omega arith) l in
        level-up {k = 5 ∷ []} {x = s}
        (level-append
        (level-up {k = 5 ∷ s ∷ []} {x = 3}
        (own-level t F s (omega arith) (λ i c. let u = c.after in level-only _ _ i (part-key 5 3 i [] (held i (omega arith) c.inside) a))))
        (level-keep (has (t.kind s) «let») (let_rules t e) s (omega arith) (λ z.
        level-append (level-up {k = 5 ∷ s ∷ []} {x = 4} (level-only _ _ s (part-key 5 4 s [] q a)))
        (level-append (level-up {k = 5 ∷ s ∷ []} {x = 5} (level-only _ _ s (part-key 5 5 s [] q a)))
        (level-up {k = 5 ∷ s ∷ []} {x = 6} (level-only _ _ s (part-key 5 6 s [] q a)))))))
      where
        held : (p : ℕ) → s ≤ p → p < t.end s → holder t param_statement p ≡ s
        held p l h = part_of t F param_statement p refl refl (deep t F be b) l h

    -- the parameters, then the statements
    entry-level : Level (key t) (5 ∷ []) e (t.end e) (entry_names t e)
    unfolding entry_names
    entry-level =
        level-both (sweep param-level) (sweep statement-level)
        (λ r w m n.
        let u = member_below t param e (λ x. rule24 t x ++ rule25 t e x) r m in
        let v = member_below t statement e (λ s. below t ident s (rule26 t e s) ++ keep (has (t.kind s) «let») (let_rules t e) s) w n in
        level-between (param-level u.0 u.1) (statement-level v.0 v.1) (F.params_first e u.0 v.0 be u.1 v.1) r w u.2 v.2)
      where
        sweep : {k ks : List ℕ} {f : ℕ → List Rec} → ((i : ℕ) → Below t ks e i → Level (key t) k i (suc i) (f i)) → Level (key t) k e (t.end e) (below t ks e f)
        sweep = own-level t F e (longer t F be)

  ordered24 : Level (key t) [] 5 6 (group24 t)
  unfolding group24
  ordered24 = level-up {k = []} {x = 5} (items-level t F refl (λ e b. entry-level b))

  -- 30, 31

  -- an Emit has its group's key by the turn d, whichever of the two it offends
  abbrev EmitTurn : ℕ → ℕ → Type 0
  EmitTurn d m = emit_key (is_held t entry m) (is_held t genesis m) m ≡ 6 ∷ 0 ∷ d ∷ m ∷ []

  level30 : (d m : ℕ) → EmitTurn d m → Level (key t) (6 ∷ 0 ∷ d ∷ []) m (suc m) (rule30 t m)
  unfolding rule30 key
  level30 d m e = level-only _ _ m e

  level31 : (d m : ℕ) → EmitTurn d m → Level (key t) (6 ∷ 0 ∷ d ∷ []) m (suc m) (rule31 t m)
  unfolding rule31 key
  level31 d m e = level-only _ _ m e

  -- not both
  emit-level : (d m : ℕ) → EmitTurn d m → Level (key t) (6 ∷ 0 ∷ d ∷ []) m (suc m) (rule30 t m ++ rule31 t m)
  emit-level d m e =
      level-both (level30 d m e) (level31 d m e) (λ r s x y. let u = ((finds-rule31 t m).so s y).1 in absurd (((finds-rule30 t m).so r x).1 (u.0, u.3.is)))

  in_entry : (i p : ℕ) → Below t entry t.root i → i ≤ p → p < t.end i → EmitTurn 1 p
  in_entry i p b l h = let a = b.after in entry-emit p (holder t genesis p) (item_of t F entry p refl refl b l h) (omega arith)

  in-genesis : (i p : ℕ) → Below t genesis t.root i → i ≤ p → p < t.end i → EmitTurn 2 p
  in-genesis i p b l h =
      let a = b.after in genesis-emit p (not-item t F entry p refl refl refl b l h) (item_of t F genesis p refl refl b l h) (omega arith)

  emits-level :
      (ks : List ℕ) (d : ℕ) → subset ks apart ≡ true → ((i p : ℕ) → Below t ks t.root i → i ≤ p → p < t.end i → EmitTurn d p)
      → Level (key t) (6 ∷ 0 ∷ []) d (suc d) (emits t ks)
  unfolding emits
  emits-level ks d q g =
      level-up {k = 6 ∷ 0 ∷ []} {x = d}
      (items-level t F q (λ i b. own-level t F i (longer t F b) (λ m c. let u = c.after in emit-level d m (g i m b (omega arith) c.inside))))

  ordered30 : Level (key t) [] 6 7 (group30 t)
  unfolding group30
  ordered30 = level-up {k = []} {x = 6} (level-up {k = 6 ∷ []} {x = 0} (level-append (emits-level entry 1 refl in_entry) (emits-level genesis 2 refl in-genesis)))

  -- 32: signers, or an Invariant's Idents; the body's; the clauses'

  -- the turn of p
  abbrev Turn32 : ℕ → ℕ → Type 0
  Turn32 d p = Turned (holder t invariant_param p) (holder t statement p) (holder t limits_denies_after p) d

  level32 : (i d p : ℕ) → 0 < i → holder t items p ≡ i → Turn32 d p → Level (key t) (7 ∷ i ∷ d ∷ []) p (suc p) (rule32 t p)
  unfolding rule32 key
  level32 i d p l a b = level-only _ _ p (deployer-key p b a l)

  -- in a parameter or an Invariant
  first32 : {ks : List ℕ} {x : ℕ} (p : ℕ) → subset ks invariant_param ≡ true → Below t ks t.root x → x ≤ p → p < t.end x → Turn32 1 p
  first32 p q b l h = let a = b.after in turned-1 (part_of t F invariant_param p refl q b l h) (omega arith)

  module _ {e : ℕ} (be : Below t entry t.root e) where
    signers32 : Level (key t) (7 ∷ e ∷ 1 ∷ []) e (t.end e) (signers t e (rule32 t))
    signers32 =
        signers-level t F be (λ p s.
        let i = signer-inside t F be p s in
        let u = signer-param t F be p s in
        let a = be.after in
        level32 e 1 p (omega arith) (item_of t F items p refl refl be i.0 i.1) (first32 p refl (deep t F be s.1) u.0 u.1))

    -- the Idents of the parts of one kind
    idents32 : (ks : List ℕ) (d : ℕ) → subset ks parts ≡ true → ((s p : ℕ) → Below t ks t.root s → s ≤ p → p < t.end s → Turn32 d p) → Level (key t) (7 ∷ e ∷ d ∷ []) e (t.end e) (below t ks e (λ s. below t ident s (rule32 t)))
    idents32 ks d q h =
        parts-level t F q be (λ s b.
        let c = deep t F be b in
        let n = ends-in t F be b in
        let a = b.after in
        own-level t F s (longer t F c) (λ p g.
        let u = g.after in
        let v = g.inside in
        let w = be.after in
        level32 e d p (omega arith) (item_of t F items p refl refl be (omega arith) (omega arith)) (h s p c (omega arith) v)))

    deployer-level : Level (key t) (7 ∷ []) e (suc e) (deployer_in t e)
    unfolding deployer_in
    deployer-level =
        level-up {k = 7 ∷ []} {x = e}
        (level-append (level-up {k = 7 ∷ e ∷ []} {x = 1} signers32)
        (level-append
        (level-up {k = 7 ∷ e ∷ []} {x = 2} (idents32 statement 2 refl (λ s p b l h.
        let a = b.after in
        turned-2 (not-held t F invariant_param p refl refl refl b l h) (part_of t F statement p refl refl b l h) (omega arith))))
        (level-up {k = 7 ∷ e ∷ []} {x = 3} (idents32 limits_denies_after 3 refl (λ s p b l h.
        let a = b.after in
        turned-3 (not-held t F invariant_param p refl refl refl b l h) (not-held t F statement p refl refl refl b l h) (part_of t F limits_denies_after p refl refl b l h) (omega arith))))))

  invariant-level : (v : ℕ) → Below t invariant t.root v → Level (key t) (7 ∷ []) v (suc v) (below t ident v (rule32 t))
  invariant-level v b =
      level-up {k = 7 ∷ []} {x = v} (level-up {k = 7 ∷ v ∷ []} {x = 1}
      (own-level t F v (longer t F b) (λ p c.
      let u = c.after in
      let a = b.after in
      level32 v 1 p (omega arith) (item_of t F items p refl refl b (omega arith) c.inside) (first32 p refl b (omega arith) c.inside))))

  ordered32 : Level (key t) [] 7 8 (group32 t)
  unfolding group32 deployer_of
  ordered32 =
      level-up {k = []} {x = 7} (each_item t F (λ i b.
      level-both
      (level-keep (has (t.kind i) entry) (deployer_in t) i (omega arith) (λ q. deployer-level (narrow b ((tells-has (t.kind i) entry).so q))))
      (level-keep (has (t.kind i) invariant) (λ v. below t ident v (rule32 t)) i (omega arith) (λ q. invariant-level i (narrow b ((tells-has (t.kind i) invariant).so q))))
      (λ r s m n.
      let u = member-keep (has (t.kind i) entry) (deployer_in t) i r m in
      let v = member-keep (has (t.kind i) invariant) (λ v. below t ident v (rule32 t)) i s n in
      absurd (other entry invariant refl ((tells-has (t.kind i) entry).so u.0) ((tells-has (t.kind i) invariant).so v.0)))))

  -- 33, and 34 in a Genesis

  genesis-level : (g : ℕ) → Below t genesis t.root g → Level (key t) (8 ∷ []) g (suc g) (genesis_rules t g)
  unfolding genesis_rules rule33 rule34 key
  genesis-level g b =
      let a : 0 < g = (let u = b.after in omega arith) in
      level-up {k = 8 ∷ []} {x = g}
      (level-append
      (level-up {k = 8 ∷ g ∷ []} {x = 1} (own-level t F g (longer t F b) (λ s c.
      let u = c.after in
      level-only _ _ s (part-key 8 1 s [] (item_of t F genesis s refl refl b (omega arith) c.inside) a))))
      (level-up {k = 8 ∷ g ∷ []} {x = 2} (calls-level t F refl b (λ c x.
      let i = call-inside t F b x in
      level-only _ _ c (part-key 8 2 c _ (item_of t F genesis c refl refl b i.0 i.1) a)))))

  ordered33 : Level (key t) [] 8 9 (group33 t)
  unfolding group33
  ordered33 = level-up {k = []} {x = 8} (each_item t F genesis-level)

  -- 35 to 40, and 34 in an Entry

  -- of one clause of kind k, at most one of 36 to 39: they are for different kinds
  record Clause (i k p : ℕ) (ks : List ℕ) (l : List Rec) : Type 0 where
    level : Level (key t) (9 ∷ i ∷ 2 ∷ []) p (suc p) l
    kind : (r : Rec) → Memᴰ r l → Memᴰ k ks

  clause-only : {i k p : ℕ} (ks : List ℕ) (b : Bool) (x : Rec) → key t x ≡ 9 ∷ i ∷ 2 ∷ p ∷ [] → Clause i k p ks (only (both (has k ks) b) x)
  clause-only {k = k} {p = p} ks b x e = record {
    level = level-only _ _ p e;
    kind = λ r m. (tells-has k ks).so (both_left (has k ks) b (test-only (both (has k ks) b) x r m));
  }

  clause-append : {i k p : ℕ} {ks js : List ℕ} {l m : List Rec} → disjoint ks js ≡ true → Clause i k p ks l → Clause i k p js m → Clause i k p (ks ++ js) (l ++ m)
  clause-append {ks = ks} {js = js} {l = l} d a b = record {
    level = level-both a.level b.level (λ r s x y. absurd (other ks js d (a.kind r x) (b.kind s y)));
    kind = λ r x. ⊎_elim (λ y. Memᴰ.append_left js (a.kind r y)) (λ y. Memᴰ.append_right ks (b.kind r y)) (Memᴰ.append_cases l x);
  }

  -- 36 to 39 have one turn
  clause-keys :
      (i p : ℕ) → 0 < i → holder t entry p ≡ i
      → (key t (rec 36 p 0) ≡ 9 ∷ i ∷ 2 ∷ p ∷ []) × (key t (rec 37 p 0) ≡ 9 ∷ i ∷ 2 ∷ p ∷ []) × (key t (rec 38 p 0) ≡ 9 ∷ i ∷ 2 ∷ p ∷ []) × (key t (rec 39 p 0) ≡ 9 ∷ i ∷ 2 ∷ p ∷ [])
  unfolding key
  clause-keys i p l q = let e = part-key 9 2 p [] q l in (e, e, e, e)

  clause-level : (i k p : ℕ) → 0 < i → holder t entry p ≡ i → Level (key t) (9 ∷ i ∷ 2 ∷ []) p (suc p) (clause_rule t k p)
  unfolding clause_rule
  clause-level i k p l q =
      let e = clause-keys i p l q in
      (clause-append refl (clause-only writes_reads _ _ e.0) (clause-append refl (clause-only conserves _ _ e.1)
      (clause-append refl (clause-only mints _ _ e.2) (clause-only burns _ _ e.3)))).level

  entry-rules-level : (e : ℕ) → Below t entry t.root e → Level (key t) (9 ∷ []) e (suc e) (entry_rules t e)
  unfolding entry_rules rule35 rule40 rule34 key
  entry-rules-level e b =
      let pos : 0 < e = (let u = b.after in omega arith) in
      level-up {k = 9 ∷ []} {x = e}
      (level-append
      (level-up {k = 9 ∷ e ∷ []} {x = 1} (signers-level t F b (λ p s.
      let i = signer-inside t F b p s in
      level-only _ _ p (part-key 9 1 p [] (item_of t F entry p refl refl b i.0 i.1) pos))))
      (level-append
      (level-up {k = 9 ∷ e ∷ []} {x = 2} (parts-level t F refl b (λ c x.
      let d = deep t F b x in
      let n = ends-in t F b x in
      let a = x.after in
      own-level t F c (longer t F d) (λ p g.
      let u = g.after in
      let v = g.inside in
      clause-level e (t.kind c) p pos (item_of t F entry p refl refl b (omega arith) (omega arith))))))
      (level-append
      (level-up {k = 9 ∷ e ∷ []} {x = 3} (calls-level t F refl b (λ c x.
      let i = call-inside t F b x in
      level-only _ _ c (part-key 9 3 c [] (item_of t F entry c refl refl b i.0 i.1) pos))))
      (level-up {k = 9 ∷ e ∷ []} {x = 4} (calls-level t F refl b (λ c x.
      let i = call-inside t F b x in
      level-only _ _ c (later-key 9 4 c _ [] (not-item t F genesis c refl refl refl b i.0 i.1) (item_of t F entry c refl refl b i.0 i.1) pos)))))))

  ordered35 : Level (key t) [] 9 10 (group35 t)
  unfolding group35
  ordered35 = level-up {k = []} {x = 9} (each_item t F entry-rules-level)

  pub ordered-resolve : Level (key t) [] 1 10 (resolve t)
  unfolding resolve
  ordered-resolve =
      level-append ordered20 (level-append ordered21 (level-append ordered22 (level-append ordered23 (level-append ordered24
      (level-append ordered30 (level-append ordered32 (level-append ordered33 ordered35)))))))
