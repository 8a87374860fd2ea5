-- What is promised of `why` (E3 of document 02), on one page: by which facts it answers, and that the reason is the true one. Proved in
-- proofs/Demands, as `demand-why` and `demand-reason`. The bytes s of an image, the place p and the words o of a buffer are any.
use Rattle.std.specs.Prelude.{ℕ, ◌+◌, ◌*◌, ◌<◌, ◌≤◌, ◌≡◌, List, [], ◌∷◌, ◌⊎◌, ◌↔◌, length}
use Rattle.std.proofs.lemmas.List.Edits.{sets}
use Rattle.image.specs.Admit.{refusal, node_count}
use Rattle.rules.specs.Tree.{Tree, tree}
use Rattle.rules.specs.Vocabulary.{AllOf}
use Rattle.rules.specs.Linear.{Mark, Use, Offence61, Offence62}
use Rattle.rules.specs.Answers.{IsRefused, IsAdmitted}
use Rattle.reasons.specs.Reasons.{TrackedAt, Reasons}
use Rattle.reasons.specs.Answer.{why_refused, why_told, why_answer, why_buffer}

-- p is the place of no tracked asset
abbrev pub NoLot : Tree → ℕ → Type 0
NoLot t p = (e x : ℕ) → TrackedAt t p e x → ⊥

-- p is the place of one, and w are the words of its reasons
pub record Lot (t : Tree) (p : ℕ) (w : List ℕ) : Type 0 where
  pub entry : ℕ
  pub row : ℕ
  pub tracked : TrackedAt t p entry row
  pub reasons : Reasons t entry row w

-- an entry of w has the words a and b
abbrev pub HasEntry : ℕ → ℕ → List ℕ → Type 0
HasEntry a b [] = ⊥
HasEntry a b (c ∷ []) = ⊥
HasEntry a b (c ∷ d ∷ w) = ((a ≡ c) × (b ≡ d)) ⊎ HasEntry a b w

-- nothing is written, and the refusal is r
abbrev pub TellsNothing : List ℕ → ℕ → List ℕ → ℕ → Type 0
TellsNothing s p o r = (why_answer s p (length o) ≡ why_refused r) × (why_buffer s p o ≡ o)

-- What is answered. "Refusals: 1 to 8, 13 when the place is no tracked asset, 10 for a short buffer, in that order", with nothing
-- written; else the words of the lot's reasons are there, and past them nothing changes. One of these holds and only one: a place has
-- one row at most, and a row one list of words. Neither node 0 nor a number past the nodes is the place of a lot.
pub record DemandWhy : Type 0 where
  pub image : (s o : List ℕ) (p : ℕ) → IsRefused s → TellsNothing s p o (refusal s)
  pub no_lot : (s o : List ℕ) (p : ℕ) → IsAdmitted s → NoLot (tree s) p → TellsNothing s p o 13
  pub short : (s o w : List ℕ) (p : ℕ) → IsAdmitted s → Lot (tree s) p w → length o < length w → TellsNothing s p o 10
  pub whole :
      (s o w : List ℕ) (p : ℕ) → IsAdmitted s → Lot (tree s) p w → length w ≤ length o
      → (why_answer s p (length o) ≡ why_told (length w)) × (why_buffer s p o ≡ sets o 0 w)
  pub decided : (s : List ℕ) (p : ℕ) → IsAdmitted s → NoLot (tree s) p ⊎ ((w : List ℕ) × Lot (tree s) p w)
  pub outside : (s : List ℕ) (p : ℕ) → IsAdmitted s → (p ≡ 0) ⊎ (node_count s ≤ p) → NoLot (tree s) p
  pub one_row :
      (s : List ℕ) (p e f x y : ℕ) → IsAdmitted s → TrackedAt (tree s) p e x → TrackedAt (tree s) p f y → (e ≡ f) × (x ≡ y)
  pub one_list : (s v w : List ℕ) (p : ℕ) → IsAdmitted s → Lot (tree s) p v → Lot (tree s) p w → v ≡ w

-- "It is proved that the reason is the true one: the number of entries equals the row's marks plus occurrences, so 61 has none and 62
-- at least two": an entry is two words. A buffer with two words for each node holds every answer. 62's related word (E4) is the Ident
-- of one of the entries, or 0. A row with two marks has no occurrence: marks go to the first row of a name, occurrences to the last.
pub record DemandReason : Type 0 where
  pub number :
      (s w m l : List ℕ) (p : ℕ) → IsAdmitted s → (a : Lot (tree s) p w) → AllOf (Mark (tree s) a.entry a.row) m
      → AllOf (Use (tree s) a.entry a.row) l → length w ≡ 2 * (length m + length l)
  pub room : (s w : List ℕ) (p : ℕ) → IsAdmitted s → Lot (tree s) p w → length w ≤ 2 * node_count s
  pub none : (s w : List ℕ) (p : ℕ) → IsAdmitted s → Lot (tree s) p w → Offence61 (tree s) p 0 ↔ (w ≡ [])
  pub two :
      (s w : List ℕ) (p : ℕ) → IsAdmitted s → Lot (tree s) p w → ((q : ℕ) × Offence62 (tree s) p q) ↔ (2 * 2 ≤ length w)
  pub related :
      (s w : List ℕ) (p q : ℕ) → IsAdmitted s → Lot (tree s) p w → Offence62 (tree s) p q → (q ≡ 0) ⊎ ((b : ℕ) × HasEntry q b w)
  pub marked_twice :
      (s m : List ℕ) (p e x i : ℕ) → IsAdmitted s → TrackedAt (tree s) p e x → AllOf (Mark (tree s) e x) m → 1 < length m
      → Use (tree s) e x i → ⊥
