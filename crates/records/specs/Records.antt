-- What a run of records leaves in a buffer of words: `words`, `laid` of the rules; and what functions that add records promise. Each
-- record is written with the entry that contains its place: records go with the entries of the tree that they are about.
use Rattle.std.specs.Prelude.{ℕ, ◌+◌, ◌<◌, ◌≤◌, List, [], ◌∷◌, Bool, ◌≡◌, length}
use Rattle.rules.specs.Tree.{Tree}
use Rattle.rules.specs.Vocabulary.{Rec, rec, only}
use Rattle.rules.specs.All.{entry_of}
pub use Rattle.rules.specs.Answers.{words, laid}
use Rattle.std.specs.Prelude.{Option}
use Rattle.std.specs.Prelude.{None, Some}

-- the k₀ records before are followed by the records l, where e gives the entry of each node: so many are counted then, and so the
-- buffer stands
pub record Laid (e : ℕ → ℕ) (o₀ : List ℕ) (k₀ : ℕ) (l : List Rec) (o : List ℕ) (k : ℕ) : Type 0 where
  pub count : k ≡ k₀ + length l
  pub words : o ≡ laid e o₀ k₀ l

-- records, with the entry of each node: as they stand in a tree; all in one entry, or, where it is 0, in none
pub record Entered : Type 0 where
  pub entry : ℕ → ℕ
  pub list : List Rec

abbrev pub on : (Tree → List Rec) → Tree → Entered
on F t = record { entry = entry_of t; list = F t }

abbrev pub under : ℕ → List Rec → Entered
under e l = record { entry = λ _. e; list = l }

-- whatever the entries are, where the nodes from `from` up to `to` all stand in the entry e, or, where it is 0, in none; the records
-- that S gives, with such entries
pub record Held (X : Type 0) (e from to : ℕ) : Type 0 where
  pub seen : X
  pub entries : ℕ → ℕ
  pub held : (i : ℕ) → from ≤ i → i < to → entries i ≡ e

abbrev pub within : {X : Type 0} (e from to : ℕ) → (X → Entered) → Held X e from to → Entered
within e from to S h = record { entry = h.entries; list = (S h.seen).list }

-- the records that F gives, with the entries that e gives, whichever x the nodes are seen by, follow: at most so many
pub record Added {X : Type 0} (e : X → ℕ → ℕ) (F : X → List Rec) (most : ℕ) (o₀ : List ℕ) (k₀ : ℕ) (o : List ℕ) (k : ℕ) : Type 0 where
  pub laid : (x : X) → Laid (e x) o₀ k₀ (F x) o k
  pub few : k ≤ k₀ + most

-- a function that is lent `out`, with `count` records before, adds them and answers the new count
abbrev pub Adds : {X : Type 0} → (X → Entered) → ℕ → List ℕ → List ℕ → ℕ → ℕ → Type 0
Adds S most out out' count r = Added (λ x. (S x).entry) (λ x. (S x).list) most out count out' r

-- a question answers whether a rule gives its record: code c, place p, nothing related
abbrev pub Asks : {X : Type 0} → (X → Entered) → ℕ → ℕ → Bool → Type 0
Asks {X} S c p r = (x : X) → (S x).list ≡ only r (rec c p 0)

-- where a record has something related: what an answer says; a question answers what a rule gives
abbrev pub hit_list : Option ℕ → ℕ → ℕ → List Rec
hit_list None c p = []
hit_list (Some q) c p = rec c p q ∷ []

abbrev pub AsksAt : {X : Type 0} → (X → Entered) → ℕ → ℕ → Option ℕ → Type 0
AsksAt {X} S c p r = (x : X) → (S x).list ≡ hit_list r c p
