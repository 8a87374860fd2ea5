-- What each group is lent: some of the tables; all of them, made from fresh ones.
use Prim.Native.Nat.{ℕ}
use mathlib.Core.Bool.{Bool, false}
use mathlib.Core.List.{List, ◌++◌, append_assoc}
use mathlib.Core.Path.{◌≡◌}
use lib.ListN.{replicate}
use Rattle.rules.specs.Tree.{Tree}
use Rattle.rules.specs.Words.{Q_Address}
use Rattle.rules.specs.Model.{is_state, is_state_typed, is_declared_asset, is_known_asset}
use Rattle.rules.specs.Resolve.{group32, group33, group35, resolve}
use Rattle.nodes.specs.Shown.{tree_of}
use Rattle.nodes.specs.Marks.{Marks}
use Rattle.nodes.specs.State.{State}
use Rattle.nodes.proofs.Names.{marks-none}
use Rattle.names.specs.declared.Words.{Words}
use Rattle.names.specs.Spelled.{Looked}
use Rattle.model.specs.Assets.{AssetWords}
use Rattle.resolve_mints.specs.Minted.{Minting}
use Rattle.resolve_calls.specs.Called as calls
use Rattle.resolve_calls.specs.Called.{is_builtin, is_method}
use Rattle.resolve_clauses.specs.Said as clauses
use Rattle.resolve_deployer.specs.Deployed.{DeployerIs}
use Rattle.resolve.specs.declared.Tables.{Tables}
use Rattle.resolve.specs.Tables.{LentFirst, CallTables, Called, ResolveTables, first_groups}

module _ {nodes : List ℕ} {mint : ℕ} {state : List Bool} (T : LentFirst nodes mint state) where
  abbrev pub by-mint : Minting nodes 0 mint
  by-mint = record { view = T.view; mint_number = T.mint_number }

  abbrev pub by_name : State nodes 0 state
  by_name = record { view = T.view; state_marks = T.state_marks }

abbrev pub by-assigns : {nodes : List ℕ} {tables : Tables} → CallTables nodes tables → State nodes 0 tables.state.now
by-assigns T = record { view = T.view; state_marks = T.state_marks }

abbrev pub by-typing : {nodes : List ℕ} {tables : Tables} {params : List Bool} → Called nodes tables params → calls.AddressTyping nodes tables.address
by-typing T = record { view = T.view; address_number = T.address_number }

module _ {nodes : List ℕ} {tables : Tables} {params : List Bool} (T : ResolveTables nodes tables params) where
  abbrev pub by-signers : clauses.OneTable nodes 0 tables.state.now
  by-signers = record { view = T.of_entry.view; says = is_state (tree_of T.of_entry.view); tells = T.state_marks }

  abbrev pub by-clauses : clauses.AssetMarks nodes tables.state.now tables.declared.now tables.known.now
  by-clauses = record { view = T.of_entry.view; state_marks = T.state_marks; declared_marks = T.declared_marks; known_marks = T.known_marks }

  -- the tables with another that has no parameter marked
  abbrev pub cleaned : {marked : List Bool} → Marks T.of_entry.view.image (λ w. false) marked → ResolveTables nodes tables marked
  cleaned M = record {
    of_entry = record { view = T.of_entry.view; address_number = T.of_entry.address_number; field_marks = T.of_entry.field_marks; clean = M; builtin_marks = T.of_entry.builtin_marks; method_marks = T.of_entry.method_marks };
    state_marks = T.state_marks;
    declared_marks = T.declared_marks;
    known_marks = T.known_marks;
  }

-- what the groups are lent, out of what was looked up for all passes
module _ {nodes : List ℕ} {words : Words} {state : List Bool} (T : Looked nodes words state) where
  abbrev image : List ℕ
  image = T.view.image

  pub none : Marks image (λ w. false) (replicate 1024 false)
  none = marks-none image T.view.shown.admitted

  abbrev pub first_of : LentFirst nodes words.builtins.mint_asset state
  first_of = record { view = T.view; root = T.root; mint_number = T.words_are.builtins_are.mint_asset_is; state_marks = T.state_marks }

  abbrev pub deployer-of : DeployerIs nodes words.deployer
  deployer-of = record { view = T.view; is = T.words_are.deployer_is }

  abbrev pub typing-of : calls.AddressTyping nodes words.address
  typing-of = record { view = T.view; address_number = T.words_are.address_is }

  abbrev pub asset-words-of : AssetWords nodes words.qtov words.asset
  asset-words-of = record { view = T.view; qtov_is = T.words_are.qtov_is; asset_is = T.words_are.asset_is }

  module _ {tables : Tables} (names : tables.state.now ≡ state) (b : Marks image is_builtin tables.builtin.now) (m : Marks image is_method tables.method.now) where
    abbrev pub worded-of : CallTables nodes tables
    worded-of = record { view = T.view; state_marks = rw names T.state_marks; builtin_marks = b; method_marks = m }

    abbrev pub tables-of : tables.address ≡ words.address → Marks image (is_declared_asset (tree_of T.view)) tables.declared.now → Marks image (is_known_asset (tree_of T.view)) tables.known.now → Marks image (is_state_typed (tree_of T.view) Q_Address) tables.fields.now
        → ResolveTables nodes tables (replicate 1024 false)
    tables-of n d k a = record {
      of_entry = record { view = T.view; address_number = rw n T.words_are.address_is; field_marks = a; clean = none; builtin_marks = b; method_marks = m };
      state_marks = rw names T.state_marks;
      declared_marks = d;
      known_marks = k;
    }

-- the groups in order
pub in_order : (t : Tree) → first_groups t ++ (group32 t ++ (group33 t ++ group35 t)) ≡ resolve t
unfolding resolve
in_order t = simp append_assoc
