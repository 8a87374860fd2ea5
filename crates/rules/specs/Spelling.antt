-- The words that the rules mention, letter by letter: the bytes of specs/Words are those of the words that document 01 writes.
use Rattle.std.specs.Prelude.{ℕ, ◌≡◌, refl, List, [], ◌∷◌, map}
use Prim.Native.Char.{code}
use Prim.Native.String.{String}
use Rattle.rules.specs.Words.{QTOV, Q_Asset, Q_Address, deployer, mint, mint_asset, split, builtins, methods, writers, readers}

-- the bytes of an ASCII text
unfoldable pub bytes : String → List ℕ
bytes String.[] = []
bytes (String.◌∷◌ c w) = code c ∷ bytes w

-- the words that stand alone in a rule
pub spelled :
    QTOV ∷ Q_Asset ∷ Q_Address ∷ deployer ∷ mint ∷ mint_asset ∷ split ∷ []
    ≡ map bytes ("QTOV" ∷ "Q_Asset" ∷ "Q_Address" ∷ "deployer" ∷ "mint" ∷ "mint_asset" ∷ "split" ∷ [])
unfolding bytes
spelled = refl

-- 34: Ident, Field
pub spelled_builtins : builtins ≡ map bytes ("send" ∷ "send_asset" ∷ "mint" ∷ "mint_asset" ∷ [])
unfolding bytes
spelled_builtins = refl

pub spelled_methods :
    methods ≡ map bytes ("get" ∷ "contains" ∷ "split" ∷ "set" ∷ "remove" ∷ "merge" ∷ "insert" ∷ "debit" ∷ "credit" ∷ [])
unfolding bytes
spelled_methods = refl

-- 51
pub spelled_writers : writers ≡ map bytes ("merge" ∷ "split" ∷ "credit" ∷ "debit" ∷ "insert" ∷ "remove" ∷ "set" ∷ [])
unfolding bytes
spelled_writers = refl

-- 61, 62
pub spelled_readers : readers ≡ map bytes ("get" ∷ "contains" ∷ "has" ∷ [])
unfolding bytes
spelled_readers = refl
