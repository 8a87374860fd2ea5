-- The kinds that each case of `Past` takes off on the way down ("peeled" and "a root" of document 01).
use Rattle.std.specs.Prelude.{ℕ, List}
use Rattle.rules.specs.Tree.{peels, fields, peels_fields}
use Rattle.nodes.specs.declared.Past.{Past}
use Rattle.nodes.specs.declared.Past.TheVariants.{Peels, Fields, Both}

abbrev pub taken_off : Past → List ℕ
taken_off Peels = peels
taken_off Fields = fields
taken_off Both = peels_fields
