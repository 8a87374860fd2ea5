-- The three questions about a name ("Model" of document 01): what each asks, and its answer for bytes that are no name of the image.
use Rattle.std.specs.Prelude.{ℕ, Bool, false, List}
use Rattle.rules.specs.Sweep.{same}
use Rattle.rules.specs.Tree.{Tree}
use Rattle.rules.specs.Words.{QTOV}
use Rattle.rules.specs.Model.{is_state, is_declared_asset, is_known_asset}
use Rattle.model.specs.declared.Question.{Question}
use Rattle.model.specs.declared.Question.TheVariants.{State, Declared, Known}

abbrev pub question_of : Question → Tree → List ℕ → Bool
question_of State = is_state
question_of Declared = is_declared_asset
question_of Known = is_known_asset

abbrev pub of_no_name : Question → List ℕ → Bool
of_no_name State w = false
of_no_name Declared w = false
of_no_name Known w = same w QTOV
