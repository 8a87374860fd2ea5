-- The maxima of the image form, as document 01 states them. The code's are the constants of `Image`.
use Rattle.std.specs.Prelude.{ℕ}

abbrev pub max_nodes : ℕ
max_nodes = 2048

abbrev pub max_names : ℕ
max_names = 1024

-- bytes of all names together, and of one
abbrev pub max_text : ℕ
max_text = 16384

abbrev pub max_name : ℕ
max_name = 128

-- ancestors of a node
abbrev pub max_depth : ℕ
max_depth = 64

-- bytes of an image
abbrev pub max_length : ℕ
max_length = 51226

-- rows of the table that the linear pass is lent: a row has four nodes at least
abbrev pub max_rows : ℕ
max_rows = 511
