-- Document 01, the table of refusals: each has its number, 1 to 8; and each of these numbers its refusal.
use Rattle.std.specs.Prelude.{ℕ, eqb}
use Rattle.image.specs.Pick.{pick}
use Rattle.image.specs.declared.Refusal.{Refusal}
use Rattle.image.specs.declared.Refusal.TheVariants.{Length, Version, Counts, Layout, Names, Tree, Depth, Unused}

abbrev pub number_of : Refusal → ℕ
number_of = elim [ Length ↦ 1 | Version ↦ 2 | Counts ↦ 3 | Layout ↦ 4 | Names ↦ 5 | Tree ↦ 6 | Depth ↦ 7 | Unused ↦ 8 ]

abbrev pub refusal_of : ℕ → Refusal
refusal_of r = pick (eqb r 1) Length (pick (eqb r 2) Version (pick (eqb r 3) Counts (pick (eqb r 4) Layout (pick (eqb r 5) Names (pick (eqb r 6) Tree (pick (eqb r 7) Depth Unused))))))
