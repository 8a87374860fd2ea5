-- `Patterns` has the worked contracts with what each is answered, `Order` one with the keys of its records, `Limits` whole images at the limits, `Lots` why lots are refused (E3 of document 02), `Entries` records with the entry that contains their place (E8).
pub mod Patterns
pub mod Order
pub mod Limits
pub mod Lots
pub mod Entries
