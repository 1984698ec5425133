-- Document 01's machine as it was before document 02, (a): no stack had an area, and no range was kept from writes. It is kept for one purpose, to say that
-- with no areas and no table nothing has changed (Claims). What it has in common with the machine before tables stands in crate `before_tables`: the clauses
-- of the instructions, here over its own reading, the stores, and what of an item does not hang on a place.
pub mod Places
pub mod Commits
pub mod Throws
pub mod Cycles
pub mod Lists
pub mod Answers
pub mod Calls
pub mod Claims
