-- The machine of document 02, (a), as it was before (b): no range of memory was kept from writes. It is kept for one purpose, to say that with no table nothing
-- has changed (Claims). What never looks at a place is shared with today: what areas are and what refuses them, and what is told of an answer.
pub mod Machines
pub mod Places
pub mod Plain
pub mod Taking
pub mod Commits
pub mod Throws
pub mod Cycles
pub mod Items
pub mod Lists
pub mod Answers
pub mod Calls
pub mod Claims
