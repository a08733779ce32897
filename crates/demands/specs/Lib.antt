-- What it means that a file keeps to the lent tables, the paper's limits and its own edition's rules, and what the tables then hold; what a file plays; for
-- what restating is refused; and that what it gives plays the same.
pub mod Answered
pub mod Rules
pub mod Keeping
pub mod Playing
pub mod Refusing
pub mod Replaying
