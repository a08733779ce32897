-- What must be believed of the rules over the tables, in the paper's order.
pub mod Rules
pub mod Filled
pub mod Inside
