-- State  the reading state, what spoils it, and turn
-- Open   what opening answers
-- Rules  what one reading's lines say to the plain reader: all that the plain reader's rules leave
-- open
-- Next   what next answers, and what it leaves in the lent list
-- Reader the three calls as a reader of parts, of which demand 3 speaks (proofs/Demand3)
pub mod State
pub mod Open
pub mod Rules
pub mod Next
pub mod Reader
