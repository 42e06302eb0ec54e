-- Reader  the exported calls as a reader of parts, of which demand 3 speaks (proofs/Demand3); that what the calls write spells the state that they
--         mean is proofs/Written
pub mod Reader
