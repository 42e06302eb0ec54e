-- Words     a state in sixteen words, an element in twenty-two: the slots of docs/LAYOUT.md in their order
-- Spelling  the state that sixteen words spell; that it is the one whose words they are is a theorem (proofs/RoundTrip)
-- Element   the element that twenty-two words hold, for those who read what the calls wrote
pub mod Words
pub mod Spelling
pub mod Element
