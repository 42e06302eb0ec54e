-- The plain reader, and demand 3 (01, Reader), over any rules of lines and any reader of parts. How to read it:
--
-- Rules     What a line may say: unreadable, passed over, a wrapped prefix, or a route with its prefix text. All other rules of 01 are a
--           parameter, a record `Rules`: what each line says, which element a route yields under a prefix, which number refuses it for
--           want of places. The header's columns and peer, the timestamp and the modes stand in these three functions.
-- Calls     A reader is a state machine with next and turn. A list of calls is run on it over a list of parts, behind an opening that takes
--           the header with the first part. The run's trace: all of next's answers, part by part, and the remembered prefix at the end.
-- Plain     The plain reader, sentence by sentence as in 01.
-- Elements  What lines yield, without calls: of a text read alone, and part by part with what each part inherits.
-- Demand    The claim. The reader's trace is the plain reader's; and where next has said End in each part, its elements are those of the
--           joined body, so many as the parts have alone and by inheriting, and part by part the inherited ones and then the part's own.
--
-- To believe demand 3 of a reader, read these five files, and what the reader gives for the parameters: its `Rules`, next, turn and opening.
--
-- Cursor      Reading by position, in place of lines left.
-- Refinement  What has to be shown of a reader. `Implements`: its states hold such a cursor, among other fields or as bytes, and its next and
--             turn move that cursor. `Accepts`: its opening sets the cursor behind the header, whatever part follows. Both together give
--             demand 3 (`demand_3` in proofs/Demand3), for every list of parts and every list of calls. proofs/Example is a whole instance.
--
-- 01's terms: part, plain reader, remembered prefix, wrapped prefix, prefix-bearing, blank-prefix, readable, read alone, joined body, End.
pub mod Lists
pub mod Rules
pub mod Calls
pub mod Plain
pub mod Elements
pub mod Demand
pub mod Cursor
pub mod Refinement
