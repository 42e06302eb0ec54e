-- Printed  what the program table2psv prints, over the whole of its input
-- Refusal  why the program stops, and 01's number of it
-- Run      what a run over the bytes at hand prints of that, and what it leaves
-- Drive    a program that reads pieces of the input, runs and prints: what it prints is the same however the reads cut the input (proofs/Cuts)
-- Table    a table of which no line is refused: what is printed of it are its elements (proofs/Table)
-- Parts    for the parts of a run
-- Loop     for the loop over lines, whose step is a closure
pub mod Printed
pub mod Refusal
pub mod Run
pub mod Parts
pub mod Drive
pub mod Loop
pub mod Table
