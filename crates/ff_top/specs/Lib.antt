-- What a run reads, answers and writes: the words, the exit numbers, what is answered to the bytes
-- of an input, what each command says of a job, and whole runs.
pub mod Words
pub mod Exits
pub mod Input
pub mod Check
pub mod Order
pub mod Refusals
pub mod Lists
pub mod Commands
pub mod Run
