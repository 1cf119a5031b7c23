-- Demand 3. The pages that are signed: Park (a run of records), Disks (a run with the bytes on the disks), Book (what leaders have committed in a run),
-- Runs (both tellings of a run under one name) and Demand3 (what is claimed of every run; that it holds is proofs/Demand3). Split says how what a call hands
-- over is what Park calls sent. The rest is proof, here and in proofs/, where it is told in which order it is read.
pub mod Park
pub mod Disks
pub mod Book
pub mod Runs
pub mod Demand3
pub mod Split
pub mod Carried
pub mod Sent
pub mod Masks
