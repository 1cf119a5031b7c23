-- The host theorem. The pages that are signed: Host (what a host has, and all that it may do, within docs/HOST.md), with Pieces (a journal opened in pieces), Seen (what is
-- seen of it by the calls, and its runs as demand 3 speaks of runs) and proofs/HostDemand3 (what is claimed of every run of a host, and that it holds). The rest is proof:
-- here PiecesLaws, CallLaws, SameOpening, HeadLaws: what the calls hand over; every way of opening is the same opening; a torn head; and HostStands.
pub mod Pieces
pub mod Host
pub mod Seen
pub mod PiecesLaws
pub mod CallLaws
pub mod SameOpening
pub mod HeadLaws
pub mod HostStands
