-- SeenLaws, HostActs, HostRuns: **every run of a host is one of demand 3's sites** (`host_theorem`), with the same records and the same book;
-- HostRecords, HostBookToday, Answers: so demand 3 holds of it (HostDemand3), and what no call answers; Hosted: every run of a site is one of a host.
-- Last, runs that are shown: a leader, an order, a second leader (Example), power that fails at any byte (ExampleFails); and why the old struct is never kept with the
-- new log (OldStruct, to which the must-fail edit old_struct_new_log leads).
pub mod HostDemand3
pub mod SeenLaws
pub mod HostActs
pub mod HostRuns
pub mod HostRecords
pub mod HostBookToday
pub mod Answers
pub mod Hosted
pub mod Example
pub mod ExampleFails
pub mod OldStruct
