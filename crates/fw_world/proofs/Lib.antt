-- replies to asks, and runs of asks
pub mod Replies
pub mod Running
-- asks in journals that grow
pub mod AskLists
pub mod Records
-- values of calls
pub mod Results
-- editions and their numbers
pub mod Numbering
pub mod Accepting
pub mod MoreEditions
pub mod Seen
-- lanes that go on
pub mod Judging
pub mod Caching
pub mod LaneSteps
pub mod Passing
-- lanes in the order of their places
pub mod Arranging
-- records of worlds that are closed
pub mod Recording
