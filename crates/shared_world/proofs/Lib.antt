-- lanes that go on
pub mod Standing
pub mod Sections
pub mod Visits
pub mod SeenCaches
pub mod Judged
-- desks that go on
pub mod DeskSteps
pub mod Committed
-- lanes taken apart
pub mod Apart
-- a world that opens
pub mod NewWorld
-- a world that closes
pub mod LastBook
pub mod LastLanes
pub mod Closes
