-- one track, from its beginning to its end
pub mod Beginnings
pub mod TrackSteps
pub mod Ended
pub mod Origins
-- the lines behind `live`
pub mod Listings
pub mod Operator
