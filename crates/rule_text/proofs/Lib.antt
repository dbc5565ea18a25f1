-- how writes follow each other
pub mod WriteSteps
pub mod Lists
-- numbers and elements as texts
pub mod DigitSteps
pub mod HexSteps
pub mod ElementTexts
-- runs of zero groups in an IPv6 address
pub mod Runs
pub mod ZeroRuns
pub mod RunLaw
