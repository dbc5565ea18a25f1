-- the records of captures
pub mod CaptureAudit
pub mod Examined
