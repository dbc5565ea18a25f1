-- the records of one capture, and captures one after another
pub mod CaptureWork
pub mod Examining
