-- a sink behind a buffer
pub mod PieceSink
-- a source, read to its end
pub mod WholeSource
