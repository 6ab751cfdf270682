pub mod BenchReads
pub mod Settings
