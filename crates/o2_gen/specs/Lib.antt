pub mod BenchCode
pub mod BenchFile
pub mod BenchModule
pub mod BenchSetting
