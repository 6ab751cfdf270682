pub mod Adjoined
