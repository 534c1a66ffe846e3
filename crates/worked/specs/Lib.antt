pub mod Netlists
pub mod Rows
