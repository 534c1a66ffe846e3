pub mod Numbered
pub mod Printed
pub mod Asked
pub mod Foretold
