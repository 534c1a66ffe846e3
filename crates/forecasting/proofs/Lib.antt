pub mod Recurrence
pub mod Tables
pub mod Firing
