pub mod Steps
pub mod Numbers
pub mod Lower
pub mod Upper
pub mod Ring
