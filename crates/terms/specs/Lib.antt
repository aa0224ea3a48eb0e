-- What the contracts cite.
pub mod Numbers
pub mod Abstraction
pub mod Build
pub mod Valid
pub mod Used
