pub mod Tables
pub mod Numbers
pub mod Texts
pub mod Laws
