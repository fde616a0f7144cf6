pub mod Contents
pub mod Notices
pub mod Laws
pub mod Rows
