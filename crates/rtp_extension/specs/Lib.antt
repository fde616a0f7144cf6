pub mod Activity
pub mod Elements
pub mod Reading
pub mod Viewing
pub mod Ids
pub mod Rewriting
pub mod Laws
pub mod Rows
