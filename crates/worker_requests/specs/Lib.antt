pub mod Refusals
pub mod Methods
pub mod Contents
pub mod Said
pub mod Short
pub mod Laws
pub mod ContentRows
pub mod Rows
