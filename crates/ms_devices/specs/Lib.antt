pub mod Causes
pub mod Memory
pub mod MemoryRows
pub mod Outside
pub mod Told
pub mod WorkerMemory
pub mod WorkerMemoryRows
