pub mod OldRests
pub mod Prepared
pub mod PropagatedRecordings
pub mod SessionRecordings
pub mod Pendings
pub mod PauliItems
