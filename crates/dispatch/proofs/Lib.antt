pub mod DispatchDoor
pub mod Running
