pub mod QueueDoor
pub mod Reading
pub mod Entering
