pub mod Stores
pub mod Puts
pub mod Judged
pub mod Items
pub mod Listed
pub mod Headed
