pub mod Texts
pub mod Duties
pub mod Keys
pub mod Among
pub mod Gathering
pub mod Standing
