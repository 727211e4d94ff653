pub mod Dividing
pub mod Marks
pub mod Tops
pub mod Pieces
pub mod Finding
pub mod KeyLaws
pub mod Places
pub mod KeyTexts
