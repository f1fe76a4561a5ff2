pub mod TailKinds
pub mod Places
pub mod Suffix
pub mod Creations
pub mod Kind
pub mod AccessWords
