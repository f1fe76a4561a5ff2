pub mod SignatureSource
pub mod Added
pub mod Put
pub mod Words
pub mod Kept
pub mod Members
pub mod Made
pub mod Cursor
