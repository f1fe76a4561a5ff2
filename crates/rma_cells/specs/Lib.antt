pub mod Cell
pub mod Cells
pub mod Looks
pub mod inside
