pub mod Placed
pub mod Layouts
pub mod Shape
pub mod Elsewhere
