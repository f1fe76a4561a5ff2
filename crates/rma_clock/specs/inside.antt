pub mod Before
pub mod Blocks
pub mod Rows
pub mod Table
pub mod Live
pub mod Dense
