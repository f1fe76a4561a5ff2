pub mod Missing
pub mod inside
