pub mod Point
pub mod Link
pub mod Order
pub mod Within
