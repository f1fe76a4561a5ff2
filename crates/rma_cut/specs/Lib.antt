pub mod Cut
pub mod Show
pub mod inside
