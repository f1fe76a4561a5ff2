pub mod Exit
pub mod Files
pub mod Printed
pub mod inside
