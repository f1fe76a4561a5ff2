pub mod Place
pub mod Agreement
