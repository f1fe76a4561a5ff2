pub mod Kind
pub mod Round
pub mod Edge
pub mod Meet
pub mod Step
pub mod inside
