pub mod SidesLemmas
