pub mod InsideLemmas
