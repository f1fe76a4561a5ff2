pub mod RankState
