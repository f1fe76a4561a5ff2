mod CallCountLemmas
mod SoFarLemmas
mod BalanceLemmas
mod ScanLemmas
mod RoundLemmas
