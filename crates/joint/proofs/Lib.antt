-- The theorems on the exchange: Joint, History, Refusals, Thirteen, NoOther; and what they stand on.
pub mod Pairs
pub mod Exchanges
pub mod Joint
pub mod History
pub mod Refusals
pub mod Thirteen
pub mod NoOther
