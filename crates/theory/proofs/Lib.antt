-- Theorems, each stated once.

-- keys, sums, and the encoder
pub mod Flow
pub mod Sums
pub mod Packets
pub mod Encode
-- lists, the invariant, and runs in any order
pub mod Records
pub mod Outside
pub mod Invariant
pub mod Single
pub mod Runs
pub mod Confluence
-- settling and calls: on any cells, and on a flowset's
pub mod Repeat
pub mod Steps
pub mod Settle
pub mod Thirteen
pub mod HandOver
pub mod Calls
pub mod Truthful
pub mod Demands
pub mod Whole
pub mod Stray
pub mod Alone
-- marks and per-cell numbers
pub mod Positions
pub mod Noted
pub mod Proper
-- what a whole report leaves no doubt of
pub mod Conserved
pub mod NoOther
pub mod Others
-- switches that exchange their lists
pub mod Grown
pub mod Generic
pub mod Onward
pub mod Room
pub mod Along
pub mod Family
pub mod Exchange
-- the ten cases
pub mod Cases
pub mod Unclean
pub mod Hollow
