-- Each step on lists is the theory's step.

-- what lists and cells show
pub mod Lists
pub mod Cells
pub mod Given
-- the theory's steps by the way that each ends, and the fuel that is enough
pub mod Ends
pub mod Fuel
-- one peel, one count step, and each repeated
pub mod Taken
pub mod Peel
pub mod Told
pub mod Count
pub mod Counts
-- settling and hand-over, where the test of 8 passes
pub mod Settle
pub mod Hand
pub mod Test8
pub mod Sessions
pub mod Again
