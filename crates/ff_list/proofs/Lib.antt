-- The order of the keys of pairs
pub mod PairKeys
-- Lists by rising key
pub mod RisingLists
-- The gap number of a system within the pole limit
pub mod GapBound
-- Points of both orders
pub mod PlaceForms
-- The last entry of a list
pub mod Popped
-- A system by its form
pub mod FormedSystems
-- The elements that are not 0
pub mod SlopeLists
