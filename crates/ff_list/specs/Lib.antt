-- Lists of isomorphisms, and why two equations have none
pub mod Lists
-- What the search has of the equations, the points and the systems
pub mod Searches
