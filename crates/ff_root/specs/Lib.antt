-- States of the search.
pub mod States
