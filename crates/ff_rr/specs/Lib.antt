-- What a pole module and an order of the other chart have in common
pub mod Functions
