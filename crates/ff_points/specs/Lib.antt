-- Points of an order that is closed under products
pub mod PointLists
