-- An order at one of its points
pub mod Point
pub mod Module
pub mod Weight
pub mod Socle
pub mod Fibre
pub mod Functional
-- An order of a chart at one of its points
pub mod ChartOrder
pub mod ChartValue
pub mod ChartPole
pub mod ChartFibre
