-- Planes with one row that is not 0
pub mod PowerPlanes
-- Fibres of an order of a chart by vectors
pub mod ChartFibres
-- The data of a fibre of an order as one of an order of a chart
pub mod FibreOfData
-- Lists of vectors
pub mod RowLists
-- Equations of charts, and tables of products
pub mod Equations
