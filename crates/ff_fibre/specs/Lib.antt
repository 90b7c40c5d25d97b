-- The forms of fibres
pub mod Fibres
