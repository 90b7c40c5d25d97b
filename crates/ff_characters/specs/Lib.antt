-- Characters of a finite algebra
pub mod Characters
