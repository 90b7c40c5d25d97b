-- Points of irreducible equations, and the least functions there
pub mod Places
