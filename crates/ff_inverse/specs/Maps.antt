-- The map of a candidate on coordinates, and what is pulled back by it. This project's own.
use Rattle.std.specs.Prelude.{◌≡◌, ℕ, length}
use Rattle.std.specs.List.{All}
use Rattle.ff_theory.specs.Ring.{Elements, IsElement}
use Rattle.ff_data.specs.declared.system.System.{System}
use Rattle.ff_data.specs.declared.search.Candidate.{Candidate}
use Rattle.ff_data.specs.Systems.{AreCoords}
use Rattle.ff_inverse.specs.declared.pull.Parts.{Parts}

-- alpha and beta are elements, and there is an image for each basis element of the system
pub record HasMap (F : Elements ℕ) (s : System) (c : Candidate) : Type 0 where
  pub alpha : IsElement F c.alpha
  pub beta : IsElement F c.beta
  pub images : All (AreCoords F s) c.images
  pub count : length c.images ≡ s.e

-- what is left and what is pulled are coordinates
pub record AreParts (F : Elements ℕ) (s : System) (p : Parts) : Type 0 where
  pub rest : AreCoords F s p.rest.items
  pub pulled : AreCoords F s p.pulled.items
