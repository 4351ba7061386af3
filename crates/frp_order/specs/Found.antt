-- What is found of places: a ring or an order.
use Rattle.std.specs.Prelude.{ℕ, List}
use Rattle.frp_order.specs.declared.found.Found.{Found}
use Rattle.frp_order.specs.declared.found.Found.TheVariants.{Ring, Order}
use Rattle.frp_order.specs.Rings.{IsRing, IsOrder}

abbrev pub IsFound : List (List ℕ) → Found → Type 0
IsFound rows (Ring ring) = IsRing rows ring
IsFound rows (Order order) = IsOrder rows order
