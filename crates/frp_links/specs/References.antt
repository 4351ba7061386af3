-- Which values refer to a node, and that the cells of switches have such values.
use Rattle.std.specs.Prelude.{◌≡◌, ◌⊎◌, Bool, true, false, Option, Some, None, IsTrue, is_some}
use Rattle.frp_base.specs.declared.name.Name.{Name}
use Rattle.frp_base.specs.declared.val.Val.{Val, out-Val}
use Rattle.frp_base.specs.declared.val.Val.TheOpen.{Val-F}
use Rattle.frp_base.specs.declared.val.Val.TheOpen as o
use Rattle.frp_graph.specs.declared.shape.Shape.{Shape}
use Rattle.frp_graph.specs.declared.shape.Shape.TheVariants.{Switchs, Switchc}
use Rattle.frp_graph.specs.Trace.{Sight, Each, post_in}

-- whether a value refers to a node
abbrev pub refers_in : Val-F Val → Bool
refers_in (o.Stream n) = true
refers_in (o.Cell n) = true
refers_in (o.Int z) = false
refers_in (o.Bool b) = false
refers_in (o.Text t) = false
refers_in (o.Pair a b) = false
refers_in (o.List xs) = false
refers_in (o.Fun f xs) = false
refers_in o.Absent = false
refers_in (o.Present a) = false

abbrev pub is_reference_or_none : Option Val → Bool
is_reference_or_none None = true
is_reference_or_none (Some v) = refers_in (out-Val v)

-- a live cell whose values refer to nodes
pub record Refers (w : Sight) (c : Name) : Type 0 where
  pub live : IsTrue (is_some (w.node c))
  pub before : IsTrue (is_reference_or_none (w.pre c))
  pub after : IsTrue (is_reference_or_none (post_in w c))

-- the cell of a switch is one
abbrev pub SwitchRefers : Sight → Shape → Type 0
SwitchRefers w s = (c : Name) → (s ≡ Switchs c) ⊎ (s ≡ Switchc c) → Refers w c

abbrev pub SwitchesRefer : Sight → Type 0
SwitchesRefer w = Each w (λ x. SwitchRefers w x.shape)
