-- The shapes owe what the ground of a moment asks.
use Rattle.std.specs.Prelude.{List}
use Rattle.frp_base.specs.declared.name.Name.{Name}
use Rattle.frp_graph.specs.declared.trace.Sent.{Sent}
use Rattle.frp_graph.specs.declared.prog.Prog.{Prog}
use Rattle.frp_graph.specs.Trace.{Sight}
use Rattle.frp_moment.specs.Stands.{IsGround}
use Rattle.frp_moment.specs.Ground.{ground}

-- For nodes of all shapes: rows and inner links look at links of During alone, and a row gives nothing where the node has no
-- start and none of its links fires.
abbrev pub ShapesAreGround : Type 0
ShapesAreGround = (prog : Prog) (sends : List Sent) (w : Sight) (names : List Name) → IsGround (ground prog sends w names)
