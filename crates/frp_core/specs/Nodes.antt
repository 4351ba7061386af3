-- How the nodes of a file are made one after the other: each line's over the references to the nodes of the lines before it.
use Rattle.std.specs.Prelude.{List, [], ◌∷◌, ◌++◌, length, ⊤}
use Rattle.frp_base.specs.declared.ty.Ty.{Ty}
use Rattle.frp_base.specs.declared.val.Val.{Val}
use Rattle.frp_base.specs.Name.{declared_name}
use Rattle.frp_graph.specs.declared.prog.Line3.{Line3}
use Rattle.frp_graph.specs.declared.prog.Line3.TheVariants as line
use Rattle.frp_graph.specs.declared.prog.LineShape.{LineShape}
use Rattle.frp_graph.specs.declared.trace.Node.{Node}
use Rattle.frp_graph.specs.Births.{reference, shape_of, given_by}
use Rattle.frp_core.specs.Small.{IsSmall}

-- the node of a line of this type and shape
abbrev pub line_node : List Val → Ty → LineShape → Node
line_node refs ty shape = record { name = declared_name (length refs); shape = shape_of refs refs shape; ty = ty; first = given_by refs shape }

-- these references and that to the node of the next line, of this type
abbrev pub with_next_reference : List Val → Ty → List Val
with_next_reference refs ty = refs ++ reference ty (declared_name (length refs)) ∷ []

-- the nodes of lines
abbrev pub line_nodes : List Val → List Line3 → List Node
line_nodes refs [] = []
line_nodes refs (line.Node ty shape ∷ ls) = line_node refs ty shape ∷ line_nodes (with_next_reference refs ty) ls
line_nodes refs (line.Get c ∷ ls) = []

-- the node of each of these lines reads nodes of the lines before it
abbrev pub AreReady : List Val → List Line3 → Type 0
AreReady refs [] = ⊤
AreReady refs (line.Node ty shape ∷ ls) = IsSmall (length refs) (shape_of refs refs shape) × AreReady (with_next_reference refs ty) ls
AreReady refs (line.Get c ∷ ls) = ⊥
