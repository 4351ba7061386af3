-- The core file that a file stands for: core items stand in the place of each derived form. The hidden items of a body are
-- counted on through it, from 0, and the hidden functions through the file. A hidden function stands just before the
-- declaration of the graph that holds its form.
use Rattle.std.specs.Prelude.{ℕ, ◌+◌, List, [], ◌∷◌, ◌++◌, map}
use Rattle.frp_file.specs.declared.file.Decl.{Decl}
use Rattle.frp_file.specs.declared.file.Decl.TheVariants as d
use Rattle.frp_file.specs.declared.file.File.{File}
use Rattle.frp_file.specs.declared.file.Function.{Function}
use Rattle.frp_file.specs.declared.file.Item.{Item}
use Rattle.frp_file.specs.declared.file.ItemForm.{ItemForm}
use Rattle.frp_file.specs.declared.file.ItemForm.TheVariants.{Sink, Cellsink, Let}
use Rattle.frp_file.specs.declared.file.ShapeForm.TheVariants.{Hold}
use Rattle.frp_sugar.specs.Made.{name}
use Rattle.frp_sugar.specs.Table.{let_items, shape_functions, shape_hidden, shape_hidden_functions}

-- Items: what stands for one, where n is the number of the body's next hidden item and m that of the file's next hidden
-- function; its hidden functions; and how many hidden items and functions it has.

abbrev pub form_items : ℕ → ℕ → ℕ → ItemForm → List Item
form_items at n m (Let x shape) = let_items at x shape.at n m shape.form
form_items at n m (Cellsink s c ty o) =
    record { at = at; form = Sink s ty }
    ∷ record { at = at; form = Let c (record { at = at; form = Hold o (name at s.text) }) }
    ∷ []
form_items at n m form = record { at = at; form = form } ∷ []

abbrev pub form_functions : ℕ → ItemForm → List Function
form_functions m (Let x shape) = shape_functions shape.at m shape.form
form_functions m _ = []

abbrev pub form_hidden : ItemForm → ℕ
form_hidden (Let x shape) = shape_hidden shape.form
form_hidden _ = 0

abbrev pub form_hidden_functions : ItemForm → ℕ
form_hidden_functions (Let x shape) = shape_hidden_functions shape.form
form_hidden_functions _ = 0

-- Bodies: the same of the items from here on.

abbrev pub body_items : ℕ → ℕ → List Item → List Item
body_items n m [] = []
body_items n m (i ∷ is) = form_items i.at n m i.form ++ body_items (n + form_hidden i.form) (m + form_hidden_functions i.form) is

abbrev pub body_functions : ℕ → List Item → List Function
body_functions m [] = []
body_functions m (i ∷ is) = form_functions m i.form ++ body_functions (m + form_hidden_functions i.form) is

abbrev pub body_hidden_functions : List Item → ℕ
body_hidden_functions [] = 0
body_hidden_functions (i ∷ is) = form_hidden_functions i.form + body_hidden_functions is

-- Declarations: what stands for one, and how many hidden items and functions it takes of the graph's and of the file's.

abbrev pub decl_decls : ℕ → ℕ → Decl → List Decl
decl_decls n m (d.Template t) = map d.Function (body_functions m t.items) ++ d.Template (record t { items = body_items 0 m t.items }) ∷ []
decl_decls n m (d.Function f) = d.Function f ∷ []
decl_decls n m (d.Item i) = map d.Function (form_functions m i.form) ++ map d.Item (form_items i.at n m i.form)

abbrev pub decl_hidden : Decl → ℕ
decl_hidden (d.Item i) = form_hidden i.form
decl_hidden _ = 0

abbrev pub decl_hidden_functions : Decl → ℕ
decl_hidden_functions (d.Template t) = body_hidden_functions t.items
decl_hidden_functions (d.Function f) = 0
decl_hidden_functions (d.Item i) = form_hidden_functions i.form

-- the declarations from here on
abbrev pub graph_decls : ℕ → ℕ → List Decl → List Decl
graph_decls n m [] = []
graph_decls n m (d ∷ ds) = decl_decls n m d ++ graph_decls (n + decl_hidden d) (m + decl_hidden_functions d) ds

abbrev pub expanded : File → File
expanded f = record f { graph = record { at = f.graph.at; decls = graph_decls 0 0 f.graph.decls } }
