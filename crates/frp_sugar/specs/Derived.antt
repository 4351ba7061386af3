-- Files without derived forms.
use Rattle.std.specs.Prelude.{Bool, true, false, not, List}
use Rattle.std.specs.List.{list_all}
use Rattle.frp_file.specs.declared.file.Decl.{Decl}
use Rattle.frp_file.specs.declared.file.Decl.TheVariants as d
use Rattle.frp_file.specs.declared.file.File.{File}
use Rattle.frp_file.specs.declared.file.Item.{Item}
use Rattle.frp_file.specs.declared.file.ItemForm.{ItemForm}
use Rattle.frp_file.specs.declared.file.ItemForm.TheVariants.{Cellsink, Let}
use Rattle.frp_file.specs.declared.file.ShapeForm.{ShapeForm}
use Rattle.frp_file.specs.declared.file.ShapeForm.TheVariants.{Orelse, Gate, Once, Accum, Collect, Lift2, Defer}

-- whether a shape is a derived form
abbrev pub is_derived : ShapeForm → Bool
is_derived (Orelse a b) = true
is_derived (Gate s c) = true
is_derived (Once s) = true
is_derived (Accum ty y z s o e) = true
is_derived (Collect ty y z s o e) = true
is_derived (Lift2 y z ca cb e) = true
is_derived (Defer s) = true
is_derived _ = false

-- whether an item has none
abbrev pub is_core_form : ItemForm → Bool
is_core_form (Cellsink s c ty o) = false
is_core_form (Let x shape) = not (is_derived shape.form)
is_core_form _ = true

abbrev pub are_core_items : List Item → Bool
are_core_items = list_all (λ i. is_core_form i.form)

abbrev pub has_no_derived_form : Decl → Bool
has_no_derived_form (d.Template t) = are_core_items t.items
has_no_derived_form (d.Function f) = true
has_no_derived_form (d.Item i) = is_core_form i.form

abbrev pub is_core_file : File → Bool
is_core_file f = list_all has_no_derived_form f.graph.decls
