-- Files in which each written expression is lawful: its literal texts are printable and of at most 1,024 bytes, its list forms
-- have 1 to 1,024 items, and its numbers 64 bits.
use Rattle.std.specs.Prelude.{Bool, true, ◌&&◌}
use Rattle.std.specs.List.{list_all}
use Rattle.frp_expr.specs.Raw.{is_lawful}
use Rattle.frp_file.specs.declared.file.Decl.{Decl}
use Rattle.frp_file.specs.declared.file.Decl.TheVariants as d
use Rattle.frp_file.specs.declared.file.File.{File}
use Rattle.frp_file.specs.declared.file.Item.{Item}
use Rattle.frp_file.specs.declared.file.ItemForm.{ItemForm}
use Rattle.frp_file.specs.declared.file.ItemForm.TheVariants.{Sink, Cellsink, Let, Tie, Get}
use Rattle.frp_file.specs.declared.file.Sender.{Sender}
use Rattle.frp_file.specs.declared.file.ShapeForm.{ShapeForm}
use Rattle.frp_file.specs.declared.file.ShapeForm.TheVariants.{Never, Constant, Map, Mapc, Filter, Merge, Snapshot, Split, Updates, Value, Loops, Loopc, Hold, Apply, Switchs, Switchc, Execute, Orelse, Gate, Once, Accum, Collect, Lift2, Defer}

abbrev pub are_shape_parts_lawful : ShapeForm → Bool
are_shape_parts_lawful (Never ty) = true
are_shape_parts_lawful (Constant o) = is_lawful o
are_shape_parts_lawful (Map x s e) = is_lawful s && is_lawful e
are_shape_parts_lawful (Mapc x c e) = is_lawful c && is_lawful e
are_shape_parts_lawful (Filter x s e) = is_lawful s && is_lawful e
are_shape_parts_lawful (Merge x y a b e) = is_lawful a && is_lawful b && is_lawful e
are_shape_parts_lawful (Snapshot x y s c e) = is_lawful s && is_lawful c && is_lawful e
are_shape_parts_lawful (Split s) = is_lawful s
are_shape_parts_lawful (Updates c) = is_lawful c
are_shape_parts_lawful (Value c) = is_lawful c
are_shape_parts_lawful (Loops ty) = true
are_shape_parts_lawful (Loopc ty) = true
are_shape_parts_lawful (Hold o s) = is_lawful o && is_lawful s
are_shape_parts_lawful (Apply cf ca) = is_lawful cf && is_lawful ca
are_shape_parts_lawful (Switchs c) = is_lawful c
are_shape_parts_lawful (Switchc c) = is_lawful c
are_shape_parts_lawful (Execute s template kept) = is_lawful s && list_all is_lawful kept
are_shape_parts_lawful (Orelse a b) = is_lawful a && is_lawful b
are_shape_parts_lawful (Gate s c) = is_lawful s && is_lawful c
are_shape_parts_lawful (Once s) = is_lawful s
are_shape_parts_lawful (Accum ty y z s o e) = is_lawful s && is_lawful o && is_lawful e
are_shape_parts_lawful (Collect ty y z s o e) = is_lawful s && is_lawful o && is_lawful e
are_shape_parts_lawful (Lift2 y z ca cb e) = is_lawful ca && is_lawful cb && is_lawful e
are_shape_parts_lawful (Defer s) = is_lawful s

abbrev pub are_item_parts_lawful : ItemForm → Bool
are_item_parts_lawful (Sink n ty) = true
are_item_parts_lawful (Cellsink s c ty o) = is_lawful o
are_item_parts_lawful (Let n shape) = are_shape_parts_lawful shape.form
are_item_parts_lawful (Tie l x) = true
are_item_parts_lawful (Get n c) = is_lawful c

abbrev pub are_decl_parts_lawful : Decl → Bool
are_decl_parts_lawful (d.Template t) = list_all (λ i. are_item_parts_lawful i.form) t.items && is_lawful t.give.e
are_decl_parts_lawful (d.Function f) = is_lawful f.e
are_decl_parts_lawful (d.Item i) = are_item_parts_lawful i.form

abbrev pub are_sender_parts_lawful : Sender → Bool
are_sender_parts_lawful s = list_all (λ x. is_lawful x.value) s.sends

abbrev pub has_lawful_parts : File → Bool
has_lawful_parts f = list_all are_decl_parts_lawful f.graph.decls && list_all are_sender_parts_lawful f.senders
