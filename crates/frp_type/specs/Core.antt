-- Files of core items: what the checker asks for. Each expression is a lawful written one, no item is a derived form, and there
-- are no templates yet.
use Rattle.std.specs.Prelude.{Bool, true, false, ◌&&◌}
use Rattle.std.specs.List.{list_all}
use Rattle.frp_expr.specs.Raw.{is_lawful}
use Rattle.frp_file.specs.declared.file.File.{File}
use Rattle.frp_file.specs.declared.file.Decl.{Decl}
use Rattle.frp_file.specs.declared.file.Decl.TheVariants as d
use Rattle.frp_file.specs.declared.file.ItemForm.{ItemForm}
use Rattle.frp_file.specs.declared.file.ItemForm.TheVariants.{Sink, Let, Tie}
use Rattle.frp_file.specs.declared.file.Sender.{Sender}
use Rattle.frp_file.specs.declared.file.ShapeForm.{ShapeForm}
use Rattle.frp_file.specs.declared.file.ShapeForm.TheVariants.{Never, Constant, Map, Mapc, Filter, Merge, Snapshot, Split, Updates, Value, Loops, Loopc, Hold, Apply, Switchs, Switchc, Execute}

abbrev pub is_core_shape : ShapeForm → Bool
is_core_shape (Never ty) = true
is_core_shape (Constant e) = is_lawful e
is_core_shape (Map x s e) = is_lawful s && is_lawful e
is_core_shape (Mapc x c e) = is_lawful c && is_lawful e
is_core_shape (Filter x s e) = is_lawful s && is_lawful e
is_core_shape (Merge x y r s e) = is_lawful r && is_lawful s && is_lawful e
is_core_shape (Snapshot x y s c e) = is_lawful s && is_lawful c && is_lawful e
is_core_shape (Split s) = is_lawful s
is_core_shape (Updates c) = is_lawful c
is_core_shape (Value c) = is_lawful c
is_core_shape (Loops ty) = true
is_core_shape (Loopc ty) = true
is_core_shape (Hold e s) = is_lawful e && is_lawful s
is_core_shape (Apply cf ca) = is_lawful cf && is_lawful ca
is_core_shape (Switchs c) = is_lawful c
is_core_shape (Switchc c) = is_lawful c
is_core_shape (Execute s template kept) = is_lawful s
is_core_shape _ = false

abbrev pub is_core_item : ItemForm → Bool
is_core_item (Sink n ty) = true
is_core_item (Let n shape) = is_core_shape shape.form
is_core_item (Tie l x) = true
is_core_item _ = false

abbrev pub is_core_decl : Decl → Bool
is_core_decl (d.Function f) = is_lawful f.e
is_core_decl (d.Item i) = is_core_item i.form
is_core_decl (d.Template x) = false

abbrev pub is_core_sender : Sender → Bool
is_core_sender s = list_all (λ x. is_lawful x.value) s.sends

abbrev pub is_core : File → Bool
is_core f = list_all is_core_decl f.graph.decls && list_all is_core_sender f.senders
