-- Files without their places: each place is 0.
use Rattle.std.specs.Prelude.{map}
use Rattle.frp_expr.specs.declared.raw.Spot.{Spot}
use Rattle.frp_expr.specs.declared.raw.RawTy.{RawTy, fold-RawTy}
use Rattle.frp_expr.specs.declared.raw.TyForm.{TyForm, roll-TyForm}
use Rattle.frp_expr.specs.declared.raw.Raw.{Raw, fold-Raw}
use Rattle.frp_expr.specs.declared.raw.RawForm.{RawForm, RawForm-F, roll-RawForm}
use Rattle.frp_expr.specs.declared.raw.RawForm.TheVariants as f
use Rattle.frp_expr.specs.declared.raw.RawForm.TheOpen as o
use Rattle.frp_file.specs.declared.file.File.{File}
use Rattle.frp_file.specs.declared.file.Graph.{Graph}
use Rattle.frp_file.specs.declared.file.Decl.{Decl}
use Rattle.frp_file.specs.declared.file.Decl.TheVariants as d
use Rattle.frp_file.specs.declared.file.Template.{Template}
use Rattle.frp_file.specs.declared.file.Give.{Give}
use Rattle.frp_file.specs.declared.file.Function.{Function}
use Rattle.frp_file.specs.declared.file.Param.{Param}
use Rattle.frp_file.specs.declared.file.Item.{Item}
use Rattle.frp_file.specs.declared.file.ItemForm.{ItemForm}
use Rattle.frp_file.specs.declared.file.ItemForm.TheVariants as i
use Rattle.frp_file.specs.declared.file.RawShape.{RawShape}
use Rattle.frp_file.specs.declared.file.ShapeForm.{ShapeForm}
use Rattle.frp_file.specs.declared.file.ShapeForm.TheVariants as shape
use Rattle.frp_file.specs.declared.file.Listen.{Listen}
use Rattle.frp_file.specs.declared.file.Sender.{Sender}
use Rattle.frp_file.specs.declared.file.RawSend.{RawSend}
use Rattle.frp_form.specs.Types.{raw_ty}
use Rattle.frp_form.specs.Heads.{raw_at}
use Rattle.frp_form.specs.Shapes.{shape_at}
use Rattle.frp_form.specs.Items.{placed_item}

abbrev pub unplaced_spot : Spot → Spot
unplaced_spot x = record { at = 0; text = x.text }

abbrev pub unplaced_ty : RawTy → RawTy
unplaced_ty = fold-RawTy TyForm RawTy (λ l. roll-TyForm l) (λ r. raw_ty 0 r.form)

abbrev pub unplaced_step : RawForm-F RawForm Raw → RawForm
unplaced_step (o.Let x a b) = f.Let (unplaced_spot x) a b
unplaced_step (o.Nil ty) = f.Nil (unplaced_ty ty)
unplaced_step (o.Close x ps) = f.Close (unplaced_spot x) ps
unplaced_step l = roll-RawForm l

abbrev pub unplaced_expr : Raw → Raw
unplaced_expr = fold-Raw RawForm Raw unplaced_step (λ r. raw_at 0 r.form)

abbrev pub unplaced_param : Param → Param
unplaced_param p = record { at = 0; name = unplaced_spot p.name; ty = unplaced_ty p.ty }

abbrev pub unplaced_shape_form : ShapeForm → ShapeForm
unplaced_shape_form (shape.Never ty) = shape.Never (unplaced_ty ty)
unplaced_shape_form (shape.Constant o) = shape.Constant (unplaced_expr o)
unplaced_shape_form (shape.Map x s e) = shape.Map (unplaced_spot x) (unplaced_expr s) (unplaced_expr e)
unplaced_shape_form (shape.Mapc x c e) = shape.Mapc (unplaced_spot x) (unplaced_expr c) (unplaced_expr e)
unplaced_shape_form (shape.Filter x s e) = shape.Filter (unplaced_spot x) (unplaced_expr s) (unplaced_expr e)
unplaced_shape_form (shape.Merge x y a b e) = shape.Merge (unplaced_spot x) (unplaced_spot y) (unplaced_expr a) (unplaced_expr b) (unplaced_expr e)
unplaced_shape_form (shape.Snapshot x y s c e) = shape.Snapshot (unplaced_spot x) (unplaced_spot y) (unplaced_expr s) (unplaced_expr c) (unplaced_expr e)
unplaced_shape_form (shape.Split s) = shape.Split (unplaced_expr s)
unplaced_shape_form (shape.Updates c) = shape.Updates (unplaced_expr c)
unplaced_shape_form (shape.Value c) = shape.Value (unplaced_expr c)
unplaced_shape_form (shape.Loops ty) = shape.Loops (unplaced_ty ty)
unplaced_shape_form (shape.Loopc ty) = shape.Loopc (unplaced_ty ty)
unplaced_shape_form (shape.Hold o s) = shape.Hold (unplaced_expr o) (unplaced_expr s)
unplaced_shape_form (shape.Apply cf ca) = shape.Apply (unplaced_expr cf) (unplaced_expr ca)
unplaced_shape_form (shape.Switchs c) = shape.Switchs (unplaced_expr c)
unplaced_shape_form (shape.Switchc c) = shape.Switchc (unplaced_expr c)
unplaced_shape_form (shape.Execute s t kept) = shape.Execute (unplaced_expr s) (unplaced_spot t) (map unplaced_expr kept)
unplaced_shape_form (shape.Orelse a b) = shape.Orelse (unplaced_expr a) (unplaced_expr b)
unplaced_shape_form (shape.Gate s c) = shape.Gate (unplaced_expr s) (unplaced_expr c)
unplaced_shape_form (shape.Once s) = shape.Once (unplaced_expr s)
unplaced_shape_form (shape.Accum ty x y s o e) = shape.Accum (unplaced_ty ty) (unplaced_spot x) (unplaced_spot y) (unplaced_expr s) (unplaced_expr o) (unplaced_expr e)
unplaced_shape_form (shape.Collect ty x y s o e) = shape.Collect (unplaced_ty ty) (unplaced_spot x) (unplaced_spot y) (unplaced_expr s) (unplaced_expr o) (unplaced_expr e)
unplaced_shape_form (shape.Lift2 x y ca cb e) = shape.Lift2 (unplaced_param x) (unplaced_param y) (unplaced_expr ca) (unplaced_expr cb) (unplaced_expr e)
unplaced_shape_form (shape.Defer s) = shape.Defer (unplaced_expr s)

abbrev pub unplaced_shape : RawShape → RawShape
unplaced_shape r = shape_at 0 (unplaced_shape_form r.form)

abbrev pub unplaced_item_form : ItemForm → ItemForm
unplaced_item_form (i.Sink name ty) = i.Sink (unplaced_spot name) (unplaced_ty ty)
unplaced_item_form (i.Cellsink sink cell ty first) = i.Cellsink (unplaced_spot sink) (unplaced_spot cell) (unplaced_ty ty) (unplaced_expr first)
unplaced_item_form (i.Let name shape) = i.Let (unplaced_spot name) (unplaced_shape shape)
unplaced_item_form (i.Tie from to) = i.Tie (unplaced_spot from) (unplaced_spot to)
unplaced_item_form (i.Get name cell) = i.Get (unplaced_spot name) (unplaced_expr cell)

abbrev pub unplaced_item : Item → Item
unplaced_item x = placed_item 0 (unplaced_item_form x.form)

abbrev pub unplaced_give : Give → Give
unplaced_give g = record { at = 0; e = unplaced_expr g.e }

abbrev pub unplaced_template : Template → Template
unplaced_template t = record {
  at = 0;
  name = unplaced_spot t.name;
  param = unplaced_param t.param;
  kept = map unplaced_param t.kept;
  items = map unplaced_item t.items;
  give = unplaced_give t.give;
}

abbrev pub unplaced_function : Function → Function
unplaced_function g = record { at = 0; name = unplaced_spot g.name; kept = map unplaced_param g.kept; arg = unplaced_param g.arg; e = unplaced_expr g.e }

abbrev pub unplaced_decl : Decl → Decl
unplaced_decl (d.Template t) = d.Template (unplaced_template t)
unplaced_decl (d.Function g) = d.Function (unplaced_function g)
unplaced_decl (d.Item x) = d.Item (unplaced_item x)

abbrev pub unplaced_graph : Graph → Graph
unplaced_graph g = record { at = 0; decls = map unplaced_decl g.decls }

abbrev pub unplaced_listen : Listen → Listen
unplaced_listen l = record { at = 0; name = unplaced_spot l.name }

abbrev pub unplaced_send : RawSend → RawSend
unplaced_send r = record { at = 0; name = unplaced_spot r.name; value = unplaced_expr r.value }

abbrev pub unplaced_sender : Sender → Sender
unplaced_sender r = record { at = 0; sends = map unplaced_send r.sends }

-- the file with 0 for each place
abbrev pub unplaced : File → File
unplaced g = record { graph = unplaced_graph g.graph; listens = map unplaced_listen g.listens; senders = map unplaced_sender g.senders }
