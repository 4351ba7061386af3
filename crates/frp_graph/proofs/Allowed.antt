-- What a shape allows among some live nodes it allows among more.
use Rattle.std.proofs.Common.{List}
use Rattle.frp_base.specs.declared.ty.Ty.{Ty}
use Rattle.frp_graph.specs.declared.prog.Prog.{Prog}
use Rattle.frp_graph.specs.declared.shape.Lam.{Lam}
use Rattle.frp_graph.specs.declared.shape.Shape.{Shape}
use Rattle.frp_graph.specs.declared.shape.Shape.TheVariants.{Sink, Never, Constant, Map, Filter, Filteropt, Merge, Snapshot, Split, Updates, Value, Loop, Hold, Mapc, Apply, Switchs, Switchc, Execute}
use Rattle.frp_graph.specs.Trace.{Sight}
use Rattle.frp_graph.specs.TypedProg.{sigs}
use Rattle.frp_graph.specs.Values.{type_among}
use Rattle.frp_graph.specs.WellFormed.{Returns, Allows}
use Rattle.frp_graph.specs.ShapeLaws.{Stays}
use Rattle.frp_graph.proofs.TypedValues.{are_stay}

module _ (prog : Prog) (w u : Sight) (more : Stays (type_among w.node) (type_among u.node)) where
  gives_stays : (f : Lam) (args : List Ty) (x : Ty) → Returns prog w f args x → Returns prog u f args x
  gives_stays f args x g = record { kept = g.kept; kept_fit = are_stay (sigs prog) (type_among w.node) (type_among u.node) more f.kept g.kept g.kept_fit; typed = g.typed }

  pub allowed_stays : (x : Ty) (shape : Shape) → Allows prog w x shape → Allows prog u x shape
  allowed_stays x Sink h = h
  allowed_stays x Never h = h
  allowed_stays x Constant h = h
  allowed_stays x (Map f s) (a, b, source, gives, is) = (a, b, more s _ source, gives_stays f _ _ gives, is)
  allowed_stays x (Mapc f c) (a, b, source, gives, is) = (a, b, more c _ source, gives_stays f _ _ gives, is)
  allowed_stays x (Filter f s) (a, source, gives, is) = (a, more s _ source, gives_stays f _ _ gives, is)
  allowed_stays x (Filteropt s) (a, source, is) = (a, more s _ source, is)
  allowed_stays x (Merge f r s) (a, left, right, gives, is) = (a, more r _ left, more s _ right, gives_stays f _ _ gives, is)
  allowed_stays x (Snapshot f s c) (a, b, d, source, cell, gives, is) = (a, b, d, more s _ source, more c _ cell, gives_stays f _ _ gives, is)
  allowed_stays x (Split s) (a, source, is) = (a, more s _ source, is)
  allowed_stays x (Updates c) (a, source, is) = (a, more c _ source, is)
  allowed_stays x (Value c) (a, source, is) = (a, more c _ source, is)
  allowed_stays x (Loop to) (kind, tied) = (kind, more to _ tied)
  allowed_stays x (Hold s) (a, source, is) = (a, more s _ source, is)
  allowed_stays x (Apply cf ca) (a, b, function, argument, is) = (a, b, more cf _ function, more ca _ argument, is)
  allowed_stays x (Switchs c) (source, kind) = (more c _ source, kind)
  allowed_stays x (Switchc c) (source, kind) = (more c _ source, kind)
  allowed_stays x (Execute s k kept) (d, pattern, source, fit, is) =
      (d, pattern, more s _ source, are_stay (sigs prog) (type_among w.node) (type_among u.node) more kept d.kept fit, is)
