-- In a well-formed graph a switch's cell is live, and refers to a node where it has a value.
use Rattle.std.proofs.Common.{◌≡◌, true, false, List, Option, Some, None, refl, subst, inl, inr}
use Rattle.std.specs.Prelude.{◌||◌, is_some, option_map}
use Rattle.frp_base.specs.declared.name.Name.{Name}
use Rattle.frp_base.specs.declared.ty.Ty.{Ty, out-Ty, roll-out-Ty}
use Rattle.frp_base.specs.declared.ty.Ty.TheOpen.{Ty-F}
use Rattle.frp_base.specs.declared.ty.Ty.TheOpen as u
use Rattle.frp_base.specs.declared.ty.Ty.TheVariants as t
use Rattle.frp_base.specs.declared.val.Val.{Val, out-Val}
use Rattle.frp_base.specs.declared.val.Val.TheOpen.{Val-F}
use Rattle.frp_base.specs.declared.val.Val.TheOpen as o
use Rattle.frp_expr.specs.Typing.{Sig}
use Rattle.frp_expr.proofs.ValueLemmas.{Layer, opened}
use Rattle.frp_graph.specs.declared.prog.Prog.{Prog}
use Rattle.frp_graph.specs.declared.trace.Node.{Node}
use Rattle.frp_graph.specs.declared.shape.Shape.{Shape}
use Rattle.frp_graph.specs.declared.shape.Shape.TheVariants.{Switchs, Switchc}
use Rattle.frp_graph.specs.Trace.{Sight, post_in}
use Rattle.frp_graph.specs.TypedProg.{sigs, stream_in, cell_in}
use Rattle.frp_graph.specs.Values.{type_among, is_value}
use Rattle.frp_graph.specs.WellFormed.{Allows, IsWellFormed}
use Rattle.frp_graph.specs.Links.{fixed_links, during_links, after_links}
use Rattle.frp_graph.proofs.TypedValues.{IsNodeType, stream_type, cell_type}
use Rattle.frp_graph.proofs.TypedSights.{cell_before, cell_after}
use Rattle.frp_links.specs.References.{refers_in, is_reference_or_none, Refers, SwitchRefers, SwitchesRefer}

-- a value of a node's type refers to a node
refers_layer : (nodes : Name → Option Ty) (sigs : List Sig) (l : Val-F Val) (x : Ty) (w : Ty-F Ty) → (is_some (stream_in w) || is_some (cell_in w)) ≡ true
    → Layer nodes sigs l x w ≡ true → refers_in l ≡ true
refers_layer nodes sigs (o.Stream n) x w e h = refl
refers_layer nodes sigs (o.Cell n) x w e h = refl
refers_layer nodes sigs _ x (u.Stream a) e h = absurd cc
refers_layer nodes sigs _ x (u.Cell a) e h = absurd cc
refers_layer nodes sigs l x _ e h = absurd cc

live_of : (o : Option Node) (x : Ty) → option_map (λ (y : Node). y.ty) o ≡ Some x → is_some o ≡ true
live_of None x h = absurd cc
live_of (Some y) x h = refl

module _ (prog : Prog) (w : Sight) (formed : IsWellFormed prog w) where
  refers : (v : Val) (x : Ty) → IsNodeType x → is_value prog w.node v x ≡ true → refers_in (out-Val v) ≡ true
  refers v x r h = refers_layer (type_among w.node) (sigs prog) (out-Val v) x (out-Ty x) r (opened (type_among w.node) (sigs prog) v x (out-Ty x) (roll-out-Ty x) h)

  reference : (o : Option Val) (x : Ty) → IsNodeType x → ((v : Val) → o ≡ Some v → is_value prog w.node v x ≡ true) → is_reference_or_none o ≡ true
  reference None x r fits = refl
  reference (Some v) x r fits = refers v x r (fits v refl)

  reads : (c : Name) (x : Ty) → type_among w.node c ≡ Some (t.Cell x) → IsNodeType x → Refers w c
  reads c x source kind = record {
    live = live_of (w.node c) (t.Cell x) source;
    before = reference (w.pre c) x kind (λ v e. cell_before prog w formed c x v source e);
    after = reference (post_in w c) x kind (λ v e. cell_after prog w formed c x v source e);
  }

  by_switchs : (c : Name) (x : Ty) → Allows prog w x (Switchs c) → Refers w c
  by_switchs c x (source, kind) = reads c x source (stream_type x kind)

  by_switchc : (c : Name) (x : Ty) → Allows prog w x (Switchc c) → Refers w c
  by_switchc c x (source, kind) = reads c x source (cell_type x kind)

  of_shape : (x : Ty) (s : Shape) → Allows prog w x s → SwitchRefers w s
  of_shape x s a c (inl e) = by_switchs c x (subst (Allows prog w x) e a)
  of_shape x s a c (inr e) = by_switchc c x (subst (Allows prog w x) e a)

  -- in a well-formed graph the switches' cells refer to nodes
  pub switches_refer : SwitchesRefer w
  switches_refer n x e = of_shape x.ty x.shape (formed.shapes n x e)

-- Shapes that choose no link.
module _ (w : Sight) (after : Name → Option Val) where
  pub during_fixed : (s : Shape) → ((c : Name) → s ≡ Switchs c → ⊥) → ((c : Name) → s ≡ Switchc c → ⊥) → during_links w after s ≡ fixed_links s
  during_fixed (Switchs c) f g = absurd (f c refl)
  during_fixed (Switchc c) f g = absurd (g c refl)
  during_fixed s f g = refl

  pub after_fixed : (s : Shape) → ((c : Name) → s ≡ Switchs c → ⊥) → ((c : Name) → s ≡ Switchc c → ⊥) → after_links w after s ≡ fixed_links s
  after_fixed (Switchs c) f g = absurd (f c refl)
  after_fixed (Switchc c) f g = absurd (g c refl)
  after_fixed s f g = refl

pub none_there : {A : Type 0} (o : Option A) → is_some o ≡ false → o ≡ None
none_there None h = refl
none_there (Some x) h = absurd cc
