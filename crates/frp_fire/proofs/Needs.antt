-- What a well-formed graph with first values has of what a node's row asks for.
use Rattle.std.proofs.Common.{◌≡◌, ℕ, Bool, true, false, List, Option, Some, None, refl, sym, ap, ◌∙◌, subst}
use Rattle.std.specs.Prelude.{◌||◌, is_some, slice_get, option_and_then, if◌then◌else◌}
use Rattle.std.specs.Ordering.{is_gt}
use Rattle.frp_base.specs.declared.time.Time.{Time}
use Rattle.frp_base.specs.Time.{time_cmp, number_since}
use Rattle.frp_expr.specs.Parts.{items_in}
use Rattle.frp_graph.specs.Equations.{split_item}
use Rattle.frp_base.specs.declared.name.Name.{Name}
use Rattle.frp_base.specs.declared.ty.Ty.{Ty, out-Ty, roll-out-Ty}
use Rattle.frp_base.specs.declared.ty.Ty.TheOpen.{Ty-F}
use Rattle.frp_base.specs.declared.ty.Ty.TheOpen as u
use Rattle.frp_base.specs.declared.ty.Ty.TheVariants as t
use Rattle.frp_base.specs.declared.val.Val.{Val, out-Val}
use Rattle.frp_base.specs.declared.val.Val.TheOpen.{Val-F}
use Rattle.frp_base.specs.declared.val.Val.TheOpen as o
use Rattle.frp_expr.specs.Typing.{Sig}
use Rattle.frp_expr.proofs.ValueLemmas.{Layer, opened}
use Rattle.frp_graph.specs.declared.prog.Prog.{Prog}
use Rattle.frp_graph.specs.declared.trace.Node.{Node}
use Rattle.frp_graph.specs.declared.shape.Shape.{Shape}
use Rattle.frp_graph.specs.declared.shape.Shape.TheVariants.{Switchs, Switchc}
use Rattle.frp_graph.specs.Trace.{Sight, post_in}
use Rattle.frp_graph.specs.TypedProg.{sigs, stream_in, cell_in}
use Rattle.frp_graph.specs.Values.{type_among, is_value}
use Rattle.frp_graph.specs.WellFormed.{Allows, IsWellFormed, HasFirsts}
use Rattle.frp_graph.proofs.TypedValues.{IsNodeType, stream_type, cell_type}
use Rattle.frp_graph.proofs.TypedSights.{cell_before, cell_after}
use Rattle.frp_graph.proofs.Readable.{before_there, after_there}
use Rattle.frp_fire.specs.Fires.{refers_in, is_reference, has_target}

-- a value of a node's type refers to a node
pub refers_layer : (nodes : Name → Option Ty) (sigs : List Sig) (l : Val-F Val) (x : Ty) (w : Ty-F Ty) → (is_some (stream_in w) || is_some (cell_in w)) ≡ true
    → Layer nodes sigs l x w ≡ true → refers_in l ≡ true
refers_layer nodes sigs (o.Stream n) x w e h = refl
refers_layer nodes sigs (o.Cell n) x w e h = refl
refers_layer nodes sigs _ x (u.Stream a) e h = absurd cc
refers_layer nodes sigs _ x (u.Cell a) e h = absurd cc
refers_layer nodes sigs l x _ e h = absurd cc

module _ (prog : Prog) (w : Sight) (formed : IsWellFormed prog w) (firsts : HasFirsts w) where
  refers : (v : Val) (x : Ty) → IsNodeType x → is_value prog w.node v x ≡ true → refers_in (out-Val v) ≡ true
  refers v x r h = refers_layer (type_among w.node) (sigs prog) (out-Val v) x (out-Ty x) r (opened (type_among w.node) (sigs prog) v x (out-Ty x) (roll-out-Ty x) h)

  reference : (o : Option Val) (x : Ty) → IsNodeType x → is_some o ≡ true → ((v : Val) → o ≡ Some v → is_value prog w.node v x ≡ true) → is_reference o ≡ true
  reference None x r there fits = absurd cc
  reference (Some v) x r there fits = refers v x r (fits v refl)

  targets : (x : Ty) (s : Shape) → Allows prog w x s → has_target w s ≡ true
  targets x (Switchs c) (source, kind) = reference (w.pre c) x (stream_type x kind) (before_there prog w formed firsts c x source) (λ v e. cell_before prog w formed c x v source e)
  targets x (Switchc c) (source, kind) = reference (post_in w c) x (cell_type x kind) (after_there prog w formed firsts c x source) (λ v e. cell_after prog w formed c x v source e)
  targets x _ a = refl

  pub target_there : (n : Name) (x : Node) → w.node n ≡ Some x → has_target w x.shape ≡ true
  target_there n x live = targets x.ty x.shape (formed.shapes n x live)

-- Items.

-- a split's item, by the number of the time
pub item_by_number : (w : Sight) (s : Name) (b : Time) (p : Option (Time × ℕ))
    → split_item w s b p ≡ option_and_then (λ i. option_and_then (λ v. slice_get (items_in (out-Val v)) i) (w.above s)) (number_since b p)
item_by_number w s b None = refl
item_by_number w s b (Some p) = by (is_gt (time_cmp b p.0)) where
  by : (c : Bool) → (if c then None else option_and_then (λ v. slice_get (items_in (out-Val v)) p.1) (w.above s))
      ≡ option_and_then (λ i. option_and_then (λ v. slice_get (items_in (out-Val v)) i) (w.above s)) (if c then None else Some p.1)
  by true = refl
  by false = refl
