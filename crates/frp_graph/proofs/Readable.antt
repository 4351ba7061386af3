-- No row misses a value that it reads, where the graph is well formed and its cells have first values.
use Rattle.std.proofs.Common.{◌≡◌, ℕ, Bool, true, false, List, Option, Some, None, refl, sym, ap, ◌∙◌, subst}
use Rattle.std.specs.Prelude.{not, ◌||◌, ◌&&◌, is_some}
use Rattle.frp_base.specs.declared.name.Name.{Name}
use Rattle.frp_base.specs.declared.ty.Ty.{Ty}
use Rattle.frp_base.specs.declared.ty.Ty.TheVariants as t
use Rattle.frp_base.specs.declared.val.Val.{Val}
use Rattle.frp_base.specs.Time.{time_eq}
use Rattle.frp_base.specs.Name.{birth}
use Rattle.frp_base.proofs.Booleans.{true_both, or_more}
use Rattle.frp_graph.specs.declared.prog.Prog.{Prog}
use Rattle.frp_graph.specs.declared.trace.Node.{Node}
use Rattle.frp_graph.specs.declared.shape.Shape.{Shape}
use Rattle.frp_graph.specs.declared.shape.Shape.TheVariants.{Sink, Never, Constant, Map, Filter, Filteropt, Merge, Snapshot, Split, Updates, Value, Loop, Hold, Mapc, Apply, Switchs, Switchc, Execute}
use Rattle.frp_graph.specs.Trace.{Sight, or_else, post_in}
use Rattle.frp_graph.specs.Applied.{target}
use Rattle.frp_graph.specs.Roles.{Execution, execution}
use Rattle.frp_graph.specs.Births.{instance_in}
use Rattle.frp_graph.specs.TypedProg.{is_cell}
use Rattle.frp_graph.specs.Values.{type_among}
use Rattle.frp_graph.specs.WellFormed.{Allows, IsWellFormed, HasFirsts}
use Rattle.frp_graph.specs.Evidence.{has_reads}
use Rattle.frp_graph.specs.ShapeLaws.{ReadsAreThere}
use Rattle.frp_graph.proofs.Options.{some_there}
use Rattle.frp_graph.proofs.TypedValues.{cell_is, cell_type, cell_from, refers}
use Rattle.frp_graph.proofs.TypedSights.{node_of_type, cell_after}
use Rattle.frp_graph.proofs.Executes.{instance_there}
use Rattle.frp_graph.specs.TypedProg.{sigs, cell_item}

module _ (prog : Prog) (w : Sight) (formed : IsWellFormed prog w) (firsts : HasFirsts w) where
  -- a live cell has a value before, and one after
  pub before_there : (c : Name) (a : Ty) → type_among w.node c ≡ Some (t.Cell a) → is_some (w.pre c) ≡ true
  before_there c a here =
      let y = node_of_type (w.node c) (t.Cell a) here in
      let cell : is_cell y.0.ty ≡ true = subst (λ (x : Ty). is_cell x ≡ true) (sym y.2) (cell_is a) in
      ap (λ (k : Name). is_some (w.pre k)) (sym (formed.named c y.0 y.1)) ∙ firsts.before c y.0 y.1 cell

  pub after_there : (c : Name) (a : Ty) → type_among w.node c ≡ Some (t.Cell a) → is_some (post_in w c) ≡ true
  after_there c a here = by (w.occ c) (w.pre c) (before_there c a here) where
    by : (o p : Option Val) → is_some p ≡ true → is_some (or_else o p) ≡ true
    by None p e = e
    by (Some v) p e = refl

  module _ (n : Name) (x : Node) (live : w.node n ≡ Some x) where
    made_there : (s : Name) (k : ℕ) (kept : List Val) (o : Option Val) → w.occ s ≡ o → x.shape ≡ Execute s k kept
        → not (is_some o) || is_some (instance_in prog w x.name (Execute s k kept)) ≡ true
    made_there s k kept None e is = refl
    made_there s k kept (Some v) e is =
        let made : Execution = record { source = s; template = k; kept = kept } in
        let i = instance_there prog w formed firsts n x made v live (ap execution is) e in
        ap is_some (ap (instance_in prog w x.name) (sym is) ∙ i.made)

    inner_there : (c : Name) (a : Ty) (o : Option Val) → type_among w.node c ≡ Some (t.Cell a) → is_cell a ≡ true → post_in w c ≡ o → is_some o ≡ true → has_reads prog w x (Switchc c) ≡ true
    inner_there c a None here kind e there = absurd cc
    inner_there c a (Some d) here kind e there =
        let names = refers (type_among w.node) (sigs prog) d a (cell_type a kind) (cell_after prog w formed c a d here e) in
        let held = some_there (cell_item a) kind in
        let inner = after_there (target d) held.0 (names ∙ ap Some (cell_from a held.0 held.1)) in
        rw e (or_more _ _ inner)

    reads : (y : Ty) (s : Shape) → x.shape ≡ s → Allows prog w y s → has_reads prog w x s ≡ true
    reads y Sink e a = refl
    reads y Never e a = refl
    reads y Constant e a = refl
    reads y (Map f s) e a = refl
    reads y (Filter f s) e a = refl
    reads y (Filteropt s) e a = refl
    reads y (Merge f r s) e a = refl
    reads y (Snapshot f s c) e (a, b, d, source, cell, gives, is) = or_more (not (is_some (w.occ s))) _ (before_there c b cell)
    reads y (Split s) e a = refl
    reads y (Updates c) e a = refl
    reads y (Value c) e (a, source, is) = or_more (not (time_eq (birth x.name) w.time)) _ (after_there c a source)
    reads y (Loop to) e a = refl
    reads y (Hold s) e a = refl
    reads y (Mapc f c) e a = refl
    reads y (Apply cf ca) e (a, b, function, argument, is) =
        or_more (not (is_some (w.occ cf) || is_some (w.occ ca))) _ (true_both _ _ (after_there cf (t.Fun a b) function) (after_there ca a argument))
    reads y (Switchs c) e (source, kind) = before_there c y source
    reads y (Switchc c) e (source, kind) = inner_there c y (post_in w c) source kind refl (after_there c y source)
    reads y (Execute s k kept) e a = made_there s k kept (w.occ s) refl e

pub reads_are_there : ReadsAreThere
reads_are_there prog w n x formed firsts live = reads prog w formed firsts n x live x.ty x.shape refl (formed.shapes n x live)
