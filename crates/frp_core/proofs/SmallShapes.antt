-- What is special of small shapes, and the laws of all shapes for them: their links and their rows look at earlier nodes only.
use Rattle.std.proofs.Common.{◌≡◌, ℕ, Bool, true, false, List, [], Option, Some, None, refl, sym, subst, ap, ◌∙◌}
use Rattle.std.specs.Prelude.{filter, option_and_then, if◌then◌else◌}
use Rattle.std.specs.Option.{option_to_list}
use Rattle.std.specs.List.{AllByRecursion}
use Rattle.frp_base.specs.declared.name.Name.{Name}
use Rattle.frp_base.specs.declared.ty.Ty.{Ty}
use Rattle.frp_base.specs.declared.ty.Ty.TheVariants as t
use Rattle.frp_base.specs.declared.val.Val.{Val}
use Rattle.frp_base.specs.Name.{declared_name, maker}
use Rattle.frp_graph.specs.declared.prog.Prog.{Prog}
use Rattle.frp_graph.specs.declared.shape.Shape.{Shape}
use Rattle.frp_graph.specs.declared.shape.Shape.TheVariants.{Sink, Never, Map, Filter, Hold}
use Rattle.frp_graph.specs.declared.trace.Moment.{Moment}
use Rattle.frp_graph.specs.declared.trace.Node.{Node}
use Rattle.frp_graph.specs.declared.trace.Sent.{Sent}
use Rattle.frp_graph.specs.declared.evidence.Phase.{Phase}
use Rattle.frp_graph.specs.declared.evidence.Phase.TheVariants.{Birth, During, After}
use Rattle.frp_graph.specs.Trace.{Sight, post_in}
use Rattle.frp_graph.specs.Roles.{Execution, execution}
use Rattle.frp_graph.specs.Births.{instance, instance_in}
use Rattle.frp_graph.specs.Sends.{sent_in}
use Rattle.frp_graph.specs.Equations.{row}
use Rattle.frp_graph.specs.Evidence.{has_reads}
use Rattle.frp_graph.specs.Links.{operands, during_links, after_links, birth_links, is_new, is_new_cell, links, links_by}
use Rattle.frp_graph.specs.Moments.{items_to_split}
use Rattle.frp_graph.specs.Values.{type_among}
use Rattle.frp_graph.specs.WellFormed.{Allows}
use Rattle.frp_graph.specs.ShapeLaws.{Stays}
use Rattle.frp_graph.proofs.Rows.{reads_stay, rows_agree}
use Rattle.frp_base.proofs.Lists.{all_follow, all_both}
use Rattle.frp_core.specs.Small.{IsEarlier, is_small_shape, IsSmall}

-- What is special: they link to their operands alone, read no value before, split nothing and make nothing.

module _ (w : Sight) (after : Name → Option Val) where
  during_small : (s : Shape) → is_small_shape s ≡ true → during_links w after s ≡ operands s
  during_small Sink b = refl
  during_small _ b = cc

  after_small : (s : Shape) → is_small_shape s ≡ true → after_links w after s ≡ operands s
  after_small Sink b = refl
  after_small _ b = cc

  birth_small : (s : Shape) → is_small_shape s ≡ true → birth_links w after s ≡ []
  birth_small Sink b = refl
  birth_small _ b = cc

reads_small : (prog : Prog) (w : Sight) (x : Node) (s : Shape) → is_small_shape s ≡ true → has_reads prog w x s ≡ true
reads_small prog w x Sink b = refl
reads_small prog w x _ b = cc

pub no_items : (m : Moment) (s : Shape) → is_small_shape s ≡ true → items_to_split m s ≡ 0
no_items m Sink b = refl
no_items m _ b = cc

pub makes_nothing : (s : Shape) → is_small_shape s ≡ true → execution s ≡ None
makes_nothing Sink b = refl
makes_nothing _ b = cc

-- the operands of one that is allowed are live
pub operands_live : (prog : Prog) (w : Sight) (x : Ty) (s : Shape) → is_small_shape s ≡ true → Allows prog w x s → AllByRecursion (λ n. (y : Ty) × (type_among w.node n ≡ Some y)) (operands s)
operands_live prog w x Sink b h = tt
operands_live prog w x Never b h = tt
operands_live prog w x (Map f s) b (a, c, source, gives, is) = ((t.Stream a, source), tt)
operands_live prog w x (Filter f s) b (a, source, gives, is) = ((x, source), tt)
operands_live prog w x (Hold s) b (a, source, is) = ((t.Stream a, source), tt)
operands_live prog w x _ b h = absurd cc

-- Links.

no_maker : (b : Bool) (k : ℕ) (n : Name) → n ≡ declared_name k → AllByRecursion (IsEarlier k) (if b then option_to_list (maker n) else [])
no_maker true k n e = subst (λ (n : Name). AllByRecursion (IsEarlier k) (option_to_list (maker n))) (sym e) tt
no_maker false k n e = tt

no_births : (b : Bool) (k : ℕ) (p : Name → Bool) (ns : List Name) → ns ≡ [] → AllByRecursion (IsEarlier k) (if b then filter p ns else [])
no_births true k p ns e = subst (λ (ns : List Name). AllByRecursion (IsEarlier k) (filter p ns)) (sym e) tt
no_births false k p ns e = tt

pub links_earlier : (w : Sight) (after : Name → Option Val) (phase : Phase) (x : Node) (k : ℕ) → x.name ≡ declared_name k → IsSmall k x.shape → AllByRecursion (IsEarlier k) (links_by w after phase x)
links_earlier w after During x k e h =
    all_both (IsEarlier k) (during_links w after x.shape) _ (subst (AllByRecursion (IsEarlier k)) (sym (during_small w after x.shape h.0)) h.1) (no_maker (is_new w x.name) k x.name e)
links_earlier w after After x k e h = subst (AllByRecursion (IsEarlier k)) (sym (after_small w after x.shape h.0)) h.1
links_earlier w after Birth x k e h = no_births (is_new_cell w (Some x)) k (λ n. is_new_cell w (w.node n)) (birth_links w after x.shape) (birth_small w after x.shape h.0)

-- Rows: that of a small node is the same where the occurrences of earlier nodes are, and what is sent to it.

pub row_small : (prog : Prog) (sends others : List Sent) (w u : Sight) (k : ℕ) (x : Node) → x.name ≡ declared_name k → IsSmall k x.shape → u.time ≡ w.time
    → ((n : Name) → IsEarlier k n → u.occ n ≡ w.occ n) → Stays w.pre u.pre → ((n : Name) → u.above n ≡ w.above n) → sent_in prog others w.time x.name ≡ sent_in prog sends w.time x.name
    → row prog others u x x.shape ≡ row prog sends w x x.shape
row_small prog sends others w u k x e h time same stays above sent =
    let no_instance : (v : Sight) → instance_in prog v x.name x.shape ≡ None = λ v. ap (option_and_then (λ (e : Execution). option_and_then (instance prog v x.name e.template e.kept) (v.occ e.source))) (makes_nothing x.shape h.0) in
    rows_agree prog sends others w u x time
    (all_follow (IsEarlier k) (λ n. u.occ n ≡ w.occ n) same (links w During x) (links_earlier w (post_in w) During x k e h))
    (reads_stay w u stays x.shape) (no_instance u ∙ sym (no_instance w))
    (all_follow (IsEarlier k) (λ n. u.above n ≡ w.above n) (λ n q. above n) (operands x.shape) h.1) sent (reads_small prog w x x.shape h.0)
