-- The equations: the occurrence that each node has at a time, by its shape.
use Rattle.std.specs.Prelude.{◌≡◌, ℕ, Bool, ◌||◌, List, [], ◌∷◌, Option, Some, None, is_some, option_map, option_and_then, slice_get, if◌then◌else◌}
use Rattle.std.specs.Ordering.{is_gt}
use Rattle.frp_base.specs.declared.time.Time.{Time}
use Rattle.frp_base.specs.declared.name.Name.{Name}
use Rattle.frp_base.specs.declared.val.Val.{Val, out-Val}
use Rattle.frp_base.specs.Time.{time_eq, time_cmp, parent_and_number}
use Rattle.frp_base.specs.Name.{birth}
use Rattle.frp_expr.specs.Parts.{bool_in, items_in}
use Rattle.frp_graph.specs.declared.trace.Node.{Node}
use Rattle.frp_graph.specs.declared.trace.Sent.{Sent}
use Rattle.frp_graph.specs.declared.prog.Prog.{Prog}
use Rattle.frp_graph.specs.declared.shape.Shape.{Shape}
use Rattle.frp_graph.specs.declared.shape.Shape.TheVariants.{Sink, Never, Constant, Map, Filter, Filteropt, Merge, Snapshot, Split, Updates, Value, Loop, Hold, Mapc, Apply, Switchs, Switchc, Execute}
use Rattle.frp_graph.specs.Trace.{Sight, post_in}
use Rattle.frp_graph.specs.Applied.{call, applied, target, present_in}
use Rattle.frp_graph.specs.Births.{instance}
use Rattle.frp_graph.specs.Sends.{sent_in}

-- the value where the test holds, else none
abbrev pub keep_if : Bool → Option Val → Option Val
keep_if b x = if b then x else None

-- the function of both, where both are there
abbrev pub map2 : (Val → Val → Val) → Option Val → Option Val → Option Val
map2 f (Some a) (Some b) = Some (f a b)
map2 f _ _ = None

-- the function of both where both are there, else the one that is
abbrev pub merged : (Val → Val → Val) → Option Val → Option Val → Option Val
merged f (Some a) (Some b) = Some (f a b)
merged f (Some a) None = Some a
merged f None b = b

-- item i of the occurrence of s at the parent of a time that is its child i, where a node born at b was live there
abbrev pub split_item : Sight → Name → Time → Option (Time × ℕ) → Option Val
split_item w s b None = None
split_item w s b (Some p) = if is_gt (time_cmp b p.0) then None else option_and_then (λ v. slice_get (items_in (out-Val v)) p.1) (w.above s)

-- what the instance gives that a node makes of a value: none where there is no such instance
abbrev pub instance_result : Prog → Sight → Node → ℕ → List Val → Val → Option Val
instance_result prog w x template kept a = option_map (λ i. i.result) (instance prog w x.name template kept a)

-- the occurrence at a time of a node of this shape
abbrev pub row : Prog → List Sent → Sight → Node → Shape → Option Val
row prog sends w x Sink = sent_in prog sends w.time x.name
row prog sends w x Never = None
row prog sends w x Constant = None
row prog sends w x (Map f s) = option_map (λ a. call prog f (a ∷ [])) (w.occ s)
row prog sends w x (Mapc f c) = option_map (λ a. call prog f (a ∷ [])) (w.occ c)
row prog sends w x (Filter f s) = option_and_then (λ a. keep_if (bool_in (out-Val (call prog f (a ∷ [])))) (Some a)) (w.occ s)
row prog sends w x (Filteropt s) = option_and_then (λ a. present_in (out-Val a)) (w.occ s)
row prog sends w x (Merge f a b) = merged (λ p q. call prog f (p ∷ q ∷ [])) (w.occ a) (w.occ b)
row prog sends w x (Snapshot f s c) = map2 (λ p q. call prog f (p ∷ q ∷ [])) (w.occ s) (w.pre c)
row prog sends w x (Split s) = split_item w s (birth x.name) (parent_and_number w.time)
row prog sends w x (Updates c) = w.occ c
row prog sends w x (Value c) = if time_eq (birth x.name) w.time then post_in w c else w.occ c
row prog sends w x (Loop to) = w.occ to
row prog sends w x (Hold s) = w.occ s
row prog sends w x (Apply cf ca) = if is_some (w.occ cf) || is_some (w.occ ca) then option_and_then (λ f. option_and_then (applied prog f) (post_in w ca)) (post_in w cf) else None
row prog sends w x (Switchs c) = option_and_then (λ s. w.occ (target s)) (w.pre c)
row prog sends w x (Switchc c) = option_and_then (λ d. keep_if (is_some (w.occ c) || is_some (w.occ (target d))) (post_in w (target d))) (post_in w c)
row prog sends w x (Execute s template kept) = option_and_then (instance_result prog w x template kept) (w.occ s)

-- a node's equation at a time: its occurrence is the one of its row
abbrev pub MeetsEquation : Prog → List Sent → Sight → Node → Type 0
MeetsEquation prog sends w x = w.occ x.name ≡ row prog sends w x x.shape
