-- In a well-formed graph with first values an execute whose source fires makes an instance.
use Rattle.std.proofs.Common.{◌≡◌, ℕ, ◌+◌, ◌<◌, Bool, true, false, List, [], ◌∷◌, ◌++◌, length, Option, Some, None, refl, sym, ap, ◌∙◌, subst, arith}
use Rattle.std.specs.Prelude.{◌&&◌, ◌||◌, ◌==◌, not, nat_lt, is_some, option_map, option_and_then, slice_get}
use Rattle.std.specs.Option.{option_to_list}
use Rattle.std.specs.List.{list_any, list_all}
use Rattle.std.specs.Cmp.{unsigned_Decides}
use Rattle.std.proofs.lemmas.Bool.{not-true}
use Rattle.std.proofs.lemmas.List.Folds.{list_any-append}
use Rattle.std.proofs.lemmas.Grind.{common_steps}
use Rattle.frp_base.specs.declared.name.Name.{Name}
use Rattle.frp_base.specs.declared.ty.Ty.{Ty, out-Ty, roll-Ty, out-roll-Ty, roll-out-Ty}
use Rattle.frp_base.specs.declared.ty.Ty.TheOpen.{Ty-F}
use Rattle.frp_base.specs.declared.ty.Ty.TheOpen as u
use Rattle.frp_base.specs.declared.ty.Ty.TheVariants as t
use Rattle.frp_base.specs.declared.val.Val.{Val, out-Val}
use Rattle.frp_base.specs.declared.val.Val.TheOpen.{Val-F}
use Rattle.frp_base.specs.declared.val.Val.TheOpen as o
use Rattle.frp_base.specs.Name.{made_name}
use Rattle.frp_base.proofs.TyLemmas.{ty_decides, out_cell, out_stream}
use Rattle.frp_expr.specs.declared.expr.Expr.{Expr}
use Rattle.frp_expr.specs.Eval.{eval}
use Rattle.frp_expr.specs.Typing.{◌>>=◌, type_in}
use Rattle.frp_expr.specs.Uses.{uses}
use Rattle.frp_expr.specs.Values.{is_node_of}
use Rattle.frp_base.proofs.Booleans.{both_true, true_both, or_true}
use Rattle.frp_expr.proofs.TypeLemmas.{bind_some}
use Rattle.frp_expr.proofs.ValueLemmas.{Layer, opened}
use Rattle.frp_graph.specs.declared.trace.Node as trace
use Rattle.frp_graph.specs.declared.prog.Body.{Body}
use Rattle.frp_graph.specs.declared.prog.Prog.{Prog}
use Rattle.frp_graph.specs.declared.prog.Line3.{Line3}
use Rattle.frp_graph.specs.declared.prog.Line3.TheVariants.{Node, Get}
use Rattle.frp_graph.specs.declared.shape.Shape.{Shape}
use Rattle.frp_graph.specs.declared.shape.Shape.TheVariants.{Execute}
use Rattle.frp_graph.specs.Trace.{Sight}
use Rattle.frp_graph.specs.Applied.{name_in, target}
use Rattle.frp_graph.specs.TypedProg.{Pattern, sigs, patterns, cell_in, cell_item, is_cell, all_types, are_typed_lines, given_types}
use Rattle.frp_graph.specs.Values.{type_among, is_value, are_values, held_in, fits_node}
use Rattle.frp_graph.specs.WellFormed.{seen_fits, fits_cell, Allows, IsWellFormed, HasFirsts}
use Rattle.frp_graph.specs.Roles.{Execution, execution}
use Rattle.frp_graph.specs.Births.{Plan, Instance, reference, node_of, values_from, plans_from, size_of, instance}
use Rattle.frp_graph.specs.ShapeLaws.{IsInstance, InstancesAreThere}
use Rattle.frp_graph.proofs.Options.{some_there, then_is}
use Rattle.frp_graph.proofs.Instances.{plans_size}
use Rattle.frp_graph.proofs.TypedUses.{AreWhere, where_all, where_fewer, where_more, used_is_typed}
use Rattle.frp_graph.proofs.Templates.{IsTemplate, template_at}
use Rattle.frp_graph.proofs.TypedValues.{cell_from, node_is}

-- Cells and streams.

-- the node that is there of a type
node_of_type : (node : Name → Option trace.Node) (n : Name) (x : Ty) → type_among node n ≡ Some x
    → (y : trace.Node) × (node n ≡ Some y) × (y.ty ≡ x)
node_of_type node n x h = by (node n) h where
  by : (o : Option trace.Node) → option_map (λ (y : trace.Node). y.ty) o ≡ Some x
      → (y : trace.Node) × (o ≡ Some y) × (y.ty ≡ x)
  by (Some y) e = (y, refl, cc)
  by None e = absurd cc

-- The positions of the nodes that a body makes, and the others.

abbrev is_other : List ℕ → ℕ → Bool
is_other made i = not (list_any (λ j. i == j) made)

neither : (a b : Bool) → not (a || (b || false)) ≡ true → (not a ≡ true) × (b ≡ false)
neither true b h = absurd cc
neither false true h = absurd cc
neither false false h = (refl, refl)

-- where one more is made
other_than : (made : List ℕ) (m i : ℕ) → is_other (made ++ m ∷ []) i ≡ true
    → (is_other made i ≡ true) × ((i == m) ≡ false)
other_than made m i h = neither _ _ (sym (ap not (list_any-append (λ j. i == j) made (m ∷ []))) ∙ h)

not_itself : (made : List ℕ) (m : ℕ) → is_other (made ++ m ∷ []) m ≡ true → ⊥
not_itself made m h =
    let differs : (m == m) ≡ false = (other_than made m m h).1 in
    let same : (m == m) ≡ true = (unsigned_Decides m m).1 refl in
    cc

none_passes : (p q : ℕ → Bool) → ((i : ℕ) → p i ≡ false → q i ≡ true) → (is : List ℕ) → list_any p is ≡ false
    → list_all q is ≡ true
none_passes p q f [] h = refl
none_passes p q f (i ∷ is) h = by (p i) refl h (none_passes p q f is) where
  by : (b : Bool) → p i ≡ b → b || list_any p is ≡ false → (list_any p is ≡ false → list_all q is ≡ true)
      → q i && list_all q is ≡ true
  by true e k more = absurd cc
  by false e k more = true_both _ _ (f i e) (more k)

module _ (prog : Prog) (w : Sight) (formed : IsWellFormed prog w) (firsts : HasFirsts w) where
  -- Values of live nodes.

  held_fits : (x a : Ty) (v : Val) → held_in (out-Ty x) ≡ Some a → fits_node prog w.node x v ≡ true
      → is_value prog w.node v a ≡ true
  held_fits x a v e h = rw e at h

  -- a live cell has a value before, of its type
  cell_value : (k : Name) (y : trace.Node) (a : Ty) → w.node k ≡ Some y → y.ty ≡ t.Cell a
      → (v : Val) × (w.pre k ≡ Some v) × (is_value prog w.node v a ≡ true)
  cell_value k y a e s =
      let out : out-Ty y.ty ≡ u.Cell a = ap out-Ty s ∙ out_cell a in
      let cell : is_cell y.ty ≡ true = ap (λ (l : Ty-F Ty). is_some (cell_in l)) out in
      let v = some_there (w.pre y.name) (firsts.before k y e cell) in
      let fit : fits_cell prog w y (Some v.0) ≡ true = rw v.1 at (formed.befores k y e) in
      (v.0, ap w.pre (sym (formed.named k y e)) ∙ v.1, held_fits y.ty a v.0 (ap held_in out) (both_true _ _ fit).1)

  -- what a live stream fires is of its type
  fired_fits : (k : Name) (y : trace.Node) (a : Ty) (v : Val) → w.node k ≡ Some y → y.ty ≡ t.Stream a → w.occ k ≡ Some v
      → is_value prog w.node v a ≡ true
  fired_fits k y a v e s o =
      let occurs : w.occ y.name ≡ Some v = ap w.occ (formed.named k y e) ∙ o in
      let fit : seen_fits prog w y (Some v) ≡ true = rw occurs at (formed.occurrences k y e) in
      held_fits y.ty a v (ap held_in (ap out-Ty s ∙ out_stream a)) fit

  -- a value of a cell's type refers to a live cell of the type
  cell_named : (l : Val-F Val) (x a : Ty) → Layer (type_among w.node) (sigs prog) l x (u.Cell a) ≡ true
      → is_node_of x (type_among w.node (name_in l)) ≡ true
  cell_named (o.Cell n) x a h = h
  cell_named _ x a h = absurd cc

  cell_referred : (y : Val) (a : Ty) → is_value prog w.node y (t.Cell a) ≡ true
      → type_among w.node (target y) ≡ Some (t.Cell a)
  cell_referred y a h =
      let layer = opened (type_among w.node) (sigs prog) y (t.Cell a) (u.Cell a) (t.rolls-Cell a) h in
      node_is (t.Cell a) (type_among w.node (target y)) (cell_named (out-Val y) (t.Cell a) a layer)

  -- The values of a body are there: those that are no nodes which it makes are of their types among the live nodes.

  abbrev Are : List ℕ → List Val → List Ty → Type 0
  Are made vs ts = AreWhere (type_among w.node) (sigs prog) (is_other made) vs ts

  -- what is got: its operand uses no node that the body makes
  value_got : (made : List ℕ) (vs : List Val) (ts : List Ty) (c : Expr) (a : Ty) → Are made vs ts
      → (type_in (sigs prog) c ts >>= cell_item) ≡ Some a
      → list_any (λ i. list_any (λ j. i == j) made) (uses (length ts) c) ≡ false
      → (v : Val) × (w.pre (node_of vs c) ≡ Some v) × (is_value prog w.node v a ≡ true)
  value_got made vs ts c a h e none =
      let x = bind_some (type_in (sigs prog) c ts) cell_item a e in
      let are = where_fewer (type_among w.node) (sigs prog) (is_other made) clean vs ts fewer h in
      let typed = used_is_typed (type_among w.node) (sigs prog) (length ts) clean past c vs ts x.0 used are x.1 in
      let cell : is_value prog w.node (eval c vs) (t.Cell a) ≡ true = rw (cell_from x.0 a x.2) at typed in
      let y = node_of_type w.node (node_of vs c) (t.Cell a) (cell_referred (eval c vs) a cell) in
      cell_value (node_of vs c) y.0 a y.1 y.2
    where
      clean : ℕ → Bool
      clean i = not (nat_lt i (length ts)) || is_other made i

      past : (i : ℕ) → nat_lt i (length ts) ≡ false → clean i ≡ true
      past i e = rw e refl

      fewer : (i : ℕ) → i < length ts → clean i ≡ true → is_other made i ≡ true
      fewer i l c = let within : nat_lt i (length ts) ≡ true = grind (arith, common_steps) in rw within at c

      passes : (i : ℕ) → list_any (λ j. i == j) made ≡ false → clean i ≡ true
      passes i e = rw e (or_true (not (nat_lt i (length ts))))

      used : list_all clean (uses (length ts) c) ≡ true
      used = none_passes (λ i. list_any (λ j. i == j) made) clean passes (uses (length ts) c) none

  -- a node that the body makes, whatever it is
  with_made : (made : List ℕ) (vs : List Val) (ts : List Ty) (v : Val) (x : Ty) → Are made vs ts
      → Are (made ++ length ts ∷ []) (vs ++ v ∷ []) (ts ++ x ∷ [])
  with_made made vs ts v x h =
      let others : ℕ → Bool = is_other (made ++ length ts ∷ []) in
      let fewer : AreWhere (type_among w.node) (sigs prog) others vs ts =
      where_fewer (type_among w.node) (sigs prog) (is_other made) others vs ts (λ i l c. (other_than made _ i c).0) h in
      where_more (type_among w.node) (sigs prog) others vs ts v x fewer (λ c. absurd (not_itself made (length ts) c))

  module _ (name : ℕ → Name) (earlier : List Pattern) (types : List Ty) where
    values_there : (ls : List Line3) (k : ℕ) (vs : List Val) (ts : List Ty) (made : List ℕ) → Are made vs ts
        → are_typed_lines (sigs prog) prog.codes earlier types ts made ls ≡ true
        → (all : List Val) × (values_from name w.pre k vs ls ≡ Some all)
    values_there [] k vs ts made h p = (vs, refl)
    values_there (Node x shape ∷ ls) k vs ts made h p =
        let v : Val = reference x (name k) in
        let more = with_made made vs ts v x h in
        values_there ls (k + 1) (vs ++ v ∷ []) (ts ++ x ∷ []) (made ++ length ts ∷ []) more (both_true _ _ p).1
    values_there (Get c ∷ ls) k vs ts made h p =
        let parts = both_true _ _ p in
        let here = both_true _ _ parts.0 in
        let a = some_there (type_in (sigs prog) c ts >>= cell_item) here.0 in
        let got = value_got made vs ts c a.0 h a.1 (not-true _ here.1) in
        let more = where_more (type_among w.node) (sigs prog) (is_other made) vs ts got.0 a.0 h (λ c. got.2) in
        let lines : are_typed_lines (sigs prog) prog.codes earlier types (ts ++ a.0 ∷ []) made ls ≡ true = rw a.1 at parts.1 in
        let rest = values_there ls k (vs ++ got.0 ∷ []) (ts ++ a.0 ∷ []) made more lines in
        (rest.0, then_is (λ v. values_from name w.pre k (vs ++ v ∷ []) ls) (w.pre (node_of vs c)) got.0 rest.0 got.1 rest.1)

  -- Instances.

  record IsMade (n : Name) (template : ℕ) (kept : List Val) (v : Val) : Type 0 where
    body : Body
    is_template : slice_get prog.templates template ≡ Some body
    made : Instance
    is_made : instance prog w n template kept v ≡ Some made
    size : length made.nodes ≡ size_of body.lines

  is_made : (n : Name) (template : ℕ) (kept : List Val) (v : Val) (d : Pattern)
      → slice_get (patterns prog) template ≡ Some d
      → is_value prog w.node v d.param ≡ true → are_values prog w.node kept d.kept ≡ true → IsMade n template kept v
  is_made n template kept v d e h k =
      let found = template_at prog template d formed.program e in
      let body : Body = found.0 in
      let typed : IsTemplate (sigs prog) prog.codes body d = found.2 in
      let ts : List Ty = given_types (sigs prog) prog.codes typed.earlier body in
      let given : ts ≡ d.param ∷ d.kept = λ i. option_to_list (typed.param i) ++ typed.kept i in
      let fit : are_values prog w.node (v ∷ kept) (d.param ∷ d.kept) ≡ true = true_both _ _ h k in
      let all_fit : are_values prog w.node (v ∷ kept) ts ≡ true = rw given fit in
      let are : Are [] (v ∷ kept) ts = where_all (type_among w.node) (sigs prog) (is_other []) (v ∷ kept) ts all_fit in
      let types : List Ty = all_types (sigs prog) prog.codes typed.earlier ts body.lines in
      let all = values_there (made_name n w.time) typed.earlier types body.lines 0 (v ∷ kept) ts [] are typed.typed in
      let plans : List Plan = plans_from (made_name n w.time) all.0 0 (length kept + 1) body.lines in
      record {
        body = body;
        is_template = found.1;
        made = record { nodes = plans; result = eval typed.give all.0 };
        is_made = rw (found.1, all.1, typed.gives) refl;
        size = plans_size (made_name n w.time) all.0 0 (length kept + 1) body.lines;
      }

  -- an execute is one of a template, with kept values of its types
  record Executes (e : Execution) : Type 0 where
    pattern : Pattern
    is_pattern : slice_get (patterns prog) e.template ≡ Some pattern
    source : type_among w.node e.source ≡ Some (t.Stream pattern.param)
    kept : are_values prog w.node e.kept pattern.kept ≡ true

  executes : (x : Ty) (s : Shape) (e : Execution) → execution s ≡ Some e → Allows prog w x s → Executes e
  executes x (Execute a template kept) e h allowed =
      let of : Execution = record { source = a; template = template; kept = kept } in
      let same : of ≡ e = cc in
      subst Executes same (record { pattern = allowed.0; is_pattern = allowed.1; source = allowed.2; kept = allowed.3 })
  executes x _ e h allowed = absurd cc

  pub instance_there : (n : Name) (x : trace.Node) (e : Execution) (v : Val) → w.node n ≡ Some x
      → execution x.shape ≡ Some e → w.occ e.source ≡ Some v → IsInstance prog w x e
  instance_there n x e v live is fires =
      let of = executes x.ty x.shape e is (formed.shapes n x live) in
      let source = node_of_type w.node e.source (t.Stream of.pattern.param) of.source in
      let fit = fired_fits e.source source.0 of.pattern.param v source.1 source.2 fires in
      let i = is_made x.name e.template e.kept v of.pattern of.is_pattern fit of.kept in
      record {
        body = i.body;
        is_template = i.is_template;
        instance = i.made;
        made =
            then_is (λ e. option_and_then (instance prog w x.name e.template e.kept) (w.occ e.source))
            (execution x.shape) e i.made is
            (then_is (instance prog w x.name e.template e.kept) (w.occ e.source) v i.made fires i.is_made);
        size = i.size;
      }

pub instances_are_there : InstancesAreThere
instances_are_there prog w n x e v formed firsts live is fires =
    instance_there prog w formed firsts n x e v live is fires
