-- What an execute makes of a value, and what the file makes: all the values of the body are there, its lines are ready, and the
-- drafts of its nodes stand well.
use Rattle.std.proofs.Common.{◌≡◌, ℕ, suc, ◌+◌, Bool, true, false, List, [], ◌∷◌, ◌++◌, length, Option, Some, None, refl, sym, ap, ◌∙◌, subst, arith}
use Rattle.std.specs.Prelude.{is_some, slice_get, option_map, option_and_then}
use Rattle.std.specs.List.{AllByRecursion, list_all}
use Rattle.std.proofs.lemmas.List.{length_push}
use Rattle.std.proofs.lemmas.Option.{same_Some}
use Rattle.frp_base.specs.declared.name.Name.{Name}
use Rattle.frp_base.specs.declared.ty.Ty.{Ty, out-Ty, out-roll-Ty}
use Rattle.frp_base.specs.declared.ty.Ty.TheOpen as u
use Rattle.frp_base.specs.declared.ty.Ty.TheVariants as t
use Rattle.frp_base.specs.declared.val.Val.{Val}
use Rattle.frp_base.specs.Time.{time_eq}
use Rattle.frp_base.specs.Name.{name_eq, declared_name, made_name}
use Rattle.frp_base.proofs.Booleans.{both_true, true_both}
use Rattle.frp_base.proofs.NameLemmas.{made_names_are_born}
use Rattle.frp_expr.specs.declared.expr.Expr.{Expr}
use Rattle.frp_expr.specs.Eval.{eval}
use Rattle.frp_graph.specs.declared.trace.Node as trace
use Rattle.frp_graph.specs.declared.prog.Body.{Body}
use Rattle.frp_graph.specs.declared.prog.Prog.{Prog}
use Rattle.frp_graph.specs.declared.prog.Line3.{Line3}
use Rattle.frp_graph.specs.declared.prog.Line3.TheVariants.{Node, Get}
use Rattle.frp_graph.specs.declared.shape.Shape.{Shape}
use Rattle.frp_graph.specs.declared.shape.Shape.TheVariants.{Execute}
use Rattle.frp_graph.specs.Trace.{Sight}
use Rattle.frp_graph.specs.Roles.{Execution, execution}
use Rattle.frp_graph.specs.TypedProg.{Pattern, IsTypedProg, patterns, sigs, stream_in, is_node_line, all_types}
use Rattle.frp_graph.specs.Births.{Instance, build, reference, node_of, values_from, plans_from, file_plans, instance, instance as make_instance}
use Rattle.frp_graph.specs.Values.{type_among, is_value, are_values}
use Rattle.frp_graph.specs.WellFormed.{fits_cell, seen_fits, Allows, IsWellFormed, HasFirsts}
use Rattle.frp_graph.specs.ShapeLaws.{Stays, IsInstance as IsThere}
use Rattle.frp_graph.proofs.Allowed.{allowed_stays}
use Rattle.frp_graph.proofs.Executes.{instance_there}
use Rattle.frp_graph.proofs.Instances.{instances_stay}
use Rattle.frp_graph.proofs.Lists.{name_same, name_eq-same, time_eq-same}
use Rattle.frp_graph.proofs.Options.{then_some}
use Rattle.frp_graph.proofs.TypedValues.{stream_fits, one_is}
use Rattle.frp_graph.proofs.TypedSights.{node_of_type, cell_before}
use Rattle.frp_graph.proofs.TypedTemplates.{LinesTyped, template_is, file_typed}
use Rattle.frp_graph.proofs.TypedBodies.{AreBefores, IsLive, IsAllowed, IsInstance as IsOfParts, body_values, body_allowed, instance_parts}
use Rattle.frp_make.specs.Making.{with_born, CanMake, HasNotMade, instance_of}
use Rattle.frp_make.specs.Bodies.{CanBeMade, IsInstanceOver}
use Rattle.frp_make.proofs.Older.{links_live}
use Rattle.frp_make.proofs.Ready.{are_ready}
use Rattle.frp_make.proofs.Drafting.{made_apart, declared_apart, IsGround, AreNew, drafts, live, types_more, values_more, are_drafts}

-- all the values of a body are as many as those before its lines, and the lines
values_long : (name : ℕ → Name) (pre : Name → Option Val) (ls : List Line3) (k : ℕ) (vs all : List Val) → values_from name pre k vs ls ≡ Some all → length all ≡ length vs + length ls
values_long name pre [] k vs all e = let s : length all ≡ length vs = ap length (sym (same_Some vs all e)) in omega arith
values_long name pre (Node x shape ∷ ls) k vs all e =
    let more = values_long name pre ls (k + 1) (vs ++ reference x (name k) ∷ []) all e in
    let one : length (vs ++ reference x (name k) ∷ []) ≡ length vs + 1 = length_push vs (reference x (name k)) in
    omega arith
values_long name pre (Get c ∷ ls) k vs all e =
    let y = then_some (λ a. values_from name pre k (vs ++ a ∷ []) ls) (pre (node_of vs c)) all e in
    let more = values_long name pre ls k (vs ++ y.0 ∷ []) all y.2 in
    let one : length (vs ++ y.0 ∷ []) ≡ length vs + 1 = length_push vs y.0 in
    omega arith

-- they stay where more values before are there
values_stay : (name : ℕ → Name) (few many : Name → Option Val) → Stays few many → (ls : List Line3) (k : ℕ) (vs all : List Val) → values_from name few k vs ls ≡ Some all → values_from name many k vs ls ≡ Some all
values_stay name few many stays [] k vs all h = h
values_stay name few many stays (Node x shape ∷ ls) k vs all h = values_stay name few many stays ls (k + 1) (vs ++ reference x (name k) ∷ []) all h
values_stay name few many stays (Get c ∷ ls) k vs all h =
    let y = then_some (λ a. values_from name few k (vs ++ a ∷ []) ls) (few (node_of vs c)) all h in
    rw (stays (node_of vs c) y.0 y.1) (values_stay name few many stays ls k (vs ++ y.0 ∷ []) all y.2)

-- what a stream is of
stream_holds : (a : Ty) → stream_in (out-Ty (t.Stream a)) ≡ Some a
stream_holds a = ap (λ (y : Ty). stream_in (out-Ty y)) (sym (t.rolls-Stream a)) ∙ ap stream_in (out-roll-Ty (u.Stream a))

same_item : (a b : Ty) → t.Stream a ≡ t.Stream b → a ≡ b
same_item a b e = same_Some a b (sym (stream_holds a) ∙ ap (λ (y : Ty). stream_in (out-Ty y)) e ∙ stream_holds b)

-- what is executed
record IsExecuted (prog : Prog) (w : Sight) (e : Execution) : Type 0 where
  pattern : Pattern
  is_pattern : slice_get (patterns prog) e.template ≡ Some pattern
  source : type_among w.node e.source ≡ Some (t.Stream pattern.param)
  kept : are_values prog w.node e.kept pattern.kept ≡ true

executed : (prog : Prog) (w : Sight) (x : Ty) (s : Shape) (e : Execution) → execution s ≡ Some e → Allows prog w x s → IsExecuted prog w e
executed prog w x (Execute a k kept) e h (d, pattern, source, fit, is) =
    subst (IsExecuted prog w) (same_Some (record { source = a; template = k; kept = kept }) e h) (record { pattern = d; is_pattern = pattern; source = source; kept = fit })
executed prog w x _ e h p = absurd cc

-- Executes.

module _ (prog : Prog) (w : Sight) (formed : IsWellFormed prog w) (firsts : HasFirsts w) where
  ground : IsGround prog w
  ground = record { shapes = formed.shapes; named = formed.named; firsts = formed.firsts; befores = formed.befores; linked = links_live prog w formed }

  -- What is seen where one stream fires a value, and only live nodes have values before.
  module _ (source : Name) (v : Val) (item : Ty) (here : type_among w.node source ≡ Some (t.Stream item)) (fits : is_value prog w.node v item ≡ true) where
    abbrev before_live : Option trace.Node → Option Val → Option Val
    before_live None p = None
    before_live (Some x) p = p

    abbrev fired : Bool → Option Val
    fired true = Some v
    fired false = None

    abbrev tidy : Sight
    tidy = record {
      time = w.time;
      node = w.node;
      occ = λ k. fired (name_eq k source);
      pre = λ k. before_live (w.node k) (w.pre k);
      above = λ k. None;
    }

    pre_live : (k : Name) (x : trace.Node) → w.node k ≡ Some x → tidy.pre x.name ≡ w.pre x.name
    pre_live k x e = ap (λ (o : Option trace.Node). before_live o (w.pre x.name)) (ap w.node (formed.named k x e) ∙ e)

    tidy_stays : Stays tidy.pre w.pre
    tidy_stays k z h = by (w.node k) h where
      by : (o : Option trace.Node) → before_live o (w.pre k) ≡ Some z → w.pre k ≡ Some z
      by None e = absurd cc
      by (Some x) e = e

    same_fits : (x : trace.Node) (o : Option Val) → fits_cell prog w x o ≡ true → fits_cell prog tidy x o ≡ true
    same_fits x None h = refl
    same_fits x (Some z) h = h

    fires_fit : (k : Name) (x : trace.Node) (b : Bool) → w.node k ≡ Some x → name_eq x.name source ≡ b → seen_fits prog tidy x (fired b) ≡ true
    fires_fit k x false e n = refl
    fires_fit k x true e n =
        let named : k ≡ source = sym (formed.named k x e) ∙ name_same x.name source n in
        let ty : Some x.ty ≡ Some (t.Stream item) = sym (ap (option_map (λ (y : trace.Node). y.ty)) e) ∙ ap (type_among w.node) named ∙ here in
        stream_fits prog w.node item x.ty v (same_Some x.ty (t.Stream item) ty) fits

    fires_live : (k : Name) (z : Val) (b : Bool) → name_eq k source ≡ b → fired b ≡ Some z → is_some (w.node k) ≡ true
    fires_live k z false n e = absurd cc
    fires_live k z true n e =
        let y = node_of_type (w.node source) (t.Stream item) here in
        ap is_some (ap w.node (name_same k source n) ∙ y.1)

    tidy_formed : IsWellFormed prog tidy
    tidy_formed = record {
      program = formed.program;
      shapes = λ k x e. allowed_stays prog w tidy (λ n a h. h) x.ty x.shape (formed.shapes k x e);
      named = formed.named;
      firsts = λ k x e. same_fits x x.first (formed.firsts k x e);
      befores = λ k x e. ap (fits_cell prog tidy x) (pre_live k x e) ∙ same_fits x (w.pre x.name) (formed.befores k x e);
      occurrences = λ k x e. fires_fit k x (name_eq x.name source) e refl;
      aboves = λ k x e. refl;
      only_live = λ k z e. fires_live k z (name_eq k source) refl e;
    }

    tidy_firsts : HasFirsts tidy
    tidy_firsts = record { first = firsts.first; before = λ k x e c. ap is_some (pre_live k x e) ∙ firsts.before k x e c }

  module _ (n : Name) (v : Val) (can : CanMake prog w n v) (fresh : HasNotMade w n) where
    abbrev x : trace.Node
    x = can.node

    abbrev made : Execution
    made = can.made

    abbrev near : Sight
    near = tidy made.source v can.item can.source can.fits

    named : x.name ≡ n
    named = formed.named n x can.live

    fires : near.occ made.source ≡ Some v
    fires = ap (fired made.source v can.item can.source can.fits) (name_eq-same made.source)

    there : IsThere prog near x made
    there = instance_there prog near (tidy_formed made.source v can.item can.source can.fits) (tidy_firsts made.source v can.item can.source can.fits) n x made v can.live can.executes fires

    made_near : instance prog near x.name made.template made.kept v ≡ Some there.instance
    made_near =
        sym (ap (λ (o : Option Execution). option_and_then (λ e. option_and_then (instance prog near x.name e.template e.kept) (near.occ e.source)) o) can.executes
        ∙ ap (option_and_then (instance prog near x.name made.template made.kept)) fires)
        ∙ there.made

    abbrev parts : IsOfParts prog near x.name made.template made.kept v there.instance
    parts = instance_parts prog near x.name made.template made.kept v there.instance made_near

    abbrev name : ℕ → Name
    name = made_name n w.time

    abbrev given : List Val
    given = v ∷ made.kept

    names : AreNew w name
    names = record {
      apart = made_apart n w.time;
      new = λ k. ap (λ b. time_eq b w.time) (made_names_are_born n w.time k) ∙ time_eq-same w.time;
      fresh = fresh;
    }

    values_near : values_from name near.pre 0 given parts.body.lines ≡ Some parts.all
    values_near = subst (λ (m : Name). values_from (made_name m w.time) near.pre 0 given parts.body.lines ≡ Some parts.all) named parts.values

    values_here : values_from name w.pre 0 given parts.body.lines ≡ Some parts.all
    values_here = values_stay name near.pre w.pre (tidy_stays made.source v can.item can.source can.fits) parts.body.lines 0 given parts.all values_near

    abbrev born : List trace.Node
    born = drafts prog w ground name names parts.all (length given) parts.body.lines

    abbrev W : Sight
    W = with_born w born

    runs : IsExecuted prog w made
    runs = executed prog w x.ty x.shape made can.executes (formed.shapes n x can.live)

    begin : are_values prog W.node given (runs.pattern.param ∷ runs.pattern.kept) ≡ true
    begin =
        let item : can.item ≡ runs.pattern.param = same_item can.item runs.pattern.param (same_Some (t.Stream can.item) (t.Stream runs.pattern.param) (sym can.source ∙ runs.source)) in
        let first : is_value prog w.node v runs.pattern.param ≡ true = subst (λ (a : Ty). is_value prog w.node v a ≡ true) item can.fits in
        values_more prog w ground name names parts.all (length given) parts.body.lines given (runs.pattern.param ∷ runs.pattern.kept) (true_both _ _ first runs.kept)

    befores : AreBefores prog W near.pre
    befores k a z here e = by (w.node k) refl e where
      by : (o : Option trace.Node) → w.node k ≡ o → before_live made.source v can.item can.source can.fits o (w.pre k) ≡ Some z → is_value prog W.node z a ≡ true
      by None l h = absurd cc
      by (Some y) l h =
          let seen : type_among W.node k ≡ Some y.ty = types_more prog w ground name names parts.all (length given) parts.body.lines k y.ty (ap (option_map (λ (y : trace.Node). y.ty)) l) in
          let ty : y.ty ≡ t.Cell a = same_Some y.ty (t.Cell a) (sym seen ∙ here) in
          let fit : is_value prog w.node z a ≡ true = cell_before prog w formed k a z (ap (option_map (λ (y : trace.Node). y.ty)) l ∙ ap Some ty) h in
          (both_true _ _ (values_more prog w ground name names parts.all (length given) parts.body.lines (z ∷ []) (a ∷ []) (one_is (type_among w.node) (sigs prog) z a fit))).0

    typed : LinesTyped prog (patterns prog) (runs.pattern.param ∷ runs.pattern.kept) parts.body.lines
    typed = (template_is prog formed.program made.template parts.body runs.pattern parts.is_template runs.is_pattern).lines

    lives : AllByRecursion (IsLive prog W) (plans_from name parts.all 0 (length given) parts.body.lines)
    lives = live prog w ground name names parts.all (length given) parts.body.lines

    allowed : AllByRecursion (IsAllowed prog W) (plans_from name parts.all 0 (length given) parts.body.lines)
    allowed = body_allowed prog W name near.pre befores parts.all given (runs.pattern.param ∷ runs.pattern.kept) (length given) parts.body.lines begin typed lives values_near refl

    all_among : are_values prog W.node parts.all (all_types (sigs prog) prog.codes (patterns prog) (runs.pattern.param ∷ runs.pattern.kept) parts.body.lines) ≡ true
    all_among = body_values prog W name near.pre befores parts.all given (runs.pattern.param ∷ runs.pattern.kept) (length given) parts.body.lines begin typed lives values_near

    as_long : (vs : List Val) (ts : List Ty) → are_values prog W.node vs ts ≡ true → length vs ≡ length ts
    as_long [] [] h = refl
    as_long [] (a ∷ ts) h = absurd cc
    as_long (z ∷ vs) [] h = absurd cc
    as_long (z ∷ vs) (a ∷ ts) h = ap suc (as_long vs ts (both_true _ _ h).1)

    pub record IsReadyBody : Type 0 where
      pub body : Body
      pub is_template : slice_get prog.templates made.template ≡ Some body
      pub can_be : CanBeMade prog w name given body.lines
      pub gives : is_some body.give ≡ true
      pub instance : Instance
      pub is_made : instance_of prog w n v ≡ Some instance
      pub over : IsInstanceOver w n given body instance

    pub ready_body : IsReadyBody
    ready_body = record {
      body = parts.body;
      is_template = parts.is_template;
      can_be = record {
        all = parts.all;
        values = record {
          whole = values_here;
          ready = are_ready prog W (patterns prog) name near.pre parts.all _ all_among given (runs.pattern.param ∷ runs.pattern.kept) parts.body.lines (as_long given (runs.pattern.param ∷ runs.pattern.kept) begin) values_near refl typed;
        };
        long = values_long name w.pre parts.body.lines 0 given parts.all values_here;
        drafts = are_drafts prog w ground name names parts.all (length given) parts.body.lines allowed formed.program;
      };
      gives = ap is_some parts.gives;
      instance = there.instance;
      is_made =
          ap (option_and_then (λ (y : trace.Node). option_and_then (λ e. make_instance prog w y.name e.template e.kept v) (execution y.shape))) can.live
          ∙ ap (option_and_then (λ (e : Execution). make_instance prog w x.name e.template e.kept v)) can.executes
          ∙ instances_stay prog near w x.name made.template made.kept v there.instance refl (tidy_stays made.source v can.item can.source can.fits) made_near;
      over = record {
        all = parts.all;
        values = values_here;
        nodes =
            let long : length made.kept + 1 ≡ length given = omega arith in
            ap (λ (i : Instance). i.nodes) parts.is ∙ (λ k. plans_from (made_name (named k) w.time) parts.all 0 (long k) parts.body.lines);
        result = ap (option_map (λ (e : Expr). eval e parts.all)) parts.gives ∙ sym (ap (λ (i : Instance). Some i.result) parts.is);
      };
    }

-- The file.

-- lines that all make nodes have their values, whatever there is before
node_values : (name : ℕ → Name) (ls : List Line3) (k : ℕ) (vs : List Val) → list_all is_node_line ls ≡ true → (all : List Val) × ((pre : Name → Option Val) → values_from name pre k vs ls ≡ Some all)
node_values name [] k vs h = (vs, λ pre. refl)
node_values name (Node x shape ∷ ls) k vs h = node_values name ls (k + 1) (vs ++ reference x (name k) ∷ []) (both_true true (list_all is_node_line ls) h).1
node_values name (Get c ∷ ls) k vs h = absurd cc

module _ (prog : Prog) (w : Sight) (typed : IsTypedProg prog) (time : w.time ≡ build) (empty : (n : Name) → w.node n ≡ None) where
  none_live : (n : Name) (x : trace.Node) → w.node n ≡ Some x → ⊥
  none_live n x e = let z : Some x ≡ None = sym e ∙ empty n in cc

  pub no_firsts : HasFirsts w
  no_firsts = record { first = λ n x e. absurd (none_live n x e); before = λ n x e. absurd (none_live n x e) }

  bare : IsGround prog w
  bare = record {
    shapes = λ n x e. absurd (none_live n x e);
    named = λ n x e. absurd (none_live n x e);
    firsts = λ n x e. absurd (none_live n x e);
    befores = λ n x e. absurd (none_live n x e);
    linked = λ n x e. absurd (none_live n x e);
  }

  file_names : AreNew w declared_name
  file_names = record { apart = declared_apart; new = λ k. ap (λ b. time_eq build b) time ∙ time_eq-same build; fresh = λ k. empty (declared_name k) }

  abbrev lines : List Line3
  lines = prog.body.lines

  all : (all : List Val) × ((pre : Name → Option Val) → values_from declared_name pre 0 [] lines ≡ Some all)
  all = node_values declared_name lines 0 [] typed.nodes_only

  pub planned : (vs : List Val) → values_from declared_name w.pre 0 [] lines ≡ Some vs → file_plans prog ≡ plans_from declared_name vs 0 0 lines
  planned vs e =
      let same : vs ≡ all.0 = same_Some vs all.0 (sym e ∙ all.1 w.pre) in
      rw (all.1 (λ n. None), same) refl

  abbrev file_born : List trace.Node
  file_born = drafts prog w bare declared_name file_names all.0 0 lines

  abbrev F : Sight
  F = with_born w file_born

  file_lives : AllByRecursion (IsLive prog F) (plans_from declared_name all.0 0 0 lines)
  file_lives = live prog w bare declared_name file_names all.0 0 lines

  nothing : AreBefores prog F (λ n. None)
  nothing n a v here e = absurd cc

  pub file_can : CanBeMade prog w declared_name [] lines
  file_can =
      let lines_typed = file_typed prog typed in
      let allowed = body_allowed prog F declared_name (λ n. None) nothing all.0 [] [] 0 lines refl lines_typed file_lives (all.1 (λ n. None)) refl in
      let among = body_values prog F declared_name (λ n. None) nothing all.0 [] [] 0 lines refl lines_typed file_lives (all.1 (λ n. None)) in
      record {
        all = all.0;
        values = record {
          whole = all.1 w.pre;
          ready = are_ready prog F (patterns prog) declared_name (λ n. None) all.0 _ among [] [] lines refl (all.1 (λ n. None)) refl lines_typed;
        };
        long = values_long declared_name w.pre lines 0 [] all.0 (all.1 w.pre);
        drafts = are_drafts prog w bare declared_name file_names all.0 0 lines allowed typed;
      }
