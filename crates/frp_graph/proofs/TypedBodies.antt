-- The values of a body whose nodes are live, and what an instance gives, are of their types; the nodes are allowed by theirs.
use Rattle.std.proofs.Common.{◌≡◌, ℕ, ◌+◌, true, List, [], ◌∷◌, ◌++◌, length, take, Option, Some, None, refl, sym, ap, ◌∙◌, subst, append_assoc, append-nil, arith}
use Rattle.std.specs.Prelude.{IsTrue, is_some, slice_get, unwrap_or}
use Rattle.std.specs.List.{AllByRecursion}
use Rattle.std.proofs.Math.Seq.{take-append_seam}
use Rattle.std.proofs.lemmas.List.{length_push}
use Rattle.frp_base.specs.declared.name.Name.{Name}
use Rattle.frp_base.specs.declared.ty.Ty.{Ty}
use Rattle.frp_base.specs.declared.ty.Ty.TheVariants as t
use Rattle.frp_base.specs.declared.val.Val.{Val}
use Rattle.frp_base.specs.Name.{declared_name, made_name}
use Rattle.frp_expr.specs.declared.expr.Expr.{Expr}
use Rattle.frp_expr.specs.Eval.{eval}
use Rattle.frp_base.proofs.Booleans.{both_true, true_both}
use Rattle.frp_expr.proofs.TypeLemmas.{bind_some, has_some}
use Rattle.frp_expr.proofs.ValueLemmas.{are_more}
use Rattle.frp_expr.proofs.TypedValues.{good}
use Rattle.frp_graph.specs.declared.prog.Body.{Body}
use Rattle.frp_graph.specs.declared.prog.Prog.{Prog}
use Rattle.frp_graph.specs.declared.prog.Line3.{Line3}
use Rattle.frp_graph.specs.declared.prog.Line3.TheVariants.{Node, Get}
use Rattle.frp_graph.specs.declared.prog.LineShape.{LineShape}
use Rattle.frp_graph.specs.declared.shape.Shape.{Shape}
use Rattle.frp_graph.specs.Trace.{Sight}
use Rattle.frp_graph.specs.Births.{Plan, Instance, reference, node_of, shape_of, given_by, values_from, plans_from, file_plans, instance}
use Rattle.frp_graph.specs.TypedProg.{Pattern, IsTypedProg, patterns, sigs, cell_of, shape_type, all_types, is_typed_line, are_typed_lines}
use Rattle.frp_graph.specs.Values.{type_among, is_value, are_values}
use Rattle.frp_graph.specs.WellFormed.{fits_cell, Allows}
use Rattle.frp_graph.proofs.Options.{some_is, some_there, then_some}
use Rattle.frp_graph.proofs.TypedValues.{reference_is}
use Rattle.frp_graph.proofs.TypedLines.{line_kind, line_is_allowed, cell_operand}
use Rattle.frp_graph.proofs.TypedTemplates.{LinesTyped, template_is, file_typed}

module _ (prog : Prog) (w : Sight) where
  abbrev Are : List Val → List Ty → Type 0
  Are vs ts = are_values prog w.node vs ts ≡ true

  abbrev AreTyped : List Ty → List Ty → List ℕ → List Line3 → Type 0
  AreTyped tied ts made ls = are_typed_lines (sigs prog) prog.codes (patterns prog) tied ts made ls ≡ true

  abbrev types_after : List Ty → List Line3 → List Ty
  types_after ts ls = all_types (sigs prog) prog.codes (patterns prog) ts ls

  -- these values of cells are of what the cells hold
  abbrev pub AreBefores : (Name → Option Val) → Type 0
  AreBefores pre = (n : Name) (a : Ty) (v : Val) → type_among w.node n ≡ Some (t.Cell a) → pre n ≡ Some v → is_value prog w.node v a ≡ true

  -- a node that is planned is live
  abbrev pub IsLive : Plan → Type 0
  IsLive d = type_among w.node d.name ≡ Some d.ty

  -- its type allows its shape, and a first value that is given is of its type
  pub record IsAllowed (d : Plan) : Type 0 where
    pub allowed : Allows prog w d.ty d.shape
    pub given_fits : (n : Name) (s : Shape) → IsTrue (fits_cell prog w (record { name = n; shape = s; ty = d.ty; first = None }) d.given)

  -- The values of a body, where its k-th node has this name, cells had these values before, and all are these.

  module _ (name : ℕ → Name) (pre : Name → Option Val) (befores : AreBefores pre) (all : List Val) where
    abbrev AllFrom : ℕ → List Val → List Line3 → Type 0
    AllFrom k vs ls = values_from name pre k vs ls ≡ Some all

    -- the reference to the node of a line, and the value that a line gets
    made_fits : (vs : List Val) (ts : List Ty) (tied : List Ty) (made : List ℕ) (x : Ty) (shape : LineShape) (k : ℕ) → Are vs ts
        → is_typed_line (sigs prog) prog.codes (patterns prog) tied ts made (Node x shape) ≡ true → type_among w.node (name k) ≡ Some x → Are (vs ++ reference x (name k) ∷ []) (ts ++ x ∷ [])
    made_fits vs ts tied made x shape k a p live =
        let typed = has_some x (shape_type (sigs prog) prog.codes (patterns prog) ts x shape) (both_true _ _ p).0 in
        are_more (type_among w.node) (sigs prog) vs ts (reference x (name k)) x a
        (reference_is (type_among w.node) (sigs prog) x (name k) (line_kind prog (patterns prog) ts x shape typed) live)

    abbrev got_type : List Ty → Expr → Ty
    got_type ts c = unwrap_or (cell_of (sigs prog) prog.codes (patterns prog) ts c) t.Int

    got_fits : (vs : List Val) (ts : List Ty) (c : Expr) (y : Val) → Are vs ts → is_some (cell_of (sigs prog) prog.codes (patterns prog) ts c) ≡ true → pre (node_of vs c) ≡ Some y
        → Are (vs ++ y ∷ []) (ts ++ got_type ts c ∷ [])
    got_fits vs ts c y a there e =
        let x = some_there (cell_of (sigs prog) prog.codes (patterns prog) ts c) there in
        let is : got_type ts c ≡ x.0 = ap (λ (o : Option Ty). unwrap_or o t.Int) x.1 in
        let fit = befores (node_of vs c) x.0 y (cell_operand prog w (patterns prog) vs ts a c x.0 x.1) e in
        are_more (type_among w.node) (sigs prog) vs ts y (got_type ts c) a (subst (λ (x : Ty). is_value prog w.node y x ≡ true) (sym is) fit)

    got : (vs : List Val) (k : ℕ) (c : Expr) (ls : List Line3) → AllFrom k vs (Get c ∷ ls) → (y : Val) × (pre (node_of vs c) ≡ Some y) × AllFrom k (vs ++ y ∷ []) ls
    got vs k c ls e = then_some (λ y. values_from name pre k (vs ++ y ∷ []) ls) (pre (node_of vs c)) all e

    values_fit : (tied ts : List Ty) (made : List ℕ) (vs : List Val) (k n : ℕ) (ls : List Line3) → Are vs ts → AreTyped tied ts made ls
        → AllByRecursion IsLive (plans_from name all k n ls) → AllFrom k vs ls → Are all (types_after ts ls)
    values_fit tied ts made vs k n [] a p live e = subst (λ (vs : List Val). Are vs ts) (sym (some_is vs all e)) a
    values_fit tied ts made vs k n (Node x shape ∷ ls) a p live e =
        let q = both_true _ _ p in
        values_fit tied (ts ++ x ∷ []) (made ++ length ts ∷ []) (vs ++ reference x (name k) ∷ []) (k + 1) (n + 1) ls (made_fits vs ts tied made x shape k a q.0 live.0) q.1 live.1 e
    values_fit tied ts made vs k n (Get c ∷ ls) a p live e =
        let q = both_true _ _ p in
        let y = got vs k c ls e in
        values_fit tied (ts ++ got_type ts c ∷ []) made (vs ++ y.0 ∷ []) k (n + 1) ls (got_fits vs ts c y.0 a (both_true _ _ q.0).0 y.1) q.1 live y.2

    -- the values so far are the first of all
    are_first : (vs : List Val) (k : ℕ) (ls : List Line3) → AllFrom k vs ls → (rest : List Val) × (all ≡ vs ++ rest)
    are_first vs k [] e = ([], some_is vs all e ∙ sym (append-nil vs))
    are_first vs k (Node x shape ∷ ls) e =
        let r = are_first (vs ++ reference x (name k) ∷ []) (k + 1) ls e in
        (reference x (name k) ∷ r.0, r.1 ∙ append_assoc vs (reference x (name k) ∷ []) r.0)
    are_first vs k (Get c ∷ ls) e =
        let y = got vs k c ls e in
        let r = are_first (vs ++ y.0 ∷ []) k ls y.2 in
        (y.0 ∷ r.0, r.1 ∙ append_assoc vs (y.0 ∷ []) r.0)

    taken : (vs : List Val) (k n : ℕ) (ls : List Line3) → n ≡ length vs → AllFrom k vs ls → take n all ≡ vs
    taken vs k n ls l e =
        let r = are_first vs k ls e in
        ap (λ n. take n all) l ∙ ap (take (length vs)) r.1 ∙ take-append_seam vs r.0

    one_more : (vs : List Val) (y : Val) (n : ℕ) → n ≡ length vs → n + 1 ≡ length (vs ++ y ∷ [])
    one_more vs y n l = let p : length (vs ++ y ∷ []) ≡ length vs + 1 = length_push vs y in omega arith

    module _ (tied : List Ty) (all_among : Are all tied) where
      nodes_allowed : (ts : List Ty) (made : List ℕ) (vs : List Val) (k n : ℕ) (ls : List Line3) → n ≡ length vs → Are vs ts → AreTyped tied ts made ls
          → AllByRecursion IsLive (plans_from name all k n ls) → AllFrom k vs ls → AllByRecursion IsAllowed (plans_from name all k n ls)
      nodes_allowed ts made vs k n [] l a p live e = tt
      nodes_allowed ts made vs k n (Node x shape ∷ ls) l a p live e =
          let q = both_true _ _ p in
          let line = line_is_allowed prog w all vs tied ts all_among a x shape q.0 in (
            subst (λ (vs : List Val). IsAllowed (record { name = name k; shape = shape_of all vs shape; ty = x; given = given_by vs shape }))
                (sym (taken vs k n (Node x shape ∷ ls) l e)) (record { allowed = line.allowed; given_fits = line.given_fits }),
            nodes_allowed (ts ++ x ∷ []) (made ++ length ts ∷ []) (vs ++ reference x (name k) ∷ []) (k + 1) (n + 1) ls (one_more vs (reference x (name k)) n l)
                (made_fits vs ts tied made x shape k a q.0 live.0) q.1 live.1 e,
          )
      nodes_allowed ts made vs k n (Get c ∷ ls) l a p live e =
          let q = both_true _ _ p in
          let y = got vs k c ls e in
          nodes_allowed (ts ++ got_type ts c ∷ []) made (vs ++ y.0 ∷ []) k (n + 1) ls (one_more vs y.0 n l) (got_fits vs ts c y.0 a (both_true _ _ q.0).0 y.1) q.1 live y.2

    -- of a whole body, over values that it is given
    module _ (vs : List Val) (ts : List Ty) (n : ℕ) (ls : List Line3) (begin : Are vs ts) (typed : LinesTyped prog (patterns prog) ts ls) (live : AllByRecursion IsLive (plans_from name all 0 n ls)) (whole : AllFrom 0 vs ls) where
      pub body_values : Are all (types_after ts ls)
      body_values = values_fit (types_after ts ls) ts [] vs 0 n ls begin typed live whole

      pub body_allowed : n ≡ length vs → AllByRecursion IsAllowed (plans_from name all 0 n ls)
      body_allowed l = nodes_allowed (types_after ts ls) body_values ts [] vs 0 n ls l begin typed live whole

  -- The nodes of the file.

  pub file_allowed : IsTypedProg prog → AllByRecursion IsLive (file_plans prog) → AllByRecursion IsAllowed (file_plans prog)
  file_allowed h = by (values_from declared_name (λ n. None) 0 [] prog.body.lines) refl where
    by : (o : Option (List Val)) → values_from declared_name (λ n. None) 0 [] prog.body.lines ≡ o → AllByRecursion IsLive (file_plans prog) → AllByRecursion IsAllowed (file_plans prog)
    by None e = rw e (λ live. tt)
    by (Some all) e = rw e (λ live. body_allowed declared_name (λ n. None) (λ n a v here f. absurd cc) all [] [] 0 prog.body.lines refl (file_typed prog h) live e refl)

  -- Instances.

  -- an instance, by its parts
  pub record IsInstance (n : Name) (template : ℕ) (kept : List Val) (a : Val) (i : Instance) : Type 0 where
    pub body : Body
    pub is_template : slice_get prog.templates template ≡ Some body
    pub all : List Val
    pub values : values_from (made_name n w.time) w.pre 0 (a ∷ kept) body.lines ≡ Some all
    pub give : Expr
    pub gives : body.give ≡ Some give
    pub is : i ≡ record { nodes = plans_from (made_name n w.time) all 0 (length kept + 1) body.lines; result = eval give all }

  pub instance_parts : (n : Name) (template : ℕ) (kept : List Val) (a : Val) (i : Instance) → instance prog w n template kept a ≡ Some i → IsInstance n template kept a i
  instance_parts n template kept a i h =
      let body = bind_some (slice_get prog.templates template) _ i h in
      let all = bind_some (values_from (made_name n w.time) w.pre 0 (a ∷ kept) body.0.lines) _ i body.2 in
      let e = bind_some body.0.give _ i all.2 in
      record { body = body.0; is_template = body.1; all = all.0; values = all.1; give = e.0; gives = e.1; is = some_is _ i e.2 }

  module _ (h : IsTypedProg prog) (befores : AreBefores w.pre) (n : Name) (template : ℕ) (kept : List Val) (a : Val) (d : Pattern) (i : Instance)
      (pattern : slice_get (patterns prog) template ≡ Some d) (first : is_value prog w.node a d.param ≡ true) (rest : Are kept d.kept)
      (made : instance prog w n template kept a ≡ Some i) (live : AllByRecursion IsLive i.nodes) where
    parts : IsInstance n template kept a i
    parts = instance_parts n template kept a i made

    nodes_live : AllByRecursion IsLive (plans_from (made_name n w.time) parts.all 0 (length kept + 1) parts.body.lines)
    nodes_live = subst (λ (ds : List Plan). AllByRecursion IsLive ds) (ap (λ (i : Instance). i.nodes) parts.is) live

    all_fit : Are parts.all (types_after (d.param ∷ d.kept) parts.body.lines)
    all_fit =
        body_values (made_name n w.time) w.pre befores parts.all (a ∷ kept) (d.param ∷ d.kept) (length kept + 1) parts.body.lines (true_both _ _ first rest)
        (template_is prog h template parts.body d parts.is_template pattern).lines nodes_live parts.values

    -- what it gives is of what its pattern gives
    pub result_fits : is_value prog w.node i.result d.gives ≡ true
    result_fits =
        let gives = (template_is prog h template parts.body d parts.is_template pattern).gives parts.give parts.gives in
        subst (λ (v : Val). is_value prog w.node v d.gives ≡ true) (sym (ap (λ (i : Instance). i.result) parts.is))
        (good (type_among w.node) (sigs prog) parts.give parts.all (types_after (d.param ∷ d.kept) parts.body.lines) d.gives all_fit gives)

    -- its nodes are allowed by their types
    pub instance_allowed : AllByRecursion IsAllowed i.nodes
    instance_allowed =
        subst (λ (ds : List Plan). AllByRecursion IsAllowed ds) (sym (ap (λ (i : Instance). i.nodes) parts.is))
        (body_allowed (made_name n w.time) w.pre befores parts.all (a ∷ kept) (d.param ∷ d.kept) (length kept + 1) parts.body.lines (true_both _ _ first rest)
        (template_is prog h template parts.body d parts.is_template pattern).lines nodes_live parts.values (omega arith))
