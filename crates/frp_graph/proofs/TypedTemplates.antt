-- Templates: each is typed over the patterns of those before it, and so over all.
use Rattle.std.proofs.Common.{◌≡◌, ℕ, zero, suc, Bool, true, List, [], ◌∷◌, ◌++◌, length, map, Option, Some, refl, sym, ap, ◌∙◌, subst, append_assoc, append-nil}
use Rattle.std.specs.Prelude.{◌&&◌, slice_get, unwrap_or}
use Rattle.std.specs.Option.{option_to_list}
use Rattle.frp_base.specs.declared.ty.Ty.{Ty}
use Rattle.frp_base.specs.declared.ty.Ty.TheVariants as t
use Rattle.frp_base.specs.Ty.{ty_eq}
use Rattle.frp_base.proofs.TyLemmas.{ty_decides}
use Rattle.frp_expr.specs.declared.expr.Expr.{Expr}
use Rattle.frp_expr.specs.Types.{given}
use Rattle.frp_expr.specs.Typing.{Sig, ◌>>=◌, has, each_has, type_in}
use Rattle.frp_base.proofs.Booleans.{both_true, true_both}
use Rattle.frp_base.proofs.Lists.{get_more}
use Rattle.frp_expr.proofs.TypeLemmas.{bind_some, has_some, some_has}
use Rattle.frp_expr.proofs.MoreFuns.{bind_more}
use Rattle.frp_graph.specs.declared.prog.Body.{Body}
use Rattle.frp_graph.specs.declared.prog.Prog.{Prog}
use Rattle.frp_graph.specs.declared.prog.Line3.{Line3}
use Rattle.frp_graph.specs.declared.prog.Line3.TheVariants.{Node, Get}
use Rattle.frp_graph.specs.declared.prog.LineShape.{LineShape}
use Rattle.frp_graph.specs.declared.prog.LineShape.TheVariants.{Loop, Execute}
use Rattle.frp_graph.specs.TypedProg.{Pattern, IsTypedProg, patterns, patterns_in, patterns_of, pattern_of, gives_type, is_typed_template, sigs, stream_of, cell_of, shape_type, has_tied_type, all_types, given_types, is_typed_line, are_typed_lines, depth_of}
use Rattle.frp_graph.proofs.Options.{some_is, some_there, test_some}

-- Lines over more patterns.

module _ (sigs : List Sig) (codes : List Expr) (few others : List Pattern) where
  abbrev many : List Pattern
  many = few ++ others

  execute_more : (o : Option Ty) (k : ℕ) (test : Ty → Pattern → Bool) (x : Ty) → (o >>= λ a. slice_get few k >>= λ d. given (test a d) (t.Stream d.gives)) ≡ Some x
      → (o >>= λ a. slice_get many k >>= λ d. given (test a d) (t.Stream d.gives)) ≡ Some x
  execute_more o k test x h =
      bind_more o o (λ a. slice_get few k >>= λ d. given (test a d) (t.Stream d.gives)) (λ a. slice_get many k >>= λ d. given (test a d) (t.Stream d.gives)) x (λ a q. q)
      (λ a. bind_more (slice_get few k) (slice_get many k) (λ d. given (test a d) (t.Stream d.gives)) (λ d. given (test a d) (t.Stream d.gives)) x (get_more few others k) (λ d q. q)) h

  shape_more : (ts : List Ty) (x : Ty) (shape : LineShape) → shape_type sigs codes few ts x shape ≡ Some x → shape_type sigs codes many ts x shape ≡ Some x
  shape_more ts x (Execute s k kept) h = execute_more (stream_of sigs codes few ts s) k (λ a d. ty_eq a d.param && each_has d.kept (map (type_in sigs) kept) ts) x h
  shape_more ts x _ h = h

  tied_more : (all : List Ty) (x : Ty) (shape : LineShape) → has_tied_type sigs codes few all x shape ≡ true → has_tied_type sigs codes many all x shape ≡ true
  tied_more all x (Loop to) h = h
  tied_more all x _ h = refl

  line_more : (all ts : List Ty) (made : List ℕ) (l : Line3) → is_typed_line sigs codes few all ts made l ≡ true → is_typed_line sigs codes many all ts made l ≡ true
  line_more all ts made (Node x shape) h =
      let q = both_true _ _ h in
      let typed = shape_more ts x shape (has_some x (shape_type sigs codes few ts x shape) q.0) in
      true_both _ _ (some_has x (shape_type sigs codes many ts x shape) typed) (tied_more all x shape q.1)
  line_more all ts made (Get c) h = h

  lines_more : (all ts : List Ty) (made : List ℕ) (ls : List Line3) → are_typed_lines sigs codes few all ts made ls ≡ true → are_typed_lines sigs codes many all ts made ls ≡ true
  lines_more all ts made [] h = refl
  lines_more all ts made (Node x shape ∷ ls) h =
      let q = both_true _ _ h in
      true_both _ _ (line_more all ts made (Node x shape) q.0) (lines_more all (ts ++ x ∷ []) (made ++ length ts ∷ []) ls q.1)
  lines_more all ts made (Get c ∷ ls) h =
      let q = both_true _ _ h in
      true_both _ _ q.0 (lines_more all (ts ++ unwrap_or (cell_of sigs codes few ts c) t.Int ∷ []) made ls q.1)

  types_same : (ts : List Ty) (ls : List Line3) → all_types sigs codes few ts ls ≡ all_types sigs codes many ts ls
  types_same ts [] = refl
  types_same ts (Node x shape ∷ ls) = types_same (ts ++ x ∷ []) ls
  types_same ts (Get c ∷ ls) = types_same (ts ++ unwrap_or (cell_of sigs codes few ts c) t.Int ∷ []) ls

  body_more : (ts : List Ty) (ls : List Line3) → are_typed_lines sigs codes few (all_types sigs codes few ts ls) ts [] ls ≡ true → are_typed_lines sigs codes many (all_types sigs codes many ts ls) ts [] ls ≡ true
  body_more ts ls h =
      subst (λ (all : List Ty). are_typed_lines sigs codes many all ts [] ls ≡ true) (types_same ts ls) (lines_more (all_types sigs codes few ts ls) ts [] ls h)

-- A template of a pattern: its lines are typed over its parameter and its kept values, and it gives what the pattern says.

module _ (prog : Prog) where
  abbrev pub LinesTyped : List Pattern → List Ty → List Line3 → Type 0
  LinesTyped ps ts ls = are_typed_lines (sigs prog) prog.codes ps (all_types (sigs prog) prog.codes ps ts ls) ts [] ls ≡ true

  pub record IsTemplate (ps : List Pattern) (body : Body) (d : Pattern) : Type 0 where
    pub lines : LinesTyped ps (d.param ∷ d.kept) body.lines
    pub gives : (e : Expr) → body.give ≡ Some e → type_in (sigs prog) e (all_types (sigs prog) prog.codes ps (d.param ∷ d.kept) body.lines) ≡ Some d.gives

  -- as it is typed, over the patterns of those before it
  over_before : (before : List Pattern) (body : Body) (d : Pattern) → pattern_of (sigs prog) prog.codes before body ≡ Some d → is_typed_template (sigs prog) prog.codes before body d ≡ true → IsTemplate before body d
  over_before before body d h typed =
      let p = bind_some body.param _ d h in
      let g = bind_some (gives_type (sigs prog) prog.codes before body) _ d p.2 in
      let is : d ≡ record { param = p.0; kept = body.kept; gives = g.0; depth = depth_of before body.lines } = some_is _ d g.2 in
      let begin : given_types (sigs prog) prog.codes before body ≡ d.param ∷ d.kept
      = ap (λ (o : Option Ty). option_to_list o ++ body.kept) p.1 ∙ ap (λ (d : Pattern). d.param ∷ d.kept) (sym is) in
      record {
        lines = subst (λ (ts : List Ty). LinesTyped before ts body.lines) begin (both_true _ _ (both_true _ _ typed).0).1;
        gives = λ e give.
            ap (λ (ts : List Ty). type_in (sigs prog) e (all_types (sigs prog) prog.codes before ts body.lines)) (sym begin)
            ∙ sym (ap (λ (o : Option Expr). o >>= λ e. type_in (sigs prog) e (all_types (sigs prog) prog.codes before (given_types (sigs prog) prog.codes before body) body.lines)) give)
            ∙ g.1 ∙ ap (λ (d : Pattern). Some d.gives) (sym is);
      }

  -- and so over these and others
  over_more : (before others ps : List Pattern) (body : Body) (d : Pattern) → ps ≡ before ++ others → IsTemplate before body d → IsTemplate ps body d
  over_more before others ps body d e h =
      subst (λ (ps : List Pattern). IsTemplate ps body d) (sym e) (record {
        lines = body_more (sigs prog) prog.codes before others (d.param ∷ d.kept) body.lines h.lines;
        gives = λ e give. ap (type_in (sigs prog) e) (sym (types_same (sigs prog) prog.codes before others (d.param ∷ d.kept) body.lines)) ∙ h.gives e give;
      })

  -- the patterns after those before are the templates', one by one
  abbrev AreTemplates : List Pattern → List Body → List Pattern → Type 0
  AreTemplates ps bodies new = (k : ℕ) (body : Body) (d : Pattern) → slice_get bodies k ≡ Some body → slice_get new k ≡ Some d → IsTemplate ps body d

  one_more : (ps : List Pattern) (body : Body) (bodies : List Body) (d : Pattern) (new : List Pattern) → IsTemplate ps body d → AreTemplates ps bodies new → AreTemplates ps (body ∷ bodies) (d ∷ new)
  one_more ps body bodies d new here rest zero b c e f =
      let same : body ≡ b = cc in
      let pattern : d ≡ c = cc in
      subst (λ (b : Body). IsTemplate ps b c) same (subst (λ (c : Pattern). IsTemplate ps body c) pattern here)
  one_more ps body bodies d new here rest (suc k) b c e f = rest k b c e f

  templates_from : (before : List Pattern) (bodies : List Body) (ps : List Pattern) → patterns_of (sigs prog) prog.codes before bodies ≡ Some ps → (new : List Pattern) × (ps ≡ before ++ new) × AreTemplates ps bodies new
  templates_from before [] ps h = ([], some_is before ps h ∙ sym (append-nil before), λ k body d e f. absurd cc)
  templates_from before (body ∷ bodies) ps h =
      let d = bind_some (pattern_of (sigs prog) prog.codes before body) _ ps h in
      let n = test_some (is_typed_template (sigs prog) prog.codes before body d.0) (patterns_of (sigs prog) prog.codes (before ++ d.0 ∷ []) bodies) ps d.2 in
      let r = templates_from (before ++ d.0 ∷ []) bodies ps n.1 in
      let whole : ps ≡ before ++ d.0 ∷ r.0 = r.1 ∙ append_assoc before (d.0 ∷ []) r.0 in
      let here = over_more before (d.0 ∷ r.0) ps body d.0 whole (over_before before body d.0 d.1 n.0) in
      (d.0 ∷ r.0, whole, one_more ps body bodies d.0 r.0 here r.2)

  -- the template of a number has the pattern of the number
  pub template_is : IsTypedProg prog → (k : ℕ) (body : Body) (d : Pattern) → slice_get prog.templates k ≡ Some body → slice_get (patterns prog) k ≡ Some d → IsTemplate (patterns prog) body d
  template_is h k body d e f =
      let ps = some_there (patterns_in prog) h.templates in
      let is : patterns prog ≡ ps.0 = ap (λ (o : Option (List Pattern)). unwrap_or o []) ps.1 in
      let r = templates_from [] prog.templates ps.0 ps.1 in
      let found : slice_get r.0 k ≡ Some d = ap (λ (ps : List Pattern). slice_get ps k) (sym r.1 ∙ sym is) ∙ f in
      subst (λ (ps : List Pattern). IsTemplate ps body d) (sym is) (r.2 k body d e found)

  -- the file's lines are typed over nothing
  pub file_typed : IsTypedProg prog → LinesTyped (patterns prog) [] prog.body.lines
  file_typed h =
      let begin : given_types (sigs prog) prog.codes (patterns prog) prog.body ≡ [] = ap (λ (o : Option Ty). option_to_list o ++ prog.body.kept) h.no_param ∙ h.no_kept in
      subst (λ (ts : List Ty). LinesTyped (patterns prog) ts prog.body.lines) begin h.lines
