-- The template of a pattern: its lines are typed, over the patterns of the templates before it.
use Rattle.std.proofs.Common.{◌≡◌, ℕ, zero, suc, true, List, [], ◌∷◌, ◌++◌, Option, Some, refl, sym, ap, ◌∙◌, append_assoc, append-nil, subst}
use Rattle.std.specs.Prelude.{slice_get, unwrap_or, ⊤}
use Rattle.frp_expr.specs.declared.expr.Expr.{Expr}
use Rattle.frp_expr.specs.Typing.{Sig}
use Rattle.frp_base.proofs.Booleans.{both_true}
use Rattle.frp_expr.proofs.TypeLemmas.{bind_some}
use Rattle.frp_graph.specs.declared.prog.Body.{Body}
use Rattle.frp_graph.specs.declared.prog.Prog.{Prog}
use Rattle.frp_graph.specs.TypedProg.{IsTypedProg, Pattern, sigs, patterns, patterns_in, patterns_of, pattern_of, gives_type, depth_of, has_typed_lines, is_typed_template}
use Rattle.frp_graph.proofs.Options.{some_there, test_some}

module _ (funs : List Sig) (codes : List Expr) where
  -- a body is a template of this pattern
  pub record IsTemplate (body : Body) (d : Pattern) : Type 0 where
    pub earlier : List Pattern
    pub param : body.param ≡ Some d.param
    pub kept : body.kept ≡ d.kept
    pub give : Expr
    pub gives : body.give ≡ Some give
    pub typed : has_typed_lines funs codes earlier body ≡ true

  -- a body is typed, and this is its pattern
  abbrev IsOf : List Pattern → Body → Pattern → Type 0
  IsOf earlier body d = (pattern_of funs codes earlier body ≡ Some d) × (is_typed_template funs codes earlier body d ≡ true)

  template_of : (earlier : List Pattern) (body : Body) (d : Pattern) → IsOf earlier body d → IsTemplate body d
  template_of earlier body d h =
      let a = bind_some body.param _ d h.0 in
      let b = bind_some (gives_type funs codes earlier body) _ d a.2 in
      let e = bind_some body.give _ b.0 b.1 in
      let made : Pattern = record { param = a.0; kept = body.kept; gives = b.0; depth = depth_of earlier body.lines } in
      let same : made ≡ d = cc in
      record {
        earlier = earlier;
        param = a.1 ∙ ap (λ (p : Pattern). Some p.param) same;
        kept = ap (λ (p : Pattern). p.kept) same;
        give = e.0;
        gives = e.1;
        typed = (both_true _ _ (both_true _ _ h.1).0).1;
      }

  -- these are the patterns of these bodies, each over those before it
  abbrev AreOf : List Pattern → List Body → List Pattern → Type 0
  AreOf earlier [] [] = ⊤
  AreOf earlier (body ∷ more) (d ∷ ds) = IsOf earlier body d × AreOf (earlier ++ d ∷ []) more ds
  AreOf earlier _ _ = ⊥

  found : (earlier all : List Pattern) (bodies : List Body) → patterns_of funs codes earlier bodies ≡ Some all
      → (ds : List Pattern) × (all ≡ earlier ++ ds) × AreOf earlier bodies ds
  found earlier all [] h = let same : earlier ≡ all = cc in ([], sym same ∙ sym (append-nil earlier), tt)
  found earlier all (body ∷ more) h =
      let d = bind_some (pattern_of funs codes earlier body) _ all h in
      let typed = test_some (is_typed_template funs codes earlier body d.0) _ all d.2 in
      let rest = found (earlier ++ d.0 ∷ []) all more typed.1 in
      (d.0 ∷ rest.0, rest.1 ∙ append_assoc earlier (d.0 ∷ []) rest.0, ((d.1, typed.0), rest.2))

  at_place : (earlier : List Pattern) (bodies : List Body) (ds : List Pattern) (k : ℕ) (d : Pattern)
      → AreOf earlier bodies ds → slice_get ds k ≡ Some d
      → (body : Body) × (slice_get bodies k ≡ Some body) × IsTemplate body d
  at_place earlier [] [] k d h e = absurd cc
  at_place earlier [] (c ∷ ds) k d h e = absurd h
  at_place earlier (body ∷ more) [] k d h e = absurd h
  at_place earlier (body ∷ more) (c ∷ ds) zero d h e =
      let same : c ≡ d = cc in
      (body, refl, subst (λ (d : Pattern). IsTemplate body d) same (template_of earlier body c h.0))
  at_place earlier (body ∷ more) (c ∷ ds) (suc k) d h e = at_place (earlier ++ c ∷ []) more ds k d h.1 e

-- the template of a pattern of a typed program
pub template_at : (prog : Prog) (k : ℕ) (d : Pattern) → IsTypedProg prog → slice_get (patterns prog) k ≡ Some d
    → (body : Body) × (slice_get prog.templates k ≡ Some body) × IsTemplate (sigs prog) prog.codes body d
template_at prog k d typed h =
    let all = some_there (patterns_in prog) typed.templates in
    let same : patterns prog ≡ all.0 = ap (λ (o : Option (List Pattern)). unwrap_or o []) all.1 in
    let ds = found (sigs prog) prog.codes [] all.0 prog.templates all.1 in
    let here : slice_get ds.0 k ≡ Some d = ap (λ (ds : List Pattern). slice_get ds k) (sym ds.1 ∙ sym same) ∙ h in
    at_place (sigs prog) prog.codes [] prog.templates ds.0 k d ds.2 here
