-- The typing of an expression with variables, as an expression of the program and the values that it keeps.
use Rattle.std.proofs.Common.{◌≡◌, ◌+◌, List, [], ◌∷◌, ◌++◌, length, sym, ap, ◌∙◌}
use Rattle.std.specs.Prelude.{filter, nat_lt}
use Rattle.std.proofs.lemmas.List.{map-append, length-append, length-map}
use Rattle.frp_expr.specs.declared.expr.Expr.{Expr}
use Rattle.frp_expr.specs.declared.raw.Raw.{Raw}
use Rattle.frp_expr.specs.declared.scope.Scope.{Scope}
use Rattle.frp_expr.specs.declared.scope.Typing.{Typing}
use Rattle.frp_expr.specs.Raw.{resolve}
use Rattle.frp_expr.specs.Scope.{Named, names_of, fun_names}
use Rattle.frp_expr.specs.TypeOf.{IsTypingOf}
use Rattle.frp_expr.specs.Uses.{uses}
use Rattle.frp_graph.specs.declared.prog.LineLam.{LineLam}
use Rattle.frp_type.specs.Closed.{kept_number, renumbered_vars, used_of}
use Rattle.frp_type.specs.Known.{Known}
use Rattle.frp_type.specs.Meaning.{body_expr, code, line_lam}
use Rattle.frp_type.specs.States.{here}

module _ (scope : Scope) (codes : List Expr) (vs : List Named) (e : Raw) (t : Typing) (is : IsTypingOf (record { names = scope.names ++ vs; funs = scope.funs }) e t) where
  abbrev k : Known
  k = here scope codes

  stands : t.expr ≡ body_expr k (names_of vs) e
  stands = is.stands_for ∙ ap (resolve (fun_names scope.funs) e) (map-append (λ (n : Named). n.0) scope.names vs)

  kept : filter (λ i. nat_lt i (length scope.names)) t.used ≡ used_of (length scope.names) (length (names_of vs)) (body_expr k (names_of vs) e)
  kept = ap (filter (λ i. nat_lt i (length scope.names))) (is.uses_these ∙ ap (λ n. uses n t.expr) lengths ∙ ap (uses (length scope.names + length (names_of vs))) stands) where
    lengths : length (scope.names ++ vs) ≡ length scope.names + length (names_of vs)
    lengths = length-append scope.names vs ∙ ap (λ n. length scope.names + n) (sym (length-map vs (λ (n : Named). n.0)))

  closing : renumbered_vars (kept_number (length scope.names) (filter (λ i. nat_lt i (length scope.names)) t.used)) t.expr ≡ code k (names_of vs) e
  closing = ap (λ us. renumbered_vars (kept_number (length scope.names) us) t.expr) kept ∙ ap (renumbered_vars (kept_number (length scope.names) (used_of (length scope.names) (length (names_of vs)) (body_expr k (names_of vs) e)))) stands

-- what is made of the typing, where the names and the typing are called otherwise
module _ (scope : Scope) (codes : List Expr) (vs : List Named) (e : Raw) (t : Typing) (is : IsTypingOf (record { names = scope.names ++ vs; funs = scope.funs }) e t)
    (ns : List Named) (u : Typing) (same : ns ≡ scope.names) (known : u ≡ t) where
  pub lam_made : (f : LineLam) → f ≡ record { code = length codes; kept = filter (λ i. nat_lt i (length ns)) u.used } → f ≡ line_lam (here scope codes) (names_of vs) e
  lam_made f h = h ∙ ap (λ (ns : List Named). record { code = length codes; kept = filter (λ i. nat_lt i (length ns)) u.used }) same
      ∙ ap (λ (u : Typing). record { code = length codes; kept = filter (λ i. nat_lt i (length scope.names)) u.used }) known
      ∙ ap (λ us. record { code = length codes; kept = us }) (kept scope codes vs e t is)

  pub code_made : (new : List Expr) → new ≡ codes ++ renumbered_vars (kept_number (length ns) (filter (λ i. nat_lt i (length ns)) u.used)) u.expr ∷ [] → new ≡ codes ++ code (here scope codes) (names_of vs) e ∷ []
  code_made new h = h ∙ ap (λ (ns : List Named). codes ++ renumbered_vars (kept_number (length ns) (filter (λ i. nat_lt i (length ns)) u.used)) u.expr ∷ []) same
      ∙ ap (λ (u : Typing). codes ++ renumbered_vars (kept_number (length scope.names) (filter (λ i. nat_lt i (length scope.names)) u.used)) u.expr ∷ []) known
      ∙ ap (λ c. codes ++ c ∷ []) (closing scope codes vs e t is)
