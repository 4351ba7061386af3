-- What an expression of the program, and a function value, give for values of their types.
use Rattle.std.proofs.Common.{◌≡◌, ℕ, zero, suc, true, List, [], ◌∷◌, ◌++◌, map, Option, Some, sym, ap, ◌∙◌, subst, append_assoc}
use Rattle.std.specs.Prelude.{pos, slice_get, slice_index_or, option_map}
use Rattle.std.proofs.lemmas.Option.{slice_get-map}
use Rattle.frp_base.specs.declared.ty.Ty.{Ty}
use Rattle.frp_base.specs.declared.ty.Ty.TheOpen as u
use Rattle.frp_base.specs.declared.ty.Ty.TheVariants as t
use Rattle.frp_base.specs.declared.val.Val.{Val, out-Val}
use Rattle.frp_base.specs.declared.val.Val.TheOpen.{Val-F}
use Rattle.frp_base.specs.declared.val.Val.TheOpen as o
use Rattle.frp_base.proofs.TyLemmas.{ty_decides}
use Rattle.frp_expr.specs.declared.expr.Expr.{Expr}
use Rattle.frp_expr.specs.declared.expr.Expr.TheVariants as ex
use Rattle.frp_expr.specs.Eval.{eval}
use Rattle.frp_expr.specs.Typing.{Sig, type_in}
use Rattle.frp_expr.specs.Values.{is_closed_of, is_of}
use Rattle.frp_base.proofs.Booleans.{both_true}
use Rattle.frp_expr.proofs.TypeLemmas.{bind_some, has_some}
use Rattle.frp_expr.proofs.ValueLemmas.{Layer, opened, are_more}
use Rattle.frp_expr.proofs.TypedValues.{good}
use Rattle.frp_expr.proofs.MoreFuns.{sigs_more}
use Rattle.frp_graph.specs.declared.prog.FunDef.{FunDef}
use Rattle.frp_graph.specs.declared.prog.Prog.{Prog}
use Rattle.frp_graph.specs.declared.shape.Lam.{Lam}
use Rattle.frp_graph.specs.Trace.{Sight}
use Rattle.frp_graph.specs.Applied.{call, fun_on, applied}
use Rattle.frp_graph.specs.TypedProg.{sig_of, sigs, are_typed_funs}
use Rattle.frp_graph.specs.Values.{type_among, is_value, are_values}
use Rattle.frp_graph.specs.WellFormed.{Returns}
use Rattle.frp_graph.proofs.Options.{mapped_some, index_is}
use Rattle.frp_graph.proofs.TypedValues.{each_are, are_append}

-- Declared functions.

-- a function's expression has its result's type over the functions before it, and so over all
fun_typed : (before : List Sig) (ds : List FunDef) (i : ℕ) (d : FunDef) → are_typed_funs before ds ≡ true → slice_get ds i ≡ Some d
    → type_in (before ++ map sig_of ds) d.e (d.kept ++ d.arg ∷ []) ≡ Some d.result
fun_typed before [] i d h e = absurd cc
fun_typed before (c ∷ ds) zero d h e =
    let same : c ≡ d = cc in
    let typed = has_some c.result (type_in before c.e (c.kept ++ c.arg ∷ [])) (both_true _ _ (both_true _ _ h).0).1 in
    subst (λ (d : FunDef). type_in (before ++ map sig_of (c ∷ ds)) d.e (d.kept ++ d.arg ∷ []) ≡ Some d.result) same
    (sigs_more before (map sig_of (c ∷ ds)) c.e (c.kept ++ c.arg ∷ []) c.result typed)
fun_typed before (c ∷ ds) (suc i) d h e =
    subst (λ (all : List Sig). type_in all d.e (d.kept ++ d.arg ∷ []) ≡ Some d.result) (append_assoc before (sig_of c ∷ []) (map sig_of ds))
    (fun_typed (before ++ sig_of c ∷ []) ds i d (both_true _ _ h).1 e)

-- Calls.

module _ (prog : Prog) (w : Sight) where
  -- an expression of the program that gives a type for arguments of these
  pub call_fits : (f : Lam) (args : List Val) (ts : List Ty) (b : Ty) → Returns prog w f ts b → are_values prog w.node args ts ≡ true → is_value prog w.node (call prog f args) b ≡ true
  call_fits f args ts b g h =
      let e = bind_some (slice_get prog.codes f.code) (λ e. type_in (sigs prog) e (g.kept ++ ts)) b g.typed in
      let q : slice_index_or prog.codes f.code (ex.Int (pos 0)) ≡ e.0 = index_is prog.codes f.code (ex.Int (pos 0)) e.0 e.1 in
      subst (λ (c : Expr). is_value prog w.node (eval c (f.kept ++ args)) b ≡ true) (sym q)
      (good (type_among w.node) (sigs prog) e.0 (f.kept ++ args) (g.kept ++ ts) b (are_append (type_among w.node) (sigs prog) f.kept args g.kept ts g.kept_fit h) e.2)

  -- a function value, applied to a value of its argument's type
  module _ (funs : are_typed_funs [] prog.funs ≡ true) (a b : Ty) (x y : Val) (argument : is_value prog w.node x a ≡ true) where
    fun_fits : (ks : List Val) (d : FunDef) (f : ℕ) → slice_get prog.funs f ≡ Some d → is_closed_of (map (is_of (type_among w.node) (sigs prog)) ks) a b (slice_get (sigs prog) f) ≡ true
        → is_value prog w.node (eval d.e (ks ++ x ∷ [])) b ≡ true
    fun_fits ks d f e h =
        let sig : slice_get (sigs prog) f ≡ Some (sig_of d) = slice_get-map sig_of prog.funs f ∙ ap (option_map sig_of) e in
        let closed = subst (λ (s : Option Sig). is_closed_of (map (is_of (type_among w.node) (sigs prog)) ks) a b s ≡ true) sig h in
        let q = both_true _ _ closed in
        let r = both_true _ _ q.0 in
        let arg : a ≡ d.arg = sym ((ty_decides d.arg a).0 r.1) in
        let fit = subst (λ (a : Ty). is_value prog w.node x a ≡ true) arg argument in
        subst (λ (b : Ty). is_value prog w.node (eval d.e (ks ++ x ∷ [])) b ≡ true) ((ty_decides d.result b).0 q.1)
        (good (type_among w.node) (sigs prog) d.e (ks ++ x ∷ []) (d.kept ++ d.arg ∷ []) d.result
        (are_more (type_among w.node) (sigs prog) ks d.kept x d.arg (each_are (type_among w.node) (sigs prog) ks d.kept r.0) fit) (fun_typed [] prog.funs f d funs e))

    layer_fits : (l : Val-F Val) (z : Ty) → Layer (type_among w.node) (sigs prog) l z (u.Fun a b) ≡ true → fun_on prog.funs l x ≡ Some y → is_value prog w.node y b ≡ true
    layer_fits (o.Fun f ks) z h e =
        let d = mapped_some (λ (d : FunDef). eval d.e (ks ++ x ∷ [])) (slice_get prog.funs f) y e in
        subst (λ (y : Val). is_value prog w.node y b ≡ true) d.2 (fun_fits ks d.0 f d.1 h)
    layer_fits _ z h e = absurd cc

    pub applied_fits : (f : Val) → is_value prog w.node f (t.Fun a b) ≡ true → applied prog f x ≡ Some y → is_value prog w.node y b ≡ true
    applied_fits f h e = layer_fits (out-Val f) (t.Fun a b) (opened (type_among w.node) (sigs prog) f (t.Fun a b) (u.Fun a b) (t.rolls-Fun a b) h) e
