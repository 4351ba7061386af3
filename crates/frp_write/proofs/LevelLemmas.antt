-- Levels, and one level less.
use Rattle.std.proofs.Common.{◌≡◌, ℕ, suc, ◌-◌, ◌≤◌, false, sym, ap, ◌∙◌, arith}
use Rattle.frp_expr.specs.declared.raw.RawTy.{RawTy, out-RawTy}
use Rattle.frp_expr.specs.declared.raw.Raw.{Raw, out-Raw}
use Rattle.frp_write.specs.Lawful.{ty_within, expr_within}
use Rattle.frp_write.proofs.PlacedTypes as types
use Rattle.frp_write.proofs.PlacedExprs as exprs

-- something of no level is nothing

pub ty_none : (x : RawTy) → ty_within x 0 ≡ false
ty_none x = ap (λ (y : RawTy). ty_within y 0) (sym (types.opened x)) ∙ types.within_layer 0 (out-RawTy x).at (types.form_in x)

pub expr_none : (x : Raw) → expr_within x 0 ≡ false
expr_none x = ap (λ (y : Raw). expr_within y 0) (sym (exprs.opened x)) ∙ exprs.within_layer 0 (out-Raw x).at (exprs.form_in x)

one_less : (n : ℕ) → 1 ≤ n → suc (n - 1) ≡ n
one_less n h = omega arith

-- one level more than one less

pub ty_some : (x : RawTy) (n : ℕ) → 1 ≤ n → ty_within x (suc (n - 1)) ≡ ty_within x n
ty_some x n h = ap (ty_within x) (one_less n h)

pub expr_some : (x : Raw) (n : ℕ) → 1 ≤ n → expr_within x (suc (n - 1)) ≡ expr_within x n
expr_some x n h = ap (expr_within x) (one_less n h)
