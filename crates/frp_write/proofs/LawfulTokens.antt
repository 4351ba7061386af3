-- The tokens that a lawful file is written with are lawful.
use Rattle.std.proofs.Common.{◌≡◌, ℕ, zero, suc, Bool, true, false, List, [], ◌∷◌, ◌++◌, map, refl, ap, ◌∙◌}
use Rattle.std.specs.Prelude.{◌&&◌, nat_le, length, codes, ℤ, pos, negsuc}
use Rattle.std.specs.List.{list_all}
use Rattle.frp_expr.specs.declared.raw.Spot.{Spot}
use Rattle.frp_expr.specs.declared.raw.RawTy.{RawTy}
use Rattle.frp_expr.specs.declared.raw.Raw.{Raw}
use Rattle.frp_expr.specs.declared.raw.TyForm.TheOpen as y
use Rattle.frp_expr.specs.declared.raw.RawForm.TheOpen as o
use Rattle.frp_expr.specs.Types.{fits}
use Rattle.frp_expr.specs.Operators.{most}
use Rattle.frp_expr.specs.Raw.{is_lawful, is_lawful_step}
use Rattle.frp_lex.specs.declared.token.Kind.TheVariants as k
use Rattle.frp_lex.specs.Atoms.{fits_token}
use Rattle.frp_lex.specs.Spelling.{is_lawful_token, are_lawful}
use Rattle.frp_file.specs.declared.file.Param.{Param}
use Rattle.frp_file.specs.declared.file.ShapeForm.{ShapeForm}
use Rattle.frp_file.specs.declared.file.ShapeForm.TheVariants as s
use Rattle.frp_file.specs.declared.file.Item.{Item}
use Rattle.frp_file.specs.declared.file.ItemForm.{ItemForm}
use Rattle.frp_file.specs.declared.file.ItemForm.TheVariants as i
use Rattle.frp_file.specs.declared.file.Template.{Template}
use Rattle.frp_file.specs.declared.file.Function.{Function}
use Rattle.frp_file.specs.declared.file.Decl.{Decl}
use Rattle.frp_file.specs.declared.file.Decl.TheVariants as d
use Rattle.frp_file.specs.declared.file.Listen.{Listen}
use Rattle.frp_file.specs.declared.file.RawSend.{RawSend}
use Rattle.frp_file.specs.declared.file.Sender.{Sender}
use Rattle.frp_file.specs.declared.file.File.{File}
use Rattle.frp_base.proofs.Booleans.{both_true, true_both}
use Rattle.frp_write.specs.Writing.{Kinds, run_together, parens, form, spot_kind, ty_kinds, ty_kinds_step, expr_kinds, expr_kinds_step, param_kinds, params_kinds, shape_form_kinds, item_kinds, item_form_kinds, template_kinds, function_kinds, decl_kinds, graph_kinds, listen_kinds, send_kinds, sender_kinds, forms_of}
use Rattle.frp_write.specs.Lawful.{level, is_user_spot, are_user_two, ty_within, ty_within_step, expr_within, within_step, all_within, is_lawful_ty, is_lawful_expr, are_lawful_two, are_lawful_three, is_lawful_param, is_lawful_shape, is_lawful_item_form, is_of_graph, is_of_template, is_lawful_item, is_lawful_body_item, is_lawful_template, is_lawful_function, is_lawful_decl, is_lawful_listen, is_lawful_send, is_lawful_sender, is_lawful_file}
use Rattle.frp_write.proofs.PlacedTypes as types
use Rattle.frp_write.proofs.PlacedExprs as exprs
use Rattle.frp_write.proofs.PlacedExprs.{allowed, all_allowed}

abbrev Lawful : Kinds → Type 0
Lawful ks = are_lawful ks ≡ true

both : (ks js : Kinds) → Lawful ks → Lawful js → Lawful (ks ++ js)
both [] js h g = g
both (t ∷ ks) js h g = let p = both_true (is_lawful_token t) (are_lawful ks) h in true_both (is_lawful_token t) (are_lawful (ks ++ js)) p.0 (both ks js p.1 g)

closed : (ks : Kinds) → Lawful ks → Lawful (parens ks)
closed ks h = both ks (k.Right ∷ []) h refl

headed : (word : List ℕ) (ks : Kinds) → is_lawful_token (k.Name word) ≡ true → Lawful ks → Lawful (form word ks)
headed word ks g h = closed (k.Name word ∷ ks) (true_both (is_lawful_token (k.Name word)) (are_lawful ks) g h)

named : (x : Spot) (ks : Kinds) → is_user_spot x ≡ true → Lawful ks → Lawful (spot_kind x ∷ ks)
named x ks g h = true_both (is_lawful_token (spot_kind x)) (are_lawful ks) (both_true _ _ g).0 h

each : {A : Type 0} (kinds_of : A → Kinds) (lawful : A → Bool) → ((x : A) → lawful x ≡ true → Lawful (kinds_of x)) → (xs : List A) → list_all lawful xs ≡ true → Lawful (run_together (map kinds_of xs))
each kinds_of lawful one [] h = refl
each kinds_of lawful one (x ∷ xs) h = let p = both_true (lawful x) (list_all lawful xs) h in both (kinds_of x) (run_together (map kinds_of xs)) (one x p.0) (each kinds_of lawful one xs p.1)

-- ---- types

abbrev KnownTy : ℕ → Type 0
KnownTy n = (x : RawTy) → ty_within x n ≡ true → Lawful (ty_kinds x)

module _ (n : ℕ) (known : KnownTy n) where
  two_tys : (x z : RawTy) → ty_within x n && ty_within z n ≡ true → Lawful (ty_kinds x ++ ty_kinds z)
  two_tys x z h = let p = both_true (ty_within x n) (ty_within z n) h in both (ty_kinds x) (ty_kinds z) (known x p.0) (known z p.1)

  ty_layer : (l : types.Layer) → ty_within_step (types.within_through l) n ≡ true → Lawful (ty_kinds_step (types.kinds_through l))
  ty_layer y.Int w = refl
  ty_layer y.Bool w = refl
  ty_layer y.Text w = refl
  ty_layer (y.Pair x z) w = closed (k.Word (codes "Pair") ∷ ty_kinds x ++ ty_kinds z) (two_tys x z w)
  ty_layer (y.List x) w = closed (k.Word (codes "List") ∷ ty_kinds x) (known x w)
  ty_layer (y.Stream x) w = closed (k.Word (codes "Stream") ∷ ty_kinds x) (known x w)
  ty_layer (y.Cell x) w = closed (k.Word (codes "Cell") ∷ ty_kinds x) (known x w)
  ty_layer (y.Fun x z) w = closed (k.Word (codes "Fun") ∷ ty_kinds x ++ ty_kinds z) (two_tys x z w)

tys_lawful : (n : ℕ) → KnownTy n
tys_lawful zero x w = let h : level (ty_within_step (types.within_through (types.form_in x))) 0 ≡ true = types.within_opened 0 x w in absurd cc
tys_lawful (suc n) x w = ap are_lawful (types.kinds_opened x) ∙ ty_layer n (tys_lawful n) (types.form_in x) (types.within_opened (suc n) x w)

ty_lawful : (x : RawTy) → is_lawful_ty x ≡ true → Lawful (ty_kinds x)
ty_lawful = tys_lawful 16

-- ---- expressions

fits_so : (z : ℤ) → fits z ≡ true → Lawful (k.Num z ∷ [])
fits_so (pos n) h = true_both (fits_token (pos n)) true h refl
fits_so (negsuc n) h = true_both (fits_token (negsuc n)) true h refl

abbrev KnownExpr : ℕ → Type 0
KnownExpr n = (x : Raw) → allowed n x ≡ true → Lawful (expr_kinds x)

module _ (n : ℕ) (known : KnownExpr n) where
  one_expr : (x : Raw) → is_lawful x ≡ true → expr_within x n ≡ true → Lawful (expr_kinds x)
  one_expr x h w = known x (true_both (is_lawful x) (expr_within x n) h w)

  two_exprs : (x z : Raw) → is_lawful x && is_lawful z ≡ true → expr_within x n && expr_within z n ≡ true → Lawful (expr_kinds x ++ expr_kinds z)
  two_exprs x z h w =
      let p = both_true (is_lawful x) (is_lawful z) h in
      let q = both_true (expr_within x n) (expr_within z n) w in
      both (expr_kinds x) (expr_kinds z) (one_expr x p.0 q.0) (one_expr z p.1 q.1)

  three_exprs : (x z v : Raw) → is_lawful x && is_lawful z && is_lawful v ≡ true → expr_within x n && expr_within z n && expr_within v n ≡ true → Lawful (expr_kinds x ++ expr_kinds z ++ expr_kinds v)
  three_exprs x z v h w =
      let p = both_true (is_lawful x && is_lawful z) (is_lawful v) h in
      let q = both_true (expr_within x n && expr_within z n) (expr_within v n) w in
      let ps = both_true (is_lawful x) (is_lawful z) p.0 in
      let qs = both_true (expr_within x n) (expr_within z n) q.0 in
      both (expr_kinds x ++ expr_kinds z) (expr_kinds v) (both (expr_kinds x) (expr_kinds z) (one_expr x ps.0 qs.0) (one_expr z ps.1 qs.1)) (one_expr v p.1 q.1)

  each_expr : (xs : List Raw) → list_all (λ (a : Bool). a) (map is_lawful xs) ≡ true → all_within (map expr_within xs) n ≡ true → Lawful (run_together (map expr_kinds xs))
  each_expr xs h w = each expr_kinds (allowed n) known xs (all_allowed n xs h w)

  let_expr : (v : Spot) (x z : Raw) → is_lawful x && is_lawful z ≡ true → is_user_spot v && expr_within x n && expr_within z n ≡ true → Lawful (form (codes "let") (spot_kind v ∷ expr_kinds x ++ expr_kinds z))
  let_expr v x z h w =
      let p = both_true (is_lawful x) (is_lawful z) h in
      let q = both_true (is_user_spot v && expr_within x n) (expr_within z n) w in
      let qs = both_true (is_user_spot v) (expr_within x n) q.0 in
      headed (codes "let") (spot_kind v ∷ expr_kinds x ++ expr_kinds z) refl
      (named v (expr_kinds x ++ expr_kinds z) qs.0 (both (expr_kinds x) (expr_kinds z) (one_expr x p.0 qs.1) (one_expr z p.1 q.1)))

  list_expr : (xs : List Raw) → list_all (λ (a : Bool). a) (map is_lawful xs) && nat_le 1 (length (map is_lawful xs)) && nat_le (length (map is_lawful xs)) most ≡ true → all_within (map expr_within xs) n ≡ true → Lawful (form (codes "list") (run_together (map expr_kinds xs)))
  list_expr xs h w =
      let p = both_true (list_all (λ (a : Bool). a) (map is_lawful xs) && nat_le 1 (length (map is_lawful xs))) (nat_le (length (map is_lawful xs)) most) h in
      let q = both_true (list_all (λ (a : Bool). a) (map is_lawful xs)) (nat_le 1 (length (map is_lawful xs))) p.0 in
      headed (codes "list") (run_together (map expr_kinds xs)) refl (each_expr xs q.0 w)

  close_expr : (v : Spot) (xs : List Raw) → list_all (λ (a : Bool). a) (map is_lawful xs) ≡ true → is_user_spot v && all_within (map expr_within xs) n ≡ true → Lawful (form (codes "close") (spot_kind v ∷ run_together (map expr_kinds xs)))
  close_expr v xs h w =
      let q = both_true (is_user_spot v) (all_within (map expr_within xs) n) w in
      headed (codes "close") (spot_kind v ∷ run_together (map expr_kinds xs)) refl (named v (run_together (map expr_kinds xs)) q.0 (each_expr xs h q.1))

  expr_layer : (l : exprs.Layer) → is_lawful_step (exprs.lawful_through l) ≡ true → within_step (exprs.within_through l) n ≡ true → Lawful (expr_kinds_step (exprs.kinds_through l))
  expr_layer (o.Int z) h w = fits_so z h
  expr_layer (o.Bool true) h w = refl
  expr_layer (o.Bool false) h w = refl
  expr_layer (o.Text t) h w = true_both (is_lawful_token (k.Str t)) true h refl
  expr_layer (o.Name t) h w = true_both (is_lawful_token (k.Name t)) true (both_true _ _ w).0 refl
  expr_layer (o.Neg x) h w = headed (codes "neg") (expr_kinds x) refl (one_expr x h w)
  expr_layer (o.Not x) h w = headed (codes "not") (expr_kinds x) refl (one_expr x h w)
  expr_layer (o.First x) h w = headed (codes "first") (expr_kinds x) refl (one_expr x h w)
  expr_layer (o.Second x) h w = headed (codes "second") (expr_kinds x) refl (one_expr x h w)
  expr_layer (o.Len x) h w = headed (codes "len") (expr_kinds x) refl (one_expr x h w)
  expr_layer (o.Show x) h w = headed (codes "show") (expr_kinds x) refl (one_expr x h w)
  expr_layer (o.Let v x z) h w = let_expr v x z h w
  expr_layer (o.Add x z) h w = headed (codes "add") (expr_kinds x ++ expr_kinds z) refl (two_exprs x z h w)
  expr_layer (o.Sub x z) h w = headed (codes "sub") (expr_kinds x ++ expr_kinds z) refl (two_exprs x z h w)
  expr_layer (o.Mul x z) h w = headed (codes "mul") (expr_kinds x ++ expr_kinds z) refl (two_exprs x z h w)
  expr_layer (o.Div x z) h w = headed (codes "div") (expr_kinds x ++ expr_kinds z) refl (two_exprs x z h w)
  expr_layer (o.Rem x z) h w = headed (codes "rem") (expr_kinds x ++ expr_kinds z) refl (two_exprs x z h w)
  expr_layer (o.Lt x z) h w = headed (codes "lt") (expr_kinds x ++ expr_kinds z) refl (two_exprs x z h w)
  expr_layer (o.Eq x z) h w = headed (codes "eq") (expr_kinds x ++ expr_kinds z) refl (two_exprs x z h w)
  expr_layer (o.And x z) h w = headed (codes "and") (expr_kinds x ++ expr_kinds z) refl (two_exprs x z h w)
  expr_layer (o.Or x z) h w = headed (codes "or") (expr_kinds x ++ expr_kinds z) refl (two_exprs x z h w)
  expr_layer (o.Pair x z) h w = headed (codes "pair") (expr_kinds x ++ expr_kinds z) refl (two_exprs x z h w)
  expr_layer (o.Append x z) h w = headed (codes "append") (expr_kinds x ++ expr_kinds z) refl (two_exprs x z h w)
  expr_layer (o.Cat x z) h w = headed (codes "cat") (expr_kinds x ++ expr_kinds z) refl (two_exprs x z h w)
  expr_layer (o.If x z v) h w = headed (codes "if") (expr_kinds x ++ expr_kinds z ++ expr_kinds v) refl (three_exprs x z v h w)
  expr_layer (o.At x z v) h w = headed (codes "at") (expr_kinds x ++ expr_kinds z ++ expr_kinds v) refl (three_exprs x z v h w)
  expr_layer (o.List xs) h w = list_expr xs h w
  expr_layer (o.Nil x) h w = headed (codes "nil") (ty_kinds x) refl (tys_lawful n x w)
  expr_layer (o.Close v xs) h w = close_expr v xs h w

exprs_lawful : (n : ℕ) → KnownExpr n
exprs_lawful zero x h = let g : level (within_step (exprs.within_through (exprs.form_in x))) 0 ≡ true = exprs.within_opened 0 x (both_true (is_lawful x) (expr_within x 0) h).1 in absurd cc
exprs_lawful (suc n) x h =
    let p = both_true (is_lawful x) (expr_within x (suc n)) h in
    ap are_lawful (exprs.kinds_opened x) ∙ expr_layer n (exprs_lawful n) (exprs.form_in x) (exprs.lawful_opened x p.0) (exprs.within_opened (suc n) x p.1)

expr_lawful : (x : Raw) → is_lawful_expr x ≡ true → Lawful (expr_kinds x)
expr_lawful = exprs_lawful 16

two_lawful : (x z : Raw) → are_lawful_two x z ≡ true → Lawful (expr_kinds x ++ expr_kinds z)
two_lawful x z h = let p = both_true (is_lawful_expr x) (is_lawful_expr z) h in both (expr_kinds x) (expr_kinds z) (expr_lawful x p.0) (expr_lawful z p.1)

-- three expressions behind others
behind : (ks : Kinds) (x z v : Raw) → Lawful ks → are_lawful_three x z v ≡ true → Lawful (ks ++ expr_kinds x ++ expr_kinds z ++ expr_kinds v)
behind ks x z v g h =
    let p = both_true (is_lawful_expr x) (are_lawful_two z v) h in
    let q = both_true (is_lawful_expr z) (is_lawful_expr v) p.1 in
    both (ks ++ expr_kinds x ++ expr_kinds z) (expr_kinds v) (both (ks ++ expr_kinds x) (expr_kinds z) (both ks (expr_kinds x) g (expr_lawful x p.0)) (expr_lawful z q.0)) (expr_lawful v q.1)

-- ---- shapes

param_lawful : (x : Param) → is_lawful_param x ≡ true → Lawful (param_kinds x)
param_lawful x h = let p = both_true (is_user_spot x.name) (is_lawful_ty x.ty) h in closed (spot_kind x.name ∷ ty_kinds x.ty) (named x.name (ty_kinds x.ty) p.0 (ty_lawful x.ty p.1))

params_lawful : (xs : List Param) → list_all is_lawful_param xs ≡ true → Lawful (params_kinds xs)
params_lawful xs h = closed (run_together (map param_kinds xs)) (each param_kinds is_lawful_param param_lawful xs h)

mapping : (word : List ℕ) (v : Spot) (x z : Raw) → is_lawful_token (k.Name word) ≡ true → is_user_spot v && are_lawful_two x z ≡ true → Lawful (form word (spot_kind v ∷ expr_kinds x ++ expr_kinds z))
mapping word v x z g h = let p = both_true (is_user_spot v) (are_lawful_two x z) h in headed word (spot_kind v ∷ expr_kinds x ++ expr_kinds z) g (named v (expr_kinds x ++ expr_kinds z) p.0 (two_lawful x z p.1))

two_named : (v w : Spot) (ks : Kinds) → are_user_two v w ≡ true → Lawful ks → Lawful (spot_kind v ∷ spot_kind w ∷ ks)
two_named v w ks h g = let p = both_true (is_user_spot v) (is_user_spot w) h in named v (spot_kind w ∷ ks) p.0 (named w ks p.1 g)

joining : (word : List ℕ) (v w : Spot) (x y z : Raw) → is_lawful_token (k.Name word) ≡ true → are_user_two v w && are_lawful_three x y z ≡ true → Lawful (form word (spot_kind v ∷ spot_kind w ∷ expr_kinds x ++ expr_kinds y ++ expr_kinds z))
joining word v w x y z g h =
    let p = both_true (are_user_two v w) (are_lawful_three x y z) h in
    let ks : Kinds = expr_kinds x ++ expr_kinds y ++ expr_kinds z in
    headed word (spot_kind v ∷ spot_kind w ∷ ks) g (two_named v w ks p.0 (behind [] x y z refl p.1))

folding : (word : List ℕ) (ty : RawTy) (v w : Spot) (x y z : Raw) → is_lawful_token (k.Name word) ≡ true → is_lawful_ty ty && are_user_two v w && are_lawful_three x y z ≡ true
    → Lawful (form word (ty_kinds ty ++ spot_kind v ∷ spot_kind w ∷ expr_kinds x ++ expr_kinds y ++ expr_kinds z))
folding word ty v w x y z g h =
    let p = both_true (is_lawful_ty ty && are_user_two v w) (are_lawful_three x y z) h in
    let q = both_true (is_lawful_ty ty) (are_user_two v w) p.0 in
    let r = both_true (is_lawful_expr x) (are_lawful_two y z) p.1 in
    let s = both_true (is_lawful_expr y) (is_lawful_expr z) r.1 in
    let nk : Kinds = spot_kind v ∷ spot_kind w ∷ expr_kinds x in
    let first = both (ty_kinds ty) nk (ty_lawful ty q.0) (two_named v w (expr_kinds x) q.1 (expr_lawful x r.0)) in
    headed word (ty_kinds ty ++ nk ++ expr_kinds y ++ expr_kinds z) g (both (ty_kinds ty ++ nk ++ expr_kinds y) (expr_kinds z) (both (ty_kinds ty ++ nk) (expr_kinds y) first (expr_lawful y s.0)) (expr_lawful z s.1))

lift_lawful : (v w : Param) (x y z : Raw) → is_lawful_param v && is_lawful_param w && are_lawful_three x y z ≡ true → Lawful (form (codes "lift2") (param_kinds v ++ param_kinds w ++ expr_kinds x ++ expr_kinds y ++ expr_kinds z))
lift_lawful v w x y z h =
    let p = both_true (is_lawful_param v && is_lawful_param w) (are_lawful_three x y z) h in
    let q = both_true (is_lawful_param v) (is_lawful_param w) p.0 in
    let ks : Kinds = param_kinds v ++ param_kinds w in
    headed (codes "lift2") (ks ++ expr_kinds x ++ expr_kinds y ++ expr_kinds z) refl (behind ks x y z (both (param_kinds v) (param_kinds w) (param_lawful v q.0) (param_lawful w q.1)) p.1)

execute_lawful : (x : Raw) (v : Spot) (kept : List Raw) → is_lawful_expr x && is_user_spot v && list_all is_lawful_expr kept ≡ true → Lawful (form (codes "execute") (expr_kinds x ++ spot_kind v ∷ run_together (map expr_kinds kept)))
execute_lawful x v kept h =
    let p = both_true (is_lawful_expr x && is_user_spot v) (list_all is_lawful_expr kept) h in
    let q = both_true (is_lawful_expr x) (is_user_spot v) p.0 in
    let ks : Kinds = run_together (map expr_kinds kept) in
    headed (codes "execute") (expr_kinds x ++ spot_kind v ∷ ks) refl (both (expr_kinds x) (spot_kind v ∷ ks) (expr_lawful x q.0) (named v ks q.1 (each expr_kinds is_lawful_expr expr_lawful kept p.1)))

shape_lawful : (x : ShapeForm) → is_lawful_shape x ≡ true → Lawful (shape_form_kinds x)
shape_lawful (s.Never ty) h = headed (codes "never") (ty_kinds ty) refl (ty_lawful ty h)
shape_lawful (s.Constant x) h = headed (codes "constant") (expr_kinds x) refl (expr_lawful x h)
shape_lawful (s.Map v x z) h = mapping (codes "map") v x z refl h
shape_lawful (s.Mapc v x z) h = mapping (codes "mapc") v x z refl h
shape_lawful (s.Filter v x z) h = mapping (codes "filter") v x z refl h
shape_lawful (s.Merge v w x y z) h = joining (codes "merge") v w x y z refl h
shape_lawful (s.Snapshot v w x y z) h = joining (codes "snapshot") v w x y z refl h
shape_lawful (s.Split x) h = headed (codes "split") (expr_kinds x) refl (expr_lawful x h)
shape_lawful (s.Updates x) h = headed (codes "updates") (expr_kinds x) refl (expr_lawful x h)
shape_lawful (s.Value x) h = headed (codes "value") (expr_kinds x) refl (expr_lawful x h)
shape_lawful (s.Loops ty) h = headed (codes "loops") (ty_kinds ty) refl (ty_lawful ty h)
shape_lawful (s.Loopc ty) h = headed (codes "loopc") (ty_kinds ty) refl (ty_lawful ty h)
shape_lawful (s.Hold x z) h = headed (codes "hold") (expr_kinds x ++ expr_kinds z) refl (two_lawful x z h)
shape_lawful (s.Apply x z) h = headed (codes "apply") (expr_kinds x ++ expr_kinds z) refl (two_lawful x z h)
shape_lawful (s.Switchs x) h = headed (codes "switchs") (expr_kinds x) refl (expr_lawful x h)
shape_lawful (s.Switchc x) h = headed (codes "switchc") (expr_kinds x) refl (expr_lawful x h)
shape_lawful (s.Execute x v kept) h = execute_lawful x v kept h
shape_lawful (s.Orelse x z) h = headed (codes "orelse") (expr_kinds x ++ expr_kinds z) refl (two_lawful x z h)
shape_lawful (s.Gate x z) h = headed (codes "gate") (expr_kinds x ++ expr_kinds z) refl (two_lawful x z h)
shape_lawful (s.Once x) h = headed (codes "once") (expr_kinds x) refl (expr_lawful x h)
shape_lawful (s.Accum ty v w x y z) h = folding (codes "accum") ty v w x y z refl h
shape_lawful (s.Collect ty v w x y z) h = folding (codes "collect") ty v w x y z refl h
shape_lawful (s.Lift2 v w x y z) h = lift_lawful v w x y z h
shape_lawful (s.Defer x) h = headed (codes "defer") (expr_kinds x) refl (expr_lawful x h)

-- ---- declarations

named_first : (word : List ℕ) (v : Spot) (ks : Kinds) (b : Bool) → is_lawful_token (k.Name word) ≡ true → is_user_spot v && b ≡ true → (b ≡ true → Lawful ks) → Lawful (form word (spot_kind v ∷ ks))
named_first word v ks b g h go = let p = both_true (is_user_spot v) b h in headed word (spot_kind v ∷ ks) g (named v ks p.0 (go p.1))

item_form_lawful : (x : ItemForm) → is_lawful_item_form x ≡ true → Lawful (item_form_kinds x)
item_form_lawful (i.Sink v ty) h = named_first (codes "sink") v (ty_kinds ty) (is_lawful_ty ty) refl h (ty_lawful ty)
item_form_lawful (i.Cellsink v w ty x) h =
    let p = both_true (are_user_two v w && is_lawful_ty ty) (is_lawful_expr x) h in
    let q = both_true (are_user_two v w) (is_lawful_ty ty) p.0 in
    headed (codes "cellsink") (spot_kind v ∷ spot_kind w ∷ ty_kinds ty ++ expr_kinds x) refl (two_named v w (ty_kinds ty ++ expr_kinds x) q.0 (both (ty_kinds ty) (expr_kinds x) (ty_lawful ty q.1) (expr_lawful x p.1)))
item_form_lawful (i.Let v x) h = named_first (codes "let") v (shape_form_kinds x.form) (is_lawful_shape x.form) refl h (shape_lawful x.form)
item_form_lawful (i.Tie v w) h = headed (codes "tie") (spot_kind v ∷ spot_kind w ∷ []) refl (two_named v w [] h refl)
item_form_lawful (i.Get v x) h = named_first (codes "get") v (expr_kinds x) (is_lawful_expr x) refl h (expr_lawful x)

item_lawful : (x : Item) → is_lawful_item x ≡ true → Lawful (item_kinds x)
item_lawful x h = item_form_lawful x.form (both_true (is_of_graph x.form) (is_lawful_item_form x.form) h).1

body_item_lawful : (x : Item) → is_lawful_body_item x ≡ true → Lawful (item_kinds x)
body_item_lawful x h = item_form_lawful x.form (both_true (is_of_template x.form) (is_lawful_item_form x.form) h).1

template_lawful : (x : Template) → is_lawful_template x ≡ true → Lawful (template_kinds x)
template_lawful x h =
    let h4 = both_true (is_user_spot x.name && is_lawful_param x.param && list_all is_lawful_param x.kept && list_all is_lawful_body_item x.items) (is_lawful_expr x.give.e) h in
    let h3 = both_true (is_user_spot x.name && is_lawful_param x.param && list_all is_lawful_param x.kept) (list_all is_lawful_body_item x.items) h4.0 in
    let h2 = both_true (is_user_spot x.name && is_lawful_param x.param) (list_all is_lawful_param x.kept) h3.0 in
    let h1 = both_true (is_user_spot x.name) (is_lawful_param x.param) h2.0 in
    let gk : Kinds = form (codes "give") (expr_kinds x.give.e) in
    let ik : Kinds = run_together (map item_kinds x.items) in
    let kk : Kinds = params_kinds x.kept in
    let pk : Kinds = param_kinds x.param in
    headed (codes "template") (spot_kind x.name ∷ pk ++ kk ++ ik ++ gk) refl (named x.name (pk ++ kk ++ ik ++ gk) h1.0
    (both (pk ++ kk ++ ik) gk (both (pk ++ kk) ik (both pk kk (param_lawful x.param h1.1) (params_lawful x.kept h2.1)) (each item_kinds is_lawful_body_item body_item_lawful x.items h3.1))
    (headed (codes "give") (expr_kinds x.give.e) refl (expr_lawful x.give.e h4.1))))

function_lawful : (x : Function) → is_lawful_function x ≡ true → Lawful (function_kinds x)
function_lawful x h =
    let h3 = both_true (is_user_spot x.name && list_all is_lawful_param x.kept && is_lawful_param x.arg) (is_lawful_expr x.e) h in
    let h2 = both_true (is_user_spot x.name && list_all is_lawful_param x.kept) (is_lawful_param x.arg) h3.0 in
    let h1 = both_true (is_user_spot x.name) (list_all is_lawful_param x.kept) h2.0 in
    let kk : Kinds = params_kinds x.kept in
    let ak : Kinds = param_kinds x.arg in
    headed (codes "fun") (spot_kind x.name ∷ kk ++ ak ++ expr_kinds x.e) refl (named x.name (kk ++ ak ++ expr_kinds x.e) h1.0
    (both (kk ++ ak) (expr_kinds x.e) (both kk ak (params_lawful x.kept h1.1) (param_lawful x.arg h2.1)) (expr_lawful x.e h3.1)))

decl_lawful : (x : Decl) → is_lawful_decl x ≡ true → Lawful (decl_kinds x)
decl_lawful (d.Template x) h = template_lawful x h
decl_lawful (d.Function x) h = function_lawful x h
decl_lawful (d.Item x) h = item_lawful x h

-- ---- files

listen_lawful : (x : Listen) → is_lawful_listen x ≡ true → Lawful (listen_kinds x)
listen_lawful x h = headed (codes "listen") (spot_kind x.name ∷ []) refl (named x.name [] h refl)

send_lawful : (x : RawSend) → is_lawful_send x ≡ true → Lawful (send_kinds x)
send_lawful x h = named_first (codes "send") x.name (expr_kinds x.value) (is_lawful_expr x.value) refl h (expr_lawful x.value)

sender_lawful : (x : Sender) → is_lawful_sender x ≡ true → Lawful (sender_kinds x)
sender_lawful x h =
    let p = both_true (list_all is_lawful_send x.sends) (nat_le (length x.sends) 4096) h in
    headed (codes "sender") (run_together (map send_kinds x.sends)) refl (each send_kinds is_lawful_send send_lawful x.sends p.0)

each_form : {A : Type 0} (kinds_of : A → Kinds) (lawful : A → Bool) → ((x : A) → lawful x ≡ true → Lawful (kinds_of x)) → (xs : List A) (more : List Kinds) → list_all lawful xs ≡ true → list_all are_lawful more ≡ true → list_all are_lawful (map kinds_of xs ++ more) ≡ true
each_form kinds_of lawful one [] more h g = g
each_form kinds_of lawful one (x ∷ xs) more h g =
    let p = both_true (lawful x) (list_all lawful xs) h in
    true_both (are_lawful (kinds_of x)) (list_all are_lawful (map kinds_of xs ++ more)) (one x p.0) (each_form kinds_of lawful one xs more p.1 g)

each_last : {A : Type 0} (kinds_of : A → Kinds) (lawful : A → Bool) → ((x : A) → lawful x ≡ true → Lawful (kinds_of x)) → (xs : List A) → list_all lawful xs ≡ true → list_all are_lawful (map kinds_of xs) ≡ true
each_last kinds_of lawful one [] h = refl
each_last kinds_of lawful one (x ∷ xs) h =
    let p = both_true (lawful x) (list_all lawful xs) h in
    true_both (are_lawful (kinds_of x)) (list_all are_lawful (map kinds_of xs)) (one x p.0) (each_last kinds_of lawful one xs p.1)

-- the tokens of each form at the top of a lawful file are lawful
pub forms_lawful : (f : File) → is_lawful_file f ≡ true → list_all are_lawful (forms_of f) ≡ true
forms_lawful f h =
    let h3 = both_true (list_all is_lawful_decl f.graph.decls && list_all is_lawful_listen f.listens && list_all is_lawful_sender f.senders) (nat_le (length f.senders) 16) h in
    let h2 = both_true (list_all is_lawful_decl f.graph.decls && list_all is_lawful_listen f.listens) (list_all is_lawful_sender f.senders) h3.0 in
    let h1 = both_true (list_all is_lawful_decl f.graph.decls) (list_all is_lawful_listen f.listens) h2.0 in
    true_both (are_lawful (graph_kinds f.graph)) (list_all are_lawful (map listen_kinds f.listens ++ map sender_kinds f.senders))
    (headed (codes "graph") (run_together (map decl_kinds f.graph.decls)) refl (each decl_kinds is_lawful_decl decl_lawful f.graph.decls h1.0))
    (each_form listen_kinds is_lawful_listen listen_lawful f.listens (map sender_kinds f.senders) h1.1 (each_last sender_kinds is_lawful_sender sender_lawful f.senders h2.1))
