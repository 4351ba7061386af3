-- Tokens of the kinds of items and declarations are those, places apart.
use Rattle.std.proofs.Common.{◌≡◌, ℕ, true, List, [], ◌∷◌, ◌++◌, map, refl, ap}
use Rattle.std.specs.Prelude.{◌&&◌, codes}
use Rattle.std.specs.List.{list_all}
use Rattle.frp_expr.specs.declared.raw.Spot.{Spot}
use Rattle.frp_expr.specs.declared.raw.RawTy.{RawTy}
use Rattle.frp_expr.specs.declared.raw.Raw.{Raw}
use Rattle.frp_lex.specs.declared.token.Kind.TheVariants as k
use Rattle.frp_lex.specs.declared.token.Token.{Token}
use Rattle.frp_lex.specs.Spelling.{kinds}
use Rattle.frp_file.specs.declared.file.Param.{Param}
use Rattle.frp_file.specs.declared.file.RawShape.{RawShape}
use Rattle.frp_file.specs.declared.file.Item.{Item}
use Rattle.frp_file.specs.declared.file.ItemForm.{ItemForm}
use Rattle.frp_file.specs.declared.file.ItemForm.TheVariants as i
use Rattle.frp_file.specs.declared.file.Give.{Give}
use Rattle.frp_file.specs.declared.file.Template.{Template}
use Rattle.frp_file.specs.declared.file.Function.{Function}
use Rattle.frp_file.specs.declared.file.Decl.{Decl}
use Rattle.frp_file.specs.declared.file.Decl.TheVariants as d
use Rattle.frp_form.specs.Items.{placed_item}
use Rattle.frp_form.specs.Grammar.{left_at, right_at, name_at, name_of, IsParam, IsCommonItem, let_item, tie_item, IsItem, common, sink_item, cellsink_item, IsBodyItem, common_in_body, get_item, AreParams, params_are, IsGive, give_is, IsTemplate, template_is, IsFunction, function_is, IsDecl, template_decl, function_decl, item_decl}
use Rattle.frp_base.proofs.Booleans.{both_true}
use Rattle.frp_write.specs.Writing.{Kinds, run_together, form, spot_kind, ty_kinds, expr_kinds, param_kinds, params_kinds, shape_kinds, item_kinds, item_form_kinds, template_kinds, function_kinds, decl_kinds}
use Rattle.frp_write.specs.Lawful.{is_user_spot, are_user_two, is_lawful_ty, is_lawful_expr, is_lawful_param, is_lawful_shape, is_lawful_item_form, is_of_graph, is_of_template, is_lawful_item, is_lawful_body_item, is_lawful_template, is_lawful_function, is_lawful_decl}
use Rattle.frp_write.specs.Places.{unplaced_spot, unplaced_param, unplaced_item, unplaced_give, unplaced_template, unplaced_function, unplaced_decl}
use Rattle.frp_write.proofs.Splitting.{one, ending, part, opening, closing, closing_two, closing_three}
use Rattle.frp_write.proofs.Placed.{Placed, user, all_placed}
use Rattle.frp_write.proofs.PlacedTypes.{type_placed}
use Rattle.frp_write.proofs.PlacedExprs.{expr_placed}
use Rattle.frp_write.proofs.PlacedShapes.{spot_at, spot, last_ty, last_one, param_placed, shape_placed}

-- ---- items

let_placed : (at : ℕ) (v : Spot) (x : RawShape) → is_user_spot v && is_lawful_shape x.form ≡ true → (ts : List Token) → kinds ts ≡ form (codes "let") (spot_kind v ∷ shape_kinds x) → Placed IsCommonItem unplaced_item (placed_item at (i.Let v x)) ts
let_placed at v x h ts e =
    let P = Placed IsCommonItem unplaced_item (placed_item at (i.Let v x)) in
    let hs = both_true (is_user_spot v) (is_lawful_shape x.form) h in
    opening P (codes "let") (spot_kind v ∷ shape_kinds x) (λ a b us d.
    spot (λ vs. P (left_at a ∷ name_at b (codes "let") ∷ vs)) v (shape_kinds x ++ k.Right ∷ []) (λ n us d.
    closing (λ vs. P (left_at a ∷ name_at b (codes "let") ∷ name_of (spot_at n v) ∷ vs)) (shape_kinds x) (λ xs c g.
    let p = shape_placed x hs.1 xs g in
    record {
      y = placed_item a (i.Let (spot_at n v) p.y);
      is = let_item a b c (spot_at n v) p.y xs (user v hs.0 n) p.is;
      same = ap (λ (w : RawShape). placed_item 0 (i.Let (unplaced_spot v) w)) p.same;
    }) us d) us d) ts e

tie_placed : (at : ℕ) (v w : Spot) → are_user_two v w ≡ true → (ts : List Token) → kinds ts ≡ form (codes "tie") (spot_kind v ∷ spot_kind w ∷ []) → Placed IsCommonItem unplaced_item (placed_item at (i.Tie v w)) ts
tie_placed at v w h ts e =
    let P = Placed IsCommonItem unplaced_item (placed_item at (i.Tie v w)) in
    let hs = both_true (is_user_spot v) (is_user_spot w) h in
    opening P (codes "tie") (spot_kind v ∷ spot_kind w ∷ []) (λ a b us d.
    spot (λ vs. P (left_at a ∷ name_at b (codes "tie") ∷ vs)) v (spot_kind w ∷ k.Right ∷ []) (λ n us d.
    spot (λ vs. P (left_at a ∷ name_at b (codes "tie") ∷ name_of (spot_at n v) ∷ vs)) w (k.Right ∷ []) (λ m us d.
    ending (λ vs. P (left_at a ∷ name_at b (codes "tie") ∷ name_of (spot_at n v) ∷ name_of (spot_at m w) ∷ vs)) k.Right (λ c.
    record {
      y = placed_item a (i.Tie (spot_at n v) (spot_at m w));
      is = tie_item a b c (spot_at n v) (spot_at m w) (user v hs.0 n) (user w hs.1 m);
      same = refl;
    }) us d) us d) us d) ts e

sink_placed : (at : ℕ) (v : Spot) (x : RawTy) → is_user_spot v && is_lawful_ty x ≡ true → (ts : List Token) → kinds ts ≡ form (codes "sink") (spot_kind v ∷ ty_kinds x) → Placed IsItem unplaced_item (placed_item at (i.Sink v x)) ts
sink_placed at v x h ts e =
    let P = Placed IsItem unplaced_item (placed_item at (i.Sink v x)) in
    let hs = both_true (is_user_spot v) (is_lawful_ty x) h in
    opening P (codes "sink") (spot_kind v ∷ ty_kinds x) (λ a b us d.
    spot (λ vs. P (left_at a ∷ name_at b (codes "sink") ∷ vs)) v (ty_kinds x ++ k.Right ∷ []) (λ n us d.
    last_ty (λ vs. P (left_at a ∷ name_at b (codes "sink") ∷ name_of (spot_at n v) ∷ vs)) x hs.1 (λ xs c p.
    record {
      y = placed_item a (i.Sink (spot_at n v) p.y);
      is = sink_item a b c (spot_at n v) p.y xs (user v hs.0 n) p.is;
      same = ap (λ (w : RawTy). placed_item 0 (i.Sink (unplaced_spot v) w)) p.same;
    }) us d) us d) ts e

cellsink_placed : (at : ℕ) (v w : Spot) (x : RawTy) (y : Raw) → are_user_two v w && is_lawful_ty x && is_lawful_expr y ≡ true
    → (ts : List Token) → kinds ts ≡ form (codes "cellsink") (spot_kind v ∷ spot_kind w ∷ ty_kinds x ++ expr_kinds y) → Placed IsItem unplaced_item (placed_item at (i.Cellsink v w x y)) ts
cellsink_placed at v w x y h ts e =
    let P = Placed IsItem unplaced_item (placed_item at (i.Cellsink v w x y)) in
    let hs = both_true (are_user_two v w && is_lawful_ty x) (is_lawful_expr y) h in
    let gs = both_true (are_user_two v w) (is_lawful_ty x) hs.0 in
    let ns = both_true (is_user_spot v) (is_user_spot w) gs.0 in
    opening P (codes "cellsink") (spot_kind v ∷ spot_kind w ∷ ty_kinds x ++ expr_kinds y) (λ a b us d.
    spot (λ vs. P (left_at a ∷ name_at b (codes "cellsink") ∷ vs)) v (spot_kind w ∷ (ty_kinds x ++ expr_kinds y) ++ k.Right ∷ []) (λ n us d.
    spot (λ vs. P (left_at a ∷ name_at b (codes "cellsink") ∷ name_of (spot_at n v) ∷ vs)) w ((ty_kinds x ++ expr_kinds y) ++ k.Right ∷ []) (λ m us d.
    closing_two (λ vs. P (left_at a ∷ name_at b (codes "cellsink") ∷ name_of (spot_at n v) ∷ name_of (spot_at m w) ∷ vs)) (ty_kinds x) (expr_kinds y) (λ xs ys c g j.
    let p = type_placed x gs.1 xs g in
    let q = expr_placed y hs.1 ys j in
    record {
      y = placed_item a (i.Cellsink (spot_at n v) (spot_at m w) p.y q.y);
      is = cellsink_item a b c (spot_at n v) (spot_at m w) p.y q.y xs ys (user v ns.0 n) (user w ns.1 m) p.is q.is;
      same = (λ t. placed_item 0 (i.Cellsink (unplaced_spot v) (unplaced_spot w) (p.same t) (q.same t)));
    }) us d) us d) us d) ts e

get_placed : (at : ℕ) (v : Spot) (x : Raw) → is_user_spot v && is_lawful_expr x ≡ true → (ts : List Token) → kinds ts ≡ form (codes "get") (spot_kind v ∷ expr_kinds x) → Placed IsBodyItem unplaced_item (placed_item at (i.Get v x)) ts
get_placed at v x h ts e =
    let P = Placed IsBodyItem unplaced_item (placed_item at (i.Get v x)) in
    let hs = both_true (is_user_spot v) (is_lawful_expr x) h in
    opening P (codes "get") (spot_kind v ∷ expr_kinds x) (λ a b us d.
    spot (λ vs. P (left_at a ∷ name_at b (codes "get") ∷ vs)) v (expr_kinds x ++ k.Right ∷ []) (λ n us d.
    last_one (λ vs. P (left_at a ∷ name_at b (codes "get") ∷ name_of (spot_at n v) ∷ vs)) x hs.1 (λ xs c p.
    record {
      y = placed_item a (i.Get (spot_at n v) p.y);
      is = get_item a b c (spot_at n v) p.y xs (user v hs.0 n) p.is;
      same = ap (λ (w : Raw). placed_item 0 (i.Get (unplaced_spot v) w)) p.same;
    }) us d) us d) ts e

in_graph : (x : Item) (ts : List Token) → Placed IsCommonItem unplaced_item x ts → Placed IsItem unplaced_item x ts
in_graph x ts p = record { y = p.y; is = common p.y ts p.is; same = p.same }

in_body : (x : Item) (ts : List Token) → Placed IsCommonItem unplaced_item x ts → Placed IsBodyItem unplaced_item x ts
in_body x ts p = record { y = p.y; is = common_in_body p.y ts p.is; same = p.same }

item_by : (at : ℕ) (w : ItemForm) → is_of_graph w && is_lawful_item_form w ≡ true → (ts : List Token) → kinds ts ≡ item_form_kinds w → Placed IsItem unplaced_item (placed_item at w) ts
item_by at (i.Sink v x) h ts e = sink_placed at v x h ts e
item_by at (i.Cellsink v w x y) h ts e = cellsink_placed at v w x y h ts e
item_by at (i.Let v x) h ts e = in_graph (placed_item at (i.Let v x)) ts (let_placed at v x h ts e)
item_by at (i.Tie v w) h ts e = in_graph (placed_item at (i.Tie v w)) ts (tie_placed at v w h ts e)
item_by at (i.Get v x) h ts e = absurd cc

body_item_by : (at : ℕ) (w : ItemForm) → is_of_template w && is_lawful_item_form w ≡ true → (ts : List Token) → kinds ts ≡ item_form_kinds w → Placed IsBodyItem unplaced_item (placed_item at w) ts
body_item_by at (i.Sink v x) h ts e = absurd cc
body_item_by at (i.Cellsink v w x y) h ts e = absurd cc
body_item_by at (i.Let v x) h ts e = in_body (placed_item at (i.Let v x)) ts (let_placed at v x h ts e)
body_item_by at (i.Tie v w) h ts e = in_body (placed_item at (i.Tie v w)) ts (tie_placed at v w h ts e)
body_item_by at (i.Get v x) h ts e = get_placed at v x h ts e

item_placed : (x : Item) → is_lawful_item x ≡ true → (ts : List Token) → kinds ts ≡ item_kinds x → Placed IsItem unplaced_item x ts
item_placed x h ts e = item_by x.at x.form h ts e

body_item_placed : (x : Item) → is_lawful_body_item x ≡ true → (ts : List Token) → kinds ts ≡ item_kinds x → Placed IsBodyItem unplaced_item x ts
body_item_placed x h ts e = body_item_by x.at x.form h ts e

-- ---- declarations

params_placed : (xs : List Param) → list_all is_lawful_param xs ≡ true → (ts : List Token) → kinds ts ≡ params_kinds xs → Placed AreParams (map unplaced_param) xs ts
params_placed xs h ts e =
    let P = Placed AreParams (map unplaced_param) xs in
    one P k.Left (run_together (map param_kinds xs) ++ k.Right ∷ []) (λ a us d.
    closing (λ vs. P (left_at a ∷ vs)) (run_together (map param_kinds xs)) (λ vs c g.
    let p = all_placed IsParam unplaced_param param_kinds is_lawful_param param_placed xs h vs g in
    record { y = p.y; is = params_are a c p.y vs p.is; same = p.same }) us d) ts e

give_placed : (x : Give) → is_lawful_expr x.e ≡ true → (ts : List Token) → kinds ts ≡ form (codes "give") (expr_kinds x.e) → Placed IsGive unplaced_give x ts
give_placed x h ts e =
    let P = Placed IsGive unplaced_give x in
    opening P (codes "give") (expr_kinds x.e) (λ a b us d.
    last_one (λ vs. P (left_at a ∷ name_at b (codes "give") ∷ vs)) x.e h (λ xs c p.
    record {
      y = record { at = a; e = p.y };
      is = give_is a b c p.y xs p.is;
      same = ap (λ (w : Raw). record { at = 0; e = w }) p.same;
    }) us d) ts e

template_placed : (x : Template) → is_lawful_template x ≡ true → (ts : List Token) → kinds ts ≡ template_kinds x → Placed IsTemplate unplaced_template x ts
template_placed x h ts e =
    let P = Placed IsTemplate unplaced_template x in
    let h4 = both_true (is_user_spot x.name && is_lawful_param x.param && list_all is_lawful_param x.kept && list_all is_lawful_body_item x.items) (is_lawful_expr x.give.e) h in
    let h3 = both_true (is_user_spot x.name && is_lawful_param x.param && list_all is_lawful_param x.kept) (list_all is_lawful_body_item x.items) h4.0 in
    let h2 = both_true (is_user_spot x.name && is_lawful_param x.param) (list_all is_lawful_param x.kept) h3.0 in
    let h1 = both_true (is_user_spot x.name) (is_lawful_param x.param) h2.0 in
    let gk : Kinds = form (codes "give") (expr_kinds x.give.e) in
    let ik : Kinds = run_together (map item_kinds x.items) in
    opening P (codes "template") (spot_kind x.name ∷ param_kinds x.param ++ params_kinds x.kept ++ ik ++ gk) (λ a b us d.
    spot (λ vs. P (left_at a ∷ name_at b (codes "template") ∷ vs)) x.name ((param_kinds x.param ++ params_kinds x.kept ++ ik ++ gk) ++ k.Right ∷ []) (λ n us d.
    closing_three (λ vs. P (left_at a ∷ name_at b (codes "template") ∷ name_of (spot_at n x.name) ∷ vs)) (param_kinds x.param ++ params_kinds x.kept) ik gk (λ us is gs c g m o.
    part (λ vs. P (left_at a ∷ name_at b (codes "template") ∷ name_of (spot_at n x.name) ∷ vs ++ is ++ gs ++ right_at c ∷ [])) (param_kinds x.param) (params_kinds x.kept) (λ ps ks g f.
    let p = param_placed x.param h1.1 ps g in
    let q = params_placed x.kept h2.1 ks f in
    let r = all_placed IsBodyItem unplaced_item item_kinds is_lawful_body_item body_item_placed x.items h3.1 is m in
    let s = give_placed x.give h4.1 gs o in
    record {
      y = record { at = a; name = spot_at n x.name; param = p.y; kept = q.y; items = r.y; give = s.y };
      is = template_is a b c (spot_at n x.name) p.y q.y r.y s.y ps ks is gs (user x.name h1.0 n) p.is q.is r.is s.is;
      same = (λ i. record { at = 0; name = unplaced_spot x.name; param = p.same i; kept = q.same i; items = r.same i; give = s.same i });
    }) us g) us d) us d) ts e

function_placed : (x : Function) → is_lawful_function x ≡ true → (ts : List Token) → kinds ts ≡ function_kinds x → Placed IsFunction unplaced_function x ts
function_placed x h ts e =
    let P = Placed IsFunction unplaced_function x in
    let h3 = both_true (is_user_spot x.name && list_all is_lawful_param x.kept && is_lawful_param x.arg) (is_lawful_expr x.e) h in
    let h2 = both_true (is_user_spot x.name && list_all is_lawful_param x.kept) (is_lawful_param x.arg) h3.0 in
    let h1 = both_true (is_user_spot x.name) (list_all is_lawful_param x.kept) h2.0 in
    opening P (codes "fun") (spot_kind x.name ∷ params_kinds x.kept ++ param_kinds x.arg ++ expr_kinds x.e) (λ a b us d.
    spot (λ vs. P (left_at a ∷ name_at b (codes "fun") ∷ vs)) x.name ((params_kinds x.kept ++ param_kinds x.arg ++ expr_kinds x.e) ++ k.Right ∷ []) (λ n us d.
    closing_three (λ vs. P (left_at a ∷ name_at b (codes "fun") ∷ name_of (spot_at n x.name) ∷ vs)) (params_kinds x.kept) (param_kinds x.arg) (expr_kinds x.e) (λ ks ps es c g f m.
    let s = expr_placed x.e h3.1 es m in
    let q = params_placed x.kept h1.1 ks g in
    let p = param_placed x.arg h2.1 ps f in
    record {
      y = record { at = a; name = spot_at n x.name; kept = q.y; arg = p.y; e = s.y };
      is = function_is a b c (spot_at n x.name) q.y p.y s.y ks ps es (user x.name h1.0 n) q.is p.is s.is;
      same = (λ i. record { at = 0; name = unplaced_spot x.name; kept = q.same i; arg = p.same i; e = s.same i });
    }) us d) us d) ts e

pub decl_placed : (x : Decl) → is_lawful_decl x ≡ true → (ts : List Token) → kinds ts ≡ decl_kinds x → Placed IsDecl unplaced_decl x ts
decl_placed (d.Template x) h ts e = let p = template_placed x h ts e in record { y = d.Template p.y; is = template_decl p.y ts p.is; same = ap d.Template p.same }
decl_placed (d.Function x) h ts e = let p = function_placed x h ts e in record { y = d.Function p.y; is = function_decl p.y ts p.is; same = ap d.Function p.same }
decl_placed (d.Item x) h ts e = let p = item_placed x h ts e in record { y = d.Item p.y; is = item_decl p.y ts p.is; same = ap d.Item p.same }
