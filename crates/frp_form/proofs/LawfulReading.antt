-- Files of lawful tokens are lawful.
use Rattle.std.proofs.Common.{◌≡◌, Bool, true, List, ◌++◌, refl}
use Rattle.std.specs.Prelude.{◌&&◌}
use Rattle.std.specs.List.{list_all}
use Rattle.frp_expr.specs.declared.raw.RawTy.{RawTy}
use Rattle.frp_expr.specs.declared.raw.Raw.{Raw}
use Rattle.frp_expr.specs.declared.raw.Spot.{Spot}
use Rattle.frp_expr.specs.Raw.{is_lawful}
use Rattle.frp_base.proofs.Booleans.{true_both}
use Rattle.frp_lex.specs.declared.token.Token.{Token}
use Rattle.frp_file.specs.declared.file.Item.{Item}
use Rattle.frp_file.specs.LawfulParts.{are_shape_parts_lawful, are_item_parts_lawful, are_decl_parts_lawful, are_sender_parts_lawful, has_lawful_parts}
use Rattle.frp_form.specs.declared.shape_heads.TyShape.{TyShape}
use Rattle.frp_form.specs.declared.shape_heads.TyShape.TheVariants as on_type
use Rattle.frp_form.specs.declared.shape_heads.UnaryShape.{UnaryShape}
use Rattle.frp_form.specs.declared.shape_heads.UnaryShape.TheVariants as on_one
use Rattle.frp_form.specs.declared.shape_heads.BinaryShape.{BinaryShape}
use Rattle.frp_form.specs.declared.shape_heads.BinaryShape.TheVariants as on_two
use Rattle.frp_form.specs.declared.shape_heads.MapShape.{MapShape}
use Rattle.frp_form.specs.declared.shape_heads.MapShape.TheVariants as on_map
use Rattle.frp_form.specs.declared.shape_heads.JoinShape.{JoinShape}
use Rattle.frp_form.specs.declared.shape_heads.JoinShape.TheVariants as on_join
use Rattle.frp_form.specs.declared.shape_heads.FoldShape.{FoldShape}
use Rattle.frp_form.specs.declared.shape_heads.FoldShape.TheVariants as on_fold
use Rattle.frp_form.specs.declared.reading.Reading.{Reading}
use Rattle.frp_form.specs.ShapeHeads.{typed_shape, unary_shape, binary_shape, map_shape, join_shape, fold_shape}
use Rattle.frp_form.specs.Grammar.{IsExpr, IsShape, typed, shape_of_one, shape_of_two, mapping, joining, folding, lifting, executing, IsCommonItem, let_item, tie_item, IsItem, common, sink_item, cellsink_item, IsBodyItem, common_in_body, get_item, IsGive, give_is, IsTemplate, template_is, IsFunction, function_is, IsDecl, template_decl, function_decl, item_decl, IsGraph, graph_is, IsSend, send_is, IsSender, sender_is, IsFile, file_is}
use Rattle.frp_form.specs.LawfulReading.{ReadHasLawfulParts}
use Rattle.frp_form.proofs.LawfulExprs.{AreLawful, others_lawful, inside_lawful, front_lawful, rest_lawful, Passes, all_pass, expr_lawful}
use Rattle.frp_form.proofs.FileGrammar.{read_is_grammar_lem}

abbrev Lawful : Raw → Type 0
Lawful x = is_lawful x ≡ true

-- ---- shapes

of_type : (op : TyShape) (ty : RawTy) → are_shape_parts_lawful (typed_shape op ty) ≡ true
of_type on_type.Never ty = refl
of_type on_type.Loops ty = refl
of_type on_type.Loopc ty = refl

of_one : (op : UnaryShape) (x : Raw) → Lawful x → are_shape_parts_lawful (unary_shape op x) ≡ true
of_one on_one.Constant x p = p
of_one on_one.Split x p = p
of_one on_one.Updates x p = p
of_one on_one.Value x p = p
of_one on_one.Switchs x p = p
of_one on_one.Switchc x p = p
of_one on_one.Once x p = p
of_one on_one.Defer x p = p

of_two : (op : BinaryShape) (x y : Raw) → Lawful x → Lawful y → are_shape_parts_lawful (binary_shape op x y) ≡ true
of_two on_two.Hold x y p q = true_both _ _ p q
of_two on_two.Apply x y p q = true_both _ _ p q
of_two on_two.Orelse x y p q = true_both _ _ p q
of_two on_two.Gate x y p q = true_both _ _ p q

of_map : (op : MapShape) (v : Spot) (x e : Raw) → Lawful x → Lawful e → are_shape_parts_lawful (map_shape op v x e) ≡ true
of_map on_map.Map v x e p q = true_both _ _ p q
of_map on_map.Mapc v x e p q = true_both _ _ p q
of_map on_map.Filter v x e p q = true_both _ _ p q

all_three : (x y e : Raw) → Lawful x → Lawful y → Lawful e → is_lawful x && is_lawful y && is_lawful e ≡ true
all_three x y e p q r = true_both _ _ (true_both _ _ p q) r

of_join : (op : JoinShape) (v w : Spot) (x y e : Raw) → Lawful x → Lawful y → Lawful e → are_shape_parts_lawful (join_shape op v w x y e) ≡ true
of_join on_join.Merge v w x y e p q r = all_three x y e p q r
of_join on_join.Snapshot v w x y e p q r = all_three x y e p q r

of_fold : (op : FoldShape) (ty : RawTy) (v w : Spot) (x y e : Raw) → Lawful x → Lawful y → Lawful e → are_shape_parts_lawful (fold_shape op ty v w x y e) ≡ true
of_fold on_fold.Accum ty v w x y e p q r = all_three x y e p q r
of_fold on_fold.Collect ty v w x y e p q r = all_three x y e p q r

-- one, two and three expressions are lawful where their tokens are

one : (x : Raw) (xs : List Token) → IsExpr x xs → AreLawful xs → Lawful x
one x xs is l = expr_lawful x xs is l

two : (x y : Raw) (xs ys : List Token) → IsExpr x xs → IsExpr y ys → AreLawful (xs ++ ys) → Lawful x × Lawful y
two x y xs ys is js l = (one x xs is (front_lawful _ _ l), one y ys js (rest_lawful _ _ l))

three : (x y e : Raw) (xs ys es : List Token) → IsExpr x xs → IsExpr y ys → IsExpr e es → AreLawful (xs ++ ys ++ es) → Lawful x × Lawful y × Lawful e
three x y e xs ys es is js ks l =
    let m = front_lawful _ _ l in
    (one x xs is (front_lawful _ _ m), one y ys js (rest_lawful _ _ m), one e es ks (rest_lawful _ _ l))

shape_lawful : Passes IsShape (λ x. are_shape_parts_lawful x.form)
shape_lawful s us (typed a b c op ty vs is) l = of_type op ty
shape_lawful s us (shape_of_one a b c op x xs is) l = of_one op x (one x xs is (front_lawful _ _ (inside_lawful l)))
shape_lawful s us (shape_of_two a b c op x y xs ys is js) l = let p = two x y xs ys is js (front_lawful _ _ (inside_lawful l)) in of_two op x y p.0 p.1
shape_lawful s us (mapping a b c op v x e xs es user is js) l = let p = two x e xs es is js (front_lawful _ _ (others_lawful (inside_lawful l))) in of_map op v x e p.0 p.1
shape_lawful s us (joining a b c op v w x y e xs ys es user other is js ks) l =
    let p = three x y e xs ys es is js ks (front_lawful _ _ (inside_lawful (inside_lawful l))) in
    of_join op v w x y e p.0 p.1 p.2
shape_lawful s us (folding a b c op ty v w x y e vs xs ys es types user other is js ks) l =
    let m = front_lawful _ _ (inside_lawful l) in
    let n = front_lawful _ _ m in
    let p = inside_lawful (rest_lawful _ _ (front_lawful _ _ n)) in
    of_fold op ty v w x y e (one x xs is p) (one y ys js (rest_lawful _ _ n)) (one e es ks (rest_lawful _ _ m))
shape_lawful s us (lifting a b c v w x y e vs ws xs ys es first other is js ks) l =
    let m = front_lawful _ _ (inside_lawful l) in
    let n = front_lawful _ _ m in
    all_three x y e (one x xs is (rest_lawful _ _ (front_lawful _ _ n))) (one y ys js (rest_lawful _ _ n)) (one e es ks (rest_lawful _ _ m))
shape_lawful s us (executing a b c x n kept xs vs is user all) l =
    let m = front_lawful _ _ (inside_lawful l) in
    true_both _ _ (one x xs is (front_lawful _ _ m)) (all_pass IsExpr is_lawful expr_lawful kept vs all (others_lawful (rest_lawful _ _ m)))

-- ---- items

abbrev item_test : Item → Bool
item_test x = are_item_parts_lawful x.form

common_lawful : Passes IsCommonItem item_test
common_lawful x us (let_item a b c n s vs user is) l = shape_lawful s vs is (front_lawful _ _ (others_lawful (inside_lawful l)))
common_lawful x us (tie_item a b c v w user other) l = refl

item_lawful : Passes IsItem item_test
item_lawful x us (common y vs is) l = common_lawful x us is l
item_lawful x us (sink_item a b c n ty vs user is) l = refl
item_lawful x us (cellsink_item a b c n m ty e vs es user other types is) l = one e es is (rest_lawful _ _ (front_lawful _ _ (inside_lawful (inside_lawful l))))

body_lawful : Passes IsBodyItem item_test
body_lawful x us (common_in_body y vs is) l = common_lawful x us is l
body_lawful x us (get_item a b c n e es user is) l = one e es is (front_lawful _ _ (others_lawful (inside_lawful l)))

-- ---- declarations

give_lawful : Passes IsGive (λ g. is_lawful g.e)
give_lawful g us (give_is a b c e es is) l = one e es is (front_lawful _ _ (inside_lawful l))

template_lawful : Passes IsTemplate (λ x. list_all item_test x.items && is_lawful x.give.e)
template_lawful x us (template_is a b c n p kept items give ps ks is gs user param names body gives) l =
    let m = front_lawful _ _ (others_lawful (inside_lawful l)) in
    true_both _ _ (all_pass IsBodyItem item_test body_lawful items is body (rest_lawful _ _ (front_lawful _ _ m))) (give_lawful give gs gives (rest_lawful _ _ m))

function_lawful : Passes IsFunction (λ x. is_lawful x.e)
function_lawful x us (function_is a b c n kept arg e ks ps es user names param is) l = one e es is (rest_lawful _ _ (front_lawful _ _ (others_lawful (inside_lawful l))))

decl_lawful : Passes IsDecl are_decl_parts_lawful
decl_lawful x us (template_decl y vs is) l = template_lawful y vs is l
decl_lawful x us (function_decl y vs is) l = function_lawful y vs is l
decl_lawful x us (item_decl y vs is) l = item_lawful y vs is l

-- ---- files

graph_lawful : Passes IsGraph (λ g. list_all are_decl_parts_lawful g.decls)
graph_lawful g us (graph_is a b c decls vs all) l = all_pass IsDecl are_decl_parts_lawful decl_lawful decls vs all (front_lawful _ _ (inside_lawful l))

send_lawful : Passes IsSend (λ x. is_lawful x.value)
send_lawful s us (send_is a b c n e es user is) l = one e es is (front_lawful _ _ (others_lawful (inside_lawful l)))

sender_lawful : Passes IsSender are_sender_parts_lawful
sender_lawful s us (sender_is a b c sends vs few all) l = all_pass IsSend (λ x. is_lawful x.value) send_lawful sends vs all (front_lawful _ _ (inside_lawful l))

file_lawful : (how : Reading) → Passes (IsFile how) has_lawful_parts
file_lawful how f us (file_is g listens senders gs ls ss first are others few) l =
    true_both _ _ (graph_lawful g gs first (front_lawful _ _ (front_lawful _ _ l))) (all_pass IsSender are_sender_parts_lawful sender_lawful senders ss others (rest_lawful _ _ l))

pub parts_are_lawful_lem : ReadHasLawfulParts
parts_are_lawful_lem end how us f l h = file_lawful how f us (read_is_grammar_lem end how us f h) (record { each = l })
