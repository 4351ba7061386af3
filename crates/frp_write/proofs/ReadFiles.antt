-- Files of the grammar, of lawful tokens, are lawful.
use Rattle.std.proofs.Common.{◌≡◌, ℕ, ◌≤◌, Bool, true, false, List, [], ◌∷◌, ◌++◌, length, refl, ◌∙◌, arith}
use Rattle.std.specs.Prelude.{◌&&◌, nat_le, codes, if◌then◌else◌}
use Rattle.std.specs.List.{list_all}
use Rattle.std.proofs.lemmas.Grind.{common_steps}
use Rattle.frp_expr.specs.declared.raw.Spot.{Spot}
use Rattle.frp_expr.specs.declared.raw.RawTy.{RawTy}
use Rattle.frp_expr.specs.declared.raw.Raw.{Raw}
use Rattle.frp_lex.specs.declared.token.Token.{Token}
use Rattle.frp_file.specs.declared.file.Param.{Param}
use Rattle.frp_file.specs.declared.file.RawShape.{RawShape}
use Rattle.frp_file.specs.declared.file.Item.{Item}
use Rattle.frp_file.specs.declared.file.Give.{Give}
use Rattle.frp_file.specs.declared.file.Template.{Template}
use Rattle.frp_file.specs.declared.file.Function.{Function}
use Rattle.frp_file.specs.declared.file.Decl.{Decl}
use Rattle.frp_file.specs.declared.file.Graph.{Graph}
use Rattle.frp_file.specs.declared.file.Listen.{Listen}
use Rattle.frp_file.specs.declared.file.RawSend.{RawSend}
use Rattle.frp_file.specs.declared.file.Sender.{Sender}
use Rattle.frp_file.specs.declared.file.File.{File}
use Rattle.frp_form.specs.declared.shape_heads.TyShape.{TyShape}
use Rattle.frp_form.specs.declared.shape_heads.TyShape.TheVariants as t
use Rattle.frp_form.specs.declared.shape_heads.UnaryShape.{UnaryShape}
use Rattle.frp_form.specs.declared.shape_heads.UnaryShape.TheVariants as u
use Rattle.frp_form.specs.declared.shape_heads.BinaryShape.{BinaryShape}
use Rattle.frp_form.specs.declared.shape_heads.BinaryShape.TheVariants as b
use Rattle.frp_form.specs.declared.shape_heads.MapShape.{MapShape}
use Rattle.frp_form.specs.declared.shape_heads.MapShape.TheVariants as m
use Rattle.frp_form.specs.declared.shape_heads.JoinShape.{JoinShape}
use Rattle.frp_form.specs.declared.shape_heads.JoinShape.TheVariants as j
use Rattle.frp_form.specs.declared.shape_heads.FoldShape.{FoldShape}
use Rattle.frp_form.specs.declared.shape_heads.FoldShape.TheVariants as d
use Rattle.frp_form.specs.ShapeHeads.{typed_shape, unary_shape, binary_shape, map_shape, join_shape, fold_shape}
use Rattle.frp_form.specs.Words.{unary_shape_word, binary_shape_word, map_word, join_word, fold_word}
use Rattle.frp_form.specs.Grammar.{left_at, right_at, name_of, IsExpr, IsParam, param_is, IsShape, typed, shape_of_one, shape_of_two, mapping, joining, folding, lifting, executing, IsCommonItem, let_item, tie_item, IsItem, common, sink_item, cellsink_item, IsBodyItem, common_in_body, get_item, AreParams, params_are, IsGive, give_is, IsTemplate, template_is, IsFunction, function_is, IsDecl, template_decl, function_decl, item_decl, IsGraph, graph_is, IsListen, listen_is, IsSend, send_is, IsSender, sender_is, IsFile, file_is}
use Rattle.frp_base.proofs.Booleans.{true_both}
use Rattle.frp_write.specs.Lawful.{is_user_spot, are_user_two, is_lawful_ty, is_lawful_expr, are_lawful_two, are_lawful_three, is_lawful_param, is_lawful_shape, is_lawful_item, is_lawful_body_item, is_lawful_template, is_lawful_function, is_lawful_decl, is_lawful_listen, is_lawful_send, is_lawful_sender, is_lawful_file}
use Rattle.frp_form.specs.declared.reading.Reading.{Reading}
use Rattle.frp_write.proofs.ReadTypes.{Known, first, apart, formed, user_name, each, type_allowed, expr_allowed}

-- ---- shapes by their heads

typed_is : (op : TyShape) (x : RawTy) → is_lawful_shape (typed_shape op x) ≡ is_lawful_ty x
typed_is t.Never x = refl
typed_is t.Loops x = refl
typed_is t.Loopc x = refl

unary_is : (op : UnaryShape) (x : Raw) → is_lawful_shape (unary_shape op x) ≡ is_lawful_expr x
unary_is u.Constant x = refl
unary_is u.Split x = refl
unary_is u.Updates x = refl
unary_is u.Value x = refl
unary_is u.Switchs x = refl
unary_is u.Switchc x = refl
unary_is u.Once x = refl
unary_is u.Defer x = refl

binary_is : (op : BinaryShape) (x y : Raw) → is_lawful_shape (binary_shape op x y) ≡ are_lawful_two x y
binary_is b.Hold x y = refl
binary_is b.Apply x y = refl
binary_is b.Orelse x y = refl
binary_is b.Gate x y = refl

map_is : (op : MapShape) (v : Spot) (x y : Raw) → is_lawful_shape (map_shape op v x y) ≡ is_user_spot v && are_lawful_two x y
map_is m.Map v x y = refl
map_is m.Mapc v x y = refl
map_is m.Filter v x y = refl

join_is : (op : JoinShape) (v w : Spot) (x y z : Raw) → is_lawful_shape (join_shape op v w x y z) ≡ are_user_two v w && are_lawful_three x y z
join_is j.Merge v w x y z = refl
join_is j.Snapshot v w x y z = refl

fold_is : (op : FoldShape) (ty : RawTy) (v w : Spot) (x y z : Raw) → is_lawful_shape (fold_shape op ty v w x y z) ≡ is_lawful_ty ty && are_user_two v w && are_lawful_three x y z
fold_is d.Accum ty v w x y z = refl
fold_is d.Collect ty v w x y z = refl

-- ---- parts

two_allowed : (x y : Raw) (xs ys : List Token) → IsExpr x xs → IsExpr y ys → Known xs → Known ys → are_lawful_two x y ≡ true
two_allowed x y xs ys is js h g = true_both (is_lawful_expr x) (is_lawful_expr y) (expr_allowed x xs is h) (expr_allowed y ys js g)

three_allowed : (x y z : Raw) (xs ys zs : List Token) → IsExpr x xs → IsExpr y ys → IsExpr z zs → Known xs → Known ys → Known zs → are_lawful_three x y z ≡ true
three_allowed x y z xs ys zs is js ks h g i = true_both (is_lawful_expr x) (are_lawful_two y z) (expr_allowed x xs is h) (two_allowed y z ys zs js ks g i)

-- three parts
three_apart : (us vs ws : List Token) → Known (us ++ vs ++ ws) → (Known us × Known vs) × Known ws
three_apart us vs ws h = let p = apart (us ++ vs) ws h in (apart us vs p.0, p.1)

param_allowed : (x : Param) (ts : List Token) → IsParam x ts → Known ts → is_lawful_param x ≡ true
param_allowed x ts (param_is a c v ty us is js) h =
    let vs : List Token = us ++ right_at c ∷ [] in
    let g = first (name_of v) vs (first (left_at a) (name_of v ∷ vs) h).1 in
    true_both (is_user_spot v) (is_lawful_ty ty) (user_name v is g.0) (type_allowed ty us js)

shape_allowed : (x : RawShape) (ts : List Token) → IsShape x ts → Known ts → is_lawful_shape x.form ≡ true
shape_allowed x ts (typed a e c op ty us is) h = typed_is op ty ∙ type_allowed ty us is
shape_allowed x ts (shape_of_one a e c op y ys is) h = unary_is op y ∙ expr_allowed y ys is (formed a e c (unary_shape_word op) ys h)
shape_allowed x ts (shape_of_two a e c op y z ys zs is js) h =
    let p = apart ys zs (formed a e c (binary_shape_word op) (ys ++ zs) h) in
    binary_is op y z ∙ two_allowed y z ys zs is js p.0 p.1
shape_allowed x ts (mapping a e c op v y z ys zs n is js) h =
    let g = first (name_of v) (ys ++ zs) (formed a e c (map_word op) (name_of v ∷ ys ++ zs) h) in
    let p = apart ys zs g.1 in
    map_is op v y z ∙ true_both (is_user_spot v) (are_lawful_two y z) (user_name v n g.0) (two_allowed y z ys zs is js p.0 p.1)
shape_allowed x ts (joining a e c op v w y z o ys zs os n l is js ks) h =
    let us : List Token = ys ++ zs ++ os in
    let g = first (name_of v) (name_of w ∷ us) (formed a e c (join_word op) (name_of v ∷ name_of w ∷ us) h) in
    let i = first (name_of w) us g.1 in
    let p = three_apart ys zs os i.1 in
    join_is op v w y z o
    ∙ true_both (are_user_two v w) (are_lawful_three y z o) (true_both (is_user_spot v) (is_user_spot w) (user_name v n g.0) (user_name w l i.0)) (three_allowed y z o ys zs os is js ks p.0.0 p.0.1 p.1)
shape_allowed x ts (folding a e c op ty v w y z o us ys zs os is n l js ks ls) h =
    let p = three_apart (us ++ name_of v ∷ name_of w ∷ ys) zs os (formed a e c (fold_word op) (us ++ name_of v ∷ name_of w ∷ ys ++ zs ++ os) h) in
    let q = (apart us (name_of v ∷ name_of w ∷ ys) p.0.0).1 in
    let g = first (name_of v) (name_of w ∷ ys) q in
    let i = first (name_of w) ys g.1 in
    fold_is op ty v w y z o
    ∙ true_both (is_lawful_ty ty && are_user_two v w) (are_lawful_three y z o)
    (true_both (is_lawful_ty ty) (are_user_two v w) (type_allowed ty us is) (true_both (is_user_spot v) (is_user_spot w) (user_name v n g.0) (user_name w l i.0))) (three_allowed y z o ys zs os js ks ls i.1 p.0.1 p.1)
shape_allowed x ts (lifting a e c v w y z o vs ws ys zs os is js ks ls ms) h =
    let p = three_apart (vs ++ ws ++ ys) zs os (formed a e c (codes "lift2") (vs ++ ws ++ ys ++ zs ++ os) h) in
    let q = apart (vs ++ ws) ys p.0.0 in
    let r = apart vs ws q.0 in
    true_both (is_lawful_param v && is_lawful_param w) (are_lawful_three y z o)
    (true_both (is_lawful_param v) (is_lawful_param w) (param_allowed v vs is r.0) (param_allowed w ws js r.1)) (three_allowed y z o ys zs os ks ls ms q.1 p.0.1 p.1)
shape_allowed x ts (executing a e c y v kept ys us is n all) h =
    let p = apart ys (name_of v ∷ us) (formed a e c (codes "execute") (ys ++ name_of v ∷ us) h) in
    let g = first (name_of v) us p.1 in
    true_both (is_lawful_expr y && is_user_spot v) (list_all is_lawful_expr kept)
    (true_both (is_lawful_expr y) (is_user_spot v) (expr_allowed y ys is p.0) (user_name v n g.0)) (each IsExpr is_lawful_expr expr_allowed kept us all g.1)

-- ---- items

common_allowed : (x : Item) (ts : List Token) → IsCommonItem x ts → Known ts → (is_lawful_item x ≡ true) × (is_lawful_body_item x ≡ true)
common_allowed x ts (let_item a e c v y us n is) h =
    let g = first (name_of v) us (formed a e c (codes "let") (name_of v ∷ us) h) in
    let p = true_both (is_user_spot v) (is_lawful_shape y.form) (user_name v n g.0) (shape_allowed y us is g.1) in
    (p, p)
common_allowed x ts (tie_item a e c v w n l) h =
    let g = first (name_of v) (name_of w ∷ []) (formed a e c (codes "tie") (name_of v ∷ name_of w ∷ []) h) in
    let i = first (name_of w) [] g.1 in
    let p = true_both (is_user_spot v) (is_user_spot w) (user_name v n g.0) (user_name w l i.0) in
    (p, p)

item_allowed : (x : Item) (ts : List Token) → IsItem x ts → Known ts → is_lawful_item x ≡ true
item_allowed x ts (common y us is) h = (common_allowed y us is h).0
item_allowed x ts (sink_item a e c v ty us n is) h =
    let g = first (name_of v) us (formed a e c (codes "sink") (name_of v ∷ us) h) in
    true_both (is_user_spot v) (is_lawful_ty ty) (user_name v n g.0) (type_allowed ty us is)
item_allowed x ts (cellsink_item a e c v w ty y us ys n l is js) h =
    let g = first (name_of v) (name_of w ∷ us ++ ys) (formed a e c (codes "cellsink") (name_of v ∷ name_of w ∷ us ++ ys) h) in
    let i = first (name_of w) (us ++ ys) g.1 in
    let p = apart us ys i.1 in
    true_both (are_user_two v w && is_lawful_ty ty) (is_lawful_expr y)
    (true_both (are_user_two v w) (is_lawful_ty ty) (true_both (is_user_spot v) (is_user_spot w) (user_name v n g.0) (user_name w l i.0)) (type_allowed ty us is)) (expr_allowed y ys js p.1)

body_item_allowed : (x : Item) (ts : List Token) → IsBodyItem x ts → Known ts → is_lawful_body_item x ≡ true
body_item_allowed x ts (common_in_body y us is) h = (common_allowed y us is h).1
body_item_allowed x ts (get_item a e c v y ys n is) h =
    let g = first (name_of v) ys (formed a e c (codes "get") (name_of v ∷ ys) h) in
    true_both (is_user_spot v) (is_lawful_expr y) (user_name v n g.0) (expr_allowed y ys is g.1)

-- ---- declarations

params_allowed : (xs : List Param) (ts : List Token) → AreParams xs ts → Known ts → list_all is_lawful_param xs ≡ true
params_allowed xs ts (params_are a c ys us all) h = each IsParam is_lawful_param param_allowed ys us all (apart us (right_at c ∷ []) (first (left_at a) (us ++ right_at c ∷ []) h).1).0

give_allowed : (x : Give) (ts : List Token) → IsGive x ts → Known ts → is_lawful_expr x.e ≡ true
give_allowed x ts (give_is a e c y ys is) h = expr_allowed y ys is (formed a e c (codes "give") ys h)

template_allowed : (x : Template) (ts : List Token) → IsTemplate x ts → Known ts → is_lawful_template x ≡ true
template_allowed x ts (template_is a e c v p kept items give ps ks is gs n hp hk hi hg) h =
    let us : List Token = ps ++ ks ++ is ++ gs in
    let g = first (name_of v) us (formed a e c (codes "template") (name_of v ∷ us) h) in
    let q = three_apart (ps ++ ks) is gs g.1 in
    let r = apart ps ks q.0.0 in
    true_both (is_user_spot v && is_lawful_param p && list_all is_lawful_param kept && list_all is_lawful_body_item items) (is_lawful_expr give.e)
    (true_both (is_user_spot v && is_lawful_param p && list_all is_lawful_param kept) (list_all is_lawful_body_item items)
    (true_both (is_user_spot v && is_lawful_param p) (list_all is_lawful_param kept)
    (true_both (is_user_spot v) (is_lawful_param p) (user_name v n g.0) (param_allowed p ps hp r.0)) (params_allowed kept ks hk r.1))
    (each IsBodyItem is_lawful_body_item body_item_allowed items is hi q.0.1)) (give_allowed give gs hg q.1)

function_allowed : (x : Function) (ts : List Token) → IsFunction x ts → Known ts → is_lawful_function x ≡ true
function_allowed x ts (function_is a e c v kept arg y ks ps es n hk ha he) h =
    let us : List Token = ks ++ ps ++ es in
    let g = first (name_of v) us (formed a e c (codes "fun") (name_of v ∷ us) h) in
    let q = three_apart ks ps es g.1 in
    true_both (is_user_spot v && list_all is_lawful_param kept && is_lawful_param arg) (is_lawful_expr y)
    (true_both (is_user_spot v && list_all is_lawful_param kept) (is_lawful_param arg)
    (true_both (is_user_spot v) (list_all is_lawful_param kept) (user_name v n g.0) (params_allowed kept ks hk q.0.0)) (param_allowed arg ps ha q.0.1)) (expr_allowed y es he q.1)

decl_allowed : (x : Decl) (ts : List Token) → IsDecl x ts → Known ts → is_lawful_decl x ≡ true
decl_allowed x ts (template_decl y us is) h = template_allowed y us is h
decl_allowed x ts (function_decl y us is) h = function_allowed y us is h
decl_allowed x ts (item_decl y us is) h = item_allowed y us is h

-- ---- files

graph_allowed : (x : Graph) (ts : List Token) → IsGraph x ts → Known ts → list_all is_lawful_decl x.decls ≡ true
graph_allowed x ts (graph_is a e c ys us all) h = each IsDecl is_lawful_decl decl_allowed ys us all (formed a e c (codes "graph") us h)

listen_allowed : (x : Listen) (ts : List Token) → IsListen x ts → Known ts → is_lawful_listen x ≡ true
listen_allowed x ts (listen_is a e c v n) h = user_name v n (first (name_of v) [] (formed a e c (codes "listen") (name_of v ∷ []) h)).0

send_allowed : (x : RawSend) (ts : List Token) → IsSend x ts → Known ts → is_lawful_send x ≡ true
send_allowed x ts (send_is a e c v y ys n is) h =
    let g = first (name_of v) ys (formed a e c (codes "send") (name_of v ∷ ys) h) in
    true_both (is_user_spot v) (is_lawful_expr y) (user_name v n g.0) (expr_allowed y ys is g.1)

few : (n most : ℕ) → n ≤ most → nat_le n most ≡ true
few n most h = grind (arith, common_steps)

sender_allowed : (x : Sender) (ts : List Token) → IsSender x ts → Known ts → is_lawful_sender x ≡ true
sender_allowed x ts (sender_is a e c ys us le all) h =
    true_both (list_all is_lawful_send ys) (nat_le (length ys) 4096) (each IsSend is_lawful_send send_allowed ys us all (formed a e c (codes "sender") us h)) (few (length ys) 4096 le)

-- no reading allows more senders than a file can have
at_most_16 : (one : Bool) (n : ℕ) → n ≤ (if one then 1 else 16) → n ≤ 16
at_most_16 true n h = omega arith
at_most_16 false n h = h

-- a file of the grammar, of known tokens, is lawful
pub file_allowed : (how : Reading) (f : File) (ts : List Token) → IsFile how f ts → Known ts → is_lawful_file f ≡ true
file_allowed how f ts (file_is graph listens senders gs ls ss hg hl hs le) h =
    let p = apart (gs ++ ls) ss h in
    let q = apart gs ls p.0 in
    true_both (list_all is_lawful_decl graph.decls && list_all is_lawful_listen listens && list_all is_lawful_sender senders) (nat_le (length senders) 16)
    (true_both (list_all is_lawful_decl graph.decls && list_all is_lawful_listen listens) (list_all is_lawful_sender senders)
    (true_both (list_all is_lawful_decl graph.decls) (list_all is_lawful_listen listens) (graph_allowed graph gs hg q.0) (each IsListen is_lawful_listen listen_allowed listens ls hl q.1))
    (each IsSender is_lawful_sender sender_allowed senders ss hs p.1)) (few (length senders) 16 (at_most_16 how.one_sender (length senders) le))
