-- The grammar: which tokens are a type, an expression, a shape, an item, a declaration, a file. There is one case for each rule. A
-- form has the place of its left parenthesis; its head word and its other parenthesis may be at any place.
use Rattle.std.specs.Prelude.{◌≡◌, ℕ, zero, suc, ◌<◌, ◌≤◌, ℤ, Bool, false, if◌then◌else◌, List, [], ◌∷◌, ◌++◌, length, codes}
use Rattle.frp_expr.specs.declared.raw.Spot.{Spot}
use Rattle.frp_expr.specs.declared.raw.RawTy.{RawTy}
use Rattle.frp_expr.specs.declared.raw.Raw.{Raw}
use Rattle.frp_expr.specs.declared.raw.RawForm.TheVariants as f
use Rattle.frp_lex.specs.declared.token.Kind.TheVariants as k
use Rattle.frp_lex.specs.declared.token.Token.{Token}
use Rattle.frp_file.specs.declared.file.Param.{Param}
use Rattle.frp_file.specs.declared.file.RawShape.{RawShape}
use Rattle.frp_file.specs.declared.file.ShapeForm.TheVariants as s
use Rattle.frp_file.specs.declared.file.Item.{Item}
use Rattle.frp_file.specs.declared.file.ItemForm.TheVariants as i
use Rattle.frp_file.specs.declared.file.Give.{Give}
use Rattle.frp_file.specs.declared.file.Template.{Template}
use Rattle.frp_file.specs.declared.file.Function.{Function}
use Rattle.frp_file.specs.declared.file.Decl.{Decl}
use Rattle.frp_file.specs.declared.file.Decl.TheVariants as d
use Rattle.frp_file.specs.declared.file.Graph.{Graph}
use Rattle.frp_file.specs.declared.file.Listen.{Listen}
use Rattle.frp_file.specs.declared.file.RawSend.{RawSend}
use Rattle.frp_file.specs.declared.file.Sender.{Sender}
use Rattle.frp_file.specs.declared.file.File.{File}
use Rattle.frp_form.specs.declared.ty_word.AtomTy.{AtomTy}
use Rattle.frp_form.specs.declared.ty_word.UnaryTy.{UnaryTy}
use Rattle.frp_form.specs.declared.ty_word.BinaryTy.{BinaryTy}
use Rattle.frp_form.specs.declared.heads.Unary.{Unary}
use Rattle.frp_form.specs.declared.heads.Binary.{Binary}
use Rattle.frp_form.specs.declared.heads.Ternary.{Ternary}
use Rattle.frp_form.specs.declared.shape_heads.TyShape.{TyShape}
use Rattle.frp_form.specs.declared.shape_heads.UnaryShape.{UnaryShape}
use Rattle.frp_form.specs.declared.shape_heads.BinaryShape.{BinaryShape}
use Rattle.frp_form.specs.declared.shape_heads.MapShape.{MapShape}
use Rattle.frp_form.specs.declared.shape_heads.JoinShape.{JoinShape}
use Rattle.frp_form.specs.declared.shape_heads.FoldShape.{FoldShape}
use Rattle.frp_form.specs.declared.reading.Reading.{Reading}
use Rattle.frp_form.specs.Words.{atom_word, unary_ty_word, binary_ty_word, bool_word, unary_word, binary_word, ternary_word, typed_word, unary_shape_word, binary_shape_word, map_word, join_word, fold_word}
use Rattle.frp_form.specs.Tokens.{is_literal}
use Rattle.frp_form.specs.Types.{atom_ty, unary_ty, binary_ty, raw_ty}
use Rattle.frp_form.specs.Heads.{unary_form, binary_form, ternary_form, raw_at}
use Rattle.frp_form.specs.ShapeHeads.{typed_shape, unary_shape, binary_shape, map_shape, join_shape, fold_shape}
use Rattle.frp_form.specs.Shapes.{shape_at}
use Rattle.frp_form.specs.Items.{placed_item}

-- tokens at their places

abbrev pub left_at : ℕ → Token
left_at a = record { at = a; kind = k.Left }

abbrev pub right_at : ℕ → Token
right_at a = record { at = a; kind = k.Right }

abbrev pub name_at : ℕ → List ℕ → Token
name_at a n = record { at = a; kind = k.Name n }

abbrev pub word_at : ℕ → List ℕ → Token
word_at a w = record { at = a; kind = k.Word w }

abbrev pub number_at : ℕ → ℤ → Token
number_at a z = record { at = a; kind = k.Num z }

abbrev pub text_at : ℕ → List ℕ → Token
text_at a t = record { at = a; kind = k.Str t }

-- a name of the user, as a token
abbrev pub name_of : Spot → Token
name_of x = name_at x.at x.text

-- `true` and `false` are no names of the user
abbrev pub IsUser : Spot → Type 0
IsUser x = is_literal x.text ≡ false

-- Tokens that are things of one rule, one after the other.
pub data AreAll {A : Type 0} (Is : A → List Token → Type 0) : List A → List Token → Type 0 where
  none : AreAll Is [] []
  more : (x : A) (xs : List A) (ts us : List Token) → Is x ts → AreAll Is xs us → AreAll Is (x ∷ xs) (ts ++ us)

-- ---- types

-- Tokens that are a type; `Part` says which are its parts.
pub data TypeCase (Part : RawTy → List Token → Type 0) : RawTy → List Token → Type 0 where
  atom : (a : ℕ) (op : AtomTy) → TypeCase Part (raw_ty a (atom_ty op)) (word_at a (atom_word op) ∷ [])
  type_of_one : (a b c : ℕ) (op : UnaryTy) (x : RawTy) (xs : List Token) → Part x xs
      → TypeCase Part (raw_ty a (unary_ty op x)) (left_at a ∷ word_at b (unary_ty_word op) ∷ xs ++ right_at c ∷ [])
  type_of_two : (a b c : ℕ) (op : BinaryTy) (x y : RawTy) (xs ys : List Token) → Part x xs → Part y ys
      → TypeCase Part (raw_ty a (binary_ty op x y)) (left_at a ∷ word_at b (binary_ty_word op) ∷ xs ++ ys ++ right_at c ∷ [])

-- tokens that are a type of at most so many levels
unfoldable pub IsTypeOf : ℕ → RawTy → List Token → Type 0
IsTypeOf zero x ts = ⊥
IsTypeOf (suc n) x ts = TypeCase (IsTypeOf n) x ts

-- a type has at most 16 levels
abbrev pub IsType : RawTy → List Token → Type 0
IsType = IsTypeOf 16

-- ---- expressions

-- Tokens that are an expression; `Part` and `PartType` say which are its parts.
pub data ExprCase (PartType : RawTy → List Token → Type 0) (Part : Raw → List Token → Type 0) : Raw → List Token → Type 0 where
  number : (a : ℕ) (z : ℤ) → ExprCase PartType Part (raw_at a (f.Int z)) (number_at a z ∷ [])
  text : (a : ℕ) (t : List ℕ) → ExprCase PartType Part (raw_at a (f.Text t)) (text_at a t ∷ [])
  true_or_false : (a : ℕ) (b : Bool) → ExprCase PartType Part (raw_at a (f.Bool b)) (name_at a (bool_word b) ∷ [])
  name : (x : Spot) → IsUser x → ExprCase PartType Part (raw_at x.at (f.Name x.text)) (name_of x ∷ [])
  form_of_one : (a b c : ℕ) (op : Unary) (x : Raw) (xs : List Token) → Part x xs
      → ExprCase PartType Part (raw_at a (unary_form op x)) (left_at a ∷ name_at b (unary_word op) ∷ xs ++ right_at c ∷ [])
  form_of_two : (a b c : ℕ) (op : Binary) (x y : Raw) (xs ys : List Token) → Part x xs → Part y ys
      → ExprCase PartType Part (raw_at a (binary_form op x y)) (left_at a ∷ name_at b (binary_word op) ∷ xs ++ ys ++ right_at c ∷ [])
  form_of_three : (a b c : ℕ) (op : Ternary) (x y z : Raw) (xs ys zs : List Token) → Part x xs → Part y ys → Part z zs
      → ExprCase PartType Part (raw_at a (ternary_form op x y z)) (left_at a ∷ name_at b (ternary_word op) ∷ xs ++ ys ++ zs ++ right_at c ∷ [])
  let_form : (a b c : ℕ) (x : Spot) (e g : Raw) (es gs : List Token) → IsUser x → Part e es → Part g gs
      → ExprCase PartType Part (raw_at a (f.Let x e g)) (left_at a ∷ name_at b (codes "let") ∷ name_of x ∷ es ++ gs ++ right_at c ∷ [])
  list_form : (a b c : ℕ) (xs : List Raw) (ts : List Token) → 0 < length xs → length xs ≤ 1024 → AreAll Part xs ts
      → ExprCase PartType Part (raw_at a (f.List xs)) (left_at a ∷ name_at b (codes "list") ∷ ts ++ right_at c ∷ [])
  nil_form : (a b c : ℕ) (x : RawTy) (xs : List Token) → PartType x xs
      → ExprCase PartType Part (raw_at a (f.Nil x)) (left_at a ∷ name_at b (codes "nil") ∷ xs ++ right_at c ∷ [])
  close_form : (a b c : ℕ) (x : Spot) (kept : List Raw) (ts : List Token) → IsUser x → AreAll Part kept ts
      → ExprCase PartType Part (raw_at a (f.Close x kept)) (left_at a ∷ name_at b (codes "close") ∷ name_of x ∷ ts ++ right_at c ∷ [])

-- tokens that are an expression of at most so many levels
unfoldable pub IsExprOf : ℕ → Raw → List Token → Type 0
IsExprOf zero x ts = ⊥
IsExprOf (suc n) x ts = ExprCase (IsTypeOf n) (IsExprOf n) x ts

-- an expression has at most 16 levels
abbrev pub IsExpr : Raw → List Token → Type 0
IsExpr = IsExprOf 16

-- ---- shapes

-- Tokens that are a name and its type.
pub data IsParam : Param → List Token → Type 0 where
  param_is : (a c : ℕ) (x : Spot) (ty : RawTy) (ts : List Token) → IsUser x → IsType ty ts
      → IsParam (record { at = a; name = x; ty = ty }) (left_at a ∷ name_of x ∷ ts ++ right_at c ∷ [])

-- Tokens that are a shape.
pub data IsShape : RawShape → List Token → Type 0 where
  typed : (a b c : ℕ) (op : TyShape) (ty : RawTy) (ts : List Token) → IsType ty ts
      → IsShape (shape_at a (typed_shape op ty)) (left_at a ∷ name_at b (typed_word op) ∷ ts ++ right_at c ∷ [])
  shape_of_one : (a b c : ℕ) (op : UnaryShape) (x : Raw) (xs : List Token) → IsExpr x xs
      → IsShape (shape_at a (unary_shape op x)) (left_at a ∷ name_at b (unary_shape_word op) ∷ xs ++ right_at c ∷ [])
  shape_of_two : (a b c : ℕ) (op : BinaryShape) (x y : Raw) (xs ys : List Token) → IsExpr x xs → IsExpr y ys
      → IsShape (shape_at a (binary_shape op x y)) (left_at a ∷ name_at b (binary_shape_word op) ∷ xs ++ ys ++ right_at c ∷ [])
  mapping : (a b c : ℕ) (op : MapShape) (v : Spot) (x e : Raw) (xs es : List Token) → IsUser v → IsExpr x xs → IsExpr e es
      → IsShape (shape_at a (map_shape op v x e)) (left_at a ∷ name_at b (map_word op) ∷ name_of v ∷ xs ++ es ++ right_at c ∷ [])
  joining : (a b c : ℕ) (op : JoinShape) (v w : Spot) (x y e : Raw) (xs ys es : List Token) → IsUser v → IsUser w → IsExpr x xs → IsExpr y ys → IsExpr e es
      → IsShape (shape_at a (join_shape op v w x y e)) (left_at a ∷ name_at b (join_word op) ∷ name_of v ∷ name_of w ∷ xs ++ ys ++ es ++ right_at c ∷ [])
  folding : (a b c : ℕ) (op : FoldShape) (ty : RawTy) (v w : Spot) (x o e : Raw) (ts xs os es : List Token) → IsType ty ts → IsUser v → IsUser w → IsExpr x xs → IsExpr o os → IsExpr e es
      → IsShape (shape_at a (fold_shape op ty v w x o e)) (left_at a ∷ name_at b (fold_word op) ∷ ts ++ name_of v ∷ name_of w ∷ xs ++ os ++ es ++ right_at c ∷ [])
  lifting : (a b c : ℕ) (v w : Param) (x y e : Raw) (vs ws xs ys es : List Token) → IsParam v vs → IsParam w ws → IsExpr x xs → IsExpr y ys → IsExpr e es
      → IsShape (shape_at a (s.Lift2 v w x y e)) (left_at a ∷ name_at b (codes "lift2") ∷ vs ++ ws ++ xs ++ ys ++ es ++ right_at c ∷ [])
  executing : (a b c : ℕ) (x : Raw) (name : Spot) (kept : List Raw) (xs ts : List Token) → IsExpr x xs → IsUser name → AreAll IsExpr kept ts
      → IsShape (shape_at a (s.Execute x name kept)) (left_at a ∷ name_at b (codes "execute") ∷ xs ++ name_of name ∷ ts ++ right_at c ∷ [])

-- ---- items

-- Tokens that are an item of any body.
pub data IsCommonItem : Item → List Token → Type 0 where
  let_item : (a b c : ℕ) (x : Spot) (shape : RawShape) (ts : List Token) → IsUser x → IsShape shape ts
      → IsCommonItem (placed_item a (i.Let x shape)) (left_at a ∷ name_at b (codes "let") ∷ name_of x ∷ ts ++ right_at c ∷ [])
  tie_item : (a b c : ℕ) (x y : Spot) → IsUser x → IsUser y
      → IsCommonItem (placed_item a (i.Tie x y)) (left_at a ∷ name_at b (codes "tie") ∷ name_of x ∷ name_of y ∷ right_at c ∷ [])

-- Tokens that are an item of the graph's body.
pub data IsItem : Item → List Token → Type 0 where
  common : (x : Item) (ts : List Token) → IsCommonItem x ts → IsItem x ts
  sink_item : (a b c : ℕ) (x : Spot) (ty : RawTy) (ts : List Token) → IsUser x → IsType ty ts
      → IsItem (placed_item a (i.Sink x ty)) (left_at a ∷ name_at b (codes "sink") ∷ name_of x ∷ ts ++ right_at c ∷ [])
  cellsink_item : (a b c : ℕ) (x y : Spot) (ty : RawTy) (first : Raw) (ts es : List Token) → IsUser x → IsUser y → IsType ty ts → IsExpr first es
      → IsItem (placed_item a (i.Cellsink x y ty first)) (left_at a ∷ name_at b (codes "cellsink") ∷ name_of x ∷ name_of y ∷ ts ++ es ++ right_at c ∷ [])

-- Tokens that are an item of a template's body.
pub data IsBodyItem : Item → List Token → Type 0 where
  common_in_body : (x : Item) (ts : List Token) → IsCommonItem x ts → IsBodyItem x ts
  get_item : (a b c : ℕ) (x : Spot) (cell : Raw) (es : List Token) → IsUser x → IsExpr cell es
      → IsBodyItem (placed_item a (i.Get x cell)) (left_at a ∷ name_at b (codes "get") ∷ name_of x ∷ es ++ right_at c ∷ [])

-- ---- declarations

-- Tokens that are names with their types, in parentheses.
pub data AreParams : List Param → List Token → Type 0 where
  params_are : (a c : ℕ) (xs : List Param) (ts : List Token) → AreAll IsParam xs ts → AreParams xs (left_at a ∷ ts ++ right_at c ∷ [])

-- Tokens that say what a template gives.
pub data IsGive : Give → List Token → Type 0 where
  give_is : (a b c : ℕ) (e : Raw) (es : List Token) → IsExpr e es
      → IsGive (record { at = a; e = e }) (left_at a ∷ name_at b (codes "give") ∷ es ++ right_at c ∷ [])

-- Tokens that are a template.
pub data IsTemplate : Template → List Token → Type 0 where
  template_is : (a b c : ℕ) (name : Spot) (param : Param) (kept : List Param) (items : List Item) (give : Give) (ps ks is gs : List Token)
      → IsUser name → IsParam param ps → AreParams kept ks → AreAll IsBodyItem items is → IsGive give gs
      → IsTemplate (record { at = a; name = name; param = param; kept = kept; items = items; give = give })
      (left_at a ∷ name_at b (codes "template") ∷ name_of name ∷ ps ++ ks ++ is ++ gs ++ right_at c ∷ [])

-- Tokens that are a function.
pub data IsFunction : Function → List Token → Type 0 where
  function_is : (a b c : ℕ) (name : Spot) (kept : List Param) (arg : Param) (e : Raw) (ks ps es : List Token)
      → IsUser name → AreParams kept ks → IsParam arg ps → IsExpr e es
      → IsFunction (record { at = a; name = name; kept = kept; arg = arg; e = e })
      (left_at a ∷ name_at b (codes "fun") ∷ name_of name ∷ ks ++ ps ++ es ++ right_at c ∷ [])

-- Tokens that are a declaration of the graph.
pub data IsDecl : Decl → List Token → Type 0 where
  template_decl : (x : Template) (ts : List Token) → IsTemplate x ts → IsDecl (d.Template x) ts
  function_decl : (x : Function) (ts : List Token) → IsFunction x ts → IsDecl (d.Function x) ts
  item_decl : (x : Item) (ts : List Token) → IsItem x ts → IsDecl (d.Item x) ts

-- ---- files

-- Tokens that are the graph.
pub data IsGraph : Graph → List Token → Type 0 where
  graph_is : (a b c : ℕ) (decls : List Decl) (ts : List Token) → AreAll IsDecl decls ts
      → IsGraph (record { at = a; decls = decls }) (left_at a ∷ name_at b (codes "graph") ∷ ts ++ right_at c ∷ [])

-- Tokens that are a listen.
pub data IsListen : Listen → List Token → Type 0 where
  listen_is : (a b c : ℕ) (x : Spot) → IsUser x
      → IsListen (record { at = a; name = x }) (left_at a ∷ name_at b (codes "listen") ∷ name_of x ∷ right_at c ∷ [])

-- Tokens that are a send.
pub data IsSend : RawSend → List Token → Type 0 where
  send_is : (a b c : ℕ) (x : Spot) (e : Raw) (es : List Token) → IsUser x → IsExpr e es
      → IsSend (record { at = a; name = x; value = e }) (left_at a ∷ name_at b (codes "send") ∷ name_of x ∷ es ++ right_at c ∷ [])

-- Tokens that are a sender, which has at most 4,096 sends.
pub data IsSender : Sender → List Token → Type 0 where
  sender_is : (a b c : ℕ) (sends : List RawSend) (ts : List Token) → length sends ≤ 4096 → AreAll IsSend sends ts
      → IsSender (record { at = a; sends = sends }) (left_at a ∷ name_at b (codes "sender") ∷ ts ++ right_at c ∷ [])

-- how many senders a file may have
abbrev pub most_senders : Reading → ℕ
most_senders how = if how.one_sender then 1 else 16

-- Tokens that are a file.
pub data IsFile (how : Reading) : File → List Token → Type 0 where
  file_is : (graph : Graph) (listens : List Listen) (senders : List Sender) (gs ls ss : List Token)
      → IsGraph graph gs → AreAll IsListen listens ls → AreAll IsSender senders ss → length senders ≤ most_senders how
      → IsFile how (record { graph = graph; listens = listens; senders = senders }) (gs ++ ls ++ ss)
